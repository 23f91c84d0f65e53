use mathlib.Core.Path.{◌≡◌}
use lib.ListN.{drop}
use Rattle.crc.specs.Check.{fed, bits_of, check}
use Rattle.crc.proofs.crc.Given as goal

abbrev pub invariant-loop-b : goal.invariant-loop-b
invariant-loop-b l = fed l.r (bits_of (drop l.b-index l.bytes)) ≡ check l.bytes
