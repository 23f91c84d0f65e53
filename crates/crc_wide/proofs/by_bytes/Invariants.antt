use mathlib.Core.Path.{◌≡◌}
use lib.ListN.{drop}
use Rattle.crc.specs.Check.{shifts, fed, bits_of}
use Rattle.crc_wide.proofs.by_bytes.Given as goal

abbrev pub invariant-loop-b : goal.invariant-loop-b
invariant-loop-b l = fed (shifts 64 l.acc) (bits_of (drop l.b-index l.bytes)) ≡ fed (shifts 64 l.start) (bits_of l.bytes)
