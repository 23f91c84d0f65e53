use mathlib.Core.Path.{◌≡◌}
use lib.ListN.{drop}
use Rattle.std.specs.List.{concat}
use Rattle.crc.specs.Check.{shifts, fed, bits_of, check}
use Rattle.crc_wide.proofs.by_sixes.Given as goal

abbrev pub invariant-loop-six : goal.invariant-loop-six
invariant-loop-six l = fed (shifts 64 l.acc) (bits_of (concat (drop l.six-index l.sixes))) ≡ check (concat l.sixes)
