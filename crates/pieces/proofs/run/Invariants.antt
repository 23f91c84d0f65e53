use mathlib.Core.Path.{◌≡◌}
use Prim.Native.Nat.{◌-◌}
use lib.ListN.{length}
use Rattle.border.specs.Borders.{longest_border}
use Rattle.pieces.proofs.Running.{Running}
use Rattle.pieces.proofs.run.Given as goal

abbrev pub invariant-loop-at : goal.invariant-loop-at
invariant-loop-at l =
    (l.border ≡ longest_border l.borders.word.now)
    × Running l.borders.word.now l.piece l.held l.before l.initial.finds l.finds l.at l.keep l.count

abbrev pub decreases-loop-at : goal.decreases-loop-at
decreases-loop-at l = length l.piece - l.at
