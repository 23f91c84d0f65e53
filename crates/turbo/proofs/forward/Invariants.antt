use mathlib.Core.Path.{◌≡◌}
use Prim.Native.Nat.{◌-◌}
use lib.ListN.{length}
use Rattle.border.specs.Borders.{longest_border}
use Rattle.turbo.proofs.Going.{Going}
use Rattle.turbo.proofs.forward.Given as goal

abbrev pub invariant-loop-at : goal.invariant-loop-at
invariant-loop-at l =
    (l.border ≡ longest_border l.borders.word.now)
    × Going l.borders.word.now l.text l.end l.initial.at l.kept l.found l.initial.finds l.finds l.at l.keep l.count

abbrev pub decreases-loop-at : goal.decreases-loop-at
decreases-loop-at l = length l.text - l.at
