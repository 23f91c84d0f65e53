use Prim.Native.Nat.{◌-◌}
use lib.ListN.{length}
use Rattle.search.proofs.SoFar.{SoFar}
use Rattle.search.proofs.windows_prepared.Given as goal

abbrev pub invariant-window : goal.invariant-window
invariant-window g l =
    SoFar (g.A.Arrows.arrow l.columns.arrows.now) l.sought.word.now l.text l.initial.finds l.finds l.start l.count l.letters

abbrev pub decreases-window : goal.decreases-window
decreases-window g l = length l.text - l.start
