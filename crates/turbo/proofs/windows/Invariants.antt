use Prim.Native.Nat.{◌-◌}
use lib.ListN.{length}
use Rattle.table.specs.Asked.{arrow_of}
use Rattle.turbo.proofs.SoFar.{SoFar}
use Rattle.turbo.proofs.windows.Given as goal

abbrev pub invariant-window : goal.invariant-window
invariant-window l =
    SoFar (arrow_of l.columns.arrows.now) l.borders.word.now l.text l.initial.finds l.finds l.c.0 l.keep l.count l.letters

abbrev pub decreases-window : goal.decreases-window
decreases-window l = length l.text - l.c.0
