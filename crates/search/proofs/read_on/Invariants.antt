use Rattle.search.proofs.Readings.{EntryRead}
use Rattle.search.proofs.read_on.Given as goal

abbrev pub invariant-loop-entry : goal.invariant-loop-entry
invariant-loop-entry g l =
    EntryRead (g.A.Arrows.arrow l.columns.arrows.now) l.text l.start l.k l.initial.entry l.left l.entry

abbrev pub decreases-loop-entry : goal.decreases-loop-entry
decreases-loop-entry g l = l.left
