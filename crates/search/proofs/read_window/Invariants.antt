use Rattle.search.proofs.Readings.{StillToRead}
use Rattle.search.proofs.read_window.Given as goal

abbrev pub invariant-loop-left : goal.invariant-loop-left
invariant-loop-left g l = StillToRead (g.A.Arrows.arrow l.arrows) l.text l.start l.k l.initial.x.0 l.left l.x.0

abbrev pub decreases-loop-left : goal.decreases-loop-left
decreases-loop-left g l = l.left
