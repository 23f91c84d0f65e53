use Rattle.border.proofs.Extending.{Falling}
use Rattle.border.proofs.extend.Given as goal

abbrev pub invariant-loop-h : goal.invariant-loop-h
invariant-loop-h l = Falling l.word l.start l.c.0 l.h

abbrev pub decreases-loop-h : goal.decreases-loop-h
decreases-loop-h l = l.h
