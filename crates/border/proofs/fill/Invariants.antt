use Rattle.border.proofs.Filling.{Filling}
use Rattle.border.proofs.fill.Given as goal

abbrev pub invariant-loop-k : goal.invariant-loop-k
invariant-loop-k l = Filling l.word l.row l.border l.k
