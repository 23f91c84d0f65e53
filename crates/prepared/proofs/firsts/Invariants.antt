use Rattle.prepared.specs.Filling.{Copied}
use Rattle.prepared.proofs.firsts.Given as goal

abbrev pub invariant-loop-c : goal.invariant-loop-c
invariant-loop-c l = Copied l.column l.dense l.first l.c
