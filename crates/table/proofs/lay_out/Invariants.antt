use Rattle.table.proofs.Laying.{Laying}
use Rattle.table.proofs.lay_out.Given as goal

abbrev pub invariant-loop-x : goal.invariant-loop-x
invariant-loop-x l = Laying l.initial.table l.m l.table l.x l.end
