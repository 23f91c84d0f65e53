use Rattle.prepared.proofs.Marking.{Marking}
use Rattle.prepared.proofs.mark_state.Given as goal

abbrev pub invariant-loop-s : goal.invariant-loop-s
invariant-loop-s l = Marking l.table.entries.now l.table.m l.from l.initial.flags l.c.0 l.flags l.end l.s
