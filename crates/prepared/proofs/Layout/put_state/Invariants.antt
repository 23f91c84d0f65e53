use Rattle.prepared.proofs.Putting.{Putting}
use Rattle.prepared.proofs.Layout.put_state.Given as goal

abbrev pub invariant-loop-s : goal.invariant-loop-s
invariant-loop-s l = Putting l.table.entries.now l.table.m l.self.column.now l.self.rows l.initial.dense l.x.0 l.dense l.s
