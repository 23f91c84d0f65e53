use Rattle.prepared.proofs.Filling.{Filling}
use Rattle.prepared.proofs.Layout.fill.Given as goal

abbrev pub invariant-loop-x : goal.invariant-loop-x
invariant-loop-x l = Filling l.table.entries.now l.table.m l.self.column.now l.self.rows l.initial.dense l.dense l.x
