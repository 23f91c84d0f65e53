use Rattle.failure_table.proofs.Seeking.{Seeking}
use Rattle.failure_table.proofs.FailureTable.symbol.Given as goal

abbrev pub invariant-loop-slot : goal.invariant-loop-slot
invariant-loop-slot l = Seeking l.table l.fn.self.m l.from l.on l.slot

abbrev pub decreases-loop-slot : goal.decreases-loop-slot
decreases-loop-slot l = l.slot
