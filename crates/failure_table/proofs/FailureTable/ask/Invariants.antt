use Prim.Native.Nat.{◌-◌}
use Rattle.failure_table.proofs.Asking.{Along}
use Rattle.failure_table.proofs.FailureTable.ask.Given as goal

abbrev pub invariant-loop-y : goal.invariant-loop-y
invariant-loop-y l = Along l.self.entries.now l.self.m l.initial.last.0 l.c.0 l.last.0 l.taken

abbrev pub decreases-loop-y : goal.decreases-loop-y
decreases-loop-y l = l.self.m - l.last.0
