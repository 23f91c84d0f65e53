use Rattle.failure_table.specs.Building.{Shared}
use Rattle.failure_table.proofs.shared.Given as goal

abbrev pub invariant-loop-n : goal.invariant-loop-n
invariant-loop-n l = Shared l.a l.b l.n
