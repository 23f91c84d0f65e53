use Prim.Native.Nat.{◌-◌}
use lib.ListN.{length}
use Rattle.failure_table.specs.Building.{Shared}
use Rattle.failure_table.proofs.shared_blocks.Given as goal

abbrev pub invariant-loop-n : goal.invariant-loop-n
invariant-loop-n l = Shared l.a l.b l.n

abbrev pub decreases-loop-n : goal.decreases-loop-n
decreases-loop-n l = length l.a - l.n
