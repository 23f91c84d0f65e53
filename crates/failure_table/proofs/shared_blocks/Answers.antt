-- `failure_table::shared_blocks` meets its contract: before each block what was looked at is shared, and a block that is the same is shared
-- too. The measure is how many entries are left.
use Rattle.failure_table.proofs.Sharing.{shared_up_to}
use Rattle.failure_table.proofs.shared_blocks.Goals as goal

pub loop-n-preserved : goal.loop-n-preserved
loop-n-preserved c =
    shared_up_to c.loop-n.invariant _ (c.same_row.ensures.0 c.if-same_row.true) c.loop-n-test.true
