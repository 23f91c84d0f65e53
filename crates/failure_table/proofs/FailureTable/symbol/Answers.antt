-- `FailureTable::symbol` meets its contract: before each slot `Seeking` holds. The measure is the slot, as slots lead to older ones.
use native.Mathlib.Omega.{arith}
use Rattle.failure_table.proofs.Seeking.{seek-spine, seek-start, seek-end, seek_hit, seek-next}
use Rattle.failure_table.proofs.FailureTable.symbol.Goals as goal
use Rattle.failure_table.proofs.FailureTable.symbol.Goals.{else-from-m-via-then-from-m+else-table-from, else-from-m-via-else-from-m}

pub returns-then-table-from : goal.returns-then-table-from
returns-then-table-from c =
    seek-spine c.args.self.now.formed c.requires c.if-from-m.true c.if-table-from.true

pub loop-slot-init : goal.loop-slot-init
loop-slot-init c =
    seek-start c.args.self.now.formed c.requires (elim c.else-from-m.branch [
      | else-from-m-via-then-from-m+else-table-from w ↦ λ l. w.if-table-from.false
      | else-from-m-via-else-from-m w ↦ λ l. absurd (omega arith)
    ])

pub returns-then-table-y : goal.returns-then-table-y
returns-then-table-y c =
    seek_hit c.args.self.now.formed c.requires c.loop-slot.invariant c.loop-slot-test.true c.if-table-y.true

pub loop-slot-preserved : goal.loop-slot-preserved
loop-slot-preserved c =
    seek-next c.args.self.now.formed c.requires c.loop-slot.invariant c.loop-slot-test.true c.if-table-y.false

pub returns : goal.returns
returns c =
    seek-end c.args.self.now.formed c.requires c.loop-slot.invariant c.loop-slot-test.false
