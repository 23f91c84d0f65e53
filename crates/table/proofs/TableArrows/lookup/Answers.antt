-- A table's lookup meets its contract: before each slot `Seeking` holds.
use Rattle.table.proofs.Seeking.{seek-far, seek-spine, seek-start, seek_hit, seek-next, seek-end}
use Rattle.table.proofs.TableArrows.lookup.Goals as goal

pub returns-then-from-m : goal.returns-then-from-m
returns-then-from-m c = seek-far _ _ _ _ c.if-from-m.true

pub returns-then-table-from : goal.returns-then-table-from
returns-then-table-from c = seek-spine _ _ _ _ c.if-from-m.false c.if-table-from.true

pub loop-s-init : goal.loop-s-init
loop-s-init c = seek-start c.args.self.now.formed c.if-from-m.false c.if-table-from.false

pub returns-then-table-y : goal.returns-then-table-y
returns-then-table-y c = seek_hit c.loop-s.invariant c.loop-s-test.true c.if-table-y.true

pub loop-s-preserved : goal.loop-s-preserved
loop-s-preserved c = seek-next c.loop-s.invariant c.loop-s-test.true c.if-table-y.false

pub returns : goal.returns
returns c = seek-end c.loop-s.invariant c.loop-s-test.false
