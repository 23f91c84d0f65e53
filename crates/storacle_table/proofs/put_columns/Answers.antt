-- `storacle_table::put_columns` meets its contract: before each state the columns of those below it are put (`ColumnsPut`).
use native.Mathlib.Omega.{arith}
use Rattle.storacle_table.proofs.Columns.{put-start, put_step, put-end}
use Rattle.storacle_table.proofs.put_columns.Goals as goal

pub loop-i-init : goal.loop-i-init
loop-i-init c = put-start c.requires.0.long c.requires.1

pub loop-i-preserved : goal.loop-i-preserved
loop-i-preserved c =
    put_step c.loop-i.invariant (omega (arith, c.loop-i-test.true)) c.first_alike.ensures

pub returns : goal.returns
returns c = put-end c.loop-i.invariant (omega (arith, c.loop-i-test.false))

pub returns-2 : goal.returns-2
returns-2 c =
    put-end (put_step c.loop-i.invariant (omega (arith, c.loop-i-test.true)) c.first_alike.ensures) (omega (arith, c.loop-i-test))
