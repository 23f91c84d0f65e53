-- `FailureTable::ask` meets its contract: before each state that is asked `Along` holds. The measure is how far the state is from m, as
-- failure arrows climb.
use Rattle.failure_table.proofs.Asking.{along_start, along_hit, along_stop, along_fail}
use Rattle.failure_table.proofs.FailureTable.ask.Goals as goal

pub loop-y-init : goal.loop-y-init
loop-y-init c = along_start c.args.self.now.formed c.requires

pub loop-y-preserved : goal.loop-y-preserved
loop-y-preserved c =
    along_fail c.args.self.now.formed c.loop-y.invariant _ c.symbol.ensures c.in_default.is c.if-to-eq0.false

pub returns-then-to-eq0 : goal.returns-then-to-eq0
returns-then-to-eq0 c =
    along_stop c.args.self.now.formed c.loop-y.invariant _ c.symbol.ensures c.in_default.is c.if-to-eq0.true

pub returns-in-Some : goal.returns-in-Some
returns-in-Some c =
    along_hit c.args.self.now.formed c.loop-y.invariant _ c.symbol.ensures _ c.in-Some.is
