-- `chains::supply_at` meets its contract: state 0 has no supply, any other's stands in row 1.
use Rattle.chains.proofs.Looking.{supply-none, supply-some}
use Rattle.chains.proofs.supply_at.Goals as goal

pub returns-then-of-eq0 : goal.returns-then-of-eq0
returns-then-of-eq0 c =
    supply-none c.args.table.now c.args.n c.args.x.0 c.if-of-eq0.true

pub returns : goal.returns
returns c =
    supply-some c.args.table.now c.args.n c.args.x.0 c.if-of-eq0.false
