-- `table::lay_out` meets its contract: before each state `Laying` holds, and `code_step` takes one state more.
use native.Mathlib.Omega.{arith}
use Rattle.table.proofs.Laying.{code_fits, code_step, lay_end}
use Rattle.table.proofs.lay_out.Goals as goal

pub unchain-end-requires-clause-fits : goal.unchain-end-requires-clause-fits
unchain-end-requires-clause-fits c = code_fits c.requires.chains_of c.loop-x.invariant c.loop-x-test.true

pub loop-x-preserved : goal.loop-x-preserved
loop-x-preserved c = code_step c.requires.chains_of c.loop-x.invariant c.loop-x-test.true c.unchain-end.ensures

pub returns : goal.returns
returns c = lay_end c.requires.chains_of c.loop-x.invariant (omega arith)
