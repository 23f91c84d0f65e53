-- `chains::push` meets its contract: three stores, each inside the table.
use native.Mathlib.Numerals.{add-one}
use native.Mathlib.Omega.{arith}
use lib.ListN.{length-set}
use Rattle.chains.specs.Chains.{pushed}
use Rattle.chains.proofs.push.Goals as goal

pub bounds-table-n-3 : goal.bounds-table-n-3
bounds-table-n-3 c = simp length-set (omega arith)

pub bounds-table-n-4 : goal.bounds-table-n-4
bounds-table-n-4 c = simp length-set (omega arith)

pub returns : goal.returns
unfolding pushed
returns c = rw (add-one c.args.used)
