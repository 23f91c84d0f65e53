-- `storacle_table::finish` meets its contract: before each suffix `TableAfter` holds, of the word that stood in row 0 at first and stands
-- there still.
use native.Mathlib.Omega.{arith}
use Rattle.storacle_table.proofs.Filling.{after-own, after_on, after-all}
use Rattle.storacle_table.proofs.finish.Goals as goal

pub add_suffix-requires : goal.add_suffix-requires
add_suffix-requires c =
    (after-own c.loop-i.invariant, omega (arith, c.loop-i-test.true))

pub loop-i-preserved : goal.loop-i-preserved
loop-i-preserved c =
    after_on c.loop-i.invariant c.add_suffix.ensures

pub returns : goal.returns
returns c = after-all c.loop-i.invariant (omega (arith, c.loop-i-test.false))
