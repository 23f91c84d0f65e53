-- `failure_table::finish` meets its contract: before each suffix `Stage` holds, of the word that stood in row 0 at first and stands there
-- still.
use native.Mathlib.Omega.{arith}
use Rattle.failure_table.proofs.Filling.{word_stage}
use Rattle.failure_table.proofs.Suffixes.{stage_own, stage_on, stage_end}
use Rattle.failure_table.proofs.finish.Goals as goal

pub loop-i-init : goal.loop-i-init
loop-i-init c =
    let bounds = c.requires.bounds in
    word_stage _ c.args.table.now bounds.2 (c.fill.ensures.after (λ y e. e)) bounds.0 bounds.1 c.requires.bytes

pub add_suffix-used-requires : goal.add_suffix-used-requires
add_suffix-used-requires c =
    (stage_own c.loop-i.invariant, omega (arith, c.loop-i-test.true))

pub loop-i-preserved : goal.loop-i-preserved
loop-i-preserved c =
    stage_on c.loop-i.invariant c.add_suffix-used.ensures

pub returns : goal.returns
returns c = stage_end c.loop-i.invariant (omega (arith, c.loop-i-test.false))
