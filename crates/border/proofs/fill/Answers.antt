-- `border::fill` meets its contract: `Filling` holds before each letter.
use native.Mathlib.Omega.{arith}
use Rattle.border.proofs.Filling.{filling_start, last_shorter, last-known, next_shorter, filling_next, filling_end}
use Rattle.border.proofs.fill.Goals as goal

pub loop-k-init : goal.loop-k-init
loop-k-init c =
    filling_start c.args.row.now c.requires.0 c.requires.2

pub extend-border-requires : goal.extend-border-requires
extend-border-requires c =
    let F = c.loop-k.invariant in
    let short = last_shorter F in
    record {
      start_in_bounds = (omega (arith, F.inside), omega (arith, F.inside, F.size));
      known = last-known F;
    }

pub overflow_cast-row : goal.overflow_cast-row
overflow_cast-row c =
    let next = next_shorter c.loop-k.invariant c.loop-k-test.true c.extend-border.ensures in
    omega (arith, c.requires.1, c.loop-k-test.true)

pub loop-k-preserved : goal.loop-k-preserved
loop-k-preserved c =
    filling_next c.loop-k.invariant c.loop-k-test.true c.extend-border.ensures

pub returns : goal.returns
returns c = filling_end c.loop-k.invariant c.loop-k-test.false
