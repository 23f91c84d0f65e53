-- `border::extend` meets its contract: `Falling` holds of each beginning that is tried. The measure is its length.
use Rattle.border.proofs.Extending.{falling_end, falling_none, falling_less, falling_next}
use Rattle.border.proofs.extend.Goals as goal

pub returns-then-h-eq0 : goal.returns-then-h-eq0
returns-then-h-eq0 c =
    falling_none c.requires.start_in_bounds.0 c.loop-h.invariant c.if-h-eq0.true c.loop-h-test.true

pub loop-h-smaller : goal.loop-h-smaller
loop-h-smaller c =
    rw c.from-h.ensures (falling_less c.requires.start_in_bounds.0 c.loop-h.invariant c.requires.known c.if-h-eq0.false)

pub loop-h-preserved : goal.loop-h-preserved
loop-h-preserved c =
    rw c.from-h.ensures (falling_next c.requires.start_in_bounds.0 c.loop-h.invariant c.requires.known c.if-h-eq0.false c.loop-h-test.true)

pub returns : goal.returns
returns c =
    falling_end c.requires.start_in_bounds.0 c.loop-h.invariant c.loop-h-test.false
