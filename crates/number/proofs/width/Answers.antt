-- `number::width` meets its contract: what `Counting` says holds before each group. The measure is what is left of the number.
use native.Mathlib.Omega.{arith}
use Rattle.number.proofs.Writing.{count-start, count-few, count-end}
use Rattle.number.proofs.width.Goals as goal

pub loop-left-init : goal.loop-left-init
loop-left-init c = count-start _ (omega arith)

pub overflow_add-n : goal.overflow_add-n
overflow_add-n c = omega (arith, count-few c.loop-left.invariant)

pub returns : goal.returns
returns c = count-end c.loop-left.invariant c.loop-left-test.false
