-- `number::write` meets its contract: what `Writing` says holds before each group. The measure is what is left of the number.
use native.Mathlib.Omega.{arith}
use Rattle.number.proofs.Writing.{write_start, write_end}
use Rattle.number.proofs.write.Goals as goal

pub loop-left-init : goal.loop-left-init
loop-left-init c = write_start _ _ _ (omega arith) c.requires

pub returns : goal.returns
returns c = write_end c.loop-left.invariant c.loop-left-test.false
