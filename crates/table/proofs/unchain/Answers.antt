-- `table::unchain` meets its contract: before each slot `Unchaining` holds, and `unchain_step` moves one target. The measure is the slot,
-- as a chain leads to older ones.
use mathlib.Core.Path.{sym, ◌∙◌}
use Prim.Native.Nat.{◌+◌, ◌*◌}
use native.Mathlib.Omega.{arith}
use lib.ListN.{length-set}
use Rattle.table.proofs.Unchaining.{unchain_start, unchain_next, unchain_step, unchain_end}
use Rattle.table.proofs.unchain.Goals as goal

pub overflow_cast-slot : goal.overflow_cast-slot
overflow_cast-slot c =
    omega (arith, c.type_inv.table (2 * c.args.n + c.args.x.0))

pub loop-slot-init : goal.loop-slot-init
loop-slot-init c =
    unchain_start c.requires.n_bound.2 c.requires.fits

pub overflow_sub-start : goal.overflow_sub-start
overflow_sub-start c =
    (unchain_next c.loop-slot.invariant c.loop-slot-test.true).room

pub overflow_cast-slot-in-loop-slot : goal.overflow_cast-slot-in-loop-slot
overflow_cast-slot-in-loop-slot c =
    omega (arith, unchain_next c.loop-slot.invariant c.loop-slot-test.true)

pub loop-slot-smaller : goal.loop-slot-smaller
loop-slot-smaller c =
    (unchain_next c.loop-slot.invariant c.loop-slot-test.true).older

pub loop-slot-preserved : goal.loop-slot-preserved
loop-slot-preserved c =
    unchain_step c.loop-slot.invariant c.loop-slot-test.true

pub shape_of-table : goal.shape_of-table
shape_of-table c =
    simp length-set c.loop-slot.invariant.size ∙ sym c.requires.fits.size

pub returns : goal.returns
returns c =
    unchain_end c.loop-slot.invariant c.requires.fits.size c.requires.n_bound.1 c.loop-slot-test.false
