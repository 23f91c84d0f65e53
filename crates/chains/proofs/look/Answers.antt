-- `chains::look` meets its contract: `Chasing` holds before each slot. The measure is the slot, as a chain leads to older ones.
use Prim.Native.Nat.{◌+◌, ◌*◌}
use native.Mathlib.Omega.{arith}
use Rattle.chains.proofs.Looking.{looks_zero, looks_spine, chase_start, chase_slot, chase_hit, chase_next, chase_end}
use Rattle.chains.proofs.look.Goals as goal

-- ── What is answered ───────────────────────────────────────────────────────
pub returns-then-from-eq0 : goal.returns-then-from-eq0
returns-then-from-eq0 c = looks_zero c.if-from-eq0.true c.requires.chained.1

pub returns-then-table-from : goal.returns-then-table-from
returns-then-table-from c =
    looks_spine c.requires.n_bound.2 c.if-table-from.true

-- ── Entries that are read ──────────────────────────────────────────────────
pub overflow_cast-slot : goal.overflow_cast-slot
overflow_cast-slot c =
    omega (arith, c.type_inv.table (2 * c.args.n + c.args.x.0))

pub loop-slot-init : goal.loop-slot-init
loop-slot-init c =
    chase_start c.requires.chained.0 (omega (arith, c.requires.n_bound)) c.if-table-from.false

pub overflow_cast-at : goal.overflow_cast-at
overflow_cast-at c =
    omega (arith, c.type_inv.table (5 * c.args.n + c.loop-slot.slot))

pub offset_bounds-table-at : goal.offset_bounds-table-at
offset_bounds-table-at c =
    omega (arith, (chase_slot c.loop-slot.invariant c.loop-slot-test.true).state)

pub bounds-table-at : goal.bounds-table-at
bounds-table-at c =
    omega (arith, (chase_slot c.loop-slot.invariant c.loop-slot-test.true).state, c.requires.chained.0.size)

pub returns-then-table-at : goal.returns-then-table-at
returns-then-table-at c =
    chase_hit c.loop-slot.invariant c.loop-slot-test.true c.requires.n_bound.2 c.if-table-at.true

pub overflow_cast-slot-in-loop-slot : goal.overflow_cast-slot-in-loop-slot
overflow_cast-slot-in-loop-slot c =
    omega (arith, c.type_inv.table (4 * c.args.n + c.loop-slot.slot))

pub loop-slot-smaller : goal.loop-slot-smaller
loop-slot-smaller c =
    (chase_slot c.loop-slot.invariant c.loop-slot-test.true).older

pub loop-slot-preserved : goal.loop-slot-preserved
loop-slot-preserved c =
    chase_next c.loop-slot.invariant c.loop-slot-test.true c.if-table-at.false

pub returns : goal.returns
returns c =
    chase_end c.requires.n_bound.2 c.loop-slot.invariant c.loop-slot-test.false
