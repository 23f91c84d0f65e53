-- `prepared::Layout::put_state` meets its contract: before each slot `Putting` holds.
use mathlib.Core.Path.{refl, ap}
use Prim.Native.Nat.{◌-◌}
use native.Mathlib.Omega.{arith}
use Rattle.std.proofs.Common.{is_ok}
use Rattle.prepared.proofs.Putting.{put_last, put-start, put_step, put-end, slots-low}
use Rattle.prepared.proofs.Layout.put_state.Goals as goal

pub returns-then-table-from : goal.returns-then-table-from
returns-then-table-from c = put_last c.if-table-from.true

pub loop-s-init : goal.loop-s-init
loop-s-init c = put-start

pub bounds-table-n-in-loop-s : goal.bounds-table-n-in-loop-s
bounds-table-n-in-loop-s c =
    omega (arith, slots-low c.args.table.now.formed c.if-table-from.false c.loop-s.invariant, c.args.table.now.formed.enough)

pub put-requires : goal.put-requires
put-requires c =
    let formed = c.args.table.now.formed in
    let few = slots-low formed c.if-table-from.false c.loop-s.invariant in
    (c.requires, formed.targets (c.loop-s.s - 1) (omega (arith, few)))

pub loop-s-preserved : goal.loop-s-preserved
loop-s-preserved c =
    let formed = c.args.table.now.formed in
    let few = slots-low formed c.if-table-from.false c.loop-s.invariant in
    let more = c.loop-s-test.true in
    put_step c.loop-s.invariant c.put.ensures (ap is_ok c.in_ok-put.was) (omega (arith, more)) more
    (omega (arith, few, formed.enough)) refl

pub returns : goal.returns
returns c =
    put-end c.loop-s.invariant c.put-2.ensures c.loop-s-test.false c.if-table-from.false refl
