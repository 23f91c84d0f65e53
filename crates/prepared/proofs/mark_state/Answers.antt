-- `prepared::mark_state` meets its contract: before each slot `Marking` holds.
use native.Mathlib.Omega.{arith}
use Rattle.table.proofs.Formed.{slots-inside}
use Prim.Native.Nat.{◌≤◌}
use Rattle.prepared.proofs.Marking.{marking_start, marking_step, marking_end}
use Rattle.prepared.proofs.mark_state.Goals as goal

pub loop-s-init : goal.loop-s-init
loop-s-init c =
    marking_start c.mark.ensures c.args.table.now.formed c.requires

pub bounds-table-n-in-loop-s : goal.bounds-table-n-in-loop-s
bounds-table-n-in-loop-s c =
    omega (arith, slots-inside c.args.table.now.formed _ c.requires, c.args.table.now.formed.enough)

pub bounds-table-y : goal.bounds-table-y
bounds-table-y c =
    let low : c.loop-s.s ≤ c.args.table.now.m = omega (arith, slots-inside c.args.table.now.formed _ c.requires) in
    omega (arith, c.args.table.now.formed.enough, c.args.table.now.formed.targets c.loop-s.s low)

pub loop-s-preserved : goal.loop-s-preserved
loop-s-preserved c =
    marking_step c.loop-s.invariant c.loop-s-test.true c.mark-in-loop-s.ensures

pub returns : goal.returns
returns c =
    marking_end c.mark.ensures c.loop-s.invariant c.loop-s-test.false
