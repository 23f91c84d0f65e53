-- `storacle_table::put_spine` meets its contract: before each arrow those behind it are put (`SpinePut`).
use native.Mathlib.Omega.{arith}
use Rattle.storacle_table.proofs.SpinePut.{spine-start, spine-column, spine-cell, spine-fits, spine_step, spine-end}
use Rattle.storacle_table.proofs.put_spine.Goals as goal

pub loop-x-init : goal.loop-x-init
loop-x-init c = spine-start c.requires.0.long c.requires.1

pub cell-requires : goal.cell-requires
cell-requires c =
    let sized = c.requires.0 in
    let inv = c.loop-x.invariant in
    (sized.small, omega (arith, inv.inside, sized.long), spine-column sized.long inv c.loop-x-test.true)

pub offset_bounds-table-cell : goal.offset_bounds-table-cell
offset_bounds-table-cell c =
    let sized = c.requires.0 in
    omega (arith, c.cell.ensures, spine-fits sized.long c.loop-x.invariant c.loop-x-test.true sized.small)

pub bounds-table-cell : goal.bounds-table-cell
bounds-table-cell c = rw c.cell.ensures (spine-cell c.requires.0.long c.loop-x.invariant c.loop-x-test.true)

pub loop-x-preserved : goal.loop-x-preserved
loop-x-preserved c = rw c.cell.ensures (spine_step c.requires.0.long c.loop-x.invariant c.loop-x-test.true)

pub returns : goal.returns
returns c = spine-end c.requires.0.long c.loop-x.invariant (omega (arith, c.loop-x-test.false))
