-- `storacle_table::add_suffix` meets its contract: before each letter `Walking` holds, and at the word's end the table is that of the rule.
use mathlib.Core.Path.{refl}
use native.Mathlib.Omega.{arith}
use Rattle.storacle_table.proofs.Walking.{walking_size, step_column, step_cell, step_fits, step_goes, step_adds}
use Rattle.storacle_table.proofs.Walking.{after_walking, after-walked}
use Rattle.storacle_table.proofs.add_suffix.Goals as goal
use Rattle.storacle_table.proofs.add_suffix.Goals.{then-y-eq0, else-y-eq0}

pub loop-k-init : goal.loop-k-init
loop-k-init c = after_walking c.requires.0 c.requires.1

pub bounds-table-m : goal.bounds-table-m
bounds-table-m c =
    let sized = c.requires.0.sized in
    omega (arith, c.loop-k-test.true, walking_size sized.long c.loop-k.invariant)

pub cell-place-requires : goal.cell-place-requires
cell-place-requires c =
    let sized = c.requires.0.sized in
    let inv = c.loop-k.invariant in
    (sized.small, omega (arith, inv.low, c.loop-k-test.true), step_column sized.long inv c.loop-k-test.true)

pub offset_bounds-table-place : goal.offset_bounds-table-place
offset_bounds-table-place c =
    let sized = c.requires.0.sized in
    omega (arith, c.cell-place.ensures, step_fits sized.long c.loop-k.invariant c.loop-k-test.true sized.small)

pub bounds-table-place : goal.bounds-table-place
bounds-table-place c =
    let sized = c.requires.0.sized in
    rw c.cell-place.ensures (step_cell sized.long c.loop-k.invariant c.loop-k-test.true)

pub first_alike-y-requires : goal.first_alike-y-requires
first_alike-y-requires c =
    let sized = c.requires.0.sized in
    let inv = c.loop-k.invariant in
    (omega (arith, inv.low), omega (arith, walking_size sized.long inv, c.loop-k-test.true))

pub offset_bounds-table-place-then-y-eq0 : goal.offset_bounds-table-place-then-y-eq0
offset_bounds-table-place-then-y-eq0 c =
    let sized = c.requires.0.sized in
    omega (arith, c.cell-place.ensures, step_fits sized.long c.loop-k.invariant c.loop-k-test.true sized.small)

pub bounds-table-place-then-y-eq0 : goal.bounds-table-place-then-y-eq0
bounds-table-place-then-y-eq0 c =
    let sized = c.requires.0.sized in
    rw c.cell-place.ensures (step_cell sized.long c.loop-k.invariant c.loop-k-test.true)

pub loop-k-preserved : goal.loop-k-preserved
loop-k-preserved c =
    let long = c.requires.0.sized.long in
    let inv = c.loop-k.invariant in
    let place = c.cell-place.ensures in
    elim c.if-y-eq0.branch [
      | then-y-eq0 w ↦
          rw (w.table-is, w.y-is, place)
          (step_adds long inv c.loop-k-test.true (rw place at w.if-y-eq0.true) w.first_alike-y.ensures)
      | else-y-eq0 w ↦
          rw (w.table-is, w.y-is) (step_goes long inv c.loop-k-test.true _ (rw place refl) w.if-y-eq0.false)
    ]

pub returns : goal.returns
returns c =
    after-walked c.requires.0 c.requires.1 c.loop-k.invariant c.loop-k-test.false
