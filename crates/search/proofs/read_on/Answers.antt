-- `search::read_on` meets its contract: before each letter `EntryRead` holds. The measure is how many letters are left.
use Prim.Native.Nat.{◌+◌, ◌-◌}
use native.Mathlib.Omega.{arith}
use lib.Dec.{lit<}
use borrow.Author.Rules.{scaled_Fits}
use borrow.Author.Rules.{rules}
use Rattle.search.proofs.Readings.{entry-start, entry_next, none_to_read, rest_read}
use Rattle.search.proofs.read_on.Goals as goal

pub loop-entry-init : goal.loop-entry-init
loop-entry-init g c =
    entry-start (omega (arith, c.requires.2)) (λ q. omega (arith, c.requires.2))

pub overflow_cast-x : goal.overflow_cast-x
overflow_cast-x g c =
    omega (arith, c.loop-entry.invariant.small)

pub overflow_add-result : goal.overflow_add-result
overflow_add-result g c =
    omega (arith, c.loop-entry.invariant.within, c.requires.0, c.requires.1)

pub overflow_cast-result : goal.overflow_cast-result
overflow_cast-result g c =
    omega (arith, c.loop-entry.invariant.within, c.requires.0, c.requires.1)

pub read_window-rest-requires : goal.read_window-rest-requires
read_window-rest-requires g c = (omega (arith, c.loop-entry.invariant.within, c.requires.0), c.requires.1)

pub overflow_add-c : goal.overflow_add-c
overflow_add-c g c =
    omega (arith, c.loop-entry.invariant.within, c.requires.0, c.requires.1)

pub bounds-text-start : goal.bounds-text-start
bounds-text-start g c =
    omega (arith, c.loop-entry.invariant.within, c.requires.0)

pub offset_bounds-column-c : goal.offset_bounds-column-c
offset_bounds-column-c g c = scaled_Fits _ 256 2 (c.type_inv.text _).fits (lit< tt)

pub overflow_add-y : goal.overflow_add-y
overflow_add-y g c =
    let rows = c.args.columns.now.told in
    let byte = (c.type_inv.text (c.args.s.0 + (c.loop-entry.left - 1))).fits in
    omega (arith, rows.inside c.loop-entry.entry c.if-columns-entry.false _ byte)

pub offset_bounds-dense-top : goal.offset_bounds-dense-top
offset_bounds-dense-top g c =
    let rows = c.args.columns.now.told in
    let byte = (c.type_inv.text (c.args.s.0 + (c.loop-entry.left - 1))).fits in
    search (rules, rows.inside c.loop-entry.entry c.if-columns-entry.false _ byte)

pub bounds-dense-top : goal.bounds-dense-top
bounds-dense-top g c =
    let rows = c.args.columns.now.told in
    rows.inside _ c.if-columns-entry.false _ (c.type_inv.text _).fits

pub loop-entry-preserved : goal.loop-entry-preserved
loop-entry-preserved g c =
    let rows = c.args.columns.now.told in
    let tells = rows.arrows _ c.if-columns-entry.false _ (c.type_inv.text _).fits in
    entry_next (c.loop-entry.invariant.goes (λ z. omega (arith, rows.few, c.if-columns-entry.false)))
    (λ z. omega (arith, c.if-left-lt1.false))
    (c.type_inv.dense _).fits tells

pub returns-then-x : goal.returns-then-x
returns-then-x g c =
    c.loop-entry.invariant.ends c.if-x.true

pub returns-else-x : goal.returns-else-x
returns-else-x g c =
    rest_read (c.loop-entry.invariant.goes c.if-x.false) c.read_window-rest.ensures

pub returns-then-left-lt1 : goal.returns-then-left-lt1
returns-then-left-lt1 g c =
    let rows = c.args.columns.now.told in
    none_to_read (c.loop-entry.invariant.goes (λ z. omega (arith, rows.few, c.if-columns-entry.false))) (omega (arith, c.if-left-lt1.true))
