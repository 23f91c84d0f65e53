-- `compact_search::lay_columns` meets its contract: before each letter `Laying` holds, and so many columns as letters had arrows stand
-- before the next.
use mathlib.Core.Path.{sym, ◌∙◌}
use native.Mathlib.Omega.{arith}
use Rattle.compact.specs.Compact.{in_set}
use Rattle.compact.proofs.ReadBack.{reads_none}
use Rattle.compact_search.proofs.Laying.{room_there, counted_same, counted_column, laying_none, laying_column}
use Rattle.compact_search.proofs.lay_columns.Goals.{then-has_arrow, else-has_arrow}
use Rattle.compact_search.proofs.lay_columns.Goals as goal

pub slice_bounds-fill_column-end : goal.slice_bounds-fill_column-end
slice_bounds-fill_column-end c =
    let there = sym c.has_arrow.ensures ∙ c.if-has_arrow.true in
    let room = room_there (in_set c.args.arrows.now.sets.now 0) c.args.rows c.loop-i.invariant.1 there c.requires.room c.loop-i-test.true in
    omega (arith, room, c.loop-i.invariant.0.entries)

pub loop-i-preserved : goal.loop-i-preserved
loop-i-preserved c =
    let f = in_set c.args.arrows.now.sets.now 0 in
    let Y = c.loop-i.invariant.0 in
    elim c.if-has_arrow.branch [
      | then-has_arrow w ↦
          let there = sym c.has_arrow.ensures ∙ w.if-has_arrow.true in
          let room = room_there f c.args.rows c.loop-i.invariant.1 there c.requires.room c.loop-i-test.true in
          rw (w.column-is, w.dense-is, w.next-is) (
            laying_column Y c.loop-i-test.true room w.fill_column.auto.column w.fill_column.ensures,
            counted_column f c.args.rows c.loop-i.invariant.1 there,
          )
      | else-has_arrow w ↦
          let absent = sym c.has_arrow.ensures ∙ w.if-has_arrow.false in
          let none-from-first = reads_none c.args.arrows.now.m _ _ 0 _ (omega arith) c.loop-i-test.true absent in
          rw (w.column-is, w.dense-is, w.next-is) (
            laying_none Y (λ x. c.args.arrows.now.formed.firsts x _ none-from-first),
            counted_same f c.args.rows c.loop-i.invariant.1 absent,
          )
    ]
