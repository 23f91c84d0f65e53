-- `salvage::list_parts` meets its contract: before each part `Before` holds. The scan with the table of `.FIT`'s mirror finds what stands
-- in the part. The measure is how much of the text lies behind the part's start.
use mathlib.Core.Path.{sym, ◌∙◌}
use native.Mathlib.Omega.{arith}
use lib.ListN.{drop, length-take}
use lib.Seq.{length-take-le}
use Rattle.words.proofs.Limits.{texts_fit}
use Rattle.salvage.proofs.Parts.{part_ends, before-start, part-few, part-fits, part-within, before-next, before-end}
use Rattle.salvage.proofs.Searching.{sought_asks, scan_formed, searched}
use Rattle.salvage.proofs.list_parts.Goals as goal

pub loop-at-init : goal.loop-at-init
loop-at-init c = before-start c.requires.text_len_bound.1

pub overflow_add-at : goal.overflow_add-at
overflow_add-at c =
    omega (arith, texts_fit, c.loop-at.invariant.inside, c.requires.text_len_bound.0)

pub invariant_of-table : goal.invariant_of-table
invariant_of-table c =
    let lent = c.requires.word_value in
    record { formed = scan_formed lent.0 lent.1 }

pub invariant_of-sought : goal.invariant_of-sought
invariant_of-sought c =
    let lent = c.requires.word_value in
    let asks = sought_asks lent.0 lent.1 in
    record { nonempty = asks.0; short = asks.1; moves = asks.2 }

pub scan-tally-requires : goal.scan-tally-requires
scan-tally-requires c =
    let text = c.args.text.now in
    let short = length-take (c.min.result) (drop c.loop-at.at text) in
    let ends = part_ends _ _ c.loop-at-test.true c.min.ensures in
    omega (arith, texts_fit, c.requires.text_len_bound.0, ends, short)

pub overflow_cast-from : goal.overflow_cast-from
overflow_cast-from c =
    omega (arith, texts_fit, c.loop-at.invariant.inside, c.requires.text_len_bound.0)

pub slice_bounds-list_finds-end : goal.slice_bounds-list_finds-end
slice_bounds-list_finds-end c =
    let lent = c.requires.word_value in
    let ends = part_ends _ _ c.loop-at-test.true c.min.ensures in
    let search = searched lent.0 lent.1 ends (c.scan-tally.ensures.tally, c.scan-tally.ensures.finds) in
    part-few c.loop-at.invariant search

pub slice_bounds-list_finds-end-in-loop-at : goal.slice_bounds-list_finds-end-in-loop-at
slice_bounds-list_finds-end-in-loop-at c =
    let lent = c.requires.word_value in
    let ends = part_ends _ _ c.loop-at-test.true c.min.ensures in
    let search = searched lent.0 lent.1 ends (c.scan-tally.ensures.tally, c.scan-tally.ensures.finds) in
    sym (length-take-le _ _ (part-few c.loop-at.invariant search))

pub list_finds-count-requires : goal.list_finds-count-requires
list_finds-count-requires c =
    let lent = c.requires.word_value in
    let ends = part_ends _ _ c.loop-at-test.true c.min.ensures in
    let search = searched lent.0 lent.1 ends (c.scan-tally.ensures.tally, c.scan-tally.ensures.finds) in
    let before = c.loop-at.invariant in
    (part-within before search, c.requires.text_len_bound.0, part-fits before search c.requires.text_len_bound.0)

pub overflow_sub-at : goal.overflow_sub-at
overflow_sub-at c =
    omega (arith, part_ends _ _ c.loop-at-test.true c.min.ensures)

pub loop-at-smaller : goal.loop-at-smaller
loop-at-smaller c =
    omega (arith, part_ends _ _ c.loop-at-test.true c.min.ensures)

pub loop-at-preserved : goal.loop-at-preserved
loop-at-preserved c =
    let lent = c.requires.word_value in
    let ends = part_ends _ _ c.loop-at-test.true c.min.ensures in
    let search = searched lent.0 lent.1 ends (c.scan-tally.ensures.tally, c.scan-tally.ensures.finds) in
    let kept = c.list_finds-count.auto in
    let listed = c.list_finds-count.ensures in
    before-next c.loop-at.invariant search kept.starts kept.kinds listed.0 listed.1

pub shape_of-finds : goal.shape_of-finds
shape_of-finds c = c.loop-at.invariant.sizes.0 ∙ sym c.requires.text_len_bound.1

pub shape_of-starts : goal.shape_of-starts
shape_of-starts c = c.loop-at.invariant.sizes.1

pub shape_of-kinds : goal.shape_of-kinds
shape_of-kinds c = c.loop-at.invariant.sizes.2

pub returns : goal.returns
returns c = before-end c.loop-at.invariant c.loop-at-test.false
