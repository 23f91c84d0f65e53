-- `turbo::scan` meets its contract: the row that is lent to the windows holds the word's borders; nothing is prepared for a short text.
use mathlib.Core.Path.{sym}
use native.Mathlib.Omega.{arith}
use lib.Seq.{length-take-le}
use Rattle.words.proofs.Limits.{word_limit}
use Rattle.turbo.proofs.Row.{row_fits, row-lent, row-size}
use Rattle.turbo.proofs.scan.Goals as goal

pub slice_bounds-row-end : goal.slice_bounds-row-end
slice_bounds-row-end c = omega (arith, word_limit, c.requires.1)

pub slice_bounds-fill-end : goal.slice_bounds-fill-end
slice_bounds-fill-end c = sym (length-take-le _ _ (omega (arith, word_limit, c.requires.1)))

pub fill-requires : goal.fill-requires
fill-requires c =
    let few = c.requires.1 in
    (c.requires.0, omega (arith, word_limit, few), length-take-le _ _ (omega (arith, word_limit, few)))

pub slice_bounds-row-end-2 : goal.slice_bounds-row-end-2
slice_bounds-row-end-2 c = row_fits c.args.word.now _ c.fill.ensures

pub slice_bounds-borders-end : goal.slice_bounds-borders-end
slice_bounds-borders-end c = row-size c.args.word.now _ c.fill.ensures

pub invariant_of-borders-clause-all : goal.invariant_of-borders-clause-all
invariant_of-borders-clause-all c = row-lent c.args.word.now _ c.fill.ensures
