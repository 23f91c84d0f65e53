-- `stream::fresh` meets its contract: rows of zeros, whose first entries are the word and its borders, are a searcher's, and of no text
-- nothing is kept.
use mathlib.Core.Path.{refl, sym}
use mathlib.Core.List.{[]}
use native.Mathlib.Omega.{arith}
use lib.Seq.{length-take-le}
use Rattle.words.proofs.Limits.{streamed_limit}
use Rattle.border.proofs.Filling.{borders-length}
use Rattle.pieces.proofs.Kept.{kept-nothing}
use Rattle.stream.proofs.Rows.{zeros-behind}
use Rattle.stream.proofs.History.{is_searcher}
use Rattle.stream.proofs.fresh.Goals as goal

pub slice_bounds-own-end : goal.slice_bounds-own-end
slice_bounds-own-end c = omega (arith, streamed_limit, c.requires.1)

pub slice_bounds-copy-end : goal.slice_bounds-copy-end
slice_bounds-copy-end c = sym (length-take-le _ _ (omega (arith, streamed_limit, c.requires.1)))

pub copy-requires : goal.copy-requires
copy-requires c = length-take-le _ _ (omega (arith, streamed_limit, c.requires.1))

pub slice_bounds-borders-end : goal.slice_bounds-borders-end
slice_bounds-borders-end c = omega (arith, streamed_limit, c.requires.1)

pub slice_bounds-fill-end : goal.slice_bounds-fill-end
slice_bounds-fill-end c = sym (length-take-le _ _ (omega (arith, streamed_limit, c.requires.1)))

pub fill-requires : goal.fill-requires
fill-requires c =
    let few = c.requires.1 in
    (c.requires.0, omega (arith, streamed_limit, few), length-take-le _ _ (omega (arith, streamed_limit, few)))

pub returns : goal.returns
returns c =
    let word = c.args.word.now in
    is_searcher word [] (zeros-behind word c.copy.ensures refl)
    (zeros-behind _ c.fill.ensures (borders-length word)) refl (sym (kept-nothing word c.requires.0)) refl
