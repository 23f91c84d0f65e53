-- `in_pieces` meets its contract: the searcher is handed on from piece to piece, so the counts add up to the occurrences in the whole.
use native.Mathlib.Omega.{arith}
use lib.ListN.{replicate}
use Rattle.words.proofs.Limits.{texts_fit}
use Rattle.pieces_shown.proofs.Handed.{handed-start, handed-few, handed-next}
use Rattle.pieces_shown.proofs.in_pieces.Goals as goal

pub loop-piece-init : goal.loop-piece-init
loop-piece-init g c =
    let asked = c.requires in
    let pieces = c.chunks-piece-items.ensures in
    rw c.into_iter-piece-iterator.ensures.into_iter_gives (record {
      handed = handed-start _ _ asked.0 asked.1 c.open-opened.result c.open-opened.ensures;
      left = pieces.rest;
      some = omega (arith, pieces.size, asked.3);
    })

pub overflow_add-count : goal.overflow_add-count
overflow_add-count g c =
    let asked = c.requires in
    let steps = c.in-Some.ensures.steps in
    let few =
    handed-few c.loop-piece.invariant asked.0 asked.1 asked.2 _ _ steps.1.0 (replicate 3 77) c.take-taken.result
    c.take-taken.ensures c.unwrap_or-more.ensures in
    omega (arith, few, texts_fit)

pub loop-piece-preserved : goal.loop-piece-preserved
loop-piece-preserved g c =
    let asked = c.requires in
    let steps = c.in-Some.ensures.steps in
    handed-next c.loop-piece.invariant asked.0 asked.1 asked.2 _ _ steps.1.0 (replicate 3 77) c.take-taken.result
    c.take-taken.ensures c.unwrap_or-more.ensures steps.0
