-- `stream::Searcher::take` meets its contract: each return is a case of `take_says`. Behind the test the searcher is sound, so its first
-- entries are its word and the borders of it, as the run wants them.
use mathlib.Core.Path.{sym, ◌∙◌}
use native.Mathlib.Omega.{arith}
use Rattle.words.proofs.Limits.{text_limit}
use Rattle.stream.proofs.Sound.{makeable_sound, word-length, own-borders}
use Rattle.stream.proofs.TakeSays.{says-unmade, says-long_text, says_run}
use Rattle.stream.proofs.Searcher.take.Goals as goal

pub returns-then-not-can_be_made : goal.returns-then-not-can_be_made
returns-then-not-can_be_made c = sym (says-unmade _ _ _ (sym c.can_be_made.ensures ∙ c.if-not-can_be_made.true))

pub overflow_sub-before : goal.overflow_sub-before
overflow_sub-before c =
    let S = makeable_sound _ (sym c.can_be_made.ensures ∙ c.if-not-can_be_made.false) in
    omega (arith, S.inside, text_limit)

pub returns-then-before-piece : goal.returns-then-before-piece
returns-then-before-piece c =
    let S = makeable_sound _ (sym c.can_be_made.ensures ∙ c.if-not-can_be_made.false) in
    sym (says-long_text _ _ _ S (omega (arith, S.inside, text_limit, c.if-before-piece.true)))

pub invariant_of-borders : goal.invariant_of-borders
invariant_of-borders c =
    let S = makeable_sound _ (sym c.can_be_made.ensures ∙ c.if-not-can_be_made.false) in
    record { nonempty = omega (arith, word-length S, S.short); all = own-borders S }

pub run-ran-requires-clause-held_short : goal.run-ran-requires-clause-held_short
run-ran-requires-clause-held_short c =
    let S = makeable_sound _ (sym c.can_be_made.ensures ∙ c.if-not-can_be_made.false) in
    omega (arith, word-length S, S.short)

pub run-ran-requires-clause-held_le_before : goal.run-ran-requires-clause-held_le_before
run-ran-requires-clause-held_le_before c =
    let S = makeable_sound _ (sym c.can_be_made.ensures ∙ c.if-not-can_be_made.false) in
    (S.no_more, omega (arith, S.inside, text_limit, c.if-before-piece.false))

pub returns : goal.returns
returns c =
    let S = makeable_sound _ (sym c.can_be_made.ensures ∙ c.if-not-can_be_made.false) in
    says_run _ _ _ S (omega (arith, S.inside, text_limit, c.if-before-piece.false)) c.run-ran.ensures
