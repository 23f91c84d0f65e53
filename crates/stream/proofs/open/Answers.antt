-- `stream::open` meets its contract: each return is a case of `open_says`, and the tests on the way there are the case's premises.
use mathlib.Core.Path.{sym, ap, ◌∙◌}
use native.Mathlib.Omega.{arith}
use lib.ListN.{length}
use Rattle.std.proofs.lemmas.Bool.Decides.{nat_tests}
use Rattle.words.proofs.Limits.{streamed_limit}
use Rattle.answers.specs.Answers.{done}
use Rattle.stream.specs.Opening.{outcome}
use Rattle.stream.proofs.OpenSays.{says-empty, says-long, says-opened}
use Rattle.stream.proofs.open.Goals as goal

pub returns-then-is_empty : goal.returns-then-is_empty
returns-then-is_empty c = c.unopened.ensures ∙ sym (says-empty _ (grind (arith, nat_tests)))

pub returns-then-word-gt-STREAMED_LIMIT : goal.returns-then-word-gt-STREAMED_LIMIT
returns-then-word-gt-STREAMED_LIMIT c =
    c.unopened-then-word-gt-STREAMED_LIMIT.ensures
    ∙ sym (says-long _ (grind (arith, nat_tests)) (omega (arith, streamed_limit, c.if-word-gt-STREAMED_LIMIT.true)))

pub fresh-requires : goal.fresh-requires
fresh-requires c = (grind (arith, nat_tests), omega (arith, streamed_limit, c.if-word-gt-STREAMED_LIMIT.false))

pub returns : goal.returns
returns c =
    let word = c.args.word.now in
    ap (λ s. outcome (done (length word)) s) c.fresh.ensures
    ∙ sym (says-opened word (grind (arith, nat_tests)) (omega (arith, streamed_limit, c.if-word-gt-STREAMED_LIMIT.false)))
