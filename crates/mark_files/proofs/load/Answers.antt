-- Each return is a case of `load_says`, told by what the file shows up to its letters (`shown`). Behind the tests of both rooms their parts
-- are lent, and what is given back is the outcome in them (`given_back`).
use mathlib.Core.Path.{sym}
use native.Mathlib.Omega.{arith}
use Rattle.std.proofs.lemmas.Result.{err_from_is_err_and}
use Rattle.words.proofs.Limits.{words_fit}
use Rattle.editions.proofs.Theorems.{either_letters}
use Rattle.mark_files.proofs.LoadSays.{says-stop, says-short_word, says-short-tables, lent-sized, given_back}
use Rattle.mark_files.proofs.load.Goals as goal

pub returns-in_err-head : goal.returns-in_err-head
returns-in_err-head c =
    let p = err_from_is_err_and c.from_residual.result c.from_residual.ensures.1 in
    rw (p.1, p.2) (sym (says-stop _ _ _ _ _ (sym c.in_err-head.ensures)))

pub returns-then-short : goal.returns-then-short
returns-then-short c = sym (says-short_word _ _ _ _ _ (sym c.in_ok-head.ensures) c.if-short.true)

pub overflow_mul-need : goal.overflow_mul-need
overflow_mul-need c =
    let there = (either_letters _ (sym c.in_ok-head.ensures)).0 in
    record { fits = omega (arith, there.most, words_fit) }

pub returns-then-tables-need : goal.returns-then-tables-need
returns-then-tables-need c = sym (says-short-tables _ _ _ _ _ (sym c.in_ok-head.ensures) c.if-tables-need.true)

pub take_word-requires : goal.take_word-requires
take_word-requires c =
    let asked = lent-sized _ _ _ (sym c.in_ok-head.ensures) c.if-short.false c.if-tables-need.false in
    record { inside = asked.0; size_bound = asked.1 }

pub returns : goal.returns
returns c =
    let taken = c.take_word in
    given_back _ _ _ (sym c.in_ok-head.ensures) c.if-short.false c.if-tables-need.false taken.result taken.ensures
