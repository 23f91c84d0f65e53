-- Each return is a case of `save_says`: the tests on the way there are the case's premises. Behind them the room's part is lent and filled,
-- and what was filled is the word's table, from which the size and the file are made, or which is wiped where the output is
-- too short.
use mathlib.Core.Path.{sym, ◌∙◌}
use native.Mathlib.Omega.{arith}
use Rattle.words.proofs.Limits.{word_limit, least_saved_lem}
use Rattle.marks.proofs.Empty.{no_letter, some_letter}
use Rattle.mark_files.proofs.SaveSays.{says-empty, says-long, says-one_letter, says-short, says_full, says-done}
use Rattle.mark_files.proofs.SaveSays.{wiped, put-out}
use Rattle.mark_files.proofs.save.Goals as goal

pub returns-then-is_empty : goal.returns-then-is_empty
returns-then-is_empty c = sym (says-empty _ _ _ _ (no_letter c.is_empty.ensures c.if-is_empty.true))

pub returns-then-m-gt-WORD_LIMIT : goal.returns-then-m-gt-WORD_LIMIT
returns-then-m-gt-WORD_LIMIT c =
    let least = some_letter c.is_empty.ensures c.if-is_empty.false in
    sym (says-long _ _ _ _ least (omega (arith, word_limit, c.if-m-gt-WORD_LIMIT.true)))

pub returns-then-m-least : goal.returns-then-m-least
returns-then-m-least c =
    let most = c.if-m-gt-WORD_LIMIT.false in
    let below = c.if-m-least.true in
    let some = some_letter c.is_empty.ensures c.if-is_empty.false in
    sym (says-one_letter _ _ _ _ some (omega (arith, word_limit, most)) (omega (arith, least_saved_lem, below)))

pub returns-then-tables-need : goal.returns-then-tables-need
returns-then-tables-need c =
    let least = c.if-m-least.false in
    let most = c.if-m-gt-WORD_LIMIT.false in
    sym (says-short _ _ _ _ (omega (arith, least_saved_lem, least)) (omega (arith, word_limit, most)) c.if-tables-need.true)

pub returns-then-out-needed : goal.returns-then-out-needed
returns-then-out-needed c =
    let least = c.if-m-least.false in
    let most = c.if-m-gt-WORD_LIMIT.false in
    let full = c.if-out-needed.true in
    wiped _ _ c.fill.ensures _ (c.fill-then-out-needed.ensures.after (λ y e. e))
    ∙ sym (says_full _ _ _ _ (omega (arith, least_saved_lem, least)) (omega (arith, word_limit, most)) c.if-tables-need.false
    (omega (arith, c.file_size-size.ensures, full)))

pub returns : goal.returns
returns c =
    let least = c.if-m-least.false in
    let most = c.if-m-gt-WORD_LIMIT.false in
    let fits = c.if-out-needed.false in
    put-out _ _ c.fill.ensures _ c.file_size-size.ensures c.write_file.ensures
    ∙ sym (says-done _ _ _ _ (omega (arith, least_saved_lem, least)) (omega (arith, word_limit, most)) c.if-tables-need.false
    (omega (arith, c.file_size-size.ensures, fits)))
