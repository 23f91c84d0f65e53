-- Each return is a case of `search_says`: the tests on the way there are the case's premises. Behind them the room's part is lent and
-- filled with the mirrored word's table, a spare row of it is scratch for the step after a find, and it is lent again to the scan, whose
-- steps over it are the published ones (`scan_counts`).
use mathlib.Core.Path.{sym, ◌∙◌}
use lib.Seq.{length-take-le}
use Rattle.words.proofs.Limits.{word_limit, text_limit}
use Rattle.marks.proofs.SearchSays.{says-empty, says-long, says-long_text, says-short, says-done}
use Rattle.marks.proofs.SearchSays.{lent-formed, scan_counts}
use Rattle.marks.proofs.Empty.{no_letter, some_letter}
use native.Mathlib.Omega.{arith}
use borrow.Author.Rules.{rules}
use Rattle.marks.proofs.search.Goals as goal

pub returns-then-is_empty : goal.returns-then-is_empty
returns-then-is_empty c = sym (says-empty _ _ _ _ (no_letter c.is_empty.ensures c.if-is_empty.true))

pub returns-then-m-gt-WORD_LIMIT : goal.returns-then-m-gt-WORD_LIMIT
returns-then-m-gt-WORD_LIMIT c =
    let least = some_letter c.is_empty.ensures c.if-is_empty.false in
    sym (says-long _ _ _ _ least (omega (arith, word_limit, c.if-m-gt-WORD_LIMIT.true)))

pub returns-then-longest-text : goal.returns-then-longest-text
returns-then-longest-text c =
    let least = some_letter c.is_empty.ensures c.if-is_empty.false in
    let most = c.if-m-gt-WORD_LIMIT.false in
    sym (says-long_text _ _ _ _ least (omega (arith, word_limit, most))
    (omega (arith, text_limit, c.if-longest-text.true)))

pub returns-then-tables-need : goal.returns-then-tables-need
returns-then-tables-need c =
    let least = some_letter c.is_empty.ensures c.if-is_empty.false in
    let most = c.if-m-gt-WORD_LIMIT.false in
    let short = c.if-longest-text.false in
    sym (says-short _ _ _ _ least (omega (arith, word_limit, most)) (omega (arith, text_limit, short)) c.if-tables-need.true)

pub slice_bounds-fill_mirror-end-2 : goal.slice_bounds-fill_mirror-end-2
slice_bounds-fill_mirror-end-2 c = sym (length-take-le _ _ c.if-tables-need.false)

pub fill_mirror-requires : goal.fill_mirror-requires
fill_mirror-requires c =
    (omega (arith, c.if-m-gt-WORD_LIMIT.false), length-take-le _ _ c.if-tables-need.false)

pub invariant_of-table : goal.invariant_of-table
invariant_of-table c =
    record {
      formed = lent-formed c.args.word.now _ c.fill_mirror.ensures c.new-sought.ensures.row (omega (arith, c.if-m-gt-WORD_LIMIT.false));
    }

pub scan-requires : goal.scan-requires
scan-requires c = omega (arith, c.if-longest-text.false)

pub returns : goal.returns
returns c =
    let least = some_letter c.is_empty.ensures c.if-is_empty.false in
    let most = c.if-m-gt-WORD_LIMIT.false in
    let short = c.if-longest-text.false in
    scan_counts _ _ c.fill_mirror.ensures c.new-sought.ensures.row _ _ c.new-sought.ensures.word c.scan.ensures.tally c.scan.ensures.finds
    ∙ sym (says-done _ _ _ _ least (omega (arith, word_limit, most)) (omega (arith, text_limit, short)) c.if-tables-need.false)
