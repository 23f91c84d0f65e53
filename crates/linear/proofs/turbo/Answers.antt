-- Each return is a case of `turbo_says`: the tests on the way there are the case's premises. Behind them the room's part is lent and filled
-- with the mirrored word's table, and lent again to the scan, whose steps over it are the published ones (`scan_counts`).
use mathlib.Core.Path.{sym, ◌∙◌}
use lib.Seq.{length-take-le}
use Rattle.words.proofs.Limits.{word_limit, text_limit}
use Rattle.linear.specs.Cases.{TurboCase}
use Rattle.linear.proofs.TurboSays.{given, lent-formed, scan_counts}
use Rattle.marks.proofs.Empty.{no_letter, some_letter}
use native.Mathlib.Omega.{arith}
use borrow.Author.Rules.{rules}
use Rattle.linear.proofs.turbo.Goals as goal

pub returns-then-is_empty : goal.returns-then-is_empty
returns-then-is_empty c = sym (given _ _ _ _ (TurboCase.on_empty_word (no_letter c.is_empty.ensures c.if-is_empty.true)))

pub returns-then-m-gt-WORD_LIMIT : goal.returns-then-m-gt-WORD_LIMIT
returns-then-m-gt-WORD_LIMIT c =
    let least = some_letter c.is_empty.ensures c.if-is_empty.false in
    sym (given _ _ _ _ (TurboCase.on_long_word least (omega (arith, word_limit, c.if-m-gt-WORD_LIMIT.true))))

pub returns-then-longest-text : goal.returns-then-longest-text
returns-then-longest-text c =
    let least = some_letter c.is_empty.ensures c.if-is_empty.false in
    let most = c.if-m-gt-WORD_LIMIT.false in
    sym (given _ _ _ _
    (TurboCase.on_long_text least (omega (arith, word_limit, most)) (omega (arith, text_limit, c.if-longest-text.true))))

pub returns-then-tables-need : goal.returns-then-tables-need
returns-then-tables-need c =
    let least = some_letter c.is_empty.ensures c.if-is_empty.false in
    let most = c.if-m-gt-WORD_LIMIT.false in
    let short = c.if-longest-text.false in
    sym (given _ _ _ _ (TurboCase.on_short_room least (omega (arith, word_limit, most))
    (omega (arith, text_limit, short)) c.if-tables-need.true))

pub slice_bounds-fill_mirror-end-2 : goal.slice_bounds-fill_mirror-end-2
slice_bounds-fill_mirror-end-2 c = sym (length-take-le _ _ c.if-tables-need.false)

pub fill_mirror-requires : goal.fill_mirror-requires
fill_mirror-requires c =
    (omega (arith, c.if-m-gt-WORD_LIMIT.false), length-take-le _ _ c.if-tables-need.false)

pub invariant_of-table : goal.invariant_of-table
invariant_of-table c =
    let formed = lent-formed c.args.word.now c.args.text.now c.args.tables.now c.args.finds.now _ c.fill_mirror.ensures in
    record { formed = formed (omega (arith, c.if-m-gt-WORD_LIMIT.false)) }

pub scan-requires : goal.scan-requires
scan-requires c =
    let least = some_letter c.is_empty.ensures c.if-is_empty.false in
    (least, omega (arith, word_limit, c.if-m-gt-WORD_LIMIT.false), omega (arith, text_limit, c.if-longest-text.false))

pub returns : goal.returns
returns c =
    let scanned = c.scan.ensures in
    let least = some_letter c.is_empty.ensures c.if-is_empty.false in
    let most = c.if-m-gt-WORD_LIMIT.false in
    let short = c.if-longest-text.false in
    scan_counts _ _ _ _ _ c.fill_mirror.ensures least scanned.0 scanned.1
    ∙ sym (given _ _ _ _
    (TurboCase.accepted least (omega (arith, word_limit, most)) (omega (arith, text_limit, short)) c.if-tables-need.false))
