-- `compact_entries::compact_search` meets its contract: each way out is a case of `CompactSearchCase`, and for each `given` says what is to
-- be answered. The scratch entries lie within those of the rows, which are all written afterwards.
use mathlib.Core.Logic.{inl, inr}
use mathlib.Core.Path.{sym, ◌∙◌}
use Rattle.marks.proofs.Empty.{no_letter, some_letter}
use native.Mathlib.Omega.{arith}
use lib.Seq.{length-take-le}
use borrow.Author.Rules.{rules}
use Rattle.words.proofs.Limits.{word_limit, text_limit}
use Rattle.compact_fill.proofs.Beginning.{mirror-bytes}
use Rattle.compact_entries.specs.Cases.{CompactSearchCase}
use Rattle.compact_entries.proofs.SearchSays.{given, lent-formed, scan_counts, scratched_enough, scratched_kept}
use Rattle.compact_entries.proofs.compact_search.Goals as goal

pub returns-then-is_empty : goal.returns-then-is_empty
returns-then-is_empty c = sym (given _ _ _ _ _ (CompactSearchCase.on_empty_word (no_letter c.is_empty.ensures c.if-is_empty.true)))

pub returns-then-m-gt-WORD_LIMIT : goal.returns-then-m-gt-WORD_LIMIT
returns-then-m-gt-WORD_LIMIT c =
    let least = some_letter c.is_empty.ensures c.if-is_empty.false in
    sym (given _ _ _ _ _ (CompactSearchCase.on_long_word least (omega (arith, word_limit, c.if-m-gt-WORD_LIMIT.true))))

pub returns-then-text-gt-TEXT_LIMIT : goal.returns-then-text-gt-TEXT_LIMIT
returns-then-text-gt-TEXT_LIMIT c =
    let least = some_letter c.is_empty.ensures c.if-is_empty.false in
    let most = c.if-m-gt-WORD_LIMIT.false in
    sym (given _ _ _ _ _
    (CompactSearchCase.on_long_text least (omega (arith, word_limit, most))
    (omega (arith, text_limit, c.if-text-gt-TEXT_LIMIT.true))))

pub returns-then-sets-room : goal.returns-then-sets-room
returns-then-sets-room c =
    let least = some_letter c.is_empty.ensures c.if-is_empty.false in
    let most = c.if-m-gt-WORD_LIMIT.false in
    let short = c.if-text-gt-TEXT_LIMIT.false in
    sym (given _ _ _ _ _ (CompactSearchCase.on_short_room least (omega (arith, word_limit, most))
    (omega (arith, text_limit, short)) (inl c.if-sets-room.true)))

pub returns-then-tables-need : goal.returns-then-tables-need
returns-then-tables-need c =
    let least = some_letter c.is_empty.ensures c.if-is_empty.false in
    let most = c.if-m-gt-WORD_LIMIT.false in
    let short = c.if-text-gt-TEXT_LIMIT.false in
    sym (given _ _ _ _ _ (CompactSearchCase.on_short_room least (omega (arith, word_limit, most))
    (omega (arith, text_limit, short)) (inr c.if-tables-need.true)))

pub slice_bounds-new-end-2 : goal.slice_bounds-new-end-2
slice_bounds-new-end-2 c = sym (length-take-le _ _ (omega (arith, c.if-tables-need.false)))

pub new-sought-requires : goal.new-sought-requires
new-sought-requires c =
    let least = some_letter c.is_empty.ensures c.if-is_empty.false in
    (least, omega (arith, c.if-m-gt-WORD_LIMIT.false), length-take-le _ _ (omega (arith, c.if-tables-need.false)))

pub slice_bounds-fill_mirror-end-2 : goal.slice_bounds-fill_mirror-end-2
slice_bounds-fill_mirror-end-2 c =
    sym (length-take-le _ _ c.if-sets-room.false)

pub slice_bounds-fill_mirror-end-4 : goal.slice_bounds-fill_mirror-end-4
slice_bounds-fill_mirror-end-4 c =
    sym (length-take-le _ _ (scratched_enough _ _ _ c.new-sought.ensures.row c.if-tables-need.false))

pub fill_mirror-requires : goal.fill_mirror-requires
fill_mirror-requires c =
    let enough = scratched_enough _ _ _ c.new-sought.ensures.row c.if-tables-need.false in
    (omega (arith, c.if-m-gt-WORD_LIMIT.false), length-take-le _ _ c.if-sets-room.false, length-take-le _ _ enough)

pub invariant_of-rows : goal.invariant_of-rows
invariant_of-rows c =
    let word = c.args.word.now in
    let bytes = mirror-bytes word (λ i. omega (arith, c.type_inv.word i)) in
    let formed = lent-formed word _ _ c.fill_mirror.ensures bytes in
    record { formed = formed (omega (arith, c.if-m-gt-WORD_LIMIT.false)) }

pub scan-requires : goal.scan-requires
scan-requires c = omega (arith, text_limit, c.if-text-gt-TEXT_LIMIT.false)

pub returns : goal.returns
returns c =
    let least = some_letter c.is_empty.ensures c.if-is_empty.false in
    let word = c.args.word.now in
    let bytes = mirror-bytes word (λ i. omega (arith, c.type_inv.word i)) in
    let most = c.if-m-gt-WORD_LIMIT.false in
    let short = c.if-text-gt-TEXT_LIMIT.false in
    scan_counts word _ _ c.fill_mirror.ensures bytes _ _ c.new-sought.ensures.word c.scan.ensures.tally c.scan.ensures.finds
    (scratched_kept _ _ _ c.new-sought.ensures.row c.if-tables-need.false)
    ∙ sym (given _ _ _ _ _ (CompactSearchCase.accepted least (omega (arith, word_limit, most))
    (omega (arith, text_limit, short)) c.if-sets-room.false c.if-tables-need.false))
