-- `compact_entries::compact_build` meets its contract: each way out is a case of `CompactBuildCase`, and for each `given` says what is to
-- be answered.
use mathlib.Core.Logic.{inl, inr}
use mathlib.Core.Path.{sym}
use Rattle.marks.proofs.Empty.{no_letter, some_letter}
use native.Mathlib.Omega.{arith}
use lib.Seq.{length-take-le}
use Rattle.words.proofs.Limits.{word_limit}
use Rattle.compact_entries.specs.Cases.{CompactBuildCase}
use Rattle.compact_entries.proofs.BuildSays.{given, says-filled}
use Rattle.compact_entries.proofs.compact_build.Goals as goal

pub returns-then-is_empty : goal.returns-then-is_empty
returns-then-is_empty c = sym (given _ _ _ (CompactBuildCase.on_empty_word (no_letter c.is_empty.ensures c.if-is_empty.true)))

pub returns-then-m-gt-WORD_LIMIT : goal.returns-then-m-gt-WORD_LIMIT
returns-then-m-gt-WORD_LIMIT c =
    let least = some_letter c.is_empty.ensures c.if-is_empty.false in
    sym (given _ _ _ (CompactBuildCase.on_long_word least (omega (arith, word_limit, c.if-m-gt-WORD_LIMIT.true))))

pub returns-then-sets-room : goal.returns-then-sets-room
returns-then-sets-room c =
    let least = some_letter c.is_empty.ensures c.if-is_empty.false in
    let most = c.if-m-gt-WORD_LIMIT.false in
    sym (given _ _ _ (CompactBuildCase.on_short_room least (omega (arith, word_limit, most)) (inl c.if-sets-room.true)))

pub returns-then-tables-need : goal.returns-then-tables-need
returns-then-tables-need c =
    let least = some_letter c.is_empty.ensures c.if-is_empty.false in
    let most = c.if-m-gt-WORD_LIMIT.false in
    sym (given _ _ _ (CompactBuildCase.on_short_room least (omega (arith, word_limit, most)) (inr c.if-tables-need.true)))

pub slice_bounds-fill-end-2 : goal.slice_bounds-fill-end-2
slice_bounds-fill-end-2 c = sym (length-take-le _ _ c.if-sets-room.false)

pub slice_bounds-fill-end-4 : goal.slice_bounds-fill-end-4
slice_bounds-fill-end-4 c = sym (length-take-le _ _ c.if-tables-need.false)

pub fill-requires : goal.fill-requires
fill-requires c =
    (omega (arith, c.if-m-gt-WORD_LIMIT.false), length-take-le _ _ c.if-sets-room.false, length-take-le _ _ c.if-tables-need.false)

pub returns : goal.returns
returns c =
    let least = some_letter c.is_empty.ensures c.if-is_empty.false in
    let most = c.if-m-gt-WORD_LIMIT.false in
    says-filled _ _ _ c.fill.ensures least (omega (arith, word_limit, most)) c.if-sets-room.false
    c.if-tables-need.false
