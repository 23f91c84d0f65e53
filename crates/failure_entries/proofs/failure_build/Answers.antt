-- `failure_entries::failure_build` meets its contract: each way out is a case of `FailureBuildCase`, and for each `given` says what is to
-- be answered.
use mathlib.Core.Path.{sym}
use Rattle.marks.proofs.Empty.{no_letter, some_letter}
use native.Mathlib.Omega.{arith}
use lib.Seq.{length-take-le}
use Rattle.words.proofs.Limits.{word_limit}
use Rattle.failure_entries.specs.Cases.{FailureBuildCase}
use Rattle.failure_entries.proofs.BuildSays.{given, says-filled}
use Rattle.failure_entries.proofs.failure_build.Goals as goal

pub returns-then-is_empty : goal.returns-then-is_empty
returns-then-is_empty c = sym (given _ _ (FailureBuildCase.on_empty_word (no_letter c.is_empty.ensures c.if-is_empty.true)))

pub returns-then-word-gt-WORD_LIMIT : goal.returns-then-word-gt-WORD_LIMIT
returns-then-word-gt-WORD_LIMIT c =
    let least = some_letter c.is_empty.ensures c.if-is_empty.false in
    sym (given _ _ (FailureBuildCase.on_long_word least (omega (arith, word_limit, c.if-word-gt-WORD_LIMIT.true))))

pub returns-then-tables-room : goal.returns-then-tables-room
returns-then-tables-room c =
    let least = some_letter c.is_empty.ensures c.if-is_empty.false in
    sym (given _ _ (FailureBuildCase.on_short_room least
    (omega (arith, word_limit, c.if-word-gt-WORD_LIMIT.false)) c.if-tables-room.true))

pub slice_bounds-fill-end-2 : goal.slice_bounds-fill-end-2
slice_bounds-fill-end-2 c = sym (length-take-le _ _ c.if-tables-room.false)

pub fill-requires : goal.fill-requires
fill-requires c =
    let least = some_letter c.is_empty.ensures c.if-is_empty.false in
    (least, omega (arith, c.if-word-gt-WORD_LIMIT.false), length-take-le _ _ c.if-tables-room.false)

pub returns : goal.returns
returns c =
    let least = some_letter c.is_empty.ensures c.if-is_empty.false in
    says-filled _ _ c.fill.ensures least (omega (arith, word_limit, c.if-word-gt-WORD_LIMIT.false)) c.if-tables-room.false
