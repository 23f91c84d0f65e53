-- Each return is a case of `build_says`: the tests on the way there are the case's premises, and behind them the room is lent and filled.
use mathlib.Core.Path.{sym}
use lib.Seq.{length-take-le}
use Rattle.words.proofs.Limits.{word_limit}
use Rattle.marks.proofs.BuildSays.{says-empty, says-long, says-short, says-filled}
use Rattle.marks.proofs.Empty.{no_letter, some_letter}
use native.Mathlib.Omega.{arith}
use Rattle.marks.proofs.build.Goals as goal

pub returns-then-is_empty : goal.returns-then-is_empty
returns-then-is_empty c = sym (says-empty _ _ (no_letter c.is_empty.ensures c.if-is_empty.true))

pub returns-then-most-word : goal.returns-then-most-word
returns-then-most-word c =
    let least = some_letter c.is_empty.ensures c.if-is_empty.false in
    sym (says-long _ _ least (omega (arith, word_limit, c.if-most-word.true)))

pub returns-then-tables-room : goal.returns-then-tables-room
returns-then-tables-room c =
    let least = some_letter c.is_empty.ensures c.if-is_empty.false in
    sym (says-short _ _ least (omega (arith, word_limit, c.if-most-word.false)) c.if-tables-room.true)

pub slice_bounds-fill-end-2 : goal.slice_bounds-fill-end-2
slice_bounds-fill-end-2 c = sym (length-take-le _ _ c.if-tables-room.false)

pub fill-requires : goal.fill-requires
fill-requires c =
    (omega (arith, c.if-most-word.false), length-take-le _ _ c.if-tables-room.false)

pub returns : goal.returns
returns c =
    let least = some_letter c.is_empty.ensures c.if-is_empty.false in
    says-filled _ _ c.fill.ensures least (omega (arith, word_limit, c.if-most-word.false)) c.if-tables-room.false
