-- WHAT THE BUILD OF A FAILURE ORACLE SAYS: the whole outcome as a function of what is lent.
--
--   failure_build_says word T 1, 2, 3 in that order, where 3 asks for the failure table's room; else the word's table, and the rest of the
--                             room as it was
--
-- 02, 'Failure oracle'; 01, 'When the library says no'.
use Rattle.std.specs.Prelude.{cond, List, ◌++◌, ℕ, length, drop, ltb}
use Rattle.words.specs.Words.{Word}
use Rattle.words.specs.Limits.{longest_word}
use Rattle.failure_table.specs.FailureTable.{failure_room, failure_table}
use Rattle.answers.specs.Answers.{done, refused, empty_word, long_word, short_room}
use Rattle.marks.specs.Build.{Outcome, outcome}

unfoldable pub failure_build_says : Word → List ℕ → Outcome
failure_build_says word T =
    let m = length word in
    cond (ltb m 1) (outcome (refused empty_word) T)
    (cond (ltb longest_word m) (outcome (refused long_word) T)
    (cond (ltb (length T) (failure_room m)) (outcome (refused short_room) T)
    (outcome (done m) (failure_table word ++ drop (failure_room m) T))))
