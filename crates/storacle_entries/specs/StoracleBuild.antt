-- WHAT THE BUILD OF A STORACLE SAYS: the whole outcome as a function of what is lent.
--
--   storacle_build_says word T 1, 2, 3 in that order, where 2 asks for the storacle's limit and 3 for its room; else the word's table, and
--                              the rest of the room as it was
--
-- 02, 'Storacle'; 01, 'When the library says no'.
use Rattle.std.specs.Prelude.{cond, List, ◌++◌, ℕ, length, drop, ltb}
use Rattle.words.specs.Words.{Word}
use Rattle.words.specs.Limits.{longest_storacle}
use Rattle.storacle_table.specs.StoracleTable.{storacle_room, storacle_table}
use Rattle.answers.specs.Answers.{done, refused, empty_word, long_word, short_room}
use Rattle.marks.specs.Build.{Outcome, outcome}

unfoldable pub storacle_build_says : Word → List ℕ → Outcome
storacle_build_says word T =
    let m = length word in
    cond (ltb m 1) (outcome (refused empty_word) T)
    (cond (ltb longest_storacle m) (outcome (refused long_word) T)
    (cond (ltb (length T) (storacle_room m)) (outcome (refused short_room) T)
    (outcome (done m) (storacle_table word ++ drop (storacle_room m) T))))
