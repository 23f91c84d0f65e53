-- WHAT BUILD SAYS: the whole outcome as a function of what is lent.
--
--   Outcome              the answer, and the room as it is left
--   built r T            the outcome of code that answers r and leaves T
--   build_within n word T
--                        what it must be where a word may have n letters: 1, 2, 3 in that order, else the word's table, and the rest of
--                        the room as it was
--   build_says word T    the same with the limit that there is
--
-- 01, 'When the library says no'; demands 1 and 2.
use Rattle.std.specs.Prelude.{cond, List, ◌++◌, ℕ, length, drop, ltb}
use Rattle.words.specs.Words.{Word}
use Rattle.table.specs.Table.{room, table_of}
use Rattle.words.specs.Limits.{longest_word}
use Rattle.std.specs.Prelude.{Result}
use Rattle.answers.specs.declared.Refusal.{Refusal}
use Rattle.answers.specs.Answers.{Answer, done, refused, size_answer, empty_word, long_word, short_room}

pub record Outcome : Type 0 where
  pub answer : Answer ℕ
  pub tables : List ℕ

abbrev pub outcome : Answer ℕ → List ℕ → Outcome
outcome a T = record { answer = a; tables = T }

abbrev pub built : Result ℕ Refusal → List ℕ → Outcome
built r T = outcome (size_answer r) T

abbrev pub build_within : ℕ → Word → List ℕ → Outcome
build_within n word T =
    let m = length word in
    cond (ltb m 1) (outcome (refused empty_word) T)
    (cond (ltb n m) (outcome (refused long_word) T)
    (cond (ltb (length T) (room m)) (outcome (refused short_room) T)
    (outcome (done m) (table_of word ++ drop (room m) T))))

unfoldable pub build_says : Word → List ℕ → Outcome
build_says word T = build_within longest_word word T
