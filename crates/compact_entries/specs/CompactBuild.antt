-- WHAT THE BUILD OF COMPACT ROWS SAYS: the whole outcome as a function of what is lent.
--
--   Outcome                 the answer, and both rooms as they are left
--   compact_built r Z T     the outcome of code that answers r and leaves the words Z and the entries T
--   compact_short m Z T     whether a room is too small for m letters: the words, or the entries
--   compact_build_says word Z
--                           T
--                           what it must be: 1, 2, 3 in that order; else the word's compact rows, and the rest of both rooms as it was
--
-- 02, 'Compact rows'; 01, 'When the library says no'.
use Rattle.std.specs.Prelude.{Bool, cond, ◌||◌, List, ◌++◌, ℕ, length, drop, ltb}
use Rattle.words.specs.Words.{Word}
use Rattle.words.specs.Limits.{longest_word}
use Rattle.compact.specs.Compact.{sets_room, compact_room, compact_sets, compact_table}
use Rattle.std.specs.Prelude.{Result}
use Rattle.answers.specs.declared.Refusal.{Refusal}
use Rattle.answers.specs.Answers.{Answer, done, refused, size_answer, empty_word, long_word, short_room}

pub record Outcome : Type 0 where
  pub answer : Answer ℕ
  pub sets : List ℕ
  pub tables : List ℕ

abbrev pub outcome : Answer ℕ → List ℕ → List ℕ → Outcome
outcome a Z T = record { answer = a; sets = Z; tables = T }

abbrev pub compact_built : Result ℕ Refusal → List ℕ → List ℕ → Outcome
compact_built r Z T = outcome (size_answer r) Z T

abbrev pub compact_short : ℕ → List ℕ → List ℕ → Bool
compact_short m Z T = ltb (length Z) (sets_room m) || ltb (length T) (compact_room m)

unfoldable pub compact_build_says : Word → List ℕ → List ℕ → Outcome
compact_build_says word Z T =
    let m = length word in
    cond (ltb m 1) (outcome (refused empty_word) Z T)
    (cond (ltb longest_word m) (outcome (refused long_word) Z T)
    (cond (compact_short m Z T) (outcome (refused short_room) Z T)
    (outcome (done m) (compact_sets word ++ drop (sets_room m) Z) (compact_table word ++ drop (compact_room m) T))))
