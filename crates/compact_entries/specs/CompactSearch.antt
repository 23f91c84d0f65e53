-- WHAT THE SEARCH WITH COMPACT ROWS SAYS: the whole outcome as a function of what is lent.
--
--   Outcome                    the answer, and both rooms and the list as they are left
--   compact_searched r Z T F   the outcome of code that answers r and leaves Z, T and F
--   compact_search_says word text Z T F
--                              what it must be: 1, 2, 4, 3 in that order; else every occurrence is counted and the first of them are
--                              listed, as many as fit, the letters are those of the published steps, as `search` has them, the mirrored
--                              word's compact rows stand in the rooms, and the rest of the rooms and of the list is as it was
--
-- 02, 'Compact rows'; 01, 'The backward search' and 'When the library says no'.
use Rattle.std.specs.Prelude.{cond, List, ◌++◌, ℕ, length, drop, ltb}
use Rattle.words.specs.Words.{Word, Place, mirror, occurrences}
use Rattle.words.specs.Limits.{longest_word, longest_text}
use Rattle.finds.specs.declared.Tally.{Tally}
use Rattle.finds.specs.Finds.{filled}
use Rattle.compact.specs.Compact.{sets_room, compact_room, compact_sets, compact_table}
use Rattle.std.specs.Prelude.{Result}
use Rattle.answers.specs.declared.Refusal.{Refusal}
use Rattle.answers.specs.Answers.{Answer, done, refused, tally_answer, empty_word, long_word, long_text, short_room}
use Rattle.marks.specs.Search.{found}
use Rattle.compact_entries.specs.CompactBuild.{compact_short}

pub record Outcome : Type 0 where
  pub answer : Answer Tally
  pub sets : List ℕ
  pub tables : List ℕ
  pub finds : List Place

abbrev pub outcome : Answer Tally → List ℕ → List ℕ → List Place → Outcome
outcome a Z T F = record { answer = a; sets = Z; tables = T; finds = F }

abbrev pub compact_searched : Result Tally Refusal → List ℕ → List ℕ → List Place → Outcome
compact_searched r Z T F = outcome (tally_answer r) Z T F

unfoldable pub compact_search_says : Word → Word → List ℕ → List ℕ → List Place → Outcome
compact_search_says word text Z T F =
    let m = length word in
    cond (ltb m 1) (outcome (refused empty_word) Z T F)
    (cond (ltb longest_word m) (outcome (refused long_word) Z T F)
    (cond (ltb longest_text (length text)) (outcome (refused long_text) Z T F)
    (cond (compact_short m Z T) (outcome (refused short_room) Z T F)
    (outcome (done (found word text)) (compact_sets (mirror word) ++ drop (sets_room m) Z)
    (compact_table (mirror word) ++ drop (compact_room m) T) (filled (occurrences word text) F)))))
