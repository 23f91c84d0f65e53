-- WHAT SEARCH SAYS: the whole outcome as a function of what is lent.
--
--   found word text            how often the word stands in the text, and the letters that the published steps read
--   Outcome                    the answer, and the room and the list as they are left
--   searched r T F             the outcome of code that answers r and leaves T and F
--   search_within n word text T
--                              F
--                              what it must be where a word may have n letters: 1, 2, 4, 3 in that order; else every occurrence is
--                              counted and the first of them are listed, as many as fit, the letters are those of the published steps,
--                              the mirrored word's table stands in the room, and the rest of the room and of the list is as it was
--   search_says word text T F  the same with the limit that there is
--
-- 01, 'The backward search' and 'When the library says no'; demands 1 and 2.
use Rattle.std.specs.Prelude.{cond, List, ◌++◌, ℕ, length, drop, ltb}
use Rattle.words.specs.Words.{Word, Place, mirror, occurrences}
use Rattle.backward.specs.Steps.{backward}
use Rattle.table.specs.Table.{room, table_of}
use Rattle.finds.specs.declared.Tally.{Tally}
use Rattle.finds.specs.Finds.{filled}
use Rattle.words.specs.Limits.{longest_word, longest_text}
use Rattle.std.specs.Prelude.{Result}
use Rattle.answers.specs.declared.Refusal.{Refusal}
use Rattle.answers.specs.Answers.{Answer, done, refused, tally_answer, empty_word, long_word, long_text, short_room}

abbrev pub found : Word → Word → Tally
found word text = record { count = length (occurrences word text); letters = (backward word text).letters }

pub record Outcome : Type 0 where
  pub answer : Answer Tally
  pub tables : List ℕ
  pub finds : List Place

abbrev pub outcome : Answer Tally → List ℕ → List Place → Outcome
outcome a T F = record { answer = a; tables = T; finds = F }

abbrev pub searched : Result Tally Refusal → List ℕ → List Place → Outcome
searched r T F = outcome (tally_answer r) T F

abbrev pub search_within : ℕ → Word → Word → List ℕ → List Place → Outcome
search_within n word text T F =
    let m = length word in
    cond (ltb m 1) (outcome (refused empty_word) T F)
    (cond (ltb n m) (outcome (refused long_word) T F)
    (cond (ltb longest_text (length text)) (outcome (refused long_text) T F)
    (cond (ltb (length T) (room m)) (outcome (refused short_room) T F)
    (outcome (done (found word text)) (table_of (mirror word) ++ drop (room m) T) (filled (occurrences word text) F)))))

unfoldable pub search_says : Word → Word → List ℕ → List Place → Outcome
search_says word text T F = search_within longest_word word text T F
