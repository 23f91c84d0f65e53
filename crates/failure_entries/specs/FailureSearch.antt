-- WHAT THE SEARCH WITH A FAILURE ORACLE SAYS: the whole outcome as a function of what is lent.
--
--   found word text            how often the word stands in the text, and the letters and the failure arrows of the published steps
--   FailureOutcome             the answer, and the room and the list as they are left
--   failure_answer r           what the code's result r means
--   failure_searched r T F     the outcome of code that answers r and leaves T and F
--   failure_search_says word text T F
--                              what it must be: 1, 2, 4, 3 in that order, where 3 asks for the failure table's room; else every occurrence
--                              is counted and the first of them are listed, as many as fit, both counts are those of the published steps,
--                              the mirrored word's table stands in the room, and the rest of the room and of the list is as it was
--
-- 02, 'Failure oracle'; 01, 'The backward search' and 'When the library says no'.
use Rattle.std.specs.Prelude.{cond, List, ◌++◌, ℕ, length, drop, ltb, Result}
use Rattle.words.specs.Words.{Word, Place, mirror, occurrences}
use Rattle.words.specs.Limits.{longest_word, longest_text}
use Rattle.finds.specs.Finds.{filled}
use Rattle.failure.specs.FailureSteps.{failure_steps}
use Rattle.failure_table.specs.FailureTable.{failure_room, failure_table}
use Rattle.failure_search.specs.declared.FailureTally.{FailureTally}
use Rattle.answers.specs.declared.Refusal.{Refusal}
use Rattle.answers.specs.Answers.{Answer, done, refused, answer_of, empty_word, long_word, long_text, short_room}

abbrev pub found : Word → Word → FailureTally
found word text =
    let R = failure_steps word text in
    record { count = length (occurrences word text); letters = R.letters; failures = R.failures }

pub record FailureOutcome : Type 0 where
  pub answer : Answer FailureTally
  pub tables : List ℕ
  pub finds : List Place

abbrev pub failure_outcome : Answer FailureTally → List ℕ → List Place → FailureOutcome
failure_outcome a T F = record { answer = a; tables = T; finds = F }

abbrev pub failure_answer : Result FailureTally Refusal → Answer FailureTally
failure_answer r = answer_of r

abbrev pub failure_searched : Result FailureTally Refusal → List ℕ → List Place → FailureOutcome
failure_searched r T F = failure_outcome (failure_answer r) T F

unfoldable pub failure_search_says : Word → Word → List ℕ → List Place → FailureOutcome
failure_search_says word text T F =
    let m = length word in
    cond (ltb m 1) (failure_outcome (refused empty_word) T F)
    (cond (ltb longest_word m) (failure_outcome (refused long_word) T F)
    (cond (ltb longest_text (length text)) (failure_outcome (refused long_text) T F)
    (cond (ltb (length T) (failure_room m)) (failure_outcome (refused short_room) T F)
    (failure_outcome (done (found word text)) (failure_table (mirror word) ++ drop (failure_room m) T)
    (filled (occurrences word text) F)))))
