-- THE CASES OF THE FAILURE ORACLE'S ENTRIES: 01's table in its order, one constructor for each line, with what the word, the text and the
-- room have to be for it and the whole outcome that it has. The theorems show that an outcome is o exactly when a case with the outcome o
-- applies.
--
--   FailureBuildCase word T o           build of a word into the tables T: 1, 2, 3
--   FailureSearchCase word text T F o   search with the tables T and the list F: 1, 2, 4, 3
--
-- 02, 'Failure oracle'; 01, 'When the library says no'; demand 1.
use Rattle.std.specs.Prelude.{List, ◌++◌, ℕ, ◌≤◌, ◌<◌, length, drop}
use Rattle.words.specs.Words.{Word, Place, mirror, occurrences}
use Rattle.words.specs.Limits.{longest_word, longest_text}
use Rattle.finds.specs.Finds.{filled}
use Rattle.failure_table.specs.FailureTable.{failure_room, failure_table}
use Rattle.answers.specs.Answers.{done, refused, empty_word, long_word, short_room, long_text}
use Rattle.marks.specs.Build.{Outcome, outcome}
use Rattle.failure_entries.specs.FailureSearch.{FailureOutcome, failure_outcome, found}

module _ (word : Word) where
  abbrev m : ℕ
  m = length word

  pub data FailureBuildCase (T : List ℕ) : Outcome → Type 0 where
    on_empty_word : m < 1 → FailureBuildCase T (outcome (refused empty_word) T)
    on_long_word : 1 ≤ m → longest_word < m → FailureBuildCase T (outcome (refused long_word) T)
    on_short_room : 1 ≤ m → m ≤ longest_word → length T < failure_room m → FailureBuildCase T (outcome (refused short_room) T)
    accepted : 1 ≤ m → m ≤ longest_word → failure_room m ≤ length T
        → FailureBuildCase T (outcome (done m) (failure_table word ++ drop (failure_room m) T))

  pub data FailureSearchCase (text : Word) (T : List ℕ) (F : List Place) : FailureOutcome → Type 0 where
    on_empty_word : m < 1 → FailureSearchCase text T F (failure_outcome (refused empty_word) T F)
    on_long_word : 1 ≤ m → longest_word < m → FailureSearchCase text T F (failure_outcome (refused long_word) T F)
    on_long_text : 1 ≤ m → m ≤ longest_word → longest_text < length text
        → FailureSearchCase text T F (failure_outcome (refused long_text) T F)
    on_short_room : 1 ≤ m → m ≤ longest_word → length text ≤ longest_text → length T < failure_room m
        → FailureSearchCase text T F (failure_outcome (refused short_room) T F)
    accepted : 1 ≤ m → m ≤ longest_word → length text ≤ longest_text → failure_room m ≤ length T
        → FailureSearchCase text T F (failure_outcome (done (found word text)) (failure_table (mirror word) ++ drop (failure_room m) T)
        (filled (occurrences word text) F))
