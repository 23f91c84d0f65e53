-- THE CASES OF THE TURBO SEARCH: 01's table in its order, one constructor for each line, with what the word, the text and the room have to
-- be for it and the whole outcome that it has. The theorems show that the outcome is o exactly when a case with the outcome o applies.
--
--   TurboCase word text T F o   search with the tables T and the list F: 1, 2, 4, 3
--
-- 02, 'Linear on hostile text'; 01, 'When the library says no'; demand 1.
use Rattle.std.specs.Prelude.{List, ◌++◌, ℕ, ◌≤◌, ◌<◌, length, drop}
use Rattle.words.specs.Words.{Word, Place, mirror, occurrences}
use Rattle.words.specs.Limits.{longest_word, longest_text}
use Rattle.table.specs.Table.{room, table_of}
use Rattle.finds.specs.Finds.{filled}
use Rattle.answers.specs.Answers.{done, refused, empty_word, long_word, short_room, long_text}
use Rattle.marks.specs.Search.{Outcome, outcome}
use Rattle.linear.specs.Turbo.{found}

module _ (word text : Word) (T : List ℕ) (F : List Place) where
  abbrev m : ℕ
  m = length word

  pub data TurboCase : Outcome → Type 0 where
    on_empty_word : m < 1 → TurboCase (outcome (refused empty_word) T F)
    on_long_word : 1 ≤ m → longest_word < m → TurboCase (outcome (refused long_word) T F)
    on_long_text : 1 ≤ m → m ≤ longest_word → longest_text < length text → TurboCase (outcome (refused long_text) T F)
    on_short_room : 1 ≤ m → m ≤ longest_word → length text ≤ longest_text → length T < room m → TurboCase (outcome (refused short_room) T F)
    accepted : 1 ≤ m → m ≤ longest_word → length text ≤ longest_text → room m ≤ length T
        → TurboCase (outcome (done (found word text)) (table_of (mirror word) ++ drop (room m) T) (filled (occurrences word text) F))
