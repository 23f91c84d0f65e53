-- THE CASES OF THE ENTRIES OVER WORDS: 01's table in its order, one constructor for each line, with what the word and the rooms have to be
-- for it and the whole outcome that it has: the answer and every lent buffer. The theorems show that an entry's outcome is o exactly when a
-- case with the outcome o applies.
--
--   BuildCase word T o           build of a word into the tables T: 1, 2, 3
--   SearchCase word text T F o   search with the list F: 1, 2, 4, 3
--
-- 01, 'When the library says no'; demand 1.
use Rattle.std.specs.Prelude.{List, ◌++◌, ℕ, ◌≤◌, ◌<◌, length, drop}
use Rattle.words.specs.Words.{Word, Place, mirror, occurrences}
use Rattle.words.specs.Limits.{longest_word, longest_text}
use Rattle.table.specs.Table.{room, table_of}
use Rattle.finds.specs.Finds.{filled}
use Rattle.answers.specs.Answers.{done, refused, empty_word, long_word, short_room, long_text}
use Rattle.marks.specs.Build
use Rattle.marks.specs.Search
use Rattle.marks.specs.Search.{found}

module _ (word : Word) where
  abbrev m : ℕ
  m = length word

  pub data BuildCase (T : List ℕ) : Build.Outcome → Type 0 where
    on_empty_word : m < 1 → BuildCase T (Build.outcome (refused empty_word) T)
    on_long_word : 1 ≤ m → longest_word < m → BuildCase T (Build.outcome (refused long_word) T)
    on_short_room : 1 ≤ m → m ≤ longest_word → length T < room m → BuildCase T (Build.outcome (refused short_room) T)
    accepted : 1 ≤ m → m ≤ longest_word → room m ≤ length T → BuildCase T (Build.outcome (done m) (table_of word ++ drop (room m) T))

  pub data SearchCase (text : Word) (T : List ℕ) (F : List Place) : Search.Outcome → Type 0 where
    on_empty_word : m < 1 → SearchCase text T F (Search.outcome (refused empty_word) T F)
    on_long_word : 1 ≤ m → longest_word < m → SearchCase text T F (Search.outcome (refused long_word) T F)
    on_long_text : 1 ≤ m → m ≤ longest_word → longest_text < length text → SearchCase text T F (Search.outcome (refused long_text) T F)
    on_short_room : 1 ≤ m → m ≤ longest_word → length text ≤ longest_text → length T < room m
        → SearchCase text T F (Search.outcome (refused short_room) T F)
    accepted : 1 ≤ m → m ≤ longest_word → length text ≤ longest_text → room m ≤ length T
        → SearchCase text T F (Search.outcome (done (found word text)) (table_of (mirror word) ++ drop (room m) T)
        (filled (occurrences word text) F))
