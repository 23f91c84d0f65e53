-- THE CASES OF THE ENTRIES OF COMPACT ROWS: 01's table in its order, one constructor for each line, with what the word, the text and the
-- rooms have to be for it and the whole outcome that it has. The theorems show that an outcome is o exactly when a case with the outcome o
-- applies.
--
--   TooSmall m Z T                      a room is too small for m letters: the words Z, or the entries T
--   CompactBuildCase word Z T o         build of a word into the words Z and the entries T: 1, 2, 3
--   CompactSearchCase word text Z T F o search with them and the list F: 1, 2, 4, 3
--
-- 02, 'Compact rows'; 01, 'When the library says no'; demand 1.
use Rattle.std.specs.Prelude.{◌⊎◌, List, ◌++◌, ℕ, ◌≤◌, ◌<◌, length, drop}
use Rattle.words.specs.Words.{Word, Place, mirror, occurrences}
use Rattle.words.specs.Limits.{longest_word, longest_text}
use Rattle.finds.specs.Finds.{filled}
use Rattle.compact.specs.Compact.{sets_room, compact_room, compact_sets, compact_table}
use Rattle.answers.specs.Answers.{done, refused, empty_word, long_word, short_room, long_text}
use Rattle.marks.specs.Search.{found}
use Rattle.compact_entries.specs.CompactBuild
use Rattle.compact_entries.specs.CompactSearch

abbrev pub TooSmall : ℕ → List ℕ → List ℕ → Type 0
TooSmall m Z T = (length Z < sets_room m) ⊎ (length T < compact_room m)

module _ (word : Word) where
  abbrev m : ℕ
  m = length word

  pub data CompactBuildCase (Z T : List ℕ) : CompactBuild.Outcome → Type 0 where
    on_empty_word : m < 1 → CompactBuildCase Z T (CompactBuild.outcome (refused empty_word) Z T)
    on_long_word : 1 ≤ m → longest_word < m → CompactBuildCase Z T (CompactBuild.outcome (refused long_word) Z T)
    on_short_room : 1 ≤ m → m ≤ longest_word → TooSmall m Z T → CompactBuildCase Z T (CompactBuild.outcome (refused short_room) Z T)
    accepted : 1 ≤ m → m ≤ longest_word → sets_room m ≤ length Z → compact_room m ≤ length T
        → CompactBuildCase Z T (CompactBuild.outcome (done m) (compact_sets word ++ drop (sets_room m) Z)
        (compact_table word ++ drop (compact_room m) T))

  pub data CompactSearchCase (text : Word) (Z T : List ℕ) (F : List Place) : CompactSearch.Outcome → Type 0 where
    on_empty_word : m < 1 → CompactSearchCase text Z T F (CompactSearch.outcome (refused empty_word) Z T F)
    on_long_word : 1 ≤ m → longest_word < m → CompactSearchCase text Z T F (CompactSearch.outcome (refused long_word) Z T F)
    on_long_text : 1 ≤ m → m ≤ longest_word → longest_text < length text
        → CompactSearchCase text Z T F (CompactSearch.outcome (refused long_text) Z T F)
    on_short_room : 1 ≤ m → m ≤ longest_word → length text ≤ longest_text → TooSmall m Z T
        → CompactSearchCase text Z T F (CompactSearch.outcome (refused short_room) Z T F)
    accepted : 1 ≤ m → m ≤ longest_word → length text ≤ longest_text → sets_room m ≤ length Z → compact_room m ≤ length T
        → CompactSearchCase text Z T F (CompactSearch.outcome (done (found word text)) (compact_sets (mirror word) ++ drop (sets_room m) Z)
        (compact_table (mirror word) ++ drop (compact_room m) T) (filled (occurrences word text) F))
