-- THE CASES OF THE STORACLE'S ENTRY: 01's table in its order, one constructor for each line, with what the word and the room have to be for
-- it and the whole outcome that it has. The theorems show that an outcome is o exactly when a case with the outcome o applies.
--
--   StoracleBuildCase word T o   build of a word into the tables T: 1, 2, 3
--
-- 02, 'Storacle'; 01, 'When the library says no'; demand 1.
use Rattle.std.specs.Prelude.{List, ◌++◌, ℕ, ◌≤◌, ◌<◌, length, drop}
use Rattle.words.specs.Words.{Word}
use Rattle.words.specs.Limits.{longest_storacle}
use Rattle.storacle_table.specs.StoracleTable.{storacle_room, storacle_table}
use Rattle.answers.specs.Answers.{done, refused, empty_word, long_word, short_room}
use Rattle.marks.specs.Build.{Outcome, outcome}

module _ (word : Word) (T : List ℕ) where
  abbrev m : ℕ
  m = length word

  pub data StoracleBuildCase : Outcome → Type 0 where
    on_empty_word : m < 1 → StoracleBuildCase (outcome (refused empty_word) T)
    on_long_word : 1 ≤ m → longest_storacle < m → StoracleBuildCase (outcome (refused long_word) T)
    on_short_room : 1 ≤ m → m ≤ longest_storacle → length T < storacle_room m → StoracleBuildCase (outcome (refused short_room) T)
    accepted : 1 ≤ m → m ≤ longest_storacle → storacle_room m ≤ length T
        → StoracleBuildCase (outcome (done m) (storacle_table word ++ drop (storacle_room m) T))
