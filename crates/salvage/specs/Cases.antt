-- THE CASES OF THE SALVAGE LISTER: 01's table in its order, one constructor for each line, with what the text and the room have to be for
-- it and the whole outcome that it has. The theorems show that an outcome is o exactly when a case with the outcome o applies.
--
--   SalvageCase text T S K o   the rides of a text, with the tables T and the lists S and K: 4, 3
--
-- 02, 'Salvage lister'; 01, 'When the library says no'; demand 1.
use Rattle.std.specs.Prelude.{List, ◌++◌, ℕ, ◌≤◌, ◌<◌, length, drop}
use Rattle.words.specs.Words.{Word, Place, mirror}
use Rattle.words.specs.Limits.{longest_text}
use Rattle.table.specs.Table.{table_of}
use Rattle.two_lists.specs.TwoLists.{fit_both, filled_to}
use Rattle.rides.specs.Rides.{dot_fit, rides, starts, kinds}
use Rattle.answers.specs.Answers.{done, refused, long_text, short_room}
use Rattle.salvage.specs.Salvage.{dot_fit_room, Outcome, outcome}

pub data SalvageCase (text : Word) (T : List ℕ) (S : List Place) (K : List ℕ) : Outcome → Type 0 where
  on_long_text : longest_text < length text → SalvageCase text T S K (outcome (refused long_text) T S K)
  on_short_room : length text ≤ longest_text → length T < dot_fit_room → SalvageCase text T S K (outcome (refused short_room) T S K)
  accepted : length text ≤ longest_text → dot_fit_room ≤ length T
      → SalvageCase text T S K (outcome (done (length (rides text))) (table_of (mirror dot_fit) ++ drop dot_fit_room T)
      (filled_to (fit_both S K) (starts (rides text)) S) (filled_to (fit_both S K) (kinds (rides text)) K))
