-- What the lister's own functions promise each other.
--
--   longest_part           how many letters a part has at most
--   most_finds             how many finds a part has at most
--   InLists R S K A B      where the caller's lists were S and K, they are A and B: the rides R are in them, as many as fit both
--   Adds X n A B A' B'     where n rides are in the lists A and B, in A' and B' the rides X are behind them
--   behind_place a q       the place q counted from a on
--   Within t a F           at each of the places F, counted from a on, four letters are within the text
use Rattle.std.specs.Prelude.{◌≡◌, List, ◌++◌, ℕ, ◌+◌, ◌≤◌, ◌<◌, length}
use Rattle.words.specs.Lists.{at}
use Rattle.words.specs.Words.{Word, Place}
use Rattle.two_lists.specs.TwoLists.{Both}
use Rattle.rides.specs.Rides.{Ride, starts, kinds}

abbrev pub longest_part : ℕ
longest_part = 4096

abbrev pub most_finds : ℕ
most_finds = 1024

abbrev pub InLists : List Ride → List ℕ → List ℕ → List ℕ → List ℕ → Type 0
InLists R S K A B = Both (starts R) (kinds R) S K A B

pub record Adds (X : List Ride) (n : ℕ) (A B A' B' : List ℕ) : Type 0 where
  pub behind : (R : List Ride) (S K : List ℕ) → length R ≡ n → InLists R S K A B → InLists (R ++ X) S K A' B'

abbrev pub behind_place : Place → Place → Place
behind_place a q = a + q

pub record Within (t : Word) (a : Place) (F : List Place) : Type 0 where
  pub four : (i : ℕ) → i < length F → a + at F i + 4 ≤ length t
