-- GOING THROUGH A WORD'S ARROWS in the file's order, slot by slot, in the word's table: what holds before each slot, and what one step of
-- the way answers.
--
--   Tabled p L          L is the table of p, which has letters, and few enough for entries of 16 bits
--   steps_ahead p x s   the steps from slot s on, x being the source before
--   Standing p x s      the arrows of the states before x stand before slot s
--   Leapt p x s r       r is the step of slot s, from the source x, and the next slot can be gone to
use Rattle.std.specs.Prelude.{◌≡◌, List, ◌∷◌, ℕ, ◌+◌, ◌≤◌, ◌<◌, length, drop}
use Rattle.words.specs.Words.{Word}
use Rattle.oracle.specs.Arrows.{State}
use Rattle.oracle.specs.SuffixRule.{oracle}
use Rattle.oracle.specs.FileOrder.{targets_before, file_arrows}
use Rattle.table.specs.Table.{table_of}
use Rattle.saved.specs.File.{Step, steps_from}
use Rattle.saved.specs.declared.Leap.{Leap}

pub record Tabled (p : Word) (L : List ℕ) : Type 0 where
  pub table : L ≡ table_of p
  pub least : 1 ≤ length p
  pub most : length p < 65535

abbrev pub steps_ahead : Word → State → ℕ → List Step
steps_ahead p x s = steps_from x (drop s (file_arrows p))

pub record Standing (p : Word) (x : State) (s : ℕ) : Type 0 where
  pub behind : length (targets_before (oracle p) p x) ≤ s
  pub inside : x < length p

pub record Leapt (p : Word) (x : State) (s : ℕ) (r : Leap) : Type 0 where
  pub next : steps_ahead p x s ≡ record { up = r.up; over = r.over } ∷ steps_ahead p r.source.0 (s + 1)
  pub stands : Standing p r.source.0 (s + 1)
