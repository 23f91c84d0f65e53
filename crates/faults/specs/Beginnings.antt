-- HOW FAR A FILE IS RIGHT in edition 1: as far as some word's file has the same bytes.
--
--   Begins s p       the first p bytes of s are the first p bytes of some word's file
--   Declares s w n   the file shows the word w, and declares n arrows for it
--
-- 02, 'Where in the file is it broken?'.
use Rattle.std.specs.Prelude.{◌≡◌, List, ℕ, ◌≤◌, length, take}
use Rattle.words.specs.Words.{Word, Place}
use Rattle.saved.specs.File.{Saved}
use Rattle.loaded.specs.Cases.{Reads}
use Rattle.faults.specs.Faults.{CountAt}

pub record Begins (s : List ℕ) (p : Place) : Type 0 where
  pub file : List ℕ
  pub saved : Saved file
  pub inside : p ≤ length file
  pub same : take p s ≡ take p file

pub record Declares (s : List ℕ) (w : Word) (n : ℕ) : Type 0 where
  pub place : Place
  pub after : Place
  pub count_at : CountAt s w place
  pub count_read : Reads s place n after
