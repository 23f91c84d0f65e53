-- THE FILE OF A WORD in edition 1: edition, m, the m letters, the number of extra arrows, then each arrow as two numbers. Nothing follows.
-- The set of files is what `spell` makes of the words within the limits; no loader is asked.
--
--   edition           the edition's number
--   Step              an arrow as the file has it: its source less the previous one's, its target less its source less 2
--   steps_from s l    the arrows l as steps, s being the source before the first
--   spell_steps l     their spelling
--   own_steps p       the steps of a word's own extra arrows, in the file's order
--   body p            everything behind the edition
--   spell p           the file of p
--   Savable p         p is a word of bytes within the limits: one that has a file
--   Saved f           f is the file of such a word
--
-- 01, 'The file on disk'; demand 3.
use Rattle.std.specs.Prelude.{◌≡◌, List, [], ◌∷◌, ◌++◌, ℕ, ◌-◌, ◌≤◌, length}
use Rattle.words.specs.Words.{Word}
use Rattle.words.specs.Limits.{least_saved, longest_word}
use Rattle.oracle.specs.Arrows.{State}
use Rattle.oracle.specs.FileOrder.{Extra, file_arrows}
use Rattle.number.specs.Number.{Bytes, spell_number}

unfoldable pub edition : ℕ
edition = 1

pub record Step : Type 0 where
  pub up : ℕ
  pub over : ℕ

unfoldable pub steps_from : State → List Extra → List Step
steps_from s [] = []
steps_from s (a ∷ l) = record { up = a.source - s; over = a.to - a.source - 2 } ∷ steps_from a.source l

unfoldable pub spell_steps : List Step → List ℕ
spell_steps [] = []
spell_steps (s ∷ l) = spell_number s.up ++ (spell_number s.over ++ spell_steps l)

unfoldable pub own_steps : Word → List Step
own_steps p = steps_from 0 (file_arrows p)

unfoldable pub body : Word → List ℕ
body p = spell_number (length p) ++ (p ++ (spell_number (length (own_steps p)) ++ spell_steps (own_steps p)))

unfoldable pub spell : Word → List ℕ
spell p = spell_number edition ++ body p

pub record Savable (p : Word) : Type 0 where
  pub bytes : Bytes p
  pub least : least_saved ≤ length p
  pub most : length p ≤ longest_word

pub record Saved (f : List ℕ) : Type 0 where
  pub word : Word
  pub savable : Savable word
  pub file : f ≡ spell word
