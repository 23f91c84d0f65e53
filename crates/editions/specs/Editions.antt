-- THE FILE OF A WORD IN EACH EDITION: edition 1 is `spell`; edition 2 is the same body behind the number 2, and then the check of all bytes
-- before it, low byte first. No loader is asked.
--
--   Edition           the two editions
--   spell_in e p      the file of p in the edition e
--   FileIn e s p      s is that file, and p a word of bytes within the limits
--   SavedIn e s       s is the file of such a word
--   most_bytes e      so many bytes are always room enough for a file
--
-- 02, 'Edition 2 with a check'; demand 3.
use Rattle.std.specs.Prelude.{◌≡◌, List, ◌++◌, ℕ, ◌+◌}
use Rattle.words.specs.Words.{Word}
use Rattle.words.specs.Limits.{greatest_file}
use Rattle.number.specs.Number.{spell_number}
use Rattle.saved.specs.File.{body, spell, Savable}
use Rattle.crc.specs.Check.{sealed}

pub data Edition : Type 0 where
  plain : Edition
  checked : Edition

abbrev pub spell_in : Edition → Word → List ℕ
spell_in plain p = spell p
spell_in checked p = sealed (spell_number 2 ++ body p)

pub record FileIn (e : Edition) (s : List ℕ) (p : Word) : Type 0 where
  pub savable : Savable p
  pub file : s ≡ spell_in e p

pub record SavedIn (e : Edition) (s : List ℕ) : Type 0 where
  pub word : Word
  pub savable : Savable word
  pub file : s ≡ spell_in e word

abbrev pub most_bytes : Edition → ℕ
most_bytes plain = greatest_file
most_bytes checked = greatest_file + 2
