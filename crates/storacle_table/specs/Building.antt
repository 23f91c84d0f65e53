-- BUILDING the table, suffix by suffix. Nothing here is of interest once it is filled.
--
--   word_put p           the word in row 0, and zeros
--   FirstAlike L x y z   of the entries behind x, z is the first that is as entry y is
--   Sized p m            p has m letters, and its states fit into entries of 16 bits
--   TableAfter p m L i   L is the table of the arrows of the suffixes 1 to i over p, which has m letters
--
-- 02, 'Storacle'.
use Rattle.std.specs.Prelude.{◌≡◌, ◌≢◌, List, ◌∷◌, ◌++◌, ℕ, ◌+◌, ◌*◌, ◌≤◌, ◌<◌, length, replicate}
use Rattle.words.specs.Lists.{at}
use Rattle.words.specs.Words.{Word}
use Rattle.storacle.specs.StoracleRule.{storacle_after}
use Rattle.storacle_table.specs.StoracleTable.{storacle_table_from}

unfoldable pub word_put : Word → List ℕ
word_put p = (0 ∷ p) ++ replicate ((length p + 1) * (length p + 5)) 0

pub record FirstAlike (L : List ℕ) (x y z : ℕ) : Type 0 where
  pub behind : x < z
  pub within : z ≤ y
  pub alike : at L z ≡ at L y
  pub first : (j : ℕ) → x < j → j < z → at L j ≢ at L y

pub record Sized (p : Word) (m : ℕ) : Type 0 where
  pub long : length p ≡ m
  pub small : m < 65535

pub record TableAfter (p : Word) (m : ℕ) (L : List ℕ) (i : ℕ) : Type 0 where
  pub sized : Sized p m
  pub inside : i + 1 ≤ m
  pub table : L ≡ storacle_table_from p (storacle_after p i)
