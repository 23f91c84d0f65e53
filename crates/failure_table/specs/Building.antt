-- BUILDING the table, suffix by suffix. But for `answered_as`, nothing here is of interest once it is filled.
--
--   answered_as s        what became of a letter, as code answers it
--   word_in L m          the word of m letters that stands in row 0
--   with_arrow L n u x k L with the arrow that a walk lacks which is stuck at x with the letters up to k spelled, u slots being used
--   slots_with u x k     how many slots are used then
--   Shared a b n         the first n entries of a and b are the same
--   AlongSpine L m x k n the n letters behind the first k are those of the spine from state x on, all below the word's last
--   Stage p m L u i      L is the table of the arrows of the suffixes 1 to i over p, which has m letters; u of them are in slots
--
-- 02, 'Failure oracle'.
use Rattle.std.specs.Prelude.{◌≡◌, cond, List, ℕ, ◌+◌, ◌≤◌, ◌<◌, length, set, ltb}
use Rattle.words.specs.Lists.{at}
use Rattle.words.specs.Words.{Word, letter, part}
use Rattle.words.specs.Answers.{arrow_to}
use Rattle.oracle.specs.Arrows.{State}
use Rattle.failure.specs.FailureRule.{Asked, after_suffix}
use Rattle.failure_table.specs.declared.Answered.{Answered}
use Rattle.failure_table.specs.FailureTable.{slotted, failure_table_from}

abbrev pub answered_as : Asked → Answered
answered_as s = record { leads = arrow_to s.to; last = record { 0 = s.last }; taken = s.taken }

abbrev pub word_in : List ℕ → ℕ → Word
word_in L m = part L 1 m

abbrev pub with_arrow : List ℕ → ℕ → ℕ → State → ℕ → List ℕ
with_arrow L n u x k = cond (ltb x k) (set L (n + x) k) (slotted L n u x (k + 1))

abbrev pub slots_with : ℕ → State → ℕ → ℕ
slots_with u x k = cond (ltb x k) u (u + 1)

pub record Shared (a b : List ℕ) (n : ℕ) : Type 0 where
  pub inside : n ≤ length a
  pub alike : (j : ℕ) → j < n → at a j ≡ at b j

pub record AlongSpine (L : List ℕ) (m x k n : ℕ) : Type 0 where
  pub state : x + n ≤ m
  pub inside : k + n < m
  pub alike : (j : ℕ) → j < n → at L (x + 1 + j) ≡ at L (k + 1 + j)

pub record Stage (p : Word) (m : ℕ) (L : List ℕ) (u i : ℕ) : Type 0 where
  pub long : length p ≡ m
  pub small : m < 65535
  pub letters : (k : ℕ) → letter p k < 256
  pub inside : i + 1 ≤ m
  pub table : L ≡ failure_table_from p (after_suffix p i)
  pub slots : u ≡ length (after_suffix p i).extra
