-- WHEN A NUMBER IS READ at a place of a file, and when 5 or 6 shows there: said of the bytes alone. `number_at` answers so exactly then
-- (`value-exactly`, `cut-exactly`, `bad-exactly` of the theorems).
--
--   StandsAt s i v c    the one spelling of v stands in s at place i, and c is the place behind it
--   CutOff s i          the file ends before or inside the number: fewer than five bytes are left, and each says that another follows
--   BadByte s i p       the byte at place p is refused: those of its number before it say that another follows, and it is 0 behind
--                       others, or the fifth and above 15
--
-- 01, 'The file on disk' and 'When the library says no' (5 and 6).
use Rattle.std.specs.Prelude.{◌≡◌, ◌⊎◌, List, ◌++◌, ℕ, ◌+◌, ◌≤◌, ◌<◌, length, drop}
use Rattle.words.specs.Lists.{at}
use Rattle.number.specs.Number.{greatest, spell_number}
use Rattle.number.specs.declared.Cursor.{Cursor}

pub record StandsAt (s : List ℕ) (i v : ℕ) (c : Cursor) : Type 0 where
  pub spelled : drop i s ≡ spell_number v ++ drop c.at s
  pub next : c.at ≡ i + length (spell_number v)
  pub inside : c.at ≤ length s
  pub small : v ≤ greatest

pub record CutOff (s : List ℕ) (i : ℕ) : Type 0 where
  pub few : length s < i + 5
  pub follow : (k : ℕ) → i + k < length s → 128 ≤ at s (i + k)

-- `before` is how many bytes of the number stand before it
pub record BadByte (s : List ℕ) (i p : ℕ) : Type 0 where
  pub before : ℕ
  pub place : p ≡ i + before
  pub inside : p < length s
  pub few : before ≤ 4
  pub follow : (k : ℕ) → k < before → 128 ≤ at s (i + k)
  pub bad : ((0 < before) × (at s p ≡ 0)) ⊎ ((before ≡ 4) × (15 < at s p))
