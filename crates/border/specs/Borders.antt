-- BORDERS: words that are both a beginning and an end of a word, and shorter than it.
--
--   longest P b       the greatest length below b that passes the test P, 0 where none does
--   closes u k v      whether the first k letters of u are the last k of v
--   longest_border w  the length of w's longest border: the longest below m for which the first letters are the last, perhaps 0
--   borders w         the longest borders of all beginnings of w: of its first letter, of its first two, .., of w
--   longest_end w v   the length of the longest beginning of w, perhaps all of it, that v ends with
--   Known w row n     the first n entries of a row are the longest borders of w's first n beginnings
--
-- 02, 'The step after a find'.
use Rattle.std.specs.Prelude.{◌≡◌, Bool, cond, List, map, ℕ, zero, suc, ◌-◌, ◌<◌, length}
use Rattle.words.specs.Lists.{at, from}
use Rattle.words.specs.Words.{Word, part, same}

unfoldable pub longest : (ℕ → Bool) → ℕ → ℕ
longest P zero = 0
longest P (suc k) = cond (P k) k (longest P k)

unfoldable pub closes : Word → ℕ → Word → Bool
closes u k v = same (part u 0 k) (part v (length v - k) k)

unfoldable pub longest_border : Word → ℕ
longest_border w = longest (λ k. closes w k w) (length w)

unfoldable pub borders : Word → List ℕ
borders w = map (λ k. longest_border (part w 0 k)) (from 1 (length w))

unfoldable pub longest_end : Word → Word → ℕ
longest_end w v = longest (λ k. closes w k v) (suc (length w))

pub record Known (w : Word) (row : List ℕ) (n : ℕ) : Type 0 where
  pub entry : (j : ℕ) → j < n → at row j ≡ longest_border (part w 0 (suc j))
