-- WHAT IS KEPT OF A TEXT by a search that goes forward over it: the longest beginning of the word, short of all of it, that the text ends
-- with.
--
--   kept w t       its length, perhaps 0
--   heard w h v    the first h letters of w, and v behind them: a text of which h letters were kept, and the letters that came since
--
-- 02, 'Uploads in pieces'.
use Rattle.std.specs.Prelude.{◌++◌, ℕ, length}
use Rattle.words.specs.Words.{Word, part}
use Rattle.border.specs.Borders.{longest, closes}

unfoldable pub kept : Word → Word → ℕ
kept w t = longest (λ k. closes w k t) (length w)

abbrev pub heard : Word → ℕ → Word → Word
heard w h v = part w 0 h ++ v
