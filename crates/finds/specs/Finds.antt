-- The caller's list of finds.
--
--   filled l F    the list F with the first of the finds l in it, as many as fit, and its other entries as they were
--
-- 01, 'The backward search'.
use Rattle.std.specs.Prelude.{List, ◌++◌, ℕ, length, take, drop}
use Rattle.words.specs.Words.{Place}

unfoldable pub filled : List Place → List ℕ → List ℕ
filled l F = take (length F) l ++ drop (length l) F
