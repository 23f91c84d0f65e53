-- What a search asks of a table so that it may use its spare rows as scratch: they are zero, so that zeros make the table what it was.
--
--   Spare L m    rows 4 and 5 of L, a table for m letters, are zero
use Rattle.std.specs.Prelude.{◌≡◌, List, ℕ, ◌+◌, ◌*◌, ◌<◌}
use Rattle.words.specs.Lists.{at}

pub record Spare (L : List ℕ) (m : ℕ) : Type 0 where
  pub zeros : (i : ℕ) → i < 2 * (m + 1) → at L (4 * (m + 1) + i) ≡ 0
