-- Two lists of the caller's that are filled side by side.
--
--   fit_both S G      how many entries fit both lists: as many as the shorter one has
--   filled_to n l F   the list F with the first of l in it, n at most, and its other entries as they were
--   Both l j S G A B  where the lists were S and G, they are A and B: l and j are in them, as many of each as fit both
--
-- 01, 'The backward search'; 02, 'Salvage lister'.
use Rattle.std.specs.Prelude.{◌≡◌, List, ℕ, min, length, take}
use Rattle.finds.specs.Finds.{filled}

abbrev pub fit_both : List ℕ → List ℕ → ℕ
fit_both S G = min (length S) (length G)

unfoldable pub filled_to : ℕ → List ℕ → List ℕ → List ℕ
filled_to n l F = filled (take n l) F

pub record Both (l j S G A B : List ℕ) : Type 0 where
  pub one : A ≡ filled_to (fit_both S G) l S
  pub other : B ≡ filled_to (fit_both S G) j G
