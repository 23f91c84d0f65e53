-- Lists that the other definitions are written with.
--
--   at l i       entry i of a list of numbers, 0 behind its end
--   from a k     the numbers a, a + 1, .., k of them
--   only P l     those of l that pass the test P, in their order
--   first P l    the first of l that passes the test P, if one does
--   Rising a l   each number of l is at least a and above the one before it
use Rattle.std.specs.Prelude.{Bool, cond, List, [], ◌∷◌, ℕ, zero, suc, ◌≤◌, get_or}
use Rattle.std.proofs.Math.Option.{Option, none, some}

abbrev pub at : List ℕ → ℕ → ℕ
at l i = get_or l i 0

unfoldable pub from : ℕ → ℕ → List ℕ
from a zero = []
from a (suc k) = a ∷ from (suc a) k

unfoldable pub only : {A : Type 0} → (A → Bool) → List A → List A
only P [] = []
only P (a ∷ l) = cond (P a) (a ∷ only P l) (only P l)

unfoldable pub first : {A : Type 0} → (A → Bool) → List A → Option A
first P [] = none
first P (a ∷ l) = cond (P a) (some a) (first P l)

pub data Rising : ℕ → List ℕ → Type 0 where
  end : {a : ℕ} → Rising a []
  up : {a x : ℕ} {l : List ℕ} → a ≤ x → Rising (suc x) l → Rising a (x ∷ l)
