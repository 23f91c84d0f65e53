-- CHAINS OF ARROWS in a table of six rows of n entries: what a lookup and a push mean there. Nothing here is of interest once the table is
-- laid out.
--
--   supply_in L n x    the supply of x, read from row 1; state 0 has none
--   Chain L n j l      the slots from j on hold the targets l
--   Chained L n        every state's slots hold some targets
--   look_in a t l x c  the arrow from x on c, a y being the letter of state y and l the targets of x
--   Looks L n t x c r  r is that arrow, for the targets that the slots of x hold
--   pushed L n u x y   an arrow from x to y in slot u + 1, before the others of x
use Rattle.std.specs.Prelude.{◌≡◌, cond, List, [], ◌∷◌, ℕ, suc, ◌+◌, ◌*◌, ◌<◌, length, set, eqb, ltb}
use Rattle.std.proofs.Math.Option.{Option, none, some}
use Rattle.words.specs.Lists.{at, first}
use Rattle.words.specs.Words.{Letter}
use Rattle.words.specs.Answers.{arrow_to}
use Rattle.words.specs.Answers.{MaybeState}
use Rattle.oracle.specs.Arrows.{State}

unfoldable pub supply_in : List ℕ → ℕ → State → Option State
supply_in L n x = cond (eqb x 0) none (some (at L (n + x)))

-- a slot's target is a state, and the next slot is an older one
pub data Chain (L : List ℕ) (n : ℕ) : ℕ → List State → Type 0 where
  ends : {j : ℕ} → j ≡ 0 → Chain L n j []
  links : {j : ℕ} {y : State} {l : List State} → 0 < j → j < n → y ≡ at L (5 * n + j) → y < n → at L (4 * n + j) < j
      → Chain L n (at L (4 * n + j)) l → Chain L n j (y ∷ l)

pub record Chained (L : List ℕ) (n : ℕ) : Type 0 where
  pub size : length L ≡ 6 * n
  pub chain : (x : State) → x < n → (l : List State) × Chain L n (at L (2 * n + x)) l

unfoldable pub look_in : (State → Letter) → ℕ → List State → State → Letter → Option State
look_in a t l x c = cond (ltb x t) (cond (eqb (a (suc x)) c) (some (suc x)) (first (λ y. eqb (a y) c) l)) none

pub record Looks (L : List ℕ) (n t : ℕ) (x : State) (c : Letter) (r : MaybeState) : Type 0 where
  pub says : (l : List State) → Chain L n (at L (2 * n + x)) l → r ≡ arrow_to (look_in (at L) t l x c)

unfoldable pub pushed : List ℕ → ℕ → ℕ → State → State → List ℕ
pushed L n u x y = set (set (set L (5 * n + suc u) y) (4 * n + suc u) (at L (2 * n + x))) (2 * n + x) (suc u)
