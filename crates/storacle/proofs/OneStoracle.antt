-- A WORD HAS ONE STORACLE. Two automata as `IsStoracle` has them walk each factor to the same state, by induction on its letters: both have
-- an arrow on the next letter, and both lead to the first later state. So a factor that goes on in the one goes on in the other, and the
-- one has an arrow where the other has one, to the same state.
use mathlib.Core.Path.{◌≡◌, refl, sym, ◌∙◌}
use mathlib.Core.Option.{some}
use Prim.Native.Nat.{ℕ, zero, suc, ◌+◌, ◌≤◌, ◌<◌}
use native.Mathlib.Omega.{arith}
use lib.ListN.{length}
use Rattle.words.specs.Words.{Letter, Word, letter, part}
use Rattle.words.proofs.Lists.{option_cases, none_where}
use Rattle.words.proofs.Words.{part_snoc}
use Rattle.oracle.specs.Arrows.{State, Delta, walk}
use Rattle.oracle.proofs.Targets.{never}
use Rattle.oracle.proofs.Walks.{walk_snoc}
use Rattle.storacle.specs.StoracleRule.{first_later, GoesOn, IsStoracle}
use Rattle.storacle.proofs.FirstLater.{first_later_is}

module _ (p : Word) {δ : Delta} (S : IsStoracle p δ) where
  -- where there is an arrow, it leads to the first later state
  arrow-first : (x : State) (c : Letter) → GoesOn p δ x c → δ x c ≡ some (first_later p x c)
  arrow-first x c G =
      let r = (S.exactly x c).1 G in
      rw (first_later_is (S.leads-first x c r.0 r.1)) r.1

  -- one letter more of a factor
  goes_on : (i n : ℕ) (x : State) → i + n < length p → walk δ 0 (part p i n) ≡ some x → GoesOn p δ x (letter p (i + n))
  goes_on i n x h e = record { start = i; count = n; inside = h; walked = e; next = refl }

  one_more : (i n : ℕ) (x : State) → i + n < length p → walk δ 0 (part p i n) ≡ some x
      → walk δ 0 (part p i (suc n)) ≡ some (first_later p x (letter p (i + n)))
  one_more i n x h e =
      rw (part_snoc p i n h) (walk_snoc δ (part p i n) (letter p (i + n)) 0 x e ∙ arrow-first x _ (goes_on i n x h e))

module _ (p : Word) {δ δ' : Delta} (S : IsStoracle p δ) (S' : IsStoracle p δ') where
  same-walk : (n i : ℕ) → i + n ≤ length p → (x : State) × (walk δ 0 (part p i n) ≡ some x) × (walk δ' 0 (part p i n) ≡ some x)
  unfolding walk
  same-walk zero i h = (0, refl, refl)
  same-walk (suc n) i h =
      let r = same-walk n i (omega arith) in
      let inside : i + n < length p = omega arith in
      (_, one_more p S i n r.0 inside r.1, one_more p S' i n r.0 inside r.2)

  same_going : (x : State) (c : Letter) → GoesOn p δ x c → GoesOn p δ' x c
  same_going x c G =
      let r = same-walk G.count G.start (omega (arith, G.inside)) in
      let one : some x ≡ some r.0 = sym G.walked ∙ r.1 in
      let q : x ≡ r.0 = cc in
      record { start = G.start; count = G.count; inside = G.inside; walked = rw q r.2; next = G.next }

  -- every arrow of the one is an arrow of the other
  pub same-arrow : (x : State) (c : Letter) (y : State) → δ x c ≡ some y → δ' x c ≡ some y
  same-arrow x c y e =
      let G = (S.exactly x c).0 (y, e) in
      arrow-first p S' x c (same_going x c G) ∙ sym (arrow-first p S x c G) ∙ e

-- they have the same arrows
pub one-storacle : (p : Word) (δ δ' : Delta) → IsStoracle p δ → IsStoracle p δ' → (x : State) (c : Letter) → δ x c ≡ δ' x c
one-storacle p δ δ' S S' x c = option_cases (δ x c)
    (λ e. e ∙ sym (none_where (δ' x c) (λ y d. never e (same-arrow p S' S x c y d))))
    (λ y e. e ∙ sym (same-arrow p S S' x c y e))
