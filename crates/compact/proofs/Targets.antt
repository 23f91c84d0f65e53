-- THE ROW OF TARGETS: each arrow's target stands behind those of the arrows with smaller numbers, and nothing else stands there.
use mathlib.Core.Path.{◌≡◌, refl, ap, ap₂, ◌∙◌}
use mathlib.Core.Logic.{by_cases}
use mathlib.Core.Bool.{Bool, cond}
use mathlib.Core.Option.{Option, none, some}
use mathlib.Core.List.{List, [], ◌∷◌, ◌++◌}
use Prim.Native.Nat.{ℕ, zero, suc, ◌+◌, ◌≤◌, ◌<◌}
use native.Mathlib.Nat.{add-zero}
use native.Mathlib.Decide.{dec_lt, ℕ_discrete}
use native.Mathlib.Omega.{arith}
use lib.ListN.{length, length-append, get_or-append}
use lib.Seq.{get_or-append-add}
use Rattle.words.specs.Lists.{at}
use Rattle.oracle.specs.Arrows.{State, Delta}
use Rattle.compact.specs.Compact.{arrow_at, is_arrow, as_list, targets_up_to, how_many}
use Rattle.compact.proofs.Counting.{count_rises}

as_list-length : (o : Option State) → length (as_list o) ≡ cond (is_arrow o) 1 0
unfolding as_list is_arrow
as_list-length none = refl
as_list-length (some y) = refl

module _ (δ : Delta) where
  -- whether there is an arrow of that number
  abbrev pub there : ℕ → Bool
  there g = is_arrow (arrow_at δ g)

  -- as many targets as arrows
  pub targets-length : (g : ℕ) → length (targets_up_to δ g) ≡ how_many there g
  unfolding targets_up_to how_many
  targets-length zero = refl
  targets-length (suc g) =
      length-append (targets_up_to δ g) (as_list (arrow_at δ g))
      ∙ ap₂ (λ (a b : ℕ). a + b) (targets-length g) (as_list-length (arrow_at δ g))

  pub targets_rise : (a b : ℕ) → a ≤ b → length (targets_up_to δ a) ≤ length (targets_up_to δ b)
  targets_rise a b h = omega (arith, targets-length a, targets-length b, count_rises there a b h)

  -- the targets so far stay where they are
  pub targets_stay : (a b i : ℕ) → a ≤ b → i < length (targets_up_to δ a) → at (targets_up_to δ b) i ≡ at (targets_up_to δ a) i
  unfolding targets_up_to
  targets_stay a zero i h l = let e : a ≡ 0 = omega arith in rw e
  targets_stay a (suc b) i h l = by_cases (ℕ_discrete a (suc b))
      (λ e. rw e)
      (λ e.
      let inside : i < length (targets_up_to δ b) = omega (arith, targets_rise a b (omega arith)) in
      get_or-append (targets_up_to δ b) (as_list (arrow_at δ b)) 0 i inside ∙ targets_stay a b i (omega arith) l)

  module _ (g : ℕ) {y : State} (e : arrow_at δ g ≡ some y) where
    -- the target of an arrow is the next
    next : targets_up_to δ (suc g) ≡ targets_up_to δ g ++ (y ∷ [])
    unfolding targets_up_to as_list
    next = rw e

    -- it stands behind those of the smaller numbers
    pub target-inside : (k : ℕ) → g < k → length (targets_up_to δ g) < length (targets_up_to δ k)
    target-inside k h = omega (arith, ap length next, length-append (targets_up_to δ g) (y ∷ []), targets_rise (suc g) k (omega arith))

    pub target_at : (k : ℕ) → g < k → at (targets_up_to δ k) (length (targets_up_to δ g)) ≡ y
    target_at k h =
        let behind = get_or-append-add (targets_up_to δ g) (y ∷ []) 0 0 in
        let here : at (targets_up_to δ g ++ (y ∷ [])) (length (targets_up_to δ g))
        ≡ y = rw (add-zero (length (targets_up_to δ g))) at behind in
        targets_stay (suc g) k (length (targets_up_to δ g)) (omega arith) (target-inside (suc g) (omega arith))
        ∙ ap (λ (l : List State). at l (length (targets_up_to δ g))) next
        ∙ here

  -- whatever stands there is the target of an arrow, at its place
  pub record TargetOf (k i : ℕ) : Type 0 where
    pub number : ℕ
    pub below : number < k
    pub to : State
    pub leads : arrow_at δ number ≡ some to
    pub place : length (targets_up_to δ number) ≡ i

  pub target_of_lem : (k i : ℕ) → i < length (targets_up_to δ k) → TargetOf k i
  target_of_lem zero i h = absurd (unfold targets_up_to in omega (arith, h))
  target_of_lem (suc k) i h =
      by_cases (dec_lt i (length (targets_up_to δ k))) (λ l. later (target_of_lem k i l)) (λ l. by (arrow_at δ k) refl l)
    where
      later : TargetOf k i → TargetOf (suc k) i
      later T = record { number = T.number; below = omega (arith, T.below); to = T.to; leads = T.leads; place = T.place }

      size : length (targets_up_to δ (suc k)) ≡ length (targets_up_to δ k) + length (as_list (arrow_at δ k))
      size = unfold targets_up_to in length-append (targets_up_to δ k) (as_list (arrow_at δ k))

      by : (o : Option State) → arrow_at δ k ≡ o → (i < length (targets_up_to δ k) → ⊥) → TargetOf (suc k) i
      by none e l = absurd (unfold as_list in omega (arith, h, rw e at size))
      by (some y) e l = record {
        number = k;
        below = omega arith;
        to = y;
        leads = e;
        place = unfold as_list in omega (arith, h, rw e at size);
      }
