-- FILLING TWO LISTS side by side. Where an entry is left in both, each list is filled as a single one is (`noted_inside`), since what is
-- taken of l is then all of it; where one of them is full, what is taken stays as it was.
use mathlib.Core.Path.{◌≡◌, refl, sym, ap, ◌∙◌}
use mathlib.Core.List.{List, [], ◌∷◌, ◌++◌}
use Prim.Native.Nat.{ℕ, ◌≤◌, ◌<◌, min}
use native.Mathlib.Omega.{arith}
use lib.ListN.{length, take, set, length-append}
use lib.Seq.{take-nil, take_all, take-append-le}
use Rattle.finds.specs.Finds.{filled}
use Rattle.finds.proofs.Filling.{filled-nil, filled-length, noted_inside}
use Rattle.two_lists.specs.TwoLists.{fit_both, filled_to, Both}

-- ── One of the lists ───────────────────────────────────────────────────────

-- nothing was found
filled_to-nil : (n : ℕ) (F : List ℕ) → F ≡ filled_to n [] F
unfolding filled_to
filled_to-nil n F = filled-nil F ∙ ap (λ (l : List ℕ). filled l F) (sym (take-nil {A = ℕ} n))

-- the list keeps its length
pub filled_to-length : (n : ℕ) (l F : List ℕ) → length (filled_to n l F) ≡ length F
unfolding filled_to
filled_to-length n l F = filled-length (take n l) F

module _ {n : ℕ} (l F₀ : List ℕ) (a : ℕ) {F : List ℕ} (list : F ≡ filled_to n l F₀) where
  -- the entry is written behind the others
  to_inside : length l < n → length l < length F → set F (length l) a ≡ filled_to n (l ++ (a ∷ [])) F₀
  unfolding filled_to
  to_inside h b =
      let all : take n l ≡ l = take_all n l (omega arith) in
      let more : take n (l ++ (a ∷ [])) ≡ l ++ (a ∷ []) = take_all n (l ++ (a ∷ [])) (omega (arith, length-append l (a ∷ []))) in
      rw more (noted_inside l F₀ a refl (rw all at list) b)

  -- no more fit
  to_past : n ≤ length l → F ≡ filled_to n (l ++ (a ∷ [])) F₀
  unfolding filled_to
  to_past h = list ∙ ap (λ (k : List ℕ). filled k F₀) (sym (take-append-le n l (a ∷ []) h))

-- ── Both ───────────────────────────────────────────────────────────────────

pub both_nil : (S G : List ℕ) → Both [] [] S G S G
both_nil S G = record { one = filled_to-nil (fit_both S G) S; other = filled_to-nil (fit_both S G) G }

module _ {count : ℕ} {l j S G A B : List ℕ} (number : length l ≡ count) (number' : length j ≡ count) (both : Both l j S G A B) where
  one_size : length A ≡ length S
  one_size = ap length both.one ∙ filled_to-length (fit_both S G) l S

  other_size : length B ≡ length G
  other_size = ap length both.other ∙ filled_to-length (fit_both S G) j G

  -- there is an entry in both
  pub both_inside : (a b : ℕ) → count < length A → count < length B
      → Both (l ++ (a ∷ [])) (j ++ (b ∷ [])) S G (set A count a) (set B count b)
  both_inside a b h k = record {
    one = rw (← number) (to_inside l S a both.one (omega (arith, one_size, other_size)) (omega arith));
    other = rw (← number') (to_inside j G b both.other (omega (arith, one_size, other_size)) (omega arith));
  }

  -- one of them is full
  pub past : (a b : ℕ) → min (length A) (length B) ≤ count → Both (l ++ (a ∷ [])) (j ++ (b ∷ [])) S G A B
  past a b h =
      let full : fit_both S G ≤ count = omega (arith, one_size, other_size) in record {
        one = to_past l S a both.one (omega arith);
        other = to_past j G b both.other (omega arith);
      }
