-- LISTS THAT RISE: what passes a test still rises, all of it less a number too, and two that have the same members are one.
use mathlib.Core.Path.{◌≡◌, refl, sym}
use mathlib.Core.Bool.{Bool}
use mathlib.Core.Logic.{◌↔◌, ⊎_elim}
use mathlib.Core.List.Memᴰ
use mathlib.Core.List.{List, ◌∷◌, map, Memᴰ}
use Prim.Native.Nat.{ℕ, suc, ◌-◌, ◌≤◌}
use native.Mathlib.Omega.{arith}
use Rattle.words.specs.Lists.{only, Rising, end, up}
use Rattle.words.proofs.Lists.{test_cases, rising_above}

lower : {a b : ℕ} {l : List ℕ} → a ≤ b → Rising b l → Rising a l
lower h end = end
lower {a} h (up {x = x} g r) = let k : a ≤ x = omega arith in up k r

pub only_rises : (P : ℕ → Bool) {a : ℕ} {l : List ℕ} → Rising a l → Rising a (only P l)
unfolding only
only_rises P end = end
only_rises P {a} (up {x = x} g r) = test_cases (P x)
    (λ e. rw e (up g (only_rises P r)))
    (λ e. rw e (lower (omega (arith, g)) (only_rises P r)))

pub less_rises : (d : ℕ) {a : ℕ} {l : List ℕ} → ((q : ℕ) → Memᴰ q l → d ≤ q) → Rising a l → Rising (a - d) (map (λ q. q - d) l)
less_rises d f end = end
less_rises d {a} f (up {x = x} g r) =
    let h : d ≤ x = f x (Memᴰ.head refl) in
    let e : suc x - d ≡ suc (x - d) = omega arith in
    let k : a - d ≤ x - d = omega arith in
    up k (rw e at (less_rises d (λ q m. f q (Memᴰ.tail m)) r))

module _ {l r : List ℕ} {x y : ℕ} (p : Rising (suc x) l) (q : Rising (suc y) r)
    (f : (z : ℕ) → Memᴰ z (x ∷ l) → Memᴰ z (y ∷ r)) where
  -- the first of the one is not below the other's
  first_least : y ≤ x
  first_least = ⊎_elim (λ e. omega (arith, e)) (λ m. omega (arith, rising_above q m)) (Memᴰ.cases_cons (f x (Memᴰ.head refl)))

  -- and what follows the one, where they are equal, follows the other
  rest_in : x ≡ y → (z : ℕ) → Memᴰ z l → Memᴰ z r
  rest_in e z m = ⊎_elim (λ k. absurd (omega (arith, rising_above p m, k, e))) (λ k. k) (Memᴰ.cases_cons (f z (Memᴰ.tail m)))

pub rising_same : {a b : ℕ} {l r : List ℕ} → Rising a l → Rising b r → ((z : ℕ) → Memᴰ z l ↔ Memᴰ z r) → l ≡ r
rising_same end end f = refl
rising_same end (up {x = y} h q) f = absurd (Memᴰ.not-nil ((f y).1 (Memᴰ.head refl)))
rising_same (up {x = x} g p) end f = absurd (Memᴰ.not-nil ((f x).0 (Memᴰ.head refl)))
rising_same (up {x = x} {l = l} g p) (up {x = y} {l = r} h q) f =
    let e : x ≡ y = omega (arith, first_least p q (λ z. (f z).0), first_least q p (λ z. (f z).1)) in
    let rest = rising_same p q (λ z. (rest_in p q (λ z. (f z).0) e z, rest_in q p (λ z. (f z).1) (sym e) z)) in
    rw (e, rest)
