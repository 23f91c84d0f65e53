-- Laws of `longest`: it is below its bound, it passes where 0 does, and nothing that passes is longer; so it is the one length of which
-- this is true. The first three go by induction over the bound: the length just below it passes, or the answer is that of a lower bound.
use mathlib.Core.Path.{◌≡◌, refl}
use mathlib.Core.Bool.{Bool, true, false}
use mathlib.Core.Logic.{by_cases}
use Prim.Native.Nat.{ℕ, zero, suc, ◌-◌, ◌≤◌, ◌<◌}
use native.Mathlib.Decide.{ℕ_discrete}
use native.Mathlib.Omega.{arith}
use Rattle.words.proofs.Lists.{test_cases}
use Rattle.border.specs.Borders.{longest}

module _ (P : ℕ → Bool) where
  here : (k : ℕ) → P k ≡ true → longest P (suc k) ≡ k
  unfolding longest
  here k e = rw e

  lower : (k : ℕ) → P k ≡ false → longest P (suc k) ≡ longest P k
  unfolding longest
  lower k e = rw e

  none_below : longest P 0 ≡ 0
  unfolding longest
  none_below = refl

  pub longest-below : (b : ℕ) → longest P b ≤ b - 1
  longest-below zero = omega (arith, none_below)
  longest-below (suc k) = test_cases (P k)
      (λ e. omega (arith, here k e))
      (λ e. omega (arith, lower k e, longest-below k))

  pub longest-passes : P 0 ≡ true → (b : ℕ) → P (longest P b) ≡ true
  longest-passes e zero = rw none_below e
  longest-passes e (suc k) = test_cases (P k)
      (λ q. rw (here k q) q)
      (λ q. rw (lower k q) (longest-passes e k))

  pub none-longer : (b k : ℕ) → k < b → P k ≡ true → k ≤ longest P b
  none-longer zero k h e = absurd (omega arith)
  none-longer (suc b) k h e = test_cases (P b)
      (λ q. omega (arith, here b q))
      (λ q. by_cases (ℕ_discrete k b)
      (λ s. let never : ◌≡◌ {A = ℕ} 0 1 = cc in omega arith)
      (λ s. omega (arith, lower b q, none-longer b k (omega arith) e)))

  pub longest-one : P 0 ≡ true → (b k : ℕ) → k < b → P k ≡ true → ((j : ℕ) → j < b → P j ≡ true → j ≤ k) → longest P b ≡ k
  longest-one z b k h e most =
      let within : longest P b < b = omega (arith, longest-below b) in
      omega (arith, none-longer b k h e, most (longest P b) within (longest-passes z b))
