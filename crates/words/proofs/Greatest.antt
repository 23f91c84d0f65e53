-- The greatest and the least of the numbers up to a bound that pass. Where each can be tested and 0 passes there is a greatest: either the
-- bound itself, or the greatest below it.
use mathlib.Core.Logic.{by_cases}
use Prim.Native.Nat.{ℕ, zero, suc, ◌≤◌}
use native.Mathlib.Nat.{le_refl}
use native.Mathlib.Decide.{ℕ_discrete}
use native.Mathlib.Omega.{arith}

pub record Greatest (P : ℕ → Type 0) (n : ℕ) : Type 0 where
  pub at : ℕ
  pub within : at ≤ n
  pub passes : P at
  pub last : (e : ℕ) → e ≤ n → P e → e ≤ at

pub record Least (P : ℕ → Type 0) (n a : ℕ) : Type 0 where
  pub within : a ≤ n
  pub passes : P a
  pub least : (b : ℕ) → b ≤ n → P b → a ≤ b

pub greatest_passing : (P : ℕ → Type 0) → ((e : ℕ) → Dec (P e)) → P 0 → (n : ℕ) → Greatest P n
greatest_passing P dec p0 zero = record { at = 0; within = le_refl 0; passes = p0; last = λ e h q. h }
greatest_passing P dec p0 (suc n) =
    let g = greatest_passing P dec p0 n in
    by_cases (dec (suc n))
    (λ q. record { at = suc n; within = le_refl _; passes = q; last = λ e h r. h })
    (λ q. record { at = g.at; within = omega (arith, g.within); passes = g.passes; last = λ e h r. below g q e h r })
  where
    below : (g : Greatest P n) → (P (suc n) → ⊥) → (e : ℕ) → e ≤ suc n → P e → e ≤ g.at
    below g q e h r = by_cases (ℕ_discrete e (suc n)) (λ s. absurd (q (rw s at r))) (λ s. g.last e (omega arith) r)
