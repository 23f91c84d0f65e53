-- HOW OFTEN `.FIT` CAN STAND in a text: its letters differ, so it does not overlap itself, and each find has four letters of its own.
use mathlib.Core.Path.{◌≡◌, sym, ap, ◌∙◌}
use mathlib.Core.Bool.{true, false}
use Prim.Native.Nat.{ℕ, zero, suc, ◌+◌, ◌-◌, ◌*◌, ◌≤◌, ◌<◌}
use native.Mathlib.Nat.{add-zero, sub-zero}
use native.Mathlib.Decide.{dec_lt}
use native.Mathlib.Omega.{arith}
use lib.ListN.{length}
use Rattle.words.specs.Words.{Word, Place, letter, stands, occurrences}
use Rattle.words.proofs.Lists.{test_cases, true_not_false}
use Rattle.words.proofs.Occurrences.{stands-letters, since, since-start, since-past, since-here, since-later}
use Rattle.rides.specs.Rides.{dot_fit}
use Rattle.rides.proofs.Theorems.{dot_fit-length}

-- its first letter does not come again
first_once : (d : ℕ) → 1 ≤ d → d < 4 → letter dot_fit d ≡ letter dot_fit 0 → ⊥
unfolding dot_fit
first_once zero h l e = omega arith
first_once (suc zero) h l e = omega arith
first_once (suc (suc zero)) h l e = omega arith
first_once (suc (suc (suc zero))) h l e = omega arith
first_once (suc (suc (suc (suc d)))) h l e = omega arith

module _ (t : Word) where
  apart : (s j : Place) → stands dot_fit t s ≡ true → suc s ≤ j → j < s + 4 → stands dot_fit t j ≡ true → ⊥
  apart s j here h l there =
      let q : s + (j - s) ≡ j = omega arith in
      let one = stands-letters dot_fit t s here (j - s) (omega (arith, dot_fit-length)) in
      let other = stands-letters dot_fit t j there 0 (omega (arith, dot_fit-length)) in
      first_once (j - s) (omega arith) (omega arith) (sym one ∙ ap (letter t) (q ∙ sym (add-zero j)) ∙ other)

  -- from s on, where it holds from every later place on
  few-here : (s : Place) → ((j : Place) → s < j → 4 * length (since dot_fit t j) ≤ length t - j)
      → 4 * length (since dot_fit t s) ≤ length t - s
  few-here s later = by (dec_lt (length t) (s + 4))
    where
      stands_here : s + 4 ≤ length t → stands dot_fit t s ≡ true → 4 * length (since dot_fit t s) ≤ length t - s
      stands_here inside here =
          let next = since-later dot_fit t (suc s) (s + 4) (omega arith) (λ j. apart s j here) in
          let first = since-here dot_fit t s (omega (arith, dot_fit-length)) here in
          rw (first, next) (omega (arith, later (s + 4) (omega arith)))

      misses_here : stands dot_fit t s ≡ false → 4 * length (since dot_fit t s) ≤ length t - s
      misses_here miss =
          let none : (j : Place) → s ≤ j → j < suc s → stands dot_fit t j ≡ true → ⊥ =
          λ j a b e. let q : j ≡ s = omega arith in true_not_false (sym (rw q at e) ∙ miss) in
          rw (since-later dot_fit t s (suc s) (omega arith) none) (omega (arith, later (suc s) (omega arith)))

      by : Dec (length t < s + 4) → 4 * length (since dot_fit t s) ≤ length t - s
      by (yes past) = rw (since-past dot_fit t s (omega (arith, dot_fit-length))) (omega arith)
      by (no inside) = test_cases (stands dot_fit t s) (stands_here (omega arith)) misses_here

  -- where at most k letters are left
  since-few : (k : ℕ) (s : Place) → length t - s ≤ k → 4 * length (since dot_fit t s) ≤ length t - s
  since-few zero s h = rw (since-past dot_fit t s (omega (arith, dot_fit-length))) (omega arith)
  since-few (suc k) s h = few-here s (λ j l. since-few k j (omega arith))

  pub finds-few : 4 * length (occurrences dot_fit t) ≤ length t
  finds-few = rw (since-start dot_fit t, sub-zero) at (since-few (length t) 0 (omega arith))
