-- WHAT TWO ROWS SHARE, block by block. A walk goes along the spine as long as what it reads there is shared with the letters behind.
use mathlib.Core.Path.{◌≡◌, sym, ap, ◌∙◌}
use mathlib.Core.Logic.{by_cases}
use mathlib.Core.List.{List}
use Prim.Native.Nat.{ℕ, ◌+◌, ◌-◌, ◌≤◌, ◌<◌}
use native.Mathlib.Decide.{dec_lt}
use native.Mathlib.Omega.{arith}
use lib.ListN.{length, length-take}
use Rattle.words.specs.Lists.{at}
use Rattle.words.specs.Words.{part}
use Rattle.words.proofs.Words.{part_at}
use Rattle.failure_table.specs.Building.{Shared, AlongSpine}

-- ── First entries ──────────────────────────────────────────────────────────

module _ {a b : List ℕ} {n : ℕ} (S : Shared a b n) where
  -- those up to e are, where the part behind the first n is
  pub shared_up_to : (e : ℕ) → part a n (e - n) ≡ part b n (e - n) → e ≤ length a → Shared a b e
  shared_up_to e equal h = record { inside = h; alike = λ j l. by_cases (dec_lt j n) (S.alike j) (behind j l) }
    where
      behind : (j : ℕ) → j < e → (j < n → ⊥) → at a j ≡ at b j
      behind j l f =
          let q : n + (j - n) ≡ j = omega arith in
          let there = ap (λ (u : List ℕ). at u (j - n)) equal in
          rw q at (sym (part_at a n (e - n) (j - n) (omega arith)) ∙ there ∙ part_at b n (e - n) (j - n) (omega arith))

-- ── Along the spine ────────────────────────────────────────────────────────

-- the letters behind the first k that are shared with those from state x on, where so many of each are within the word
pub along_shared : (L : List ℕ) (m x k most : ℕ) {n : ℕ} → x + most ≤ m → k + most < m
    → Shared (part L (x + 1) (x + 1 + most - (x + 1))) (part L (k + 1) (k + 1 + most - (k + 1))) n → AlongSpine L m x k n
along_shared L m x k most {n} h l S =
    let few : n ≤ most = omega (arith, simp length-take at S.inside) in
    let a = x + 1 + most - (x + 1) in
    let b = k + 1 + most - (k + 1) in
    record {
      state = omega arith;
      inside = omega arith;
      alike = λ j g. sym (part_at L (x + 1) a j (omega arith)) ∙ S.alike j g ∙ part_at L (k + 1) b j (omega arith);
    }
