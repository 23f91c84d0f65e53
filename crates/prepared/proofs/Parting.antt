-- COLUMNS: each letter gets one behind those that are given away, so they stay apart; and an entry of a letter's own column is an entry for
-- no other letter and no other state.
use mathlib.Core.Path.{◌≡◌, sym, ap, ◌∙◌}
use mathlib.Core.Logic.{◌≢◌}
use mathlib.Core.List.{List}
use Prim.Native.Nat.{ℕ, ◌+◌, ◌≤◌, ◌<◌}
use native.Mathlib.Decide.{ℕ_discrete}
use native.Mathlib.Omega.{arith}
use lib.ListN.{length, set, length-set}
use lib.Seq.{get_or-set_same, get_or-set_other}
use Rattle.words.specs.Lists.{at}
use Rattle.words.specs.Words.{Letter}
use Rattle.oracle.specs.Arrows.{State}
use Rattle.prepared.specs.Filling.{Apart}

-- ── Given away ─────────────────────────────────────────────────────────────

-- one column more, for letter b
pub columns_more : {C : List ℕ} {k next b : ℕ} → Apart C k next → b < 256 → Apart (set C b next) k (next + k)
columns_more {C} {k} {next} {b} A l = record {
  size = simp length-set A.size;
  inside = λ c h. within c h (ℕ_discrete c b);
  apart = λ c d h i f z x y p q. parted c d h i f z x y p q (ℕ_discrete c b) (ℕ_discrete d b);
}
  where
    new : at (set C b next) b ≡ next
    new = get_or-set_same C b next 0 (omega (arith, A.size))

    old : (c : Letter) → c ≢ b → at (set C b next) c ≡ at C c
    old c f = get_or-set_other C b c next 0 f

    within : (c : Letter) → c < 256 → Dec (c ≡ b) → at (set C b next) c + k ≤ next + k
    within c h (yes e) = rw e (omega (arith, new))
    within c h (no f) = omega (arith, old c f, A.inside c h)

    parted : (c d : Letter) → c < 256 → d < 256 → c ≢ d → at (set C b next) c ≢ 0 → (x y : State) → x < k → y < k
        → Dec (c ≡ b) → Dec (d ≡ b) → at (set C b next) c + x ≢ at (set C b next) d + y
    parted c d h i f z x y p q (yes e) (yes r) = absurd (f (e ∙ sym r))
    parted c d h i f z x y p q (yes e) (no r) = rw (e, new, old d r) (λ w. omega (arith, w, A.inside d i))
    parted c d h i f z x y p q (no e) (yes r) = rw (r, new, old c e) (λ w. omega (arith, w, A.inside c h))
    parted c d h i f z x y p q (no e) (no r) = rw (old c e, old d r) (A.apart c d h i f (λ w. z (old c e ∙ w)) x y p q)

-- ── Entries ────────────────────────────────────────────────────────────────

module _ {C : List ℕ} {k : ℕ} (D : List ℕ) (A : Apart C k (length D)) {d : Letter} (byte : d < 256) {x : State} (low : x < k) where
  -- the entry for x and d is inside
  pub entry-inside : at C d + x < length D
  entry-inside = omega (arith, A.inside d byte)

  module _ (own : at C d ≢ 0) where
    -- and it is for no other letter, and no other state
    elsewhere : (c : Letter) (y : State) → c < 256 → y < k → c ≢ d → at C c + y ≢ at C d + x
    elsewhere c y h l f q = A.apart d c byte h (λ r. f (sym r)) own x y low l (sym q)

    another : (c : Letter) (y : State) → c < 256 → y < k → y ≢ x → at C c + y ≢ at C d + x
    another c y h l f q = by (ℕ_discrete c d)
      where
        by : Dec (c ≡ d) → ⊥
        by (yes r) = f (omega (arith, ap (at C) r))
        by (no r) = elsewhere c y h l r q

    -- what is written there
    module _ (v : ℕ) where
      pub entry_new : at (set D (at C d + x) v) (at C d + x) ≡ v
      entry_new = get_or-set_same D (at C d + x) v 0 entry-inside

      pub entry-letter : (c : Letter) → c < 256 → c ≢ d → at (set D (at C d + x) v) (at C c + x) ≡ at D (at C c + x)
      entry-letter c h f = get_or-set_other D (at C d + x) (at C c + x) v 0 (elsewhere c x h low f)

      pub entry-state : (c : Letter) (y : State) → c < 256 → y < k → y ≢ x → at (set D (at C d + x) v) (at C c + y) ≡ at D (at C c + y)
      entry-state c y h l f = get_or-set_other D (at C d + x) (at C c + y) v 0 (another c y h l f)
