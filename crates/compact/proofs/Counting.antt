-- COUNTING what passes a test: laws of `how_many`, and that the ones of a number's low bits are counted so. A masked count of ones is then
-- the number of members below the mask's end. What one number or two alone pass is told without counting, and so is a single one.
use mathlib.Core.Path.{◌≡◌, refl, sym, ap, ap₂, ◌∙◌}
use mathlib.Core.Logic.{◌≢◌, by_cases}
use mathlib.Core.Bool.{Bool, true, false, cond, not, ◌||◌}
use Prim.Native.Nat.{ℕ, zero, suc, ◌+◌, ◌-◌, ◌*◌, ◌/◌, ◌%◌, ◌^◌, ◌≤◌, ◌<◌}
use native.Mathlib.Nat.{add_comm, add-zero, add-suc, mod-lt, mod-eq_of_lt}
use native.Mathlib.Numerals.{one-add}
use native.Mathlib.Decide.{dec_lt, ℕ_discrete}
use native.Mathlib.Omega.{arith}
use lib.Arith.{lt-one}
use lib.Bits.{bit_and, and_step, and_self}
use lib.Count.{ones, ones_cat, ones_step}
use lib.Dec.{eqb, ltb, lit<}
use lib.Pow.{pow_pos, mod-pow-add, shl_exact}
use borrow.Author.Tests.{eq-eqb, ne_eqb, eqb-true, lt-ltb, le-ltb}
use Rattle.std.specs.Int.{from_bool}
use Rattle.compact.specs.Compact.{bit_at, how_many}
use Rattle.compact.proofs.Bits.{bit_told}

module _ (f : ℕ → Bool) where
  -- those below a, and those from a on
  pub count-split : (a b : ℕ) → how_many f (a + b) ≡ how_many f a + how_many (λ d. f (a + d)) b
  unfolding how_many
  count-split a zero = rw (add-zero a, add-zero (how_many f a))
  count-split a (suc b) =
      ap (how_many f) (add-suc a b)
      ∙ ap (λ (n : ℕ). n + cond (f (a + b)) 1 0) (count-split a b)
      ∙ omega arith

  -- no more than there are
  pub count_most : (k : ℕ) → how_many f k ≤ k
  unfolding how_many
  count_most zero = omega arith
  count_most (suc k) = by (f k) (count_most k)
    where
      by : (b : Bool) → how_many f k ≤ k → how_many f k + cond b 1 0 ≤ suc k
      by true h = omega arith
      by false h = omega arith

  -- more numbers, not fewer that pass
  pub count_rises : (a b : ℕ) → a ≤ b → how_many f a ≤ how_many f b
  count_rises a b h = let e : a + (b - a) ≡ b = omega arith in omega (arith, rw e at (count-split a (b - a)))

  -- and more where one passes that is new
  pub count-passes : (a b : ℕ) → a < b → f a ≡ true → how_many f a < how_many f b
  unfolding how_many
  count-passes a b h e =
      let one : how_many f (suc a) ≡ how_many f a + 1 = rw e in
      omega (arith, one, count_rises (suc a) b (omega arith))

-- tests that agree count the same
pub count_same : (f g : ℕ → Bool) (k : ℕ) → ((d : ℕ) → d < k → f d ≡ g d) → how_many f k ≡ how_many g k
unfolding how_many
count_same f g zero e = refl
count_same f g (suc k) e = rw (count_same f g k (λ d h. e d (omega arith)), e k (omega arith))

-- a test that c alone passes counts it once
pub count_lone : (f : ℕ → Bool) (c k : ℕ) → ((d : ℕ) → d < k → f d ≡ eqb c d) → how_many f k ≡ cond (ltb c k) 1 0
unfolding how_many
count_lone f c zero e = rw (le-ltb c 0 (omega arith))
count_lone f c (suc k) e =
    ap₂ (λ (a : ℕ) (b : Bool). a + cond b 1 0) (count_lone f c k (λ d h. e d (omega arith))) (e k (omega arith))
    ∙ by_cases (dec_lt c k)
    (λ h. rw (lt-ltb c k h, ne_eqb c k (λ q. omega arith), lt-ltb c (suc k) (omega arith)))
    (λ h. by_cases (ℕ_discrete c k)
    (λ q. rw (le-ltb c k (omega arith), eq-eqb c k q, lt-ltb c (suc k) (omega arith)))
    (λ q. rw (le-ltb c k (omega arith), ne_eqb c k q, le-ltb c (suc k) (omega arith))))

-- of two tests that nothing passes both of
count_either : (f g h : ℕ → Bool) (k : ℕ) → ((d : ℕ) → d < k → f d ≡ g d || h d) → ((d : ℕ) → d < k → g d ≡ true → h d ≡ false)
    → how_many f k ≡ how_many g k + how_many h k
unfolding how_many
count_either f g h zero e apart = refl
count_either f g h (suc k) e apart =
    let before = count_either f g h k (λ d l. e d (omega arith)) (λ d l. apart d (omega arith)) in
    ap₂ (λ (a : ℕ) (b : Bool). a + cond b 1 0) before (e k (omega arith)) ∙ by (g k) (h k) (apart k (omega arith))
  where
    by : (a b : Bool) → (a ≡ true → b ≡ false)
        → how_many g k + how_many h k + cond (a || b) 1 0 ≡ how_many g k + cond a 1 0 + (how_many h k + cond b 1 0)
    by true b q = rw (q refl) (omega arith)
    by false true q = omega arith
    by false false q = omega arith

-- a test that c and d alone pass counts each once
pub count_pair : (f : ℕ → Bool) {c d : ℕ} (k : ℕ) → c ≢ d → ((e : ℕ) → e < k → f e ≡ eqb c e || eqb d e)
    → how_many f k ≡ cond (ltb c k) 1 0 + cond (ltb d k) 1 0
count_pair f {c} {d} k apart either =
    count_either f (eqb c) (eqb d) k either (λ e h q. ne_eqb d e (λ z. apart (eqb-true c e q ∙ sym z)))
    ∙ ap₂ (λ (a b : ℕ). a + b) (count_lone (eqb c) c k (λ e h. refl)) (count_lone (eqb d) d k (λ e h. refl))

-- ── Ones ───────────────────────────────────────────────────────────────────

ones_bit : (b : ℕ) → b < 2 → ones b ≡ b
unfolding ones
ones_bit zero h = refl
ones_bit (suc zero) h = refl
ones_bit (suc (suc b)) h = absurd (omega arith)

-- the ones among the first k bits
pub masked_ones : (w k : ℕ) → ones (w % 2 ^ k) ≡ how_many (bit_at w) k
unfolding how_many
masked_ones w zero = unfold ones in ap ones (lt-one (mod-lt w (pow_pos 0)))
masked_ones w (suc k) =
    ap (λ (n : ℕ). ones (w % 2 ^ n)) (sym (one-add k))
    ∙ ap ones (mod-pow-add w 1 k)
    ∙ ones_cat k (w / 2 ^ k % 2) (w % 2 ^ k) (mod-lt w (pow_pos k))
    ∙ ap₂ (λ (a b : ℕ). a + b) (ones_bit _ (mod-lt (w / 2 ^ k) (pow_pos 1)) ∙ bit_told w k) (masked_ones w k)
    ∙ add_comm _ (how_many (bit_at w) k)

-- all ones of a number of k bits
pub all_ones : (w k : ℕ) → w < 2 ^ k → ones w ≡ how_many (bit_at w) k
all_ones w k h = ap ones (sym (mod-eq_of_lt h)) ∙ masked_ones w k

-- none of 0
pub no_ones : ones 0 ≡ 0
unfolding ones
no_ones = refl

-- a number that has no bit in common with one less has a single one: behind an even number's last bit the same holds of its half, and an
-- odd number is then 1
pub single-one : (w : ℕ) → 0 < w → bit_and w (w - 1) ≡ 0 → ones w ≡ 1
single-one w l e = by w w (omega arith) l e
  where
    even : (w : ℕ) → w % 2 ≡ 0 → bit_and (w / 2) ((w - 1) / 2) ≡ 0 → (bit_and (w / 2) (w / 2 - 1) ≡ 0 → ones (w / 2) ≡ 1) → ones w ≡ 1
    even w q apart half =
        let lower : (w - 1) / 2 ≡ w / 2 - 1 = omega arith in
        omega (arith, q, half (rw lower at apart), ones_step w)

    odd : (w : ℕ) → w % 2 ≡ 1 → bit_and (w / 2) ((w - 1) / 2) ≡ 0 → ones w ≡ 1
    odd w q apart =
        let same : (w - 1) / 2 ≡ w / 2 = omega arith in
        let nothing : w / 2 ≡ 0 = sym (and_self (w / 2)) ∙ rw same at apart in
        omega (arith, q, ones_step w, ap ones nothing, no_ones)

    by : (k w : ℕ) → w ≤ k → 0 < w → bit_and w (w - 1) ≡ 0 → ones w ≡ 1
    by zero w h l e = absurd (omega arith)
    by (suc k) w h l e =
        let apart : bit_and (w / 2) ((w - 1) / 2) ≡ 0 = omega (arith, e, and_step w (w - 1)) in
        by_cases (ℕ_discrete (w % 2) 0)
        (λ q. even w q apart (by k (w / 2) (omega arith) (omega arith)))
        (λ q. odd w (omega arith) apart)

-- and 0 has none: both told by a test
pub few_ones : (w : ℕ) → bit_and w (w - 1) ≡ 0 → from_bool (not (eqb w 0)) ≡ ones w
few_ones w e = by_cases (ℕ_discrete w 0)
    (λ q. rw q (sym no_ones))
    (λ q. rw (ne_eqb w 0 q) (sym (single-one w (omega arith) e)))

-- a mask as code makes it
pub shifted_one : (k : ℕ) → k < 64 → 1 * 2 ^ k % 2 ^ 64 ≡ 2 ^ k
shifted_one k h = shl_exact 1 k 64 (lit< tt) (omega arith) ∙ omega arith

pub remained_ones : (w k : ℕ) → k < 64 → ones (w % (1 * 2 ^ k % 2 ^ 64)) ≡ how_many (bit_at w) k
remained_ones w k h = ap (λ (n : ℕ). ones (w % n)) (shifted_one k h) ∙ masked_ones w k
