-- BITS of a number: a number of k bits is told by them, `from_bits` has those that it was made of, and one bit more is set by `bit_or`.
use mathlib.Core.Path.{◌≡◌, refl, sym, ap, ap₂, ◌∙◌}
use mathlib.Core.Logic.{◌≢◌, by_cases}
use mathlib.Core.Bool.{Bool, true, false, cond, ◌||◌}
use Prim.Native.Nat.{ℕ, zero, suc, ◌+◌, ◌-◌, ◌*◌, ◌/◌, ◌%◌, ◌^◌, ◌<◌}
use native.Mathlib.Nat.{one-mul, mod-lt, mod-eq_of_lt, div-eq_of_lt}
use native.Mathlib.Numerals.{one-add}
use native.Mathlib.Decide.{dec_lt, ℕ_discrete}
use native.Mathlib.Omega.{arith}
use lib.Arith.{lt-one}
use lib.Bits.{bit_or, or_shr, or_mod, or_zero_l}
use lib.Dec.{eqb}
use lib.Pow.{pow_pos, pow-lt, pow-add, mod-pow-add, field, mod-mod-pow, high, low, shl-shr}
use borrow.Author.Tests.{eq-eqb, ne_eqb}
use Rattle.compact.specs.Compact.{from_bits, bit_at}

-- a bit as a number
pub bit_told : (w d : ℕ) → w / 2 ^ d % 2 ≡ cond (bit_at w d) 1 0
unfolding bit_at
bit_told w d = by (w / 2 ^ d % 2) (mod-lt (w / 2 ^ d) (pow_pos 1))
  where
    by : (b : ℕ) → b < 2 → b ≡ cond (eqb b 1) 1 0
    by zero h = refl
    by (suc zero) h = refl
    by (suc (suc b)) h = absurd (omega arith)

-- the low bits are told by the number's remainder
pub low_bit : (w k d : ℕ) → d < k → bit_at (w % 2 ^ k) d ≡ bit_at w d
unfolding bit_at
low_bit w k d h =
    let e : (k - d) + d ≡ k = omega arith in
    let o : (k - d - 1) + 1 ≡ k - d = omega arith in
    let moved : w % 2 ^ k / 2 ^ d ≡ w / 2 ^ d % 2 ^ (k - d) = rw e at (field w (k - d) d) in
    let last : w / 2 ^ d % 2 ^ (k - d) % 2 ≡ w / 2 ^ d % 2 = rw o at (mod-mod-pow (w / 2 ^ d) (k - d - 1) 1) in
    rw (moved, last)

-- ── Numbers made of bits ───────────────────────────────────────────────────

module _ (f : ℕ → Bool) where
  -- one bit more, before the others
  one_more : (k : ℕ) → from_bits f (suc k) ≡ cond (f k) 1 0 * 2 ^ k + from_bits f k
  unfolding from_bits
  one_more k = by (f k)
    where
      by : (b : Bool) → from_bits f k + cond b (2 ^ k) 0 ≡ cond b 1 0 * 2 ^ k + from_bits f k
      by true = omega arith
      by false = omega arith

  pub bits_small : (k : ℕ) → from_bits f k < 2 ^ k
  unfolding from_bits
  bits_small zero = pow_pos 0
  bits_small (suc k) = by (f k) (bits_small k)
    where
      twice : 2 ^ suc k ≡ 2 * 2 ^ k
      twice = ap (λ (i : ℕ). 2 ^ i) (sym (one-add k)) ∙ pow-add 2 1 k

      by : (b : Bool) → from_bits f k < 2 ^ k → from_bits f k + cond b (2 ^ k) 0 < 2 ^ suc k
      by true h = omega (arith, twice)
      by false h = omega (arith, twice)

  pub bits_at : (k d : ℕ) → d < k → bit_at (from_bits f k) d ≡ f d
  unfolding bit_at
  bits_at zero d h = absurd (omega arith)
  bits_at (suc k) d h = by_cases (ℕ_discrete d k) (λ e. rw (e, one_more k) (last (f k))) (λ e. lower e (bits_at k d (omega arith)))
    where
      last : (b : Bool) → bit_at (cond b 1 0 * 2 ^ k + from_bits f k) k ≡ b
      last true = rw (high 1 k (bits_small k))
      last false = rw (high 0 k (bits_small k))

      lower : d ≢ k → bit_at (from_bits f k) d ≡ f d → bit_at (from_bits f (suc k)) d ≡ f d
      lower e before =
          let low_part = low (cond (f k) 1 0) k (bits_small k) in
          sym (low_bit (from_bits f (suc k)) k d (omega arith))
          ∙ ap (λ (w : ℕ). bit_at (w % 2 ^ k) d) (one_more k)
          ∙ ap (λ (w : ℕ). bit_at w d) low_part
          ∙ before

-- two tests that agree make one number
pub bits_same : (f g : ℕ → Bool) (k : ℕ) → ((d : ℕ) → d < k → f d ≡ g d) → from_bits f k ≡ from_bits g k
unfolding from_bits
bits_same f g zero e = refl
bits_same f g (suc k) e = rw (bits_same f g k (λ d h. e d (omega arith)), e k (omega arith))

-- a number's first k bits make its remainder
bits_remade : (w k : ℕ) → w % 2 ^ k ≡ from_bits (bit_at w) k
unfolding from_bits
bits_remade w zero = lt-one (mod-lt w (pow_pos 0))
bits_remade w (suc k) =
    ap (λ (n : ℕ). w % 2 ^ n) (sym (one-add k))
    ∙ mod-pow-add w 1 k
    ∙ ap₂ (λ (a b : ℕ). a * 2 ^ k + b) (bit_told w k) (bits_remade w k)
    ∙ by (bit_at w k)
  where
    by : (b : Bool) → cond b 1 0 * 2 ^ k + from_bits (bit_at w) k ≡ from_bits (bit_at w) k + cond b (2 ^ k) 0
    by true = omega arith
    by false = omega arith

-- so numbers of k bits that have the same bits are the same
pub same_bits : (k a b : ℕ) → a < 2 ^ k → b < 2 ^ k → ((d : ℕ) → d < k → bit_at a d ≡ bit_at b d) → a ≡ b
same_bits k a b h l e =
    sym (mod-eq_of_lt h)
    ∙ bits_remade a k
    ∙ bits_same (bit_at a) (bit_at b) k e
    ∙ sym (bits_remade b k)
    ∙ mod-eq_of_lt l

-- ── One bit more ───────────────────────────────────────────────────────────

-- the one bit of a power of 2
power_bit : (b d : ℕ) → bit_at (2 ^ b) d ≡ eqb b d
unfolding bit_at
power_bit b d = by_cases (ℕ_discrete b d)
    (λ e. rw (e, rw (one-mul (2 ^ d)) at (shl-shr 1 d), eq-eqb d d refl))
    (λ e. rw (ne_eqb b d e) (by_cases (dec_lt b d) lower (λ h. higher e h)))
  where
    lower : b < d → eqb (2 ^ b / 2 ^ d % 2) 1 ≡ false
    lower h = rw (div-eq_of_lt (pow-lt h))

    higher : b ≢ d → (b < d → ⊥) → eqb (2 ^ b / 2 ^ d % 2) 1 ≡ false
    higher e h =
        let k = b - d - 1 in
        let apart : k + 1 + d ≡ b = omega arith in
        let shifted : 2 ^ b / 2 ^ d ≡ 2 ^ (k + 1) =
        ap (λ (i : ℕ). 2 ^ i / 2 ^ d) (sym apart)
        ∙ ap (λ (n : ℕ). n / 2 ^ d) (pow-add 2 (k + 1) d)
        ∙ shl-shr (2 ^ (k + 1)) d in
        let even : 2 ^ (k + 1) % 2 ≡ 0 = rw (pow-add 2 k 1) (omega arith) in
        rw (shifted, even)

-- of two bits
either_bit : (a b : ℕ) → a < 2 → b < 2 → eqb (bit_or a b) 1 ≡ eqb a 1 || eqb b 1
either_bit zero b h l = ap (λ (n : ℕ). eqb n 1) (or_zero_l b)
either_bit (suc zero) zero h l = refl
either_bit (suc zero) (suc zero) h l = refl
either_bit (suc zero) (suc (suc b)) h l = absurd (omega arith)
either_bit (suc (suc a)) b h l = absurd (omega arith)

pub or_bit : (w b d : ℕ) → bit_at (bit_or w (2 ^ b)) d ≡ bit_at w d || eqb b d
or_bit w b d = unfold bit_at in
    ap (λ (n : ℕ). eqb (n % 2) 1) (or_shr w (2 ^ b) d)
    ∙ ap (λ (n : ℕ). eqb n 1) (or_mod (w / 2 ^ d) (2 ^ b / 2 ^ d) 1)
    ∙ either_bit (w / 2 ^ d % 2) (2 ^ b / 2 ^ d % 2) (mod-lt _ (pow_pos 1)) (mod-lt _ (pow_pos 1))
    ∙ ap (λ (t : Bool). eqb (w / 2 ^ d % 2) 1 || t) (power_bit b d)
