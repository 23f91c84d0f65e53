-- STRINGS OF BITS: a string of bits is the digits of a number, and the bits of bytes tell the bytes.
use mathlib.Core.Path.{◌≡◌, refl, sym, ap, ap₂, ◌∙◌}
use mathlib.Core.List.{List, [], ◌∷◌, ◌++◌, append_assoc}
use Prim.Native.Nat.{ℕ, zero, suc, ◌+◌, ◌*◌, ◌/◌, ◌%◌, ◌^◌, ◌<◌}
use native.Mathlib.Nat.{mod-lt, pow-suc, div-lt_iff_lt-mul, div-add-mod'}
use native.Mathlib.Omega.{arith}
use lib.Arith.{lt-one, digits_lt, digits_div, digits_mod}
use lib.Dec.{lit<}
use lib.ListN.{length, take, drop}
use Rattle.number.specs.Number.{Bytes}
use Rattle.crc.specs.Check.{digits, bits_of}
use Rattle.crc.proofs.Xor.{two_pos}

abbrev pub Bits : List ℕ → Type 0
Bits [] = Unit {0}
Bits (d ∷ u) = (d < 2) × Bits u

pub bits_left : (u v : List ℕ) → Bits (u ++ v) → Bits u
bits_left [] v b = tt
bits_left (d ∷ u) v b = (b.0, bits_left u v b.1)

pub bits_right : (u v : List ℕ) → Bits (u ++ v) → Bits v
bits_right [] v b = b
bits_right (d ∷ u) v b = bits_right u v b.1

pub digits_bits : (k b : ℕ) (v : List ℕ) → Bits v → Bits (digits k b ++ v)
unfolding digits
digits_bits zero b v h = h
digits_bits (suc k) b v h = (mod-lt b two_pos, digits_bits k (b / 2) v h)

pub bytes_bits : (l : List ℕ) → Bits (bits_of l)
unfolding bits_of
bytes_bits [] = tt
bytes_bits (b ∷ l) = digits_bits 8 b (bits_of l) (bytes_bits l)

pub bits_append : (x y : List ℕ) → bits_of (x ++ y) ≡ bits_of x ++ bits_of y
unfolding bits_of
bits_append [] y = refl
bits_append (b ∷ x) y = ap (λ u. digits 8 b ++ u) (bits_append x y) ∙ sym (append_assoc (digits 8 b) (bits_of x) (bits_of y))

-- ── The number of a string of bits ─────────────────────────────────────────

unfoldable pub value : List ℕ → ℕ
value [] = 0
value (d ∷ u) = value u * 2 + d

pub value-lt : (u : List ℕ) → Bits u → value u < 2 ^ length u
unfolding value
value-lt [] b = lit< tt
value-lt (d ∷ u) b = rw (pow-suc 2 (length u)) (digits_lt (value-lt u b.1) b.0)

pub digits_value : (u : List ℕ) → Bits u → digits (length u) (value u) ≡ u
unfolding value digits
digits_value [] b = refl
digits_value (d ∷ u) b =
    ap₂ ◌∷◌ (digits_mod (value u) b.0) (ap (digits (length u)) (digits_div (value u) b.0) ∙ digits_value u b.1)

pub half_lt : (k b : ℕ) → b < 2 ^ suc k → b / 2 < 2 ^ k
half_lt k b h = (div-lt_iff_lt-mul two_pos).1 (rw (pow-suc 2 k) at h)

value-digits : (k b : ℕ) → b < 2 ^ k → value (digits k b) ≡ b
unfolding value digits
value-digits zero b h = sym (lt-one h)
value-digits (suc k) b h = ap (λ x. x * 2 + b % 2) (value-digits k (b / 2) (half_lt k b h)) ∙ div-add-mod' b 2

-- ── The bits tell the bytes ────────────────────────────────────────────────

pub bytes-told : (x y : List ℕ) → Bytes x → Bytes y → bits_of x ≡ bits_of y → x ≡ y
unfolding bits_of digits
bytes-told [] [] b c e = refl
bytes-told [] (d ∷ y) b c e = let z : ◌≡◌ {A = ℕ} 0 1 = cc in absurd (omega arith)
bytes-told (a ∷ x) [] b c e = let z : ◌≡◌ {A = ℕ} 0 1 = cc in absurd (omega arith)
bytes-told (a ∷ x) (d ∷ y) b c e =
    ap₂ ◌∷◌
    (sym (value-digits 8 a (b 0)) ∙ ap (λ u. value (take 8 u)) e ∙ value-digits 8 d (c 0))
    (bytes-told x y (λ i. b (suc i)) (λ i. c (suc i)) (ap (drop 8) e))
