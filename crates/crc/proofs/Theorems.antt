-- THE THEOREMS on the check, each a sentence about the definitions alone: two known values; it keeps exclusive-or; a change of one bit, or
-- within 16 bits next to each other, changes it; and a string with its own check behind it has the check 0.
use mathlib.Core.Path.{◌≡◌, refl, sym, ap, ap₂, ◌∙◌}
use mathlib.Core.List.{List, [], ◌∷◌, ◌++◌, append_assoc}
use Prim.Native.Nat.{ℕ, zero, suc, ◌+◌, ◌*◌, ◌/◌, ◌^◌, ◌<◌}
use native.Mathlib.Nat.{mod-lt, div-lt_iff_lt-mul}
use native.Mathlib.Omega.{arith}
use lib.Bits.{bit_xor, xor_shr, xor_mod, xor_self}
use lib.Dec.{lit<}
use lib.ListN.{length, length-append}
use Rattle.number.specs.Number.{Bytes}
use Rattle.crc.specs.Check.{shifted, shifts, fed, digits, bits_of, check, xored, low, high, sealed, Near}
use Rattle.crc.proofs.Xor.{xor_swap, xor_twice}
use Rattle.crc.proofs.Shifts.{shifted_linear, shifts_back, parts}
use Rattle.crc.proofs.Bits.{Bits, bits_left, bits_right, bytes_bits, bits_append, bytes-told}
use Rattle.crc.proofs.Fed.{fed-append, fed-digits, fed-small, bits_told, registers_told}

-- ── 1. Known values ────────────────────────────────────────────────────────

pub check_of-nothing : check [] ≡ 0
unfolding check bits_of fed
check_of-nothing = refl

-- the digits 123456789 give BB3D
pub check_of-digits : check (49 ∷ 50 ∷ 51 ∷ 52 ∷ 53 ∷ 54 ∷ 55 ∷ 56 ∷ 57 ∷ []) ≡ 47933
unfolding check bits_of digits fed shifted
check_of-digits = refl

-- 16 bits
pub check-small : (l : List ℕ) → check l < 65536
unfolding check
check-small l = fed-small 0 (bits_of l) (bytes_bits l) (lit< tt)

-- ── 2. It keeps exclusive-or ───────────────────────────────────────────────

fed_linear : (r s : ℕ) (u v : List ℕ) → length u ≡ length v → fed (bit_xor r s) (xored u v) ≡ bit_xor (fed r u) (fed s v)
unfolding fed xored
fed_linear r s [] [] e = refl
fed_linear r s [] (d ∷ v) e = absurd (omega arith)
fed_linear r s (d ∷ u) [] e = absurd (omega arith)
fed_linear r s (d ∷ u) (f ∷ v) e =
    ap (λ x. fed x (xored u v)) (ap shifted (xor_swap r s d f) ∙ shifted_linear (bit_xor r d) (bit_xor s f))
    ∙ fed_linear (shifted (bit_xor r d)) (shifted (bit_xor s f)) u v (omega arith)

digits-xored : (k a b : ℕ) → digits k (bit_xor a b) ≡ xored (digits k a) (digits k b)
unfolding digits xored
digits-xored zero a b = refl
digits-xored (suc k) a b = ap₂ ◌∷◌ (xor_mod a b 1) (ap (digits k) (xor_shr a b 1) ∙ digits-xored k (a / 2) (b / 2))

bits_xored : (x y : List ℕ) → length x ≡ length y → bits_of (xored x y) ≡ xored (bits_of x) (bits_of y)
unfolding bits_of digits xored
bits_xored [] [] e = refl
bits_xored [] (b ∷ y) e = absurd (omega arith)
bits_xored (a ∷ x) [] e = absurd (omega arith)
bits_xored (a ∷ x) (b ∷ y) e = ap₂ ◌++◌ (digits-xored 8 a b) (bits_xored x y (omega arith))

bits_length : (x y : List ℕ) → length x ≡ length y → length (bits_of x) ≡ length (bits_of y)
unfolding bits_of digits
bits_length [] [] e = refl
bits_length [] (b ∷ y) e = absurd (omega arith)
bits_length (a ∷ x) [] e = absurd (omega arith)
bits_length (a ∷ x) (b ∷ y) e = omega (arith, bits_length x y (omega arith))

pub check_linear : (x y : List ℕ) → length x ≡ length y → check (xored x y) ≡ bit_xor (check x) (check y)
unfolding check
check_linear x y e = ap (fed 0) (bits_xored x y e) ∙ fed_linear 0 0 (bits_of x) (bits_of y) (bits_length x y e)

-- ── 3. A change within 16 bits next to each other is told ──────────────────

pub burst_told : (x y : List ℕ) → Bytes x → Bytes y → Near x y 16 → check x ≡ check y → x ≡ y
unfolding check
burst_told x y b c N e =
    let w : Bits (N.before ++ (N.u ++ N.after)) = rw N.first at (bytes_bits x) in
    let w' : Bits (N.before ++ (N.v ++ N.after)) = rw N.second at (bytes_bits y) in
    let r = fed 0 N.before in
    let rest = bits_right N.before (N.u ++ N.after) w in
    let rest' = bits_right N.before (N.v ++ N.after) w' in
    let bu = bits_left N.u N.after rest in
    let bv = bits_left N.v N.after rest' in
    let ba = bits_right N.u N.after rest in
    let small = fed-small 0 N.before (bits_left N.before (N.u ++ N.after) w) (lit< tt) in
    let ends : fed (fed r N.u) N.after ≡ fed (fed r N.v) N.after =
    sym (ap (fed 0) N.first ∙ fed-append 0 N.before (N.u ++ N.after) ∙ fed-append r N.u N.after) ∙ e
    ∙ ap (fed 0) N.second ∙ fed-append 0 N.before (N.v ++ N.after) ∙ fed-append r N.v N.after in
    let middle = registers_told (fed r N.u) (fed r N.v) N.after ba
    (fed-small r N.u bu small) (fed-small r N.v bv small) ends in
    let same = bits_told r N.u N.v bu bv N.size N.narrow middle in
    bytes-told x y b c (N.first ∙ ap (λ u. N.before ++ (u ++ N.after)) same ∙ sym N.second)

-- one bit is one of 16
pub wider : (x y : List ℕ) → Near x y 1 → Near x y 16
wider x y near = record {
  before = near.before;
  u = near.u;
  v = near.v;
  after = near.after;
  first = near.first;
  second = near.second;
  size = near.size;
  narrow = omega (arith, near.narrow);
}

pub single-told : (x y : List ℕ) → Bytes x → Bytes y → Near x y 1 → check x ≡ check y → x ≡ y
single-told x y b c near = burst_told x y b c (wider x y near)

-- ── 4. A string with its check behind it ───────────────────────────────────

pub sealed-append : (x r : List ℕ) → sealed x ++ r ≡ x ++ low (check x) ∷ high (check x) ∷ r
unfolding sealed
sealed-append x r = append_assoc x (low (check x) ∷ high (check x) ∷ []) r

pub sealed-length : (x : List ℕ) → length (sealed x) ≡ length x + 2
unfolding sealed
sealed-length x = simp length-append

pub check_of-sealed : (l : List ℕ) → check (sealed l) ≡ 0
unfolding check sealed bits_of fed
check_of-sealed l =
    let r = check l in
    let t = digits 8 (high r) ++ [] in
    let few : high r < 256 = (div-lt_iff_lt-mul (lit< tt)).1 (check-small l) in
    let back : shifts 8 (bit_xor r (low r)) ≡ high r =
    ap (λ x. shifts 8 (bit_xor x (low r))) (parts 8 r) ∙ ap (shifts 8) (xor_twice (high r * 2 ^ 8) (low r)) ∙ shifts_back 8 (high r) in
    ap (fed 0) (bits_append l (low r ∷ high r ∷ []))
    ∙ fed-append 0 (bits_of l) (digits 8 (low r) ++ t)
    ∙ fed-append r (digits 8 (low r)) t
    ∙ ap (λ x. fed x t) (fed-digits 8 r (low r) (mod-lt r (lit< tt)) ∙ back)
    ∙ fed-append (high r) (digits 8 (high r)) []
    ∙ fed-digits 8 (high r) (high r) few
    ∙ ap (shifts 8) (xor_self (high r))
    ∙ shifts_back 8 0

-- so no change within 16 bits next to each other, in the string or in its check, makes another string with its check
pub sealed-told : (x y : List ℕ) → Bytes (sealed x) → Bytes (sealed y) → Near (sealed x) (sealed y) 16 → sealed x ≡ sealed y
sealed-told x y b c N = burst_told (sealed x) (sealed y) b c N (check_of-sealed x ∙ sym (check_of-sealed y))
