-- THE REGISTER AFTER BITS, at once: k bits are exclusive-ored in together, and k shifts follow. So two registers and two strings of bits of
-- one length end apart by what their difference alone comes to.
use mathlib.Core.Path.{◌≡◌, refl, sym, ap, ap₂, ◌∙◌}
use mathlib.Core.List.{List, [], ◌∷◌, ◌++◌}
use Prim.Native.Nat.{ℕ, zero, suc, ◌+◌, ◌*◌, ◌/◌, ◌%◌, ◌^◌, ◌<◌, ◌≤◌}
use native.Mathlib.Nat.{lt_of_lt_of_le}
use native.Mathlib.Numerals.{add-one}
use native.Mathlib.Omega.{arith}
use lib.Arith.{lt-one}
use lib.Bits.{bit_xor, xor_comm, xor_self, xor_zero_r, xor_lt}
use lib.ListN.{length, drop, get_or, drop_of_length-le}
use lib.Pow.{pow_mono}
use lib.Seq.{drop-cons}
use Rattle.crc.specs.Check.{shifted, shifts, fed, digits, bits_of}
use Rattle.crc.proofs.Xor.{xor_assoc, xor_swap, xor_same}
use Rattle.crc.proofs.Shifts.{shifted_linear, shifts_linear, shifts_back, parts, shifted-small, shifts-zero}
use Rattle.crc.proofs.Bits.{Bits, value, value-lt, digits_value, half_lt}

pub fed-append : (r : ℕ) (u v : List ℕ) → fed r (u ++ v) ≡ fed (fed r u) v
unfolding fed
fed-append r [] v = refl
fed-append r (d ∷ u) v = fed-append (shifted (bit_xor r d)) u v

pub fed-digits : (k r b : ℕ) → b < 2 ^ k → fed r (digits k b) ≡ shifts k (bit_xor r b)
unfolding fed digits shifts
fed-digits zero r b h = sym (ap (bit_xor r) (lt-one h) ∙ xor_zero_r r)
fed-digits (suc k) r b h =
    let s = bit_xor r (b % 2) in
    let joined : bit_xor s (b / 2 * 2) ≡ bit_xor r b =
    xor_assoc r (b % 2) (b / 2 * 2) ∙ ap (bit_xor r) (xor_comm (b % 2) (b / 2 * 2) ∙ sym (parts 1 b)) in
    fed-digits k (shifted s) (b / 2) (half_lt k b h)
    ∙ ap (λ x. shifts k (bit_xor (shifted s) x)) (sym (shifts_back 1 (b / 2)))
    ∙ ap (shifts k) (sym (shifted_linear s (b / 2 * 2)) ∙ ap shifted joined)

pub fed-small : (r : ℕ) (u : List ℕ) → Bits u → r < 65536 → fed r u < 65536
unfolding fed
fed-small r [] b h = h
fed-small r (d ∷ u) b h = fed-small (shifted (bit_xor r d)) u b.1 (shifted-small (bit_xor r d) (xor_lt 16 r d h (omega (arith, b.0))))

-- ── A byte, as the code does it ────────────────────────────────────────────

pub byte_ahead : (r : ℕ) (l : List ℕ) (i : ℕ) → i < length l → get_or l i 0 < 256
    → fed r (bits_of (drop i l)) ≡ fed (shifts 4 (shifts 4 (bit_xor r (get_or l i 0)))) (bits_of (drop (i + 1) l))
unfolding bits_of shifts
byte_ahead r l i h b =
    let rest = bits_of (drop (suc i) l) in
    rw (add-one i, drop-cons l i 0 h)
    (fed-append r (digits 8 (get_or l i 0)) rest ∙ ap (λ x. fed x rest) (fed-digits 8 r (get_or l i 0) b))

pub none_ahead : (r : ℕ) (l : List ℕ) (i : ℕ) → length l ≤ i → fed r (bits_of (drop i l)) ≡ r
unfolding bits_of fed
none_ahead r l i h = rw (drop_of_length-le l {i = i} h)

-- ── Two strings of one length ──────────────────────────────────────────────

fed-value : (r : ℕ) (u : List ℕ) → Bits u → fed r u ≡ shifts (length u) (bit_xor r (value u))
fed-value r u b = ap (fed r) (sym (digits_value u b)) ∙ fed-digits (length u) r (value u) (value-lt u b)

apart : (r s : ℕ) (u v : List ℕ) → Bits u → Bits v → length u ≡ length v
    → bit_xor (fed r u) (fed s v) ≡ shifts (length u) (bit_xor (bit_xor r s) (bit_xor (value u) (value v)))
apart r s u v b c e =
    ap₂ bit_xor (fed-value r u b) (fed-value s v c ∙ ap (λ n. shifts n (bit_xor s (value v))) (sym e))
    ∙ sym (shifts_linear (length u) (bit_xor r (value u)) (bit_xor s (value v)))
    ∙ ap (shifts (length u)) (xor_swap r (value u) s (value v))

-- from one register, at most 16 bits are told by where they lead
pub bits_told : (r : ℕ) (u v : List ℕ) → Bits u → Bits v → length u ≡ length v → length u ≤ 16 → fed r u ≡ fed r v → u ≡ v
bits_told r u v b c e n q =
    let d = bit_xor (value u) (value v) in
    let nought : shifts (length u) d ≡ 0 =
    ap (λ x. shifts (length u) (bit_xor x d)) (sym (xor_self r)) ∙ sym (apart r r u v b c e) ∙ ap (λ x. bit_xor x (fed r v)) q
    ∙ xor_self (fed r v) in
    let few : value u < 65536 = lt_of_lt_of_le (value-lt u b) (pow_mono n) in
    let few' : value v < 65536 = lt_of_lt_of_le (value-lt v c) (pow_mono (rw e at n)) in
    let same : value u ≡ value v =
    xor_same (value u) (value v) (shifts-zero (length u) d (xor_lt 16 (value u) (value v) few few') nought) in
    sym (digits_value u b) ∙ ap₂ digits e same ∙ digits_value v c

-- and the same bits lead two registers of 16 bits to two
pub registers_told : (r s : ℕ) (u : List ℕ) → Bits u → r < 65536 → s < 65536 → fed r u ≡ fed s u → r ≡ s
registers_told r s u b h g q =
    let d = bit_xor r s in
    let nought : shifts (length u) d ≡ 0 =
    ap (shifts (length u)) (sym (xor_zero_r d) ∙ ap (bit_xor d) (sym (xor_self (value u)))) ∙ sym (apart r s u u b b refl)
    ∙ ap (λ x. bit_xor x (fed s u)) q ∙ xor_self (fed s u) in
    xor_same r s (shifts-zero (length u) d (xor_lt 16 r s h g) nought)
