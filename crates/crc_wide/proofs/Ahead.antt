-- THE BYTES AHEAD: feeding the bits of six bytes, or of one, is taking them into the register of 64 bits.
use mathlib.Core.Path.{◌≡◌, refl, sym, ap, ap₂, ◌∙◌}
use mathlib.Core.List.{List, [], ◌∷◌, ◌++◌}
use Prim.Native.Nat.{ℕ, zero, suc, ◌+◌, ◌*◌, ◌/◌, ◌%◌, ◌^◌, ◌<◌}
use native.Mathlib.Nat.{mod-lt, zero-add, suc-add, pow-suc, mul_assoc}
use native.Mathlib.Omega.{arith}
use lib.Arith.{lt-one, digits_div, digits_mod}
use lib.Dec.{lit<}
use lib.ListN.{length, take, drop, take-append-drop, drop_of_length-le}
use lib.Seq.{take-add}
use Rattle.std.specs.List.{concat}
use Rattle.std.specs.Simd.{first_chunks}
use Rattle.std.proofs.lemmas.List.{drop_more}
use Rattle.words.specs.Lists.{at}
use Rattle.number.specs.Number.{Bytes}
use Rattle.crc.specs.Check.{shifts, fed, digits, bits_of, check}
use Rattle.crc.proofs.Xor.{two_pos}
use Rattle.crc.proofs.Bits.{digits_bits, bits_left, bits_append, half_lt}
use Rattle.crc.proofs.Fed.{byte_ahead, fed-append, fed-digits, fed-small}
use Rattle.crc_wide.specs.Wide.{taken_six, taken_byte, sixteen_past}
use Rattle.crc_wide.proofs.Folding.{six_law, byte_law, sixteen_law}

-- ── The number of six bytes ────────────────────────────────────────────────

digits_join : (j k b m : ℕ) → b < 2 ^ j → digits (j + k) (b + m * 2 ^ j) ≡ digits j b ++ digits k m
unfolding digits
digits_join zero k b m h = ap₂ digits (zero-add k) (omega (arith, lt-one h))
digits_join (suc j) k b m h =
    let double : m * 2 ^ suc j ≡ m * 2 ^ j * 2 = ap (λ p. m * p) (pow-suc 2 j) ∙ sym (mul_assoc m (2 ^ j) 2) in
    let half = b / 2 + m * 2 ^ j in
    let e : b + m * 2 ^ suc j ≡ half * 2 + b % 2 = omega arith in
    let bit = mod-lt b two_pos in
    ap₂ digits (suc-add j k) e
    ∙ ap₂ ◌∷◌ (digits_mod half bit) (ap (digits (j + k)) (digits_div half bit) ∙ digits_join j k (b / 2) m (half_lt j b h))

-- the number of bytes, lowest first
unfoldable number : List ℕ → ℕ
number [] = 0
number (b ∷ l) = b + number l * 2 ^ 8

digits-number : (l : List ℕ) → Bytes l → digits (length l * 8) (number l) ≡ bits_of l
unfolding number bits_of digits
digits-number [] h = refl
digits-number (b ∷ l) h =
    ap (λ k. digits k (b + number l * 2 ^ 8)) (omega arith)
    ∙ digits_join 8 (length l * 8) b (number l) (h 0)
    ∙ ap (λ u. digits 8 b ++ u) (digits-number l (λ i. h (suc i)))

six_of : (s : List ℕ) → length s ≡ 6 → s ≡ at s 0 ∷ at s 1 ∷ at s 2 ∷ at s 3 ∷ at s 4 ∷ at s 5 ∷ []
six_of s h =
    drop_more s 0 0 (omega arith)
    ∙ ap (λ l. at s 0 ∷ l) (drop_more s 1 0 (omega arith)
    ∙ ap (λ l. at s 1 ∷ l) (drop_more s 2 0 (omega arith)
    ∙ ap (λ l. at s 2 ∷ l) (drop_more s 3 0 (omega arith)
    ∙ ap (λ l. at s 3 ∷ l) (drop_more s 4 0 (omega arith)
    ∙ ap (λ l. at s 4 ∷ l) (drop_more s 5 0 (omega arith) ∙ ap (λ l. at s 5 ∷ l) (drop_of_length-le s {i = 6} (omega arith)))))))

pub digits_of-six : (s : List ℕ) (n : ℕ) → length s ≡ 6 → Bytes s
    → n ≡ at s 0 + at s 1 * 256 + at s 2 * 65536 + at s 3 * 16777216 + at s 4 * 4294967296 + at s 5 * 1099511627776
    → digits 48 n ≡ bits_of s
unfolding number
digits_of-six s n h b e =
    let size : 48 ≡ length s * 8 = omega arith in
    let whole : n ≡ number (at s 0 ∷ at s 1 ∷ at s 2 ∷ at s 3 ∷ at s 4 ∷ at s 5 ∷ []) = omega (arith, e) in
    ap₂ digits size (whole ∙ ap number (sym (six_of s h))) ∙ digits-number s b

-- ── What is taken ──────────────────────────────────────────────────────────

-- the register, settled and fed with what is ahead, stays what it is
pub six_taken : (acc n : ℕ) (s v : List ℕ) → digits 48 n ≡ bits_of s → n < 281474976710656
    → fed (shifts 64 (taken_six acc n)) (bits_of v) ≡ fed (shifts 64 acc) (bits_of (s ++ v))
six_taken acc n s v e h =
    let r = shifts 64 acc in
    ap (λ x. fed x (bits_of v)) (six_law acc n ∙ sym (fed-digits 48 r n h) ∙ ap (fed r) e)
    ∙ sym (ap (fed r) (bits_append s v) ∙ fed-append r (bits_of s) (bits_of v))

pub byte_taken : (acc : ℕ) (l : List ℕ) (i : ℕ) → i < length l → at l i < 256
    → fed (shifts 64 (taken_byte acc (at l i))) (bits_of (drop (i + 1) l)) ≡ fed (shifts 64 acc) (bits_of (drop i l))
unfolding shifts
byte_taken acc l i h b = ap (λ x. fed x (bits_of (drop (i + 1) l))) (byte_law acc (at l i)) ∙ sym (byte_ahead (shifts 64 acc) l i h b)

-- ── Settling ───────────────────────────────────────────────────────────────

-- a register of 64 bits settles in 16
pub settled_small : (acc : ℕ) → acc < 18446744073709551616 → shifts 64 acc < 65536
settled_small acc h =
    rw (fed-digits 64 0 acc h) at (fed-small 0 (digits 64 acc) (bits_left (digits 64 acc) [] (digits_bits 64 acc [] tt)) (lit< tt))

-- and by three folds and four half bytes
pub settled_by : (acc : ℕ) → shifts 64 acc ≡ shifts 4 (shifts 4 (shifts 4 (shifts 4 (sixteen_past (sixteen_past (sixteen_past acc))))))
unfolding shifts
settled_by acc = sixteen_law 32 acc ∙ sixteen_law 16 (sixteen_past acc) ∙ sixteen_law 0 (sixteen_past (sixteen_past acc))

-- ── Both parts ─────────────────────────────────────────────────────────────

pub concat-sixes : (k : ℕ) (l : List ℕ) → concat (first_chunks 6 k l) ≡ take (k * 6) l
concat-sixes zero l = refl
concat-sixes (suc k) l =
    ap (λ u. take 6 l ++ u) (concat-sixes k (drop 6 l)) ∙ sym (take-add 6 (k * 6) l) ∙ ap (λ n. take n l) (omega arith)

-- what stands in two parts
pub in_parts : (l : List ℕ) (i : ℕ) → fed (check (take i l)) (bits_of (drop i l)) ≡ check l
unfolding check
in_parts l i =
    sym (fed-append 0 (bits_of (take i l)) (bits_of (drop i l)))
    ∙ ap (fed 0) (sym (bits_append (take i l) (drop i l)) ∙ ap bits_of (take-append-drop i l))
