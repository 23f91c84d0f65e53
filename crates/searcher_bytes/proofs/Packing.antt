-- PACKING: how code writes a searcher's bytes, three parts one behind the other, and that packing and unpacking undo each other. Four
-- digits to the base 256 have one value below 256⁴, and bytes are their value's digits.
use mathlib.Core.Path.{◌≡◌, refl, sym, ap, ap₂, ◌∙◌}
use mathlib.Core.List.{List, [], ◌∷◌, ◌++◌, append_assoc, append-nil}
use Prim.Native.Nat.{ℕ, ◌+◌, ◌*◌, ◌/◌, ◌%◌, ◌<◌}
use native.Mathlib.Omega.{arith}
use lib.ListN.{length, take, drop, length-append, drop_of_length-le, take-append-drop}
use lib.Seq.{take_at, drop_at, drop-drop, drop-cons}
use borrow.Rule.Slice.PartMut.{put_mid}
use Rattle.std.specs.Int.{to_le_bytes, w64}
use Rattle.words.specs.Lists.{at}
use Rattle.words.specs.Limits.{longest_streamed}
use Rattle.words.specs.Words.{part}
use Rattle.words.proofs.Limits.{streamed_limit}
use Rattle.words.proofs.Lists.{at-behind}
use Rattle.number.specs.Number.{Bytes}
use Rattle.stream.specs.declared.Searcher.{Searcher}
use Rattle.stream.proofs.Reached.{bytes_take}
use Rattle.searcher_bytes.specs.Packing.{searcher_bytes, low_first, packed, unpacked}

-- SEARCHER
pub searcher_bytes_lem : searcher_bytes ≡ 134
unfolding searcher_bytes
searcher_bytes_lem = rw streamed_limit

-- ── Three parts of a room ──────────────────────────────────────────────────

pub three_parts : (O P Q R : List ℕ) → length O ≡ 134 → length P ≡ 64 → length Q ≡ 64 → length R ≡ 6
    → put_mid 128 6 (put_mid 64 64 (P ++ drop 64 O) Q) R ≡ P ++ (Q ++ R)
three_parts O P Q R o p q r =
    ap (λ (l : List ℕ). put_mid 128 6 l R) two
    ∙ ap (λ (l : List ℕ). l ++ (R ++ drop 6 (drop 128 (P ++ (Q ++ drop 64 (drop 64 O)))))) front
    ∙ ap (λ (l : List ℕ). (P ++ Q) ++ (R ++ l)) nothing
    ∙ ap (λ (l : List ℕ). (P ++ Q) ++ l) (append-nil R)
    ∙ append_assoc P Q R
  where
    two : put_mid 64 64 (P ++ drop 64 O) Q ≡ P ++ (Q ++ drop 64 (drop 64 O))
    two = rw (take_at P (drop 64 O) 64 p, drop_at P (drop 64 O) 64 p)

    both : length (P ++ Q) ≡ 128
    both = length-append P Q ∙ omega arith

    front : take 128 (P ++ (Q ++ drop 64 (drop 64 O))) ≡ P ++ Q
    front = ap (take 128) (sym (append_assoc P Q (drop 64 (drop 64 O)))) ∙ take_at (P ++ Q) (drop 64 (drop 64 O)) 128 both

    behind : drop 128 (P ++ (Q ++ drop 64 (drop 64 O))) ≡ drop 128 O
    behind =
        ap (drop 128) (sym (append_assoc P Q (drop 64 (drop 64 O))))
        ∙ drop_at (P ++ Q) (drop 64 (drop 64 O)) 128 both
        ∙ drop-drop 64 64 O

    nothing : drop 6 (drop 128 (P ++ (Q ++ drop 64 (drop 64 O)))) ≡ []
    nothing = ap (drop 6) behind ∙ drop-drop 6 128 O ∙ drop_of_length-le O {i = 134} (omega arith)

-- the four lowest bytes of a number
pub low-digits : (n : ℕ) {l : List ℕ} → l ≡ to_le_bytes w64 n → at l 0 ∷ at l 1 ∷ at l 2 ∷ at l 3 ∷ [] ≡ low_first 4 n
low-digits n e =
    let two : n / 65536 % 256 ≡ n / 256 / 256 % 256 = omega arith in
    let three : n / 16777216 % 256 ≡ n / 256 / 256 / 256 % 256 = omega arith in
    rw e (ap₂ (λ x y. n % 256 ∷ n / 256 % 256 ∷ x ∷ y ∷ []) two three)

-- ── The bytes of a searcher ────────────────────────────────────────────────

module _ (s : Searcher) (own : length s.word ≡ 64) (its : length s.borders ≡ 64) where
  abbrev rest : List ℕ
  rest = s.size ∷ s.keep ∷ low_first 4 s.taken

  -- they are written part by part
  pub packed-parts : (O : List ℕ) {P Q R : List ℕ} → length O ≡ searcher_bytes → P ≡ s.word → Q ≡ s.borders → R ≡ rest
      → put_mid 128 6 (put_mid 64 64 (P ++ drop 64 O) Q) R ≡ packed s
  unfolding packed
  packed-parts O o p q r =
      rw (p, q, r) (three_parts O s.word s.borders rest (o ∙ searcher_bytes_lem) own its refl)

  pub packed-length : length (packed s) ≡ searcher_bytes
  unfolding packed
  packed-length =
      length-append s.word (s.borders ++ rest)
      ∙ omega (arith, length-append s.borders rest, searcher_bytes_lem)

  packed-rest : (i : ℕ) → at (packed s) (128 + i) ≡ at rest i
  unfolding packed
  packed-rest i =
      let q : 128 + i ≡ 64 + (64 + i) = omega arith in
      ap (at (packed s)) q
      ∙ at-behind s.word (s.borders ++ rest) 64 (64 + i) own
      ∙ at-behind s.borders rest 64 i its

  packed-word : part (packed s) 0 64 ≡ s.word
  unfolding packed
  packed-word = take_at s.word (s.borders ++ rest) 64 own

  packed-borders : part (packed s) 64 64 ≡ s.borders
  unfolding packed
  packed-borders = ap (take 64) (drop_at s.word (s.borders ++ rest) 64 own) ∙ take_at s.borders rest 64 its

  value : (n : ℕ) → n < 4294967296 → n % 256 + 256 * (n / 256 % 256 + 256 * (n / 256 / 256 % 256 + 256 * (n / 256 / 256 / 256 % 256))) ≡ n
  value n h = omega arith

  -- unpacking takes back packing
  pub packed_back : s.taken < 4294967296 → unpacked (packed s) ≡ s
  unfolding unpacked
  packed_back few =
      rw (
        streamed_limit,
        packed-word,
        packed-borders,
        packed-rest 0,
        packed-rest 1,
        packed-rest 2,
        packed-rest 3,
        packed-rest 4,
        packed-rest 5,
        value s.taken few,
      )

-- ── The searcher of some bytes ─────────────────────────────────────────────

-- it is read part by part
pub unpacked-parts : (b : List ℕ) {P Q : List ℕ} {size keep taken : ℕ} → P ≡ part b 0 64 → Q ≡ part b 64 64 → size ≡ at b 128
    → keep ≡ at b 129 → taken ≡ at b 130 + at b 131 * 256 + at b 132 * 65536 + at b 133 * 16777216
    → ◌≡◌ {A = Searcher} (record { word = P; borders = Q; size = size; keep = keep; taken = taken }) (unpacked b)
unfolding unpacked
unpacked-parts b {taken = taken} p q m k t =
    let sum : taken ≡ at b 130 + 256 * (at b 131 + 256 * (at b 132 + 256 * at b 133)) = omega arith in
    rw (streamed_limit, p, q, m, k, sum)

-- its word is of bytes
pub unpacked-bytes : (b : List ℕ) → Bytes b → Bytes (unpacked b).word
unfolding unpacked
unpacked-bytes b bytes = bytes_take longest_streamed b bytes

module _ (b : List ℕ) (bytes : Bytes b) (size : length b ≡ searcher_bytes) where
  long : length b ≡ 134
  long = size ∙ searcher_bytes_lem

  -- the lowest digit, and the others
  digit : (p n : ℕ) → p < 256 → ((p + 256 * n) % 256 ≡ p) × ((p + 256 * n) / 256 ≡ n)
  digit p n h = (omega arith, omega arith)

  digits : (p q r s : ℕ) → p < 256 → q < 256 → r < 256 → s < 256 → low_first 4 (p + 256 * (q + 256 * (r + 256 * s))) ≡ p ∷ q ∷ r ∷ s ∷ []
  digits p q r s a b c d =
      let one = digit p (q + 256 * (r + 256 * s)) a in
      let two = digit q (r + 256 * s) b in
      let three = digit r s c in
      let four : s % 256 ≡ s = omega arith in
      rw (one.0, one.1, two.0, two.1, three.0, three.1, four)

  rest_is : drop 128 b ≡ at b 128 ∷ at b 129 ∷ at b 130 ∷ at b 131 ∷ at b 132 ∷ at b 133 ∷ []
  rest_is =
      drop-cons b 128 0 (omega (arith, long))
      ∙ ap (λ (l : List ℕ). at b 128 ∷ l) (drop-cons b 129 0 (omega (arith, long)))
      ∙ ap (λ (l : List ℕ). at b 128 ∷ at b 129 ∷ l) (drop-cons b 130 0 (omega (arith, long)))
      ∙ ap (λ (l : List ℕ). at b 128 ∷ at b 129 ∷ at b 130 ∷ l) (drop-cons b 131 0 (omega (arith, long)))
      ∙ ap (λ (l : List ℕ). at b 128 ∷ at b 129 ∷ at b 130 ∷ at b 131 ∷ l) (drop-cons b 132 0 (omega (arith, long)))
      ∙ ap (λ (l : List ℕ). at b 128 ∷ at b 129 ∷ at b 130 ∷ at b 131 ∷ at b 132 ∷ l) (drop-cons b 133 0 (omega (arith, long)))
      ∙ ap (λ (l : List ℕ). at b 128 ∷ at b 129 ∷ at b 130 ∷ at b 131 ∷ at b 132 ∷ at b 133 ∷ l)
      (drop_of_length-le b {i = 134} (omega (arith, long)))

  rows_are : b ≡ take 64 b ++ (take 64 (drop 64 b) ++ drop 128 b)
  rows_are =
      sym (take-append-drop 64 b)
      ∙ ap (λ (l : List ℕ). take 64 b ++ l) (sym (take-append-drop 64 (drop 64 b)))
      ∙ ap (λ (l : List ℕ). take 64 b ++ (take 64 (drop 64 b) ++ l)) (drop-drop 64 64 b)

  -- packing takes back unpacking
  pub unpacked_back : packed (unpacked b) ≡ b
  unfolding packed unpacked
  unpacked_back =
      rw (streamed_limit, digits (at b 130) (at b 131) (at b 132) (at b 133) (bytes 130) (bytes 131) (bytes 132) (bytes 133), ← rest_is)
      (sym rows_are)
