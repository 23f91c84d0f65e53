-- RANK: the ones of a state's four words, masked to letters below c, are the letters below c in its set. Each word adds those of its 64
-- letters that are below c (`rank_step`), and after four all are counted.
use mathlib.Core.Path.{◌≡◌, refl, ap, ◌∙◌}
use mathlib.Core.Logic.{by_cases}
use mathlib.Core.Bool.{cond}
use mathlib.Core.List.{List}
use Prim.Native.Nat.{ℕ, suc, ◌+◌, ◌-◌, ◌*◌, ◌/◌, ◌%◌, ◌≤◌, ◌<◌}
use native.Mathlib.Decide.{dec_le}
use native.Mathlib.Omega.{arith}
use lib.Dec.{leb}
use borrow.Author.Tests.{le-leb, lt-leb}
use Rattle.words.specs.Lists.{at}
use Rattle.oracle.specs.Arrows.{State}
use Rattle.compact.specs.Compact.{bit_at, in_set, how_many}
use Rattle.compact.specs.CompactFormed.{OnesBelow}
use Rattle.compact.proofs.Counting.{count-split, count_same, count_most}

-- ── One word ───────────────────────────────────────────────────────────────

module _ {w i c : ℕ} where
  -- its letters are not below c
  pub none_below : c ≤ 64 * i → OnesBelow w i c 0
  unfolding how_many
  none_below h = record {
    nothing = λ _. refl;
    whole = λ l. absurd (omega arith);
    part = λ l _. let e : c - 64 * i ≡ 0 = omega arith in rw e;
  }

  -- all are
  pub all-below : {r : ℕ} → 64 * i + 64 ≤ c → r ≡ how_many (bit_at w) 64 → OnesBelow w i c r
  all-below h e = record {
    nothing = λ l. absurd (omega arith);
    whole = λ _. e;
    part = λ _ l. let all : c - 64 * i ≡ 64 = omega arith in rw all e;
  }

  -- no more than it has
  pub few-below : {r : ℕ} → OnesBelow w i c r → r ≤ 64
  few-below B = by_cases (dec_le c (64 * i))
      (λ h. omega (arith, B.nothing h))
      (λ h. by_cases (dec_le c (64 * i + 64))
      (λ l. omega (arith, B.part (omega arith) l, count_most (bit_at w) (c - 64 * i)))
      (λ l. omega (arith, B.whole (omega arith), count_most (bit_at w) 64)))

-- ── Four words ─────────────────────────────────────────────────────────────

module _ (Z : List ℕ) (x : State) where
  -- the letters of word k of a state
  pub word-letter : (k d : ℕ) → d < 64 → in_set Z x (64 * k + d) ≡ bit_at (at Z (4 * x + k)) d
  word-letter k d h =
      let word : (256 * x + (64 * k + d)) / 64 ≡ 4 * x + k = omega arith in
      let bit : (256 * x + (64 * k + d)) % 64 ≡ d = omega arith in
      rw (word, bit)

  -- the first r of them
  pub word_count : (k r : ℕ) → r ≤ 64
      → how_many (in_set Z x) (64 * k + r) ≡ how_many (in_set Z x) (64 * k) + how_many (bit_at (at Z (4 * x + k))) r
  word_count k r h =
      count-split (in_set Z x) (64 * k) r
      ∙ ap (λ (n : ℕ). how_many (in_set Z x) (64 * k) + n)
      (count_same (λ d. in_set Z x (64 * k + d)) (bit_at (at Z (4 * x + k))) r (λ d l. word-letter k d (omega arith)))

  module _ (c : ℕ) where
    -- the letters below c of the words before i
    up_to : ℕ → ℕ
    up_to i = cond (leb c (64 * i)) c (64 * i)

    rank_step : (i : ℕ) {r : ℕ} → OnesBelow (at Z (4 * x + i)) i c r
        → how_many (in_set Z x) (up_to (suc i)) ≡ how_many (in_set Z x) (up_to i) + r
    unfolding up_to
    rank_step i {r} B = by_cases (dec_le c (64 * i))
        (λ h. rw (le-leb c (64 * suc i) (omega arith), le-leb c (64 * i) h, B.nothing h) (omega arith))
        (λ h. by_cases (dec_le c (64 * i + 64)) (λ l. last h l) (λ l. passed h l))
      where
        last : (c ≤ 64 * i → ⊥) → c ≤ 64 * i + 64 → how_many (in_set Z x) (up_to (suc i)) ≡ how_many (in_set Z x) (up_to i) + r
        last h l =
            let e : 64 * i + (c - 64 * i) ≡ c = omega arith in
            rw (le-leb c (64 * suc i) (omega arith), lt-leb c (64 * i) (omega arith), B.part (omega arith) l)
            (rw e at (word_count i (c - 64 * i) (omega arith)))

        passed : (c ≤ 64 * i → ⊥) → (c ≤ 64 * i + 64 → ⊥) → how_many (in_set Z x) (up_to (suc i)) ≡ how_many (in_set Z x) (up_to i) + r
        passed h l =
            let e : 64 * i + 64 ≡ 64 * suc i = omega arith in
            rw (lt-leb c (64 * suc i) (omega arith), lt-leb c (64 * i) (omega arith), B.whole (omega arith))
            (rw e at (word_count i 64 (omega arith)))

    pub rank_told : c ≤ 256 → {r₀ r₁ r₂ r₃ : ℕ} → OnesBelow (at Z (4 * x)) 0 c r₀ → OnesBelow (at Z (4 * x + 1)) 1 c r₁
        → OnesBelow (at Z (4 * x + 2)) 2 c r₂ → OnesBelow (at Z (4 * x + 3)) 3 c r₃ → r₀ + r₁ + r₂ + r₃ ≡ how_many (in_set Z x) c
    unfolding up_to how_many
    rank_told h {r₀} {r₁} {r₂} {r₃} B₀ B₁ B₂ B₃ =
        let e : 4 * x + 0 ≡ 4 * x = omega arith in
        let start : how_many (in_set Z x) (up_to 0) ≡ 0 = by_cases (dec_le c 0)
        (λ l. let z : c ≡ 0 = omega arith in rw (le-leb c 0 l, z))
        (λ l. rw (lt-leb c 0 (omega arith))) in
        let end : up_to 4 ≡ c = rw (le-leb c 256 h) in
        let all = rw end at (rank_step 3 B₃) in
        omega (arith, start, rank_step 0 (rw (← e) at B₀), rank_step 1 B₁, rank_step 2 B₂, all)
