-- The beginnings of a word that end other beginnings of it. Of two ends the shorter ends the longer, so going from border to border meets
-- them all; and an end of one letter more is an end with the letter behind it. Below that, what this says of longest borders and of
-- `longest_end`.
use mathlib.Core.Path.{◌≡◌, sym, ap, ◌∙◌}
use mathlib.Core.Bool.{true}
use mathlib.Core.List.{[], ◌∷◌, ◌++◌}
use Prim.Native.Nat.{ℕ, zero, suc, ◌+◌, ◌-◌, ◌≤◌, ◌<◌}
use native.Mathlib.Nat.{le_refl, zero-add}
use native.Mathlib.Decide.{dec_lt}
use native.Mathlib.Omega.{arith}
use lib.ListN.{length, length-append, get_or-append}
use lib.Seq.{get_or_at}
use Rattle.words.specs.Words.{Word, Letter, letter, part}
use Rattle.words.proofs.Words.{part_length, part_at}
use Rattle.border.specs.Borders.{closes, longest_border, longest_end}
use Rattle.border.proofs.Longest.{longest-one}
use Rattle.border.proofs.Closing.{Closing, closes_closing, closing_closes, nothing-closes}
use Rattle.border.proofs.Theorems.{border_shorter, border_closes, border_longest}

-- the first k letters of w are the last k of its first n: they stand at `start`
pub record EndsIn (w : Word) (n k : ℕ) : Type 0 where
  pub start : ℕ
  pub sum : start + k ≡ n
  pub same : (i : ℕ) → i < k → letter w (start + i) ≡ letter w i

-- ── Ends of ends ───────────────────────────────────────────────────────────

module _ (w : Word) where
  pub ends_itself : (n : ℕ) → EndsIn w n n
  ends_itself n = record { start = 0; sum = zero-add n; same = λ i l. ap (letter w) (zero-add i) }

  -- an end of an end
  pub ends_through : {n k j : ℕ} → EndsIn w n k → EndsIn w k j → EndsIn w n j
  ends_through {n} {k} {j} E F = record { start = E.start + F.start; sum = omega (arith, E.sum, F.sum); same = same }
    where
      same : (i : ℕ) → i < j → letter w (E.start + F.start + i) ≡ letter w i
      same i l =
          let q : E.start + F.start + i ≡ E.start + (F.start + i) = omega arith in
          ap (letter w) q
          ∙ E.same (F.start + i) (omega (arith, F.sum))
          ∙ F.same i l

  -- of two ends the shorter ends the longer
  pub shorter_ends : {n k j : ℕ} → EndsIn w n k → EndsIn w n j → j ≤ k → EndsIn w k j
  shorter_ends {n} {k} {j} E F h = record { start = k - j; sum = omega arith; same = same }
    where
      same : (i : ℕ) → i < j → letter w (k - j + i) ≡ letter w i
      same i l =
          let q : E.start + (k - j + i) ≡ F.start + i = omega (arith, E.sum, F.sum) in
          sym (E.same (k - j + i) (omega arith))
          ∙ ap (letter w) q
          ∙ F.same i l

  -- ── One letter more ──────────────────────────────────────────────────────

  pub ends-longer : {n k : ℕ} → EndsIn w n k → letter w n ≡ letter w k → EndsIn w (suc n) (suc k)
  ends-longer {n} {k} E e = record { start = E.start; sum = omega (arith, E.sum); same = λ i l. by i l (dec_lt i k) }
    where
      by : (i : ℕ) → i < suc k → Dec (i < k) → letter w (E.start + i) ≡ letter w i
      by i l (yes h) = E.same i h
      by i l (no h) =
          let last : i ≡ k = omega arith in
          let there : E.start + i ≡ n = omega (arith, E.sum) in
          rw (there, last) e

  pub ends-before : {n k : ℕ} → EndsIn w (suc n) (suc k) → EndsIn w n k × (letter w n ≡ letter w k)
  ends-before {n} {k} E =
      let there : E.start + k ≡ n = omega (arith, E.sum) in
      (record { start = E.start; sum = there; same = λ i l. E.same i (omega arith) }, rw there at (E.same k (le_refl _)))

-- ── The longest border of a beginning ──────────────────────────────────────

module _ (w : Word) (n : ℕ) (inside : n ≤ length w) where
  abbrev first_n : Word
  first_n = part w 0 n

  pub first-length : length first_n ≡ n
  first-length = part_length w 0 n (omega arith)

  first-letter : (i : ℕ) → i < n → letter first_n i ≡ letter w i
  first-letter i l = part_at w 0 n i l ∙ ap (letter w) (zero-add i)

  pub beginning_shorter : longest_border first_n ≤ n - 1
  beginning_shorter = omega (arith, border_shorter first_n, first-length)

  pub beginning_ends : EndsIn w n (longest_border first_n)
  beginning_ends = record { start = C.start; sum = C.sum ∙ first-length; same = same }
    where
      b : ℕ
      b = longest_border first_n

      C : Closing first_n b first_n
      C = closes_closing first_n first_n b (omega (arith, first-length, beginning_shorter)) (border_closes first_n)

      same : (i : ℕ) → i < b → letter w (C.start + i) ≡ letter w i
      same i l =
          sym (first-letter (C.start + i) (omega (arith, C.sum, first-length)))
          ∙ C.same i l
          ∙ first-letter i (omega (arith, beginning_shorter))

  pub beginning_longest : {k : ℕ} → k < n → EndsIn w n k → k ≤ longest_border first_n
  beginning_longest {k} h E =
      border_longest first_n k (rw first-length h) (closing_closes first_n first_n k (omega (arith, first-length)) closing)
    where
      same : (i : ℕ) → i < k → letter first_n (E.start + i) ≡ letter first_n i
      same i l =
          first-letter (E.start + i) (omega (arith, E.sum))
          ∙ E.same i l
          ∙ sym (first-letter i (omega arith))

      closing : Closing first_n k first_n
      closing = record { start = E.start; sum = E.sum ∙ sym first-length; same = same }

  -- ── The longest beginning that ends with a letter ────────────────────────

  module _ (c : Letter) where
    abbrev with_letter : Word
    with_letter = first_n ++ (c ∷ [])

    with_length : length with_letter ≡ suc n
    with_length = length-append first_n (c ∷ []) ∙ omega (arith, first-length)

    with_before : (i : ℕ) → i < n → letter with_letter i ≡ letter w i
    with_before i l = get_or-append first_n (c ∷ []) 0 i (rw first-length l) ∙ first-letter i l

    with_last : letter with_letter n ≡ c
    with_last = get_or_at first_n c [] 0 n first-length

    -- beginnings that end with it are ends with the letter behind them
    closing_ends : (k : ℕ) → suc k ≤ length w → closes w (suc k) with_letter ≡ true → EndsIn w n k × (letter w k ≡ c)
    closing_ends k h e = (record { start = C.start; sum = there; same = same }, sym (C.same k (le_refl _)) ∙ rw there with_last)
      where
        C : Closing w (suc k) with_letter
        C = closes_closing w with_letter (suc k) h e

        there : C.start + k ≡ n
        there = omega (arith, C.sum, with_length)

        same : (i : ℕ) → i < k → letter w (C.start + i) ≡ letter w i
        same i l = sym (with_before (C.start + i) (omega (arith, there))) ∙ C.same i (omega arith)

    ends_closing : (k : ℕ) → suc k ≤ length w → EndsIn w n k → letter w k ≡ c → closes w (suc k) with_letter ≡ true
    ends_closing k h E e = closing_closes w with_letter (suc k) h
        (record { start = E.start; sum = omega (arith, E.sum, with_length); same = λ i l. by i l (dec_lt i k) })
      where
        by : (i : ℕ) → i < suc k → Dec (i < k) → letter with_letter (E.start + i) ≡ letter w i
        by i l (yes g) = with_before (E.start + i) (omega (arith, E.sum)) ∙ E.same i g
        by i l (no g) =
            let last : i ≡ k = omega arith in
            let there : E.start + i ≡ n = omega (arith, E.sum) in
            rw (there, last) (with_last ∙ sym e)

    -- the longest of them
    pub end-longest : (k : ℕ) → k < length w → EndsIn w n k → letter w k ≡ c
        → ((j : ℕ) → j < length w → EndsIn w n j → letter w j ≡ c → j ≤ k) → longest_end w with_letter ≡ suc k
    unfolding longest_end
    end-longest k h E e most =
        longest-one (λ k. closes w k with_letter) (nothing-closes w with_letter) (suc (length w)) (suc k) (omega arith)
        (ends_closing k (omega arith) E e) upper
      where
        upper : (j : ℕ) → j < suc (length w) → closes w j with_letter ≡ true → j ≤ suc k
        upper zero l g = omega arith
        upper (suc j) l g = let r = closing_ends j (omega arith) g in omega (arith, most j (omega arith) r.0 r.1)

    -- there is none
    pub end_none : ((j : ℕ) → j < length w → EndsIn w n j → letter w j ≡ c → ⊥) → longest_end w with_letter ≡ 0
    unfolding longest_end
    end_none none =
        longest-one (λ k. closes w k with_letter) (nothing-closes w with_letter) (suc (length w)) 0 (omega arith)
        (nothing-closes w with_letter) upper
      where
        upper : (j : ℕ) → j < suc (length w) → closes w j with_letter ≡ true → j ≤ 0
        upper zero l g = omega arith
        upper (suc j) l g = let r = closing_ends j (omega arith) g in absurd (none j (omega arith) r.0 r.1)
