-- READING FORWARD: it reads every letter from c up to where it stops, which is at the window's end or behind it; and what it finds are the
-- occurrences from c - h on, up to those from where it stops. The second goes letter by letter: with one letter more either the word ends
-- there, and started at c - h, or it stands nowhere before what is kept then.
use mathlib.Core.Path.{◌≡◌, refl, sym, ap, ◌∙◌}
use mathlib.Core.Bool.{Bool, true, false, ◌||◌}
use mathlib.Core.Logic.{by_cases, ◌⊎◌, inl, inr}
use mathlib.Core.List.{List, [], ◌∷◌, ◌++◌, append_assoc}
use Prim.Native.Nat.{ℕ, zero, suc, ◌+◌, ◌-◌, ◌*◌, ◌≤◌, ◌<◌}
use native.Mathlib.Decide.{ℕ_discrete, dec_lt}
use native.Mathlib.Omega.{arith}
use lib.ListN.{length}
use lib.Dec.{ltb}
use borrow.Author.Tests.{ltb-false, le-ltb, leb-false, leb-true}
use Rattle.words.specs.Words.{Word, Place, letter, stands}
use Rattle.words.proofs.Lists.{test_cases, true_not_false}
use Rattle.words.proofs.Occurrences.{since, since-here, since-later}
use Rattle.border.specs.Borders.{longest_end}
use Rattle.pieces.specs.Kept.{heard}
use Rattle.turbo_steps.specs.Turbo.{kept_at, ends_at, found_at, Advance, stops_at, one_letter, goes_on, forward}
use Rattle.turbo_steps.proofs.Between.{ends-told, told-ends, standing_kept, kept-past, kept-short}
use Rattle.turbo_steps.proofs.Between.{kept_grows, short_ends_not, whole-size, whole-ends}

or_false : (a b : Bool) → a || b ≡ false → a ≡ false
or_false true b e = e
or_false false b e = refl

or_false_right : (a b : Bool) → a || b ≡ false → b ≡ false
or_false_right true b e = true_not_false e
or_false_right false b e = e

module _ (w t : Word) (low e : Place) where
  pub forward-done : (c : Place) → forward w t low e 0 c ≡ stops_at c
  unfolding forward
  forward-done c = refl

  pub forward_stops : (k : ℕ) (c : Place) → goes_on w t low e c ≡ false → forward w t low e k c ≡ stops_at c
  unfolding forward
  forward_stops zero c q = refl
  forward_stops (suc k) c q = rw q

  pub forward-reads : (k : ℕ) (c : Place) → goes_on w t low e c ≡ true
      → forward w t low e (suc k) c ≡ one_letter (found_at w t low (suc c)) (forward w t low e k (suc c))
  unfolding forward
  forward-reads k c q = rw q

  -- what holds where it stops, and of one letter more where it held, holds of every reading forward
  forward-induction
      : (P : Place → Advance → Type 0)
      → ((c : Place) → c ≡ length t → P c (stops_at c))
      → ((c : Place) → c ≤ length t → goes_on w t low e c ≡ false → P c (stops_at c))
      → ((c : Place) (r : Advance) → c < length t → goes_on w t low e c ≡ true → P (suc c) r
      → P c (one_letter (found_at w t low (suc c)) r))
      → (k : ℕ) (c : Place) → k + c ≡ length t → P c (forward w t low e k c)
  forward-induction P ends stops goes zero c s = rw (forward-done c) (ends c (omega arith))
  forward-induction P ends stops goes (suc k) c s = test_cases (goes_on w t low e c)
      (λ q. rw (forward-reads k c q) (goes c _ (omega arith) q (forward-induction P ends stops goes k (suc c) (omega arith))))
      (λ q. rw (forward_stops (suc k) c q) (stops c (omega arith) q))

  -- ── The letters ──────────────────────────────────────────────────────────

  -- every letter from c up to where it stops, which is at the window's end or behind it
  pub record Reads (c : Place) (r : Advance) : Type 0 where
    pub counted : r.letters + c ≡ r.place
    pub inside : r.place ≤ length t
    pub past : e ≤ r.place

  pub forward-counts : e ≤ length t → (k : ℕ) (c : Place) → k + c ≡ length t → Reads c (forward w t low e k c)
  forward-counts h = forward-induction Reads
      (λ c s. record { counted = omega arith; inside = omega arith; past = omega arith })
      (λ c s q. record { counted = omega arith; inside = s; past = ltb-false c e (or_false (ltb c e) _ q) })
      (λ c r s q R. record { counted = omega (arith, R.counted); inside = R.inside; past = R.past })

  -- and why it stops: at the text's end, or where less than half the word is kept
  pub forward_why : (k : ℕ) (c : Place) → k + c ≡ length t → let r = forward w t low e k c in
      (r.place ≡ length t) ⊎ (2 * kept_at w t low r.place < length w)
  forward_why = forward-induction (λ c r. (r.place ≡ length t) ⊎ (2 * kept_at w t low r.place < length w))
      (λ c s. inl s)
      (λ c s q. inr (leb-false _ _ (or_false_right (ltb c e) _ q)))
      (λ c r s q R. R)

  -- it stopped at no place before, from the window's end on: there half the word was kept
  pub forward_while : (k : ℕ) (c : Place) → k + c ≡ length t → (p : Place) → c ≤ p → e ≤ p → p < (forward w t low e k c).place
      → length w ≤ 2 * kept_at w t low p
  forward_while = forward-induction Half (λ c s p a b l. absurd (omega arith)) (λ c s q p a b l. absurd (omega arith)) one
    where
      Half : Place → Advance → Type 0
      Half c r = (p : Place) → c ≤ p → e ≤ p → p < r.place → length w ≤ 2 * kept_at w t low p

      one : (c : Place) (r : Advance) → c < length t → goes_on w t low e c ≡ true → Half (suc c) r
          → Half c (one_letter (found_at w t low (suc c)) r)
      one c r s q rec p a b l = by_cases (ℕ_discrete p c)
          (λ here. rw here (leb-true _ _ (rw (le-ltb c e (omega arith)) at q)))
          (λ further. rec p (omega arith) b l)

-- ── The finds ──────────────────────────────────────────────────────────────

module _ (w t : Word) (low : Place) (some-letter : 1 ≤ length w) where
  -- the occurrences from c - h on
  abbrev pub still_ahead : Place → List Place
  still_ahead c = since w t (c - kept_at w t low c)

  module _ (c : Place) (below : low ≤ c) (more : c < length t) where
    abbrev h : ℕ
    h = kept_at w t low c

    abbrev h' : ℕ
    h' = kept_at w t low (suc c)

    abbrev end : ℕ
    end = longest_end w (heard w h (letter t c ∷ []))

    fits : (h < length w) × (low + h ≤ c)
    fits = (kept-short w t low c some-letter, kept-past w t low c below (omega arith) some-letter)

    -- the word stands nowhere before what is kept behind the letter, unless it ends there
    none_before : (j : Place) → low ≤ j → suc c < j + length w → j < suc c - h' → stands w t j ≡ true → ⊥
    none_before j l b u g = omega (arith, standing_kept w t low (suc c) (omega arith) more j l (omega arith) b g)

    letter-finds : length w ≤ end → still_ahead c ≡ found_at w t low (suc c) ++ still_ahead (suc c)
    letter-finds all =
        let ends = whole-ends w t some-letter below more all in
        let told = ends-told w t low (suc c) ends in
        let s = suc c - length w in
        let place : c - h ≡ s = omega (arith, whole-size w t some-letter below more all, fits.1) in
        let passed = since-later w t (suc s) (suc c - h') (omega (arith, kept-short w t low (suc c) some-letter, told.0))
        (λ j l u g. none_before j (omega (arith, told.0)) (omega (arith, told.0)) u g) in
        rw (place, ends) (since-here w t s (omega (arith, told.0)) told.1 ∙ ap (λ (r : List Place). s ∷ r) passed)

    letter-passes : end < length w → still_ahead c ≡ found_at w t low (suc c) ++ still_ahead (suc c)
    letter-passes less = test_cases (ends_at w t low (suc c))
        (λ q. absurd (short_ends_not w t some-letter below more less q))
        (λ q. rw q (since-later w t (c - h) (suc c - h') (omega (arith, kept_grows w t some-letter below more)) passed))
      where
        passed : (j : Place) → c - h ≤ j → j < suc c - h' → stands w t j ≡ true → ⊥
        passed j l u g = by_cases (dec_lt (suc c) (j + length w))
            (λ b. none_before j (omega (arith, fits.1)) b u g)
            (λ b.
            let place : j ≡ suc c - length w = omega (arith, fits.0) in
            short_ends_not w t some-letter below more less
            (told-ends w t low (suc c) (omega (arith, fits.1)) (rw place at g)))

    letter-starts : still_ahead c ≡ found_at w t low (suc c) ++ still_ahead (suc c)
    letter-starts = by_cases (dec_lt end (length w)) letter-passes (λ b. letter-finds (omega arith))

  pub forward-starts : (e : Place) (k : ℕ) (c : Place) → k + c ≡ length t → low ≤ c
      → let r = forward w t low e k c in still_ahead c ≡ r.starts ++ still_ahead r.place
  forward-starts e k c s = forward-induction w t low e Finds (λ c q b. refl) (λ c l q b. refl) one k c s
    where
      Finds : Place → Advance → Type 0
      Finds c r = low ≤ c → still_ahead c ≡ r.starts ++ still_ahead r.place

      one : (c : Place) (r : Advance) → c < length t → goes_on w t low e c ≡ true → Finds (suc c) r
          → Finds c (one_letter (found_at w t low (suc c)) r)
      one c r l q rec b =
          letter-starts c b l
          ∙ ap (λ (x : List Place). found_at w t low (suc c) ++ x) (rec (omega arith))
          ∙ sym (append_assoc (found_at w t low (suc c)) r.starts _)
