-- WHAT IS KEPT AND FOUND AT A PLACE, of the letters between `low` and c. A place from `low` on at which the word stands, but does not yet
-- end, starts no sooner than what is kept. With one letter more only what is kept matters: the longest beginning that ends with the letter
-- says what is kept then, and whether the word ends there.
use mathlib.Core.Path.{◌≡◌, sym, ap, ◌∙◌}
use mathlib.Core.Bool.{true}
use mathlib.Core.List.{[], ◌∷◌, ◌++◌, map, append-nil, Memᴰ}
use Prim.Native.Nat.{ℕ, suc, ◌+◌, ◌-◌, ◌≤◌, ◌<◌}
use native.Mathlib.Nat.{le_refl, zero-add}
use native.Mathlib.Omega.{arith}
use lib.ListN.{length, get_or, length-append}
use lib.Seq.{get_or-append-add, ext_get_or}
use lib.Dec.{leb}
use borrow.Author.Tests.{leb-true, le-leb}
use Rattle.words.specs.Words.{Word, Place, letter, part, stands, occurrences}
use Rattle.words.proofs.Lists.{and_true, entry_in}
use Rattle.words.proofs.Words.{part_length, part_at, part_snoc, part_of_part}
use Rattle.words.proofs.Occurrences.{stands-letters, occurrence_stands, standing_occurs}
use Rattle.border.specs.Borders.{longest_border, longest_end}
use Rattle.pieces.specs.Kept.{kept, heard}
use Rattle.pieces.proofs.Kept.{kept_shorter, kept_closing, kept-within, kept-longest}
use Rattle.pieces.proofs.OnlyKept.{kept-goes_on, finds_go_on}
use Rattle.pieces.proofs.OneLetter.{short-kept, short-finds, whole_length, whole-kept, whole-finds}
use Rattle.turbo_steps.specs.Turbo.{between, kept_at, ends_at}

-- ── Ends, and the word itself ──────────────────────────────────────────────

module _ (w t : Word) (low c : Place) where
  pub ends-told : ends_at w t low c ≡ true → (low + length w ≤ c) × (stands w t (c - length w) ≡ true)
  ends-told e =
      let both = and_true {a = leb (low + length w) c} {b = stands w t (c - length w)} e in
      (leb-true _ _ both.0, both.1)

  pub told-ends : low + length w ≤ c → stands w t (c - length w) ≡ true → ends_at w t low c ≡ true
  told-ends h e = rw (le-leb (low + length w) c h, e)

-- ── Between two places ─────────────────────────────────────────────────────

module _ (w t : Word) (low c : Place) (below : low ≤ c) (inside : c ≤ length t) where
  between-length : length (between t low c) ≡ c - low
  between-length = part_length t low (c - low) (omega arith)

  -- a place where the word stands is one of the text
  between-stands : (q : Place) → low + q + length w ≤ c → stands w (between t low c) q ≡ stands w t (low + q)
  unfolding stands
  between-stands q h = rw (part_of_part t low (c - low) q (length w) (omega arith) (omega arith))

  pub kept-past : 1 ≤ length w → low + kept_at w t low c ≤ c
  kept-past some-letter = omega (arith, kept-within w (between t low c) some-letter, between-length)

  -- where the word stands at j and ends behind c, no less than its letters up to there is kept
  pub standing_kept : (j : Place) → low ≤ j → j ≤ c → c < j + length w → stands w t j ≡ true → c - j ≤ kept_at w t low c
  standing_kept j l u b e = kept-longest w (between t low c) (omega arith) (record {
    start = j - low;
    sum = omega (arith, between-length);
    same = λ i h.
        let q : low + (j - low + i) ≡ j + i = omega arith in
        part_at t low (c - low) (j - low + i) (omega arith)
        ∙ ap (letter t) q
        ∙ stands-letters w t j e i (omega arith);
  })

  -- what is kept is the beginning of the word that ends at c
  pub kept-ends : 1 ≤ length w → part t (c - kept_at w t low c) (kept_at w t low c) ≡ part w 0 (kept_at w t low c)
  kept-ends some-letter =
      let y = between t low c in
      let h = kept_at w t low c in
      let fits = kept-past some-letter in
      let C = kept_closing w y some-letter in
      let short : h ≤ length w = omega (arith, kept_shorter w y some-letter) in
      let size = part_length t (c - h) h (omega (arith, fits)) in
      ext_get_or 0 _ _ (size ∙ sym (part_length w 0 h (omega (arith, short)))) (λ i l.
      let less : i < h = rw size at l in
      let place : c - h + i ≡ low + (C.start + i) = omega (arith, C.sum, between-length, fits) in
      part_at t (c - h) h i less
      ∙ ap (letter t) place
      ∙ sym (part_at t low (c - low) (C.start + i) (omega (arith, C.sum, between-length)))
      ∙ C.same i less
      ∙ sym (part_at w 0 h i less ∙ ap (letter w) (zero-add i)))

  -- and no longer one that is short of the word ends there and starts no sooner than low
  pub kept_is_longest : (k : ℕ) → k < length w → low + k ≤ c → part t (c - k) k ≡ part w 0 k → k ≤ kept_at w t low c
  kept_is_longest k short fits e = kept-longest w (between t low c) short (record {
    start = c - low - k;
    sum = omega (arith, between-length);
    same = λ i l.
        let place : low + (c - low - k + i) ≡ c - k + i = omega arith in
        part_at t low (c - low) (c - low - k + i) (omega arith)
        ∙ ap (letter t) place
        ∙ sym (part_at t (c - k) k i l)
        ∙ ap (λ (p : Word). letter p i) e
        ∙ part_at w 0 k i l
        ∙ ap (letter w) (zero-add i);
  })

-- it is short of all of the word
pub kept-short : (w t : Word) (low c : Place) → 1 ≤ length w → kept_at w t low c < length w
kept-short w t low c = kept_shorter w (between t low c)

-- nothing is kept where no letter stands between
pub kept_fresh : (w t : Word) (c : Place) → 1 ≤ length w → c ≤ length t → kept_at w t c c ≡ 0
kept_fresh w t c some-letter h = omega (arith, kept-past w t c c (le_refl c) h some-letter)

-- ── One letter more ────────────────────────────────────────────────────────

module _ (w t : Word) {low c : Place} (some-letter : 1 ≤ length w) (below : low ≤ c) (more : c < length t) where
  abbrev y : Word
  y = between t low c

  abbrev h : ℕ
  h = kept_at w t low c

  abbrev x : Word
  x = heard w h (letter t c ∷ [])

  between_more : between t low (suc c) ≡ y ++ (letter t c ∷ [])
  between_more =
      let one : suc c - low ≡ suc (c - low) = omega arith in
      let last : low + (c - low) ≡ c = omega arith in
      ap (part t low) one
      ∙ part_snoc t low (c - low) (omega arith)
      ∙ ap (λ (i : Place). y ++ (letter t i ∷ [])) last

  then_kept : kept_at w t low (suc c) ≡ kept w x
  then_kept = ap (kept w) between_more ∙ kept-goes_on w y (letter t c ∷ []) some-letter

  then_found : occurrences w (between t low (suc c)) ≡ occurrences w y ++ map (λ q. length y - h + q) (occurrences w x)
  then_found = ap (occurrences w) between_more ∙ finds_go_on w y (letter t c ∷ []) some-letter

  short : h < length w
  short = kept-short w t low c some-letter

  sizes : (length y ≡ c - low) × (low + h ≤ c)
  sizes = (between-length w t low c below (omega arith), kept-past w t low c below (omega arith) some-letter)

  -- at most one letter more is kept
  pub kept_grows : kept_at w t low (suc c) ≤ suc h
  kept_grows =
      let size = length-append (part w 0 h) (letter t c ∷ []) in
      omega (arith, then_kept, kept-within w x some-letter, size, part_length w 0 h (omega (arith, short)))

  -- not all of the word ends with the letter
  module _ (less : longest_end w x < length w) where
    pub short-keeps : kept_at w t low (suc c) ≡ longest_end w x
    short-keeps = then_kept ∙ short-kept w h short (letter t c) less

    same-finds : occurrences w (between t low (suc c)) ≡ occurrences w y
    same-finds = then_found ∙ rw (short-finds w h short (letter t c) less) (append-nil (occurrences w y))

    pub short_ends_not : ends_at w t low (suc c) ≡ true → ⊥
    short_ends_not e =
        let told = ends-told w t low (suc c) e in
        let q = suc c - length w - low in
        let place : low + q ≡ suc c - length w = omega (arith, told.0) in
        let there = between-stands w t low (suc c) (omega arith) more q (omega (arith, told.0)) in
        let new = between-length w t low (suc c) (omega arith) more in
        let m = standing_occurs w (between t low (suc c)) q (omega (arith, new, told.0)) (there ∙ ap (stands w t) place ∙ told.1) in
        let old = occurrence_stands w y q (rw same-finds at m) in
        omega (arith, old.0, sizes.0, told.0)

  -- all of it does
  module _ (all : length w ≤ longest_end w x) where
    pub whole-size : suc h ≡ length w
    whole-size = whole_length w h short (letter t c) all

    pub whole-keeps : kept_at w t low (suc c) ≡ longest_border w
    whole-keeps = then_kept ∙ whole-kept w h short (letter t c) all

    -- where it starts, counted from low
    abbrev start : Place
    start = length y - h + 0

    last-find : Memᴰ start (occurrences w (between t low (suc c)))
    last-find =
        let l = occurrences w y in
        let last : get_or (l ++ (start ∷ [])) (length l + 0) 0 ≡ start = get_or-append-add l (start ∷ []) 0 0 in
        rw (then_found, whole-finds w h short (letter t c) all)
        (rw last at (entry_in (l ++ (start ∷ [])) (length l + 0) 0 (omega (arith, length-append l (start ∷ [])))))

    pub whole-ends : ends_at w t low (suc c) ≡ true
    whole-ends =
        let there = occurrence_stands w (between t low (suc c)) start last-find in
        let place : low + start ≡ suc c - length w = omega (arith, whole-size, sizes.0, sizes.1) in
        let fits : low + start + length w ≤ suc c = omega (arith, whole-size, sizes.0, sizes.1) in
        told-ends w t low (suc c) (omega (arith, whole-size, sizes.1))
        (ap (stands w t) (sym place) ∙ sym (between-stands w t low (suc c) (omega arith) more start fits) ∙ there.1)
