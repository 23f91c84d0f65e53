-- THE THEOREMS on longest borders, for every word: it is a border, none is longer, and it is shorter than the word; two occurrences that
-- overlap make a border, and a border a text in which two do; a word's mirror has the same.
use mathlib.Core.Path.{◌≡◌, sym, ap, ◌∙◌}
use mathlib.Core.Bool.{true}
use mathlib.Core.List.{◌++◌, reverse-reverse}
use mathlib.Core.Logic.{by_cases}
use Prim.Native.Nat.{ℕ, ◌+◌, ◌-◌, ◌≤◌, ◌<◌}
use native.Mathlib.Nat.{zero-add}
use native.Mathlib.Decide.{dec_lt}
use native.Mathlib.Omega.{arith}
use lib.ListN.{length, length-append, length-reverse, get_or-append}
use lib.Seq.{get_or-append-add}
use Rattle.words.specs.Words.{Word, Place, letter, part, mirror, stands}
use Rattle.words.proofs.Words.{same_true, same_refl, part_length, part_at, mirror-part}
use Rattle.words.proofs.Occurrences.{stands-letters, letters_stand}
use Rattle.border.specs.Borders.{closes, longest_border}
use Rattle.border.proofs.Longest.{longest-below, longest-passes, none-longer}
use Rattle.border.proofs.Closing.{Closing, closes_closing, closing_closes, nothing-closes}

-- ── The longest ────────────────────────────────────────────────────────────

module _ (w : Word) where
  pub border_closes : closes w (longest_border w) w ≡ true
  unfolding longest_border
  border_closes = longest-passes (λ k. closes w k w) (nothing-closes w w) _

  pub border_longest : (k : ℕ) → k < length w → closes w k w ≡ true → k ≤ longest_border w
  unfolding longest_border
  border_longest k h e = none-longer (λ k. closes w k w) _ k (omega arith) e

  pub border_shorter : longest_border w ≤ length w - 1
  unfolding longest_border
  border_shorter = longest-below (λ k. closes w k w) (length w)

-- ── Two occurrences ────────────────────────────────────────────────────────

-- two occurrences that overlap make a border of the letters that they share
pub overlap_closes : (w t : Word) (s d : Place) → d ≤ length w → stands w t s ≡ true → stands w t (s + d) ≡ true
    → closes w (length w - d) w ≡ true
overlap_closes w t s d h e g = closing_closes w w (length w - d) (omega arith) (record { start = d; sum = omega arith; same = same })
  where
    same : (i : ℕ) → i < length w - d → letter w (d + i) ≡ letter w i
    same i l =
        let q : s + (d + i) ≡ s + d + i = omega arith in
        sym (stands-letters w t s e (d + i) (omega arith))
        ∙ ap (letter t) q
        ∙ stands-letters w t (s + d) g i (omega arith)

-- a border makes a text in which two occurrences share it: the word, and behind it what the border lacks of the word
module _ (w : Word) (k : ℕ) (h : k ≤ length w) where
  abbrev lacked : Word
  lacked = part w k (length w - k)

  abbrev pub overlapped : Word
  overlapped = w ++ lacked

  size : length overlapped ≡ length w + (length w - k)
  size = length-append w lacked ∙ ap (λ (n : ℕ). length w + n) (part_length w k (length w - k) (omega arith))

  front : (i : ℕ) → i < length w → letter overlapped i ≡ letter w i
  front i l = get_or-append w lacked 0 i l

  pub overlapped-first : stands w overlapped 0 ≡ true
  overlapped-first = letters_stand w overlapped 0 (omega (arith, size)) (λ i l. ap (letter overlapped) (zero-add i) ∙ front i l)

  pub overlapped-second : closes w k w ≡ true → stands w overlapped (length w - k) ≡ true
  overlapped-second e = letters_stand w overlapped (length w - k) (omega (arith, size)) (λ i l. by i l (dec_lt i k))
    where
      C : Closing w k w
      C = closes_closing w w k h e

      by : (i : ℕ) → i < length w → Dec (i < k) → letter overlapped (length w - k + i) ≡ letter w i
      by i l (yes g) =
          let place : length w - k ≡ C.start = omega (arith, C.sum) in
          front (length w - k + i) (omega arith)
          ∙ ap (λ (a : ℕ). letter w (a + i)) place
          ∙ C.same i g
      by i l (no g) =
          let behind : length w - k + i ≡ length w + (i - k) = omega arith in
          let same : k + (i - k) ≡ i = omega arith in
          ap (letter overlapped) behind
          ∙ get_or-append-add w lacked (i - k) 0
          ∙ part_at w k (length w - k) (i - k) (omega arith)
          ∙ ap (letter w) same

-- ── The mirror ─────────────────────────────────────────────────────────────

mirror-closes : (w : Word) (k : ℕ) → k ≤ length w → closes w k w ≡ true → closes (mirror w) k (mirror w) ≡ true
unfolding closes
mirror-closes w k h e = rw (length-reverse w, parts) (same_refl (part (mirror w) (length w - k) k))
  where
    parts : part (mirror w) 0 k ≡ part (mirror w) (length w - k) k
    parts =
        sym (mirror-part w (length w - k) k 0 (omega arith))
        ∙ ap (λ (p : Word). mirror p) (sym (same_true (part w 0 k) (part w (length w - k) k) e))
        ∙ mirror-part w 0 k (length w - k) (omega arith)

mirror_no_less : (w : Word) → 1 ≤ length w → longest_border w ≤ longest_border (mirror w)
mirror_no_less w h =
    let l = border_shorter w in
    let e = mirror-closes w (longest_border w) (omega arith) (border_closes w) in
    border_longest (mirror w) (longest_border w) (rw (length-reverse w) (omega arith)) e

-- a word and its mirror have the same longest border
pub border_mirror : (w : Word) → longest_border w ≡ longest_border (mirror w)
border_mirror w = by_cases (dec_lt 0 (length w)) some-letter no_letter
  where
    some-letter : 0 < length w → longest_border w ≡ longest_border (mirror w)
    some-letter h =
        let back = mirror_no_less (mirror w) (rw (length-reverse w) h) in
        omega (arith, mirror_no_less w h, rw (reverse-reverse w) at back)

    no_letter : (0 < length w → ⊥) → longest_border w ≡ longest_border (mirror w)
    no_letter h = omega (arith, border_shorter w, border_shorter (mirror w), length-reverse w)
