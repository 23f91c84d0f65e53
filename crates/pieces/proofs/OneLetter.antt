-- ONE LETTER MORE, behind the h letters that are kept: what `border::extend` answers, the longest beginning that ends with it, says what is
-- kept then and whether the word ends there. Where it is all of the word, the letters heard are the word itself.
use mathlib.Core.Path.{◌≡◌, sym, ap, ◌∙◌}
use mathlib.Core.Bool.{true}
use mathlib.Core.List.{[], ◌∷◌}
use Prim.Native.Nat.{ℕ, suc, ◌+◌, ◌≤◌, ◌<◌}
use native.Mathlib.Nat.{zero-add}
use native.Mathlib.Omega.{arith}
use lib.ListN.{length, length-append}
use lib.Seq.{ext_get_or}
use Rattle.words.specs.Words.{Word, Letter, letter, part, stands, occurrences}
use Rattle.words.proofs.Words.{part_length}
use Rattle.words.proofs.Occurrences.{stands-inside, stands-letters, letters_stand, since-start, since-past, since-here, since-later}
use Rattle.border.specs.Borders.{closes, longest_border, longest_end}
use Rattle.border.proofs.Longest.{longest-below, longest-passes, none-longer}
use Rattle.border.proofs.Closing.{Closing, closes_closing, closing_closes, nothing-closes}
use Rattle.pieces.specs.Kept.{kept, heard}
use Rattle.pieces.proofs.Kept.{kept-one, kept_whole}

-- a word stands once in itself
found_in_itself : (w : Word) → 1 ≤ length w → occurrences w w ≡ 0 ∷ []
found_in_itself w h =
    sym (since-start w w)
    ∙ since-here w w 0 (omega arith) (letters_stand w w 0 (omega arith) (λ i l. ap (letter w) (zero-add i)))
    ∙ ap (λ r. 0 ∷ r) (since-past w w 1 (omega arith))

module _ (w : Word) (h : ℕ) (short : h < length w) (c : Letter) where
  abbrev x : Word
  x = heard w h (c ∷ [])

  abbrev end : ℕ
  end = longest_end w x

  x-length : length x ≡ suc h
  x-length = length-append (part w 0 h) (c ∷ []) ∙ omega (arith, part_length w 0 h (omega arith))

  end_most : end ≤ length w
  unfolding longest_end
  end_most = omega (arith, longest-below (λ k. closes w k x) (suc (length w)))

  end_closing : Closing w end x
  unfolding longest_end
  end_closing = closes_closing w x end end_most (longest-passes (λ k. closes w k x) (nothing-closes w x) (suc (length w)))

  end-longest : (k : ℕ) → k ≤ length w → Closing w k x → k ≤ end
  unfolding longest_end
  end-longest k l C = none-longer (λ k. closes w k x) (suc (length w)) k (omega arith) (closing_closes w x k l C)

  -- ── Not all of the word ends with the letter ─────────────────────────────

  module _ (less : end < length w) where
    pub short-kept : kept w x ≡ end
    short-kept = kept-one w x end less end_closing (λ j l C. end-longest j (omega arith) C)

    not_first : stands w x 0 ≡ true → ⊥
    not_first e = omega (arith, end-longest (length w) (omega arith) all)
      where
        all : Closing w (length w) x
        all = record { start = 0; sum = omega (arith, x-length, stands-inside w x 0 (omega arith) e); same = stands-letters w x 0 e }

    pub short-finds : occurrences w x ≡ []
    short-finds =
        sym (since-start w x)
        ∙ since-later w x 0 1 (omega arith) (λ j a b e. let q : j ≡ 0 = omega arith in not_first (rw q at e))
        ∙ since-past w x 1 (omega (arith, x-length))

  -- ── All of it does ───────────────────────────────────────────────────────

  module _ (all : length w ≤ end) where
    starts : (end_closing.start ≡ 0) × (end ≡ length w)
    starts = (omega (arith, end_closing.sum, x-length), omega (arith, end_most))

    pub whole_length : suc h ≡ length w
    whole_length = omega (arith, end_closing.sum, x-length, starts.1)

    is_word : x ≡ w
    is_word = ext_get_or 0 x w (x-length ∙ whole_length) same
      where
        same : (i : ℕ) → i < length x → letter x i ≡ letter w i
        same i l =
            let q : end_closing.start + i ≡ i = omega (arith, starts.0) in
            rw q at (end_closing.same i (omega (arith, x-length, whole_length, starts.1)))

    pub whole-kept : kept w x ≡ longest_border w
    whole-kept = ap (kept w) is_word ∙ kept_whole w

    pub whole-finds : occurrences w x ≡ 0 ∷ []
    whole-finds = ap (occurrences w) is_word ∙ found_in_itself w (omega arith)
