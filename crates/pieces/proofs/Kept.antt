-- Laws of `kept`: it is shorter than the word, the text ends with it, and nothing shorter than the word that the text ends with is longer;
-- so it is the one length of which this is true. Letters before a text change nothing of it. Of some texts it is known: of none, of the
-- word's beginnings, of those that end with the word.
use mathlib.Core.Path.{◌≡◌, refl, sym, ap, ◌∙◌}
use mathlib.Core.Bool.{true}
use mathlib.Core.List.{[], ◌++◌}
use Prim.Native.Nat.{ℕ, ◌+◌, ◌-◌, ◌≤◌, ◌<◌}
use native.Mathlib.Nat.{zero-add}
use native.Mathlib.Omega.{arith}
use lib.ListN.{length, length-append}
use lib.Seq.{get_or-append-add}
use Rattle.words.specs.Words.{Word, letter, part}
use Rattle.words.proofs.Words.{part_length, part_at}
use Rattle.border.specs.Borders.{closes, longest_border}
use Rattle.border.proofs.Longest.{longest-below, longest-passes, none-longer, longest-one}
use Rattle.border.proofs.Closing.{Closing, closes_closing, closing_closes, nothing-closes}
use Rattle.pieces.specs.Kept.{kept}

module _ (w t : Word) where
  pub kept-closes : closes w (kept w t) t ≡ true
  unfolding kept
  kept-closes = longest-passes (λ k. closes w k t) (nothing-closes w t) (length w)

  module _ (some-letter : 1 ≤ length w) where
    pub kept_shorter : kept w t < length w
    unfolding kept
    kept_shorter = omega (arith, longest-below (λ k. closes w k t) (length w))

    pub kept_closing : Closing w (kept w t) t
    kept_closing = closes_closing w t (kept w t) (omega (arith, kept_shorter)) kept-closes

    pub kept-within : kept w t ≤ length t
    kept-within = omega (arith, kept_closing.sum)

  pub kept-longest : {k : ℕ} → k < length w → Closing w k t → k ≤ kept w t
  unfolding kept
  kept-longest {k} h C = none-longer (λ k. closes w k t) (length w) k h (closing_closes w t k (omega arith) C)

  pub kept-one : (k : ℕ) → k < length w → Closing w k t → ((j : ℕ) → j < length w → Closing w j t → j ≤ k) → kept w t ≡ k
  unfolding kept
  kept-one k h C most =
      longest-one (λ k. closes w k t) (nothing-closes w t) (length w) k h (closing_closes w t k (omega arith) C)
      (λ j l e. most j l (closes_closing w t j (omega arith) e))

-- ── Letters before ─────────────────────────────────────────────────────────

-- letters before a text change nothing of what it ends with, and of what is kept, as long as nothing kept reaches into them
module _ (w u x : Word) where
  closing_behind : {k : ℕ} → Closing w k x → Closing w k (u ++ x)
  closing_behind {k} C = record { start = length u + C.start; sum = omega (arith, C.sum, length-append u x); same = same }
    where
      same : (i : ℕ) → i < k → letter (u ++ x) (length u + C.start + i) ≡ letter w i
      same i l =
          let q : length u + C.start + i ≡ length u + (C.start + i) = omega arith in
          ap (letter (u ++ x)) q
          ∙ get_or-append-add u x (C.start + i) 0
          ∙ C.same i l

  behind_closing : {k : ℕ} → k ≤ length x → Closing w k (u ++ x) → Closing w k x
  behind_closing {k} h C = record { start = C.start - length u; sum = omega (arith, C.sum, length-append u x); same = same }
    where
      same : (i : ℕ) → i < k → letter x (C.start - length u + i) ≡ letter w i
      same i l =
          let q : length u + (C.start - length u + i) ≡ C.start + i = omega (arith, C.sum, length-append u x) in
          sym (get_or-append-add u x (C.start - length u + i) 0)
          ∙ ap (letter (u ++ x)) q
          ∙ C.same i l

  pub kept_behind_lem : 1 ≤ length w → ((k : ℕ) → k < length w → Closing w k (u ++ x) → k ≤ length x) → kept w (u ++ x) ≡ kept w x
  kept_behind_lem some-letter fits =
      kept-one w (u ++ x) (kept w x) (kept_shorter w x some-letter) (closing_behind (kept_closing w x some-letter))
      (λ k l C. kept-longest w x l (behind_closing (fits k l C) C))

-- ── Some texts ─────────────────────────────────────────────────────────────

-- nothing is kept of no text
pub kept-nothing : (w : Word) → 1 ≤ length w → kept w [] ≡ 0
kept-nothing w h = omega (arith, kept-within w [] h)

-- all is kept of a beginning
pub kept_beginning : (w : Word) (q : ℕ) → q < length w → kept w (part w 0 q) ≡ q
kept_beginning w q h = kept-one w (part w 0 q) q h whole (λ j l C. omega (arith, C.sum, size))
  where
    size : length (part w 0 q) ≡ q
    size = part_length w 0 q (omega arith)

    letters : (i : ℕ) → i < q → letter (part w 0 q) (0 + i) ≡ letter w i
    letters i l = rw (zero-add i) (part_at w 0 q i l ∙ ap (letter w) (zero-add i))

    whole : Closing w q (part w 0 q)
    whole = record { start = 0; sum = omega (arith, size); same = letters }

-- the longest border is kept of the word itself
pub kept_whole : (w : Word) → kept w w ≡ longest_border w
unfolding kept longest_border
kept_whole w = refl

-- and of every text that ends with it
pub find-keeps : (w u : Word) → 1 ≤ length w → kept w (u ++ w) ≡ longest_border w
find-keeps w u h = kept_behind_lem w u w h (λ k l C. omega arith) ∙ kept_whole w
