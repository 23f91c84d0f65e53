-- EVERY LENGTH IS KEPT of some text, as long as it is shorter than the word and the text no shorter than it: a letter that the word lacks,
-- as often as is wanted, of which nothing is kept; and behind that the word's first letters, of which all is.
use mathlib.Core.Path.{◌≡◌, sym, ap, ◌∙◌}
use mathlib.Core.Logic.{◌≢◌}
use mathlib.Core.List.{◌++◌}
use Prim.Native.Nat.{ℕ, zero, suc, ◌+◌, ◌-◌, ◌≤◌, ◌<◌}
use native.Mathlib.Omega.{arith}
use lib.ListN.{length, replicate, length-append, length-replicate, get_or-replicate}
use Rattle.words.specs.Words.{Word, Letter, letter, part}
use Rattle.words.proofs.Words.{part_length}
use Rattle.border.proofs.Closing.{Closing}
use Rattle.pieces.specs.Kept.{kept, heard}
use Rattle.pieces.proofs.Kept.{kept-one, kept_beginning}
use Rattle.pieces.proofs.OnlyKept.{kept-goes_on}

module _ (w : Word) (x : Letter) (lacks : (i : ℕ) → i < length w → letter w i ≢ x) where
  -- nothing is kept of a letter that the word lacks
  kept-none : (n : ℕ) → 1 ≤ length w → kept w (replicate n x) ≡ 0
  kept-none n h = kept-one w (replicate n x) 0 h nothing none
    where
      nothing : Closing w 0 (replicate n x)
      nothing = record { start = length (replicate n x); sum = omega arith; same = λ i l. absurd (omega arith) }

      none : (j : ℕ) → j < length w → Closing w j (replicate n x) → j ≤ 0
      none zero l C = omega arith
      none (suc j) l C =
          let inside : C.start + j < n = omega (arith, C.sum, length-replicate n x) in
          absurd (lacks j (omega arith) (sym (C.same j (omega arith)) ∙ get_or-replicate n (C.start + j) x 0 inside))

  module _ (n q : ℕ) (short : q < length w) (enough : q ≤ n) where
    abbrev pub reaching : Word
    reaching = replicate (n - q) x ++ part w 0 q

    pub reaching-length : length reaching ≡ n
    reaching-length =
        length-append (replicate (n - q) x) (part w 0 q)
        ∙ omega (arith, length-replicate (n - q) x, part_length w 0 q (omega arith))

    pub reaching-keeps : kept w reaching ≡ q
    reaching-keeps =
        kept-goes_on w (replicate (n - q) x) (part w 0 q) (omega arith)
        ∙ ap (λ (k : ℕ). kept w (heard w k (part w 0 q))) (kept-none (n - q) (omega arith))
        ∙ kept_beginning w q short
