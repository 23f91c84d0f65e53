-- LETTERS COPIED into a row of a table: those of a mirror are the word's, counted from its end, and bytes.
use mathlib.Core.Path.{◌≡◌, sym, ap, ◌∙◌}
use Prim.Native.Nat.{ℕ, ◌-◌, ◌<◌}
use native.Mathlib.Omega.{arith}
use lib.ListN.{length, length-reverse}
use Rattle.words.specs.Words.{Word, letter, mirror}
use Rattle.words.proofs.Words.{part-cons, mirror-part}

-- letter i of the mirror stands i letters before the word's last
pub mirror-at : (w : Word) (i : ℕ) → i < length w → letter w (length w - 1 - i) ≡ letter (mirror w) i
mirror-at w i h = ap (λ l. letter l 0)
    (sym (ap mirror (part-cons w j 0 (omega arith))) ∙ mirror-part w j 1 i (omega arith) ∙ part-cons (mirror w) i 0 inside)
  where
    j : ℕ
    j = length w - 1 - i

    inside : i < length (mirror w)
    inside = omega (arith, length-reverse w)

-- a mirror's letters are bytes where the word's are
pub mirror-small : (w : Word) → ((i : ℕ) → letter w i < 256) → (i : ℕ) → i < length w → letter (mirror w) i < 256
mirror-small w small i h = omega (arith, mirror-at w i h, small (length w - 1 - i))
