-- THE LOCAL ROW: its first entries, as many as the word has letters, are lent to be filled with borders, and then to be read.
use mathlib.Core.Path.{◌≡◌, sym, ap, ◌∙◌}
use mathlib.Core.List.{List, ◌++◌}
use Prim.Native.Nat.{ℕ, ◌≤◌}
use native.Mathlib.Omega.{arith}
use lib.ListN.{length, take, length-append}
use lib.Seq.{take_at}
use Rattle.words.specs.Words.{Word}
use Rattle.border.specs.Borders.{borders}
use Rattle.border.proofs.Filling.{borders-length}

-- P was filled, R stands behind it
module _ (w : Word) {P : List ℕ} (R : List ℕ) (are : P ≡ borders w) where
  size : length P ≡ length w
  size = ap length are ∙ borders-length w

  pub row_fits : length w ≤ length (P ++ R)
  row_fits = omega (arith, size, length-append P R)

  pub row-lent : take (length w) (P ++ R) ≡ borders w
  row-lent = take_at P R (length w) size ∙ are

  pub row-size : length w ≡ length (take (length w) (P ++ R))
  row-size = sym (ap length row-lent ∙ borders-length w)
