-- Rows with zeros behind what they hold: their length, what is read back from them, and that code's rows of zeros whose first entries were
-- filled are such.
use mathlib.Core.Path.{◌≡◌, ◌∙◌}
use mathlib.Core.List.{List, ◌++◌}
use Prim.Native.Nat.{ℕ, ◌-◌, ◌≤◌}
use native.Mathlib.Omega.{arith}
use lib.ListN.{length, take, drop, replicate, length-append, length-replicate}
use lib.Seq.{take-append_seam}
use Rattle.words.specs.Limits.{longest_streamed}
use Rattle.words.proofs.Limits.{streamed_limit}
use Rattle.words.proofs.Lists.{drop-replicate}
use Rattle.stream.specs.Searchers.{row_of}

pub zeros-behind : (l : List ℕ) {P : List ℕ} {m : ℕ} → P ≡ l → length l ≡ m → P ++ drop {A = ℕ} m (replicate 64 0) ≡ row_of l
zeros-behind l {P} {m} e n = rw (e, drop-replicate 64 m 0, n, streamed_limit)

pub row-length : (l : List ℕ) → length l ≤ longest_streamed → length (row_of l) ≡ 64
row-length l h = length-append l _ ∙ omega (arith, length-replicate {A = ℕ} (longest_streamed - length l) 0, streamed_limit)

pub row_read : (l : List ℕ) → take (length l) (row_of l) ≡ l
row_read l = take-append_seam l _
