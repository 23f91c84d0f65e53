-- SPARE ROWS: those of a word's table are zero, so a row of zeros in the place of the first leaves a table as it was.
use mathlib.Core.Path.{◌≡◌, sym, ap, ◌∙◌}
use mathlib.Core.List.{List}
use Prim.Native.Nat.{ℕ, ◌+◌, ◌*◌, ◌-◌, ◌≤◌, ◌<◌}
use native.Mathlib.Numerals.{add-one}
use native.Mathlib.Omega.{arith}
use lib.ListN.{length, take, replicate, length-replicate}
use lib.Seq.{get_or-take, ext_get_or}
use borrow.Rule.Slice.PartMut.{put_mid, put_same}
use Rattle.words.specs.Lists.{at}
use Rattle.words.specs.Words.{Word, part}
use Rattle.words.proofs.Words.{part_length, part_at}
use Rattle.words.proofs.Loops.{zeros-at}
use Rattle.table.specs.Table.{room, table_of}
use Rattle.table.specs.Spare.{Spare}
use Rattle.table.proofs.Rows.{row_4}

-- those of a word's table
pub table_spare : (p : Word) → Spare (table_of p) (length p)
unfolding table_of
table_spare p = record { zeros = λ i h. rw (add-one (length p)) (row_4 p _ _ i (omega arith)) }

-- those of a room that starts with such a table
pub spare_more : {T : List ℕ} {m : ℕ} → Spare (take (room m) T) m → Spare T m
spare_more {T} {m} S = record { zeros = λ i h. sym (get_or-take (room m) T (4 * (m + 1) + i) 0 (omega arith)) ∙ S.zeros i h }

-- the room T once r has the place of the first m entries of row 4
abbrev pub with_row : ℕ → List ℕ → List ℕ → List ℕ
with_row m T r = put_mid (4 * (m + 1)) (4 * (m + 1) + m - 4 * (m + 1)) T r

-- zeros there change nothing
pub spare_kept : {T : List ℕ} {m : ℕ} → Spare T m → room m ≤ length T → {r : List ℕ} → r ≡ replicate m 0 → with_row m T r ≡ T
spare_kept {T} {m} S enough e =
    let few : 4 * (m + 1) + m - 4 * (m + 1) ≡ m = omega arith in
    rw few (ap (put_mid (4 * (m + 1)) m T) (e ∙ sym zeros) ∙ put_same (4 * (m + 1)) m T)
  where
    size : length (part T (4 * (m + 1)) m) ≡ m
    size = part_length T (4 * (m + 1)) m (omega arith)

    zeros : part T (4 * (m + 1)) m ≡ replicate m 0
    zeros = ext_get_or 0 _ _ (size ∙ sym (length-replicate m 0)) (λ i l. zero i (rw size at l))
      where
        zero : (i : ℕ) → i < m → at (part T (4 * (m + 1)) m) i ≡ at (replicate m 0) i
        zero i l = part_at T (4 * (m + 1)) m i l ∙ S.zeros i (omega arith) ∙ sym (zeros-at m i)
