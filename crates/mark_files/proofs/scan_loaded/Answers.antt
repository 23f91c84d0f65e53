-- `mark_files::scan_loaded` meets its contract: the spare row is zero before and after it is scratch, so the table is as it was.
use mathlib.Core.Path.{◌≡◌}
use mathlib.Core.List.{List}
use Prim.Native.Nat.{ℕ}
use lib.ListN.{replicate}
use Rattle.table.specs.Formed.{Formed}
use Rattle.table.specs.Spare.{Spare}
use Rattle.table.proofs.Spare.{with_row, spare_kept}
use Rattle.mark_files.proofs.scan_loaded.Goals as goal

module _ {L : List ℕ} {m : ℕ} (P : Formed L m × Spare L m) {r : List ℕ} (zeros : r ≡ replicate m 0) where
  kept : with_row m L r ≡ L
  kept = spare_kept P.1 P.0.enough zeros

  still_formed : Formed (with_row m L r) m
  still_formed = rw kept P.0

pub invariant_of-table : goal.invariant_of-table
invariant_of-table c = record { formed = still_formed c.requires.formed c.new-sought.ensures.row }

pub returns : goal.returns
returns c =
    let as_before = kept c.requires.formed c.new-sought.ensures.row in
    let tally = rw (as_before, c.new-sought.ensures.word) at c.scan.ensures.tally in
    let finds = rw (as_before, c.new-sought.ensures.word) at c.scan.ensures.finds in
    (tally, finds, as_before)
