-- `prepared::lay_out` meets its contract: the columns so far stay apart, and end before the next one.
use native.Mathlib.Omega.{arith}
use Rattle.prepared.proofs.Parting.{columns_more}
use Rattle.prepared.proofs.lay_out.Goals.{then-column-c-eq0+else-next-rows, else-column-c-eq0}
use Rattle.prepared.proofs.lay_out.Goals as goal

pub loop-letter-preserved : goal.loop-letter-preserved
loop-letter-preserved c =
    elim c.if-column-c-eq0.branch [
      | then-column-c-eq0+else-next-rows w ↦
          rw (w.column-is, w.next-is)
          (columns_more c.loop-letter.invariant.0 (omega arith), omega (arith, w.if-next-rows.false))
      | else-column-c-eq0 w ↦ rw (w.column-is, w.next-is) c.loop-letter.invariant
    ]
