-- `two_lists::note` meets its contract: where both lists have an entry left the find stands in it (`both_inside`), else one of them is
-- full (`past`).
use mathlib.Core.Path.{refl}
use native.Mathlib.Omega.{arith}
use Rattle.two_lists.proofs.Filling.{both_inside, past}
use Rattle.two_lists.proofs.note.Goals.{then-count-min, else-count-min}
use Rattle.two_lists.proofs.note.Goals as goal

pub returns : goal.returns
returns c = (
  refl,
  λ l j S G e f b. elim c.if-count-min.branch [
    | then-count-min w ↦
        rw (w.starts-is, w.tags-is)
        (both_inside e f b _ _ (omega (arith, w.if-count-min.true)) (omega (arith, w.if-count-min.true)))
    | else-count-min w ↦ rw (w.starts-is, w.tags-is) (past e f b _ _ (omega (arith, w.if-count-min.false)))
  ],
)
