use Rattle.table.proofs.Unchaining.{Unchaining}
use Rattle.table.proofs.unchain.Given as goal

abbrev pub invariant-loop-slot : goal.invariant-loop-slot
invariant-loop-slot l = Unchaining l.initial.table l.n l.from l.end l.table l.start l.slot

abbrev pub decreases-loop-slot : goal.decreases-loop-slot
decreases-loop-slot l = l.slot
