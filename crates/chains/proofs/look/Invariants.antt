use Rattle.chains.proofs.Looking.{Chasing}
use Rattle.chains.proofs.look.Given as goal

abbrev pub invariant-loop-slot : goal.invariant-loop-slot
invariant-loop-slot l = Chasing l.table l.n l.from l.on l.slot

abbrev pub decreases-loop-slot : goal.decreases-loop-slot
decreases-loop-slot l = l.slot
