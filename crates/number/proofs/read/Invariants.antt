use Rattle.number.proofs.Reading.{Reading}
use Rattle.number.proofs.read.Given as goal

abbrev pub invariant-loop-at : goal.invariant-loop-at
invariant-loop-at l = Reading l.file l.start l.at l.value l.unit
