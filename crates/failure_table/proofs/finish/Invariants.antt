use Rattle.failure_table.specs.Building.{word_in, Stage}
use Rattle.failure_table.proofs.finish.Given as goal

abbrev pub invariant-loop-i : goal.invariant-loop-i
invariant-loop-i l = Stage (word_in l.fn.table l.m) l.m l.table l.used l.i
