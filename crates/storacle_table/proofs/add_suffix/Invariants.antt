use Rattle.table.specs.Table.{read_word}
use Rattle.storacle_table.proofs.Walking.{Walking}
use Rattle.storacle_table.proofs.add_suffix.Given as goal

abbrev pub invariant-loop-k : goal.invariant-loop-k
invariant-loop-k l = Walking (read_word l.m l.initial.table) l.i l.table l.x.0 l.k
