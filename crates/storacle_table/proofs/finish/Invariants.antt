use Rattle.table.specs.Table.{read_word}
use Rattle.storacle_table.specs.Building.{TableAfter}
use Rattle.storacle_table.proofs.finish.Given as goal

abbrev pub invariant-loop-i : goal.invariant-loop-i
invariant-loop-i l = TableAfter (read_word l.m l.initial.table) l.m l.table l.i
