use Rattle.table.specs.Table.{read_word}
use Rattle.storacle_table.proofs.SpinePut.{SpinePut}
use Rattle.storacle_table.proofs.put_spine.Given as goal

abbrev pub invariant-loop-x : goal.invariant-loop-x
invariant-loop-x l = SpinePut (read_word l.m l.initial.table) l.table l.x
