use Rattle.table.specs.Table.{read_word}
use Rattle.storacle_table.proofs.Columns.{PutUpTo}
use Rattle.storacle_table.proofs.put_columns.Given as goal

abbrev pub invariant-loop-i : goal.invariant-loop-i
invariant-loop-i l = PutUpTo (read_word l.m l.initial.table) l.table l.m l.i
