-- A table that code asks.
--
--   ask_of t   what becomes of a letter, by the table t
use Rattle.failure.specs.FailureRule.{Asking}
use Rattle.failure_table.specs.FailureTable.{read_ask}
use Rattle.failure_table.specs.declared.FailureTable.{FailureTable}

abbrev pub ask_of : FailureTable → Asking
ask_of t = read_ask t.m t.entries.now
