-- A table that code asks for arrows.
--
--   arrow_of t   where the arrows of the table t lead
use Rattle.std.proofs.Math.Option.{Option}
use Rattle.std.specs.Prelude.{ℕ}
use Rattle.table.specs.Table.{read_arrow}
use Rattle.table.specs.declared.Table.{Table}

abbrev pub arrow_of : Table → ℕ → ℕ → Option ℕ
arrow_of t = read_arrow t.m t.entries.now
