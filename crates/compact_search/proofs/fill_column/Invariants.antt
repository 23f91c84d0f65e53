use lib.ListN.{length}
use Rattle.compact.specs.Asked.{arrow_of}
use Rattle.compact_search.proofs.Entries.{Telling}
use Rattle.compact_search.proofs.fill_column.Given as goal

abbrev pub invariant-loop-x : goal.invariant-loop-x
invariant-loop-x l = Telling (arrow_of l.arrows) l.c.0 (length l.initial.column) l.column l.x
