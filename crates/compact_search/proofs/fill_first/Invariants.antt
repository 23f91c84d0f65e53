use Rattle.compact_search.specs.Preparing.{FirstEntries}
use Rattle.compact_search.proofs.fill_first.Given as goal

abbrev pub invariant-loop-c : goal.invariant-loop-c
invariant-loop-c l = FirstEntries l.column l.dense l.first l.c
