use Rattle.prepared.proofs.Marking.{Following}
use Rattle.prepared.proofs.followers.Given as goal

abbrev pub invariant-loop-c : goal.invariant-loop-c
invariant-loop-c l = Following l.table.entries.now l.table.m l.flags l.c
