use Rattle.loaded.proofs.Comparing.{Comparing}
use Rattle.loaded.proofs.compare_arrows.Given as goal

abbrev pub invariant-loop-slot : goal.invariant-loop-slot
invariant-loop-slot l = Comparing l.indexed.word.now l.file l.initial.cursor.at l.declared l.cursor.at l.slot l.from.0
