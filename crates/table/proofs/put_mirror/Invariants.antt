use Rattle.words.specs.Words.{mirror}
use Rattle.words.proofs.Loops.{Copied}
use Rattle.table.proofs.put_mirror.Given as goal

abbrev pub invariant-loop-i : goal.invariant-loop-i
invariant-loop-i l = Copied l.initial.row (mirror l.word) l.row l.i
