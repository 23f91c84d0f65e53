use Rattle.chains.specs.Letters.{Resting}
use Rattle.chains.proofs.add_letter.Given as goal

abbrev pub invariant-loop-s : goal.invariant-loop-s
invariant-loop-s l =
    Resting l.n l.t.0 l.c.0 l.zero l.initial.table l.used l.initial.from.0 l.table l.so_far l.from.0

abbrev pub decreases-loop-s : goal.decreases-loop-s
decreases-loop-s l = l.from.0
