use Rattle.words.specs.Lists.{at}
use Rattle.chains.specs.Letters.{Firsts}
use Rattle.chains.proofs.Grown.{Grown}
use Rattle.chains.proofs.add_letters.Given as goal

abbrev pub invariant-loop-t : goal.invariant-loop-t
invariant-loop-t l = Grown l.initial.table l.m l.table l.t l.used × Firsts (at l.initial.table) l.t l.firsts
