use Rattle.compact_fill.specs.Held.{word_of, SameSets}
use Rattle.compact_fill.proofs.Putting.{PuttingState}
use Rattle.compact_fill.proofs.Filling.put_state.Given as goal

abbrev pub invariant-loop-j : goal.invariant-loop-j
invariant-loop-j l =
    SameSets l.initial.self l.self
    × PuttingState (word_of l.initial.self) l.initial.self.m l.x.0 l.initial.self.entries.now l.self.entries.now l.j
