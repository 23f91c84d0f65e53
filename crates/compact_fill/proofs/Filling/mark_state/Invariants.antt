use Rattle.compact_fill.specs.Held.{word_of, SameEntries}
use Rattle.compact_fill.proofs.Marking.{MarkedSome}
use Rattle.compact_fill.proofs.Filling.mark_state.Given as goal

abbrev pub invariant-loop-j : goal.invariant-loop-j
invariant-loop-j l =
    SameEntries l.initial.self l.self
    × MarkedSome (word_of l.initial.self) l.x.0 l.initial.self.sets.now l.self.sets.now l.j
