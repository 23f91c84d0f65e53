use Rattle.compact_fill.specs.Held.{word_of, arrows_of, SameRows}
use Rattle.compact_fill.proofs.Marking.{MarkedUpTo}
use Rattle.compact_fill.proofs.States.{FilledUpTo}
use Rattle.compact_fill.proofs.Filling.fill_states.Given as goal

abbrev pub invariant-loop-x : goal.invariant-loop-x
invariant-loop-x l =
    SameRows l.initial.self l.self
    × MarkedUpTo (arrows_of l.initial.self) l.initial.self.m l.self.sets.now l.x
    × FilledUpTo (word_of l.initial.self) l.initial.self.m l.initial.self.entries.now l.self.entries.now l.before l.x
