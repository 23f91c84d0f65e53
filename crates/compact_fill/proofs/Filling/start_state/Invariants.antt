use Rattle.compact_fill.specs.Held.{arrows_of, SameSets}
use Rattle.compact_fill.proofs.Starts.{CountedSoFar}
use Rattle.compact_fill.proofs.Filling.start_state.Given as goal

abbrev pub invariant-loop-i : goal.invariant-loop-i
invariant-loop-i l =
    SameSets l.initial.self l.self
    × CountedSoFar (arrows_of l.initial.self) l.initial.self.m l.x.0 l.initial.self.entries.now l.self.entries.now l.so_far l.i
