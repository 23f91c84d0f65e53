use Rattle.compact_fill.specs.Held.{arrows_of, SameSets}
use Rattle.compact_fill.proofs.Starts.{StartsSoFar}
use Rattle.compact_fill.proofs.Filling.few_starts.Given as goal

abbrev pub invariant-loop-i : goal.invariant-loop-i
invariant-loop-i l =
    SameSets l.initial.self l.self
    × StartsSoFar (arrows_of l.initial.self) l.initial.self.m l.x.0 l.initial.self.entries.now l.self.entries.now l.i
