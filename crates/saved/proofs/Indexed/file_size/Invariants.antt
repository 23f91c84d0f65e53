use Rattle.saved.proofs.Sizing.{Sizing}
use Rattle.saved.proofs.Indexed.file_size.Given as goal

abbrev pub invariant-loop-slot : goal.invariant-loop-slot
invariant-loop-slot l =
    Sizing l.self.word.now l.size l.from.0 l.slot
