use lib.Seq.{sets}
use Rattle.saved.specs.File.{spell_steps, own_steps}
use Rattle.saved.proofs.Putting.{PuttingSteps}
use Rattle.saved.proofs.Indexed.write_file.Given as goal

abbrev pub invariant-loop-slot : goal.invariant-loop-slot
invariant-loop-slot l =
    let word = l.self.word.now in
    PuttingSteps word (sets l.initial.out l.initial.at.at (spell_steps (own_steps word))) l.out l.at.at l.from.0 l.slot
