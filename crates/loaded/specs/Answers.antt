-- What the answers of code mean: what a file shows, or the number of the fault that shows in it and the place.
--
--   head_of r      a file up to its letters
--   pair_of r      two numbers
--   ending_of r    where its arrows end, which are the word's own
--   verdict_of r   the same where nothing may follow
use Rattle.std.specs.Prelude.{ℕ, Result, Ok, Err}
use Rattle.answers.specs.declared.Fault.{Fault}
use Rattle.answers.specs.Answers.{flaw_number}
use Rattle.loaded.specs.Load.{Front, letters, stop, Two, both, neither, Ending, behind, broken, Verdict, right, wrong}
use Rattle.loaded.specs.declared.Head.{Head}
use Rattle.loaded.specs.declared.Pair.{Pair}

abbrev pub head_of : Result Head Fault → Front
head_of (Ok h) = letters h.letters h.at
head_of (Err f) = stop (flaw_number f.flaw) f.place

abbrev pub pair_of : Result Pair Fault → Two
pair_of (Ok p) = both p.up p.over p.next.at
pair_of (Err f) = neither (flaw_number f.flaw) f.place

abbrev pub ending_of : Result ℕ Fault → Ending
ending_of (Ok i) = behind i
ending_of (Err f) = broken (flaw_number f.flaw) f.place

abbrev pub verdict_of : Result (Unit {0}) Fault → Verdict
verdict_of (Ok u) = right
verdict_of (Err f) = wrong (flaw_number f.flaw) f.place
