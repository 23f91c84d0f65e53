-- WHAT TURBO SAYS: the whole outcome as a function of what is lent. It is the outcome of a search, its refusals, room and list included,
-- but that the letters read are those of the Turbo steps.
--
--   found word text          how often the word stands in the text, and the letters that the Turbo steps read
--   counting f a             the answer a, with f as what was found
--   turbo_says word text T F the outcome
--
-- 02, 'Linear on hostile text'; 01, 'When the library says no'.
use Rattle.std.specs.Prelude.{List, ℕ, length}
use Rattle.words.specs.Words.{Word, Place, occurrences}
use Rattle.finds.specs.declared.Tally.{Tally}
use Rattle.turbo_steps.specs.Turbo.{turbo}
use Rattle.answers.specs.Answers.{Answer, done, refused, refused_at}
use Rattle.marks.specs.Search.{Outcome, outcome, search_says}

abbrev pub found : Word → Word → Tally
found word text = record { count = length (occurrences word text); letters = (turbo word text).letters }

abbrev pub counting : Tally → Answer Tally → Answer Tally
counting f (done g) = done f
counting f (refused n) = refused n
counting f (refused_at n p) = refused_at n p

unfoldable pub turbo_says : Word → Word → List ℕ → List Place → Outcome
turbo_says word text T F =
    let o = search_says word text T F in
    outcome (counting (found word text) o.answer) o.tables o.finds
