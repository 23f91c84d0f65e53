-- WHAT TAKING A PIECE SAYS: the whole outcome as a function of what is lent.
--
--   Outcome          the answer, the number of finds where there is one, the next searcher, and the list as it is left
--   took r F         the outcome of code that answers r and leaves the list F
--   take_says s v F  what it must be: 16, then 4, with the same searcher and list; else the searcher after the piece, the number of finds
--                    that end in it, and the first of them in the list, as many as fit, its other entries as they were
--
-- 02, 'Uploads in pieces'; demand 1.
use Rattle.std.specs.Prelude.{cond, List, ℕ, ◌+◌, length, ltb}
use Rattle.words.specs.Limits.{longest_text}
use Rattle.words.specs.Words.{Word, Place}
use Rattle.finds.specs.Finds.{filled}
use Rattle.answers.specs.Answers.{Answer, done, refused, size_answer, long_text, unmade}
use Rattle.stream.specs.declared.Searcher.{Searcher}
use Rattle.stream.specs.declared.Taken.{Taken}
use Rattle.stream.specs.Searchers.{after, finds, makeable}

pub record Outcome : Type 0 where
  pub answer : Answer ℕ
  pub next : Searcher
  pub list : List Place

abbrev pub outcome : Answer ℕ → Searcher → List Place → Outcome
outcome a s F = record { answer = a; next = s; list = F }

abbrev pub took : Taken → List Place → Outcome
took r F = outcome (size_answer r.answer) r.next F

unfoldable pub take_says : Searcher → Word → List Place → Outcome
take_says s v F =
    cond (makeable s)
    (cond (ltb longest_text (s.taken + length v)) (outcome (refused long_text) s F)
    (outcome (done (length (finds s v))) (after s v) (filled (finds s v) F)))
    (outcome (refused unmade) s F)
