-- WHAT OPENING SAYS: the whole outcome as a function of the word.
--
--   blank           all zero: what is handed out where nothing was opened
--   Outcome         the answer, the word's length where there is one, and the searcher that is handed out
--   opened r        the outcome of code that answers r
--   open_says w     what it must be: 1, then 2, with a blank; else the searcher of w that has taken nothing
--
-- 02, 'Uploads in pieces'; demand 1.
use Rattle.std.specs.Prelude.{cond, [], ℕ, length, ltb}
use Rattle.words.specs.Limits.{longest_streamed}
use Rattle.words.specs.Words.{Word}
use Rattle.answers.specs.Answers.{Answer, done, refused, size_answer, empty_word, long_word}
use Rattle.stream.specs.declared.Searcher.{Searcher}
use Rattle.stream.specs.declared.Opened.{Opened}
use Rattle.stream.specs.Searchers.{row_of, searcher_of}

unfoldable pub blank : Searcher
blank = record { word = row_of []; borders = row_of []; size = 0; keep = 0; taken = 0 }

pub record Outcome : Type 0 where
  pub answer : Answer ℕ
  pub searcher : Searcher

abbrev pub outcome : Answer ℕ → Searcher → Outcome
outcome a s = record { answer = a; searcher = s }

abbrev pub opened : Opened → Outcome
opened r = outcome (size_answer r.answer) r.searcher

unfoldable pub open_says : Word → Outcome
open_says w =
    cond (ltb (length w) 1) (outcome (refused empty_word) blank)
    (cond (ltb longest_streamed (length w)) (outcome (refused long_word) blank)
    (outcome (done (length w)) (searcher_of w [])))
