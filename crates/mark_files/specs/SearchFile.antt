-- WHAT SEARCH WITH A FILE SAYS: the whole outcome as a function of what is lent.
--
--   Outcome                          the answer, and the word room, the tables and the list as they are left
--   file_searched r R T F            the outcome of code that answers r and leaves R, T and F
--   after_load a text R T F          the outcome once loading has answered a and left R and T
--   after_text o text R T F          4, then that of the outcome o of loading
--   search_file_within n file text R T
--                                    F
--                                    what it must be where a word may have n letters: 4, then as loading; then every occurrence of the
--                                    mirror of the file's word is counted and the first of them are listed, as many as fit, and the
--                                    letters are those of the published steps
--   search_file_says file text R T F the same with the limit that there is
--   plain_search_file_says file text R T F
--                                    the same of a reader that knows edition 1 alone, as all did before edition 2
--
-- 01, 'The file on disk' and 'When the library says no'; 02, 'Edition 2 with a check'; demands 1 to 3.
use Rattle.std.specs.Prelude.{cond, List, ℕ, length, take, ltb}
use Rattle.words.specs.Words.{Word, Place, mirror, occurrences}
use Rattle.words.specs.Limits.{longest_word, longest_text}
use Rattle.finds.specs.Finds.{filled}
use Rattle.finds.specs.declared.Tally.{Tally}
use Rattle.std.specs.Prelude.{Result}
use Rattle.answers.specs.declared.Refusal.{Refusal}
use Rattle.answers.specs.Answers.{Answer, done, refused, refused_at, tally_answer, long_text}
use Rattle.marks.specs.Search.{found}
use Rattle.mark_files.specs.Load
use Rattle.mark_files.specs.Load.{load_within, plain_load_says}

pub record Outcome : Type 0 where
  pub answer : Answer Tally
  pub word : List ℕ
  pub tables : List ℕ
  pub finds : List Place

abbrev pub outcome : Answer Tally → List ℕ → List ℕ → List Place → Outcome
outcome a R T F = record { answer = a; word = R; tables = T; finds = F }

abbrev pub file_searched : Result Tally Refusal → List ℕ → List ℕ → List Place → Outcome
file_searched r R T F = outcome (tally_answer r) R T F

-- the file is loaded: its word has m letters and stands at the start of R
abbrev pub after_load : Answer ℕ → Word → List ℕ → List ℕ → List Place → Outcome
after_load (refused n) text R T F = outcome (refused n) R T F
after_load (refused_at n p) text R T F = outcome (refused_at n p) R T F
after_load (done m) text R T F =
    let word = mirror (take m R) in
    outcome (done (found word text)) R T (filled (occurrences word text) F)

-- 4, then what loading says decides
abbrev pub after_text : Load.Outcome → Word → List ℕ → List ℕ → List Place → Outcome
after_text o text R T F =
    cond (ltb longest_text (length text)) (outcome (refused long_text) R T F) (after_load o.answer text o.word o.tables F)

abbrev pub search_file_within : ℕ → List ℕ → Word → List ℕ → List ℕ → List Place → Outcome
search_file_within n file text R T F = after_text (load_within n file R T) text R T F

unfoldable pub search_file_says : List ℕ → Word → List ℕ → List ℕ → List Place → Outcome
search_file_says file text R T F = search_file_within longest_word file text R T F

unfoldable pub plain_search_file_says : List ℕ → Word → List ℕ → List ℕ → List Place → Outcome
plain_search_file_says file text R T F = after_text (plain_load_says file R T) text R T F
