-- WHAT OPENING INTO LENT BYTES SAYS: the whole outcome as a function of what is lent.
--
--   Outcome               the answer, the word's length where there is one, and the bytes as they are left
--   opened r B            the outcome of code that answers r and leaves the bytes B
--   open_bytes_says w B   what it must be: 1, 2, 3 in that order, the bytes as they were; else the bytes of the searcher of w that has
--                         taken nothing, and those behind them as they were
--
-- 02, 'Uploads in pieces'; demand 1.
use Rattle.std.specs.Prelude.{cond, List, [], ◌++◌, ℕ, length, drop, ltb, Result}
use Rattle.words.specs.Limits.{longest_streamed}
use Rattle.words.specs.Words.{Word}
use Rattle.answers.specs.declared.Refusal.{Refusal}
use Rattle.answers.specs.Answers.{Answer, done, refused, size_answer, empty_word, long_word, short_room}
use Rattle.stream.specs.Searchers.{searcher_of}
use Rattle.searcher_bytes.specs.Packing.{searcher_bytes, packed}

pub record Outcome : Type 0 where
  pub answer : Answer ℕ
  pub bytes : List ℕ

abbrev pub outcome : Answer ℕ → List ℕ → Outcome
outcome a B = record { answer = a; bytes = B }

abbrev pub opened : Result ℕ Refusal → List ℕ → Outcome
opened r B = outcome (size_answer r) B

unfoldable pub open_bytes_says : Word → List ℕ → Outcome
open_bytes_says w B =
    cond (ltb (length w) 1) (outcome (refused empty_word) B)
    (cond (ltb longest_streamed (length w)) (outcome (refused long_word) B)
    (cond (ltb (length B) searcher_bytes) (outcome (refused short_room) B)
    (outcome (done (length w)) (packed (searcher_of w []) ++ drop searcher_bytes B))))
