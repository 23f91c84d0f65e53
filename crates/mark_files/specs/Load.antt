-- WHAT LOAD SAYS: the whole outcome as a function of what is lent.
--
--   Outcome                 the answer, and the word room and the tables as they are left
--   loaded_as r R T         the outcome of code that answers r and leaves R and T
--   judged v w              what the verdict v on its arrows makes of the word w: the outcome in the word's part of both rooms
--   judged_by judge file i m
--                           the same of the m letters that stand in the file from place i on, judged by what is behind them
--   judged_at file i m      the same where either edition is known
--   letters_read judge f file R T
--                           the outcome for a file that shows f up to its letters
--   load_within n file R T  what it must be where a word may have n letters: the first refusal that the file shows up to its letters,
--                           and where; then 3, which shows nowhere; then the first refusal that it shows behind them, and where; else m,
--                           the file's word and its table. A refusal before 3 is passed changes nothing, one after it leaves zeros in
--                           the word's part of both rooms
--   load_says file R T      the same with the limit that there is
--   plain_load_says file R T
--                           the same of a reader that knows edition 1 alone, as all did before edition 2
--
-- 01, 'The file on disk' and 'When the library says no'; 02, 'Where in the file is it broken?' and 'Edition 2 with a check'; demands 1 and
-- 3.
use Rattle.std.specs.Prelude.{◌||◌, cond, List, ◌++◌, ℕ, ◌+◌, length, drop, replicate, ltb}
use Rattle.words.specs.Words.{Word, Place, part}
use Rattle.words.specs.Limits.{longest_word}
use Rattle.table.specs.Table.{room, table_of}
use Rattle.loaded.specs.Load.{Front, letters, stop, front, Verdict, right, wrong, verdict}
use Rattle.editions.specs.Either.{front_either, verdict_either}
use Rattle.std.specs.Prelude.{Result}
use Rattle.answers.specs.declared.Refusal.{Refusal}
use Rattle.answers.specs.Answers.{Answer, done, refused, refused_at, size_answer, short_room}

pub record Outcome : Type 0 where
  pub answer : Answer ℕ
  pub word : List ℕ
  pub tables : List ℕ

abbrev pub outcome : Answer ℕ → List ℕ → List ℕ → Outcome
outcome a R T = record { answer = a; word = R; tables = T }

abbrev pub loaded_as : Result ℕ Refusal → List ℕ → List ℕ → Outcome
loaded_as r R T = outcome (size_answer r) R T

abbrev pub judged : Verdict → Word → Outcome
judged right w = outcome (done (length w)) w (table_of w)
judged (wrong n p) w = outcome (refused_at n p) (replicate (length w) 0) (replicate (room (length w)) 0)

abbrev pub judged_by : (List ℕ → Place → Word → Verdict) → List ℕ → Place → ℕ → Outcome
judged_by judge file i m =
    let w = part file i m in
    judged (judge file (i + m) w) w

abbrev pub judged_at : List ℕ → Place → ℕ → Outcome
judged_at file i m = judged_by verdict_either file i m

abbrev pub letters_read : (List ℕ → Place → Word → Verdict) → Front → List ℕ → List ℕ → List ℕ → Outcome
letters_read judge (stop n p) file R T = outcome (refused_at n p) R T
letters_read judge (letters m i) file R T =
    let o = judged_by judge file i m in
    cond (ltb (length R) m || ltb (length T) (room m)) (outcome (refused short_room) R T)
    (outcome o.answer (o.word ++ drop m R) (o.tables ++ drop (room m) T))

unfoldable pub load_within : ℕ → List ℕ → List ℕ → List ℕ → Outcome
load_within n file R T = letters_read verdict_either (front_either n file 0) file R T

abbrev pub load_says : List ℕ → List ℕ → List ℕ → Outcome
load_says file R T = load_within longest_word file R T

unfoldable pub plain_load_says : List ℕ → List ℕ → List ℕ → Outcome
plain_load_says file R T = letters_read verdict (front file) file R T
