-- WHAT SAVE SAYS: the whole outcome as a function of what is lent.
--
--   Outcome              the answer, and the room and the output as they are left
--   saved_as r T O       the outcome of code that answers r and leaves T and O
--   save_within e n word T O
--                        what it must be in the edition e, where a word may have n letters: 1, 2, 17, 3, 12 in that order, else the file
--                        at the start of the output and its length, and the word's table in the room. 12 leaves zeros in the word's part
--                        of the room; the output is not touched by a refusal
--   save_in e word T O   the same with the limit that there is
--   save_says word T O, save_checked_says word T O
--                        the same in edition 1, and in edition 2
--
-- 01, 'The file on disk' and 'When the library says no'; 02, 'One-letter marks' and 'Edition 2 with a check'; demands 1 and 3.
use Rattle.std.specs.Prelude.{cond, List, ◌++◌, ℕ, length, drop, replicate, ltb}
use Rattle.words.specs.Words.{Word}
use Rattle.words.specs.Limits.{longest_word, least_saved}
use Rattle.table.specs.Table.{room, table_of}
use Rattle.editions.specs.Editions.{Edition, plain, checked, spell_in}
use Rattle.std.specs.Prelude.{Result}
use Rattle.answers.specs.declared.Refusal.{Refusal}
use Rattle.answers.specs.Answers.{Answer, done, refused, size_answer, empty_word, long_word, short_word, short_room, short_output}

pub record Outcome : Type 0 where
  pub answer : Answer ℕ
  pub tables : List ℕ
  pub output : List ℕ

abbrev pub outcome : Answer ℕ → List ℕ → List ℕ → Outcome
outcome a T O = record { answer = a; tables = T; output = O }

abbrev pub saved_as : Result ℕ Refusal → List ℕ → List ℕ → Outcome
saved_as r T O = outcome (size_answer r) T O

abbrev pub save_within : Edition → ℕ → Word → List ℕ → List ℕ → Outcome
save_within e n word T O =
    let m = length word in
    let file = spell_in e word in
    cond (ltb m 1) (outcome (refused empty_word) T O)
    (cond (ltb n m) (outcome (refused long_word) T O)
    (cond (ltb m least_saved) (outcome (refused short_word) T O)
    (cond (ltb (length T) (room m)) (outcome (refused short_room) T O)
    (cond (ltb (length O) (length file)) (outcome (refused short_output) (replicate (room m) 0 ++ drop (room m) T) O)
    (outcome (done (length file)) (table_of word ++ drop (room m) T) (file ++ drop (length file) O))))))

unfoldable pub save_in : Edition → Word → List ℕ → List ℕ → Outcome
save_in e word T O = save_within e longest_word word T O

abbrev pub save_says : Word → List ℕ → List ℕ → Outcome
save_says word T O = save_in plain word T O

abbrev pub save_checked_says : Word → List ℕ → List ℕ → Outcome
save_checked_says word T O = save_in checked word T O
