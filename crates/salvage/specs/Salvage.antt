-- WHAT THE SALVAGE LISTER SAYS: the whole outcome as a function of what is lent.
--
--   dot_fit_room                  how many table entries the word `.FIT` needs
--   Outcome                  the answer, and the room and both lists as they are left
--   salvaged r T S K         the outcome of code that answers r and leaves T, S and K
--   salvage_says text T S K  what it must be: 4, 3 in that order; else the rides of the text are counted, the first of their starts and
--                            kinds are in the lists S and K, as many as fit the shorter, the room is as a search for `.FIT` leaves it, and
--                            the rest of the room and of both lists is as it was
--
-- 02, 'Salvage lister'; 01, 'When the library says no'; demand 1.
use Rattle.std.specs.Prelude.{cond, List, ◌++◌, ℕ, length, drop, ltb}
use Rattle.words.specs.Words.{Word, Place, mirror}
use Rattle.words.specs.Limits.{longest_text}
use Rattle.table.specs.Table.{room, table_of}
use Rattle.two_lists.specs.TwoLists.{fit_both, filled_to}
use Rattle.rides.specs.Rides.{dot_fit, rides, starts, kinds}
use Rattle.std.specs.Prelude.{Result}
use Rattle.answers.specs.declared.Refusal.{Refusal}
use Rattle.answers.specs.Answers.{Answer, done, refused, size_answer, long_text, short_room}

abbrev pub dot_fit_room : ℕ
dot_fit_room = room (length dot_fit)

pub record Outcome : Type 0 where
  pub answer : Answer ℕ
  pub tables : List ℕ
  pub starts : List Place
  pub kinds : List ℕ

abbrev pub outcome : Answer ℕ → List ℕ → List Place → List ℕ → Outcome
outcome a T S K = record { answer = a; tables = T; starts = S; kinds = K }

abbrev pub salvaged : Result ℕ Refusal → List ℕ → List Place → List ℕ → Outcome
salvaged r T S K = outcome (size_answer r) T S K

unfoldable pub salvage_says : Word → List ℕ → List Place → List ℕ → Outcome
salvage_says text T S K =
    let R = rides text in
    cond (ltb longest_text (length text)) (outcome (refused long_text) T S K)
    (cond (ltb (length T) dot_fit_room) (outcome (refused short_room) T S K)
    (outcome (done (length R)) (table_of (mirror dot_fit) ++ drop dot_fit_room T)
    (filled_to (fit_both S K) (starts R) S) (filled_to (fit_both S K) (kinds R) K)))
