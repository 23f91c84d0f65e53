-- READING A FILE OF EITHER EDITION. Both have the same fields, and the number of the edition is one byte in both: so up to behind its
-- arrows a file of edition 2 shows what the same bytes show with 1 for that number. Behind them edition 2 has its check: fewer than two
-- bytes is 5, a differing check 13. What follows a file is judged last.
--
--   checked_at s o       whether the file that stands in s from place o on says that it is of edition 2
--   edition_at s o       its edition; 1 where it says something else, which `front_either` refuses
--   as_plain s o         the same bytes with 1 for the number of edition 2
--   front_either n s o   what it shows up to its letters, if a word may have n letters
--   pair_at s i          the number of the two bytes from place i on, low byte first
--   past_check s o e     what the end e of its arrows comes to, where its check stands behind them
--   ending_either s o i w
--                        what it shows from place i on, where the number of arrows stands, for the word w
--   verdict_either s i w the same of a file that is all of s, where nothing may follow
--   ShownEither s o w e  the file that stands in s from place o on shows the word w, and then e behind its letters
--   JudgedEither s w v   loading the file s shows the word w, and then v behind its letters
--
-- 02, 'Edition 2 with a check'; demands 1 and 3.
use Rattle.std.specs.Prelude.{◌≡◌, Bool, cond, List, ℕ, ◌+◌, ◌*◌, ◌-◌, eqb, leb, length, set}
use Rattle.words.specs.Lists.{at}
use Rattle.words.specs.Words.{Word, Place, part}
use Rattle.words.specs.Limits.{longest_word}
use Rattle.loaded.specs.Load.{Front, letters, front_within, Ending, behind, broken, ending, Verdict, closed}
use Rattle.crc.specs.Check.{check}
use Rattle.editions.specs.Editions.{Edition, plain, checked}

abbrev pub checked_at : List ℕ → Place → Bool
checked_at s o = eqb (at s o) 2

abbrev pub edition_at : List ℕ → Place → Edition
edition_at s o = cond (checked_at s o) checked plain

unfoldable pub as_plain : List ℕ → Place → List ℕ
as_plain s o = cond (checked_at s o) (set s o 1) s

abbrev pub front_either : ℕ → List ℕ → Place → Front
front_either n s o = front_within n (as_plain s o) o

abbrev pub pair_at : List ℕ → Place → ℕ
pair_at s i = at s i + at s (i + 1) * 256

abbrev pub past_check : List ℕ → Place → Ending → Ending
past_check s o (broken r p) = broken r p
past_check s o (behind p) =
    cond (leb (p + 2) (length s)) (cond (eqb (pair_at s p) (check (part s o (p - o)))) (behind (p + 2)) (broken 13 p)) (broken 5 (length s))

unfoldable pub ending_either : List ℕ → Place → Place → Word → Ending
ending_either s o i w = cond (checked_at s o) (past_check s o (ending s i w)) (ending s i w)

unfoldable pub verdict_either : List ℕ → Place → Word → Verdict
verdict_either s i w = closed s (ending_either s 0 i w)

-- `place` is where the letters stand
pub record ShownEither (s : List ℕ) (o : Place) (w : Word) (e : Ending) : Type 0 where
  pub place : Place
  pub shown : front_either longest_word s o ≡ letters (length w) place
  pub word : w ≡ part s place (length w)
  pub judged : ending_either s o (place + length w) w ≡ e

pub record JudgedEither (s : List ℕ) (w : Word) (v : Verdict) : Type 0 where
  pub place : Place
  pub shown : front_either longest_word s 0 ≡ letters (length w) place
  pub word : w ≡ part s place (length w)
  pub judged : verdict_either s (place + length w) w ≡ v
