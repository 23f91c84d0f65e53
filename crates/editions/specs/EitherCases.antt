-- THE WAYS OF READING A FILE OF EITHER EDITION, one constructor each, with what the bytes have to be for it. The theorems show that
-- `front_either`, `ending_either` and `verdict_either` go such a way exactly when it applies.
--
--   EditionRead s i        the number of one of the editions is read where the file s begins, and i is the place behind it
--   FrontEither s o f      what the file that stands in s from place o on shows up to its letters: what edition 1 shows of the same bytes,
--                          with 1 for the number of edition 2
--   EndingEither s o i w e what it shows from place i on, where the number of arrows stands, for the word w
--   VerdictEither s i w v  the same of a file that is all of s, where nothing may follow
--
-- 02, 'Edition 2 with a check'.
use Rattle.std.specs.Prelude.{◌≡◌, ◌⊎◌, List, ℕ, ◌+◌, ◌-◌, ◌≤◌, ◌<◌, length}
use Rattle.words.specs.Lists.{at}
use Rattle.words.specs.Words.{Word, Place, part}
use Rattle.loaded.specs.Load.{Front, Ending, behind, broken, Verdict, right, wrong}
use Rattle.loaded.specs.Cases.{Reads, FrontCaseAt, EndingCase}
use Rattle.crc.specs.Check.{check}
use Rattle.editions.specs.Either.{as_plain, pair_at}

abbrev pub EditionRead : List ℕ → Place → Type 0
EditionRead s i = Reads s 0 1 i ⊎ Reads s 0 2 i

abbrev pub FrontEither : List ℕ → Place → Front → Type 0
FrontEither s o f = FrontCaseAt (as_plain s o) o f

pub data EndingEither (s : List ℕ) (o i : Place) (w : Word) : Ending → Type 0 where
  arrows_broken : {r : ℕ} {p : Place} → EndingCase s i w (broken r p) → EndingEither s o i w (broken r p)
  plain_end : {p : Place} → EndingCase s i w (behind p) → (at s o ≡ 2 → ⊥) → EndingEither s o i w (behind p)
  check_cut : {p : Place} → EndingCase s i w (behind p) → at s o ≡ 2 → length s < p + 2 → EndingEither s o i w (broken 5 (length s))
  check_differs : {p : Place} → EndingCase s i w (behind p) → at s o ≡ 2 → p + 2 ≤ length s → (pair_at s p ≡ check (part s o (p - o)) → ⊥)
      → EndingEither s o i w (broken 13 p)
  check_agrees : {p : Place} → EndingCase s i w (behind p) → at s o ≡ 2 → p + 2 ≤ length s → pair_at s p ≡ check (part s o (p - o))
      → EndingEither s o i w (behind (p + 2))

pub data VerdictEither (s : List ℕ) (i : Place) (w : Word) : Verdict → Type 0 where
  ending_wrong : {r : ℕ} {p : Place} → EndingEither s 0 i w (broken r p) → VerdictEither s i w (wrong r p)
  bytes_follow : {p : Place} → EndingEither s 0 i w (behind p) → p < length s → VerdictEither s i w (wrong 11 p)
  nothing_follows : {p : Place} → EndingEither s 0 i w (behind p) → length s ≤ p → VerdictEither s i w right
