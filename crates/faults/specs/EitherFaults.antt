-- WHERE A FILE OF EITHER EDITION IS BROKEN, and how far it is right. A file of edition 2 has the faults of the same bytes with 1 for its
-- edition's number, at the same places, up to behind its arrows; then those of its check, and bytes behind that.
--
--   AllRead s w p        s says 2, it shows the word w, and all its arrows are the word's own and end before p
--   FaultEither s r p q  the file is refused with r: the fault shows at p, and the field at fault ends before q
--   BeginsIn e s p       the first p bytes of s are the first p bytes of some word's file in the edition e
--   BeginsEither s p     the same in one of the two
--
-- 02, 'Where in the file is it broken?' and 'Edition 2 with a check'.
use Rattle.std.specs.Prelude.{◌≡◌, List, [], ℕ, ◌+◌, ◌≤◌, ◌<◌, length, take}
use Rattle.words.specs.Lists.{at}
use Rattle.words.specs.Words.{Word, Place}
use Rattle.crc.specs.Check.{check}
use Rattle.editions.specs.Editions.{Edition, SavedIn}
use Rattle.editions.specs.Either.{as_plain, pair_at}
use Rattle.faults.specs.Faults.{ArrowsAt, FaultAt}

abbrev pub AllRead : List ℕ → Word → Place → Type 0
AllRead s w p = (at s 0 ≡ 2) × ArrowsAt (as_plain s 0) w 0 [] p

pub data FaultEither (s : List ℕ) : ℕ → Place → Place → Type 0 where
  in_edition_1 : {r : ℕ} {p q : Place} → (at s 0 ≡ 2 → ⊥) → FaultAt s r p q → FaultEither s r p q
  up_to_arrows : {r : ℕ} {p q : Place} → at s 0 ≡ 2 → FaultAt (as_plain s 0) r p q → (r ≡ 11 → ⊥) → FaultEither s r p q
  -- 'fewer than two bytes is 5'
  check_cut : {w : Word} {p : Place} → AllRead s w p → length s < p + 2 → FaultEither s 5 (length s) (length s)
  -- 'a differing check is a new 13 (offset: the first check byte)'
  check_differs : {w : Word} {p : Place} → AllRead s w p → p + 2 ≤ length s → (pair_at s p ≡ check (take p s) → ⊥)
      → FaultEither s 13 p (p + 2)
  -- 'bytes behind it 11 (offset: the first of them)'
  bytes_behind : {w : Word} {p : Place} → AllRead s w p → pair_at s p ≡ check (take p s) → p + 2 < length s
      → FaultEither s 11 (p + 2) (p + 3)

pub record BeginsIn (e : Edition) (s : List ℕ) (p : Place) : Type 0 where
  pub file : List ℕ
  pub saved : SavedIn e file
  pub inside : p ≤ length file
  pub same : take p s ≡ take p file

abbrev pub BeginsEither : List ℕ → Place → Type 0
BeginsEither s p = (e : Edition) × BeginsIn e s p
