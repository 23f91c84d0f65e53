-- THE TABLE FILLED IN CODE. The word is put into a cleared table, and the columns and the spine are put; then suffix after suffix is
-- walked. All the while the word stands in row 0, from which code reads it.
use mathlib.Core.Path.{◌≡◌, sym, ◌∙◌}
use mathlib.Core.List.{List, ◌∷◌, ◌++◌}
use Prim.Native.Nat.{ℕ, suc, ◌+◌, ◌-◌, ◌*◌, ◌≤◌, ◌<◌}
use native.Mathlib.Omega.{arith}
use lib.ListN.{length, replicate, length-replicate, replicate-append-replicate}
use lib.Seq.{take_at, drop_at}
use borrow.Rule.Slice.PartMut.{put_mid}
use Rattle.words.specs.Words.{Word}
use Rattle.oracle.specs.Arrows.{spine}
use Rattle.storacle.specs.StoracleRule.{storacle_after, storacle_rule}
use Rattle.storacle.proofs.Suffixes.{all-walked}
use Rattle.table.specs.Table.{read_word}
use Rattle.storacle_table.specs.StoracleTable.{storacle_room, blank, storacle_table_from, storacle_table}
use Rattle.storacle_table.specs.Building.{word_put, Sized, TableAfter}
use Rattle.storacle_table.proofs.Laid.{Laid, laid_word, blank-laid}
use Rattle.storacle_table.proofs.Theorems.{stitched-laid}

module _ {p : Word} {m : ℕ} {L : List ℕ} {i : ℕ} (S : TableAfter p m L i) where
  after-laid : Laid p (storacle_after p i) L
  after-laid = stitched-laid (all-walked p i (omega (arith, S.inside, S.sized.long))).stitched S.table

  -- the word is read from row 0
  pub after-word : read_word m L ≡ p
  after-word = rw (← S.sized.long) (laid_word after-laid)

  pub after-own : TableAfter (read_word m L) m L i
  after-own = rw after-word S

  -- and stays there
  pub after_on : {L' : List ℕ} → TableAfter (read_word m L) m L' (i + 1) → TableAfter p m L' (i + 1)
  after_on T = rw after-word at T

  -- once all suffixes are walked, the table is the word's
  pub after-all : m ≤ i + 1 → L ≡ storacle_table p
  unfolding storacle_table storacle_rule
  after-all h =
      let last : i ≡ length p - 1 = omega (arith, S.inside, S.sized.long) in
      S.table ∙ rw last

-- ── Before the suffixes ────────────────────────────────────────────────────

module _ {p : Word} {m : ℕ} {L : List ℕ} (S : Sized p m) where
  -- the word is read from the table of no arrows
  pub blank-word : L ≡ blank p → read_word m L ≡ p
  blank-word e = rw (← S.long, e) (laid_word (blank-laid p))

  pub blank-ready : L ≡ blank p → Sized (read_word m L) m × (L ≡ blank (read_word m L))
  blank-ready e = rw (blank-word e) (S, e)

  -- and that of the spine is the one of no suffixes
  pub spine-after : 1 ≤ m → L ≡ storacle_table_from p (spine p) → TableAfter p m L 0
  unfolding storacle_after
  spine-after h e = record { sized = S; inside = h; table = e }

-- ── The word put ───────────────────────────────────────────────────────────

-- Z is the table of k entries, cleared, and the part that is lent comes back as r, the word p
module _ {Z r p : List ℕ} {m k : ℕ} (size : k ≡ storacle_room m) (cleared : Z ≡ replicate k 0) (put : r ≡ p) (as_long : length p ≡ m) where
  abbrev with_word : List ℕ
  with_word = put_mid 1 (m + 1 - 1) Z r

  abbrev rest : List ℕ
  rest = replicate ((m + 1) * (m + 5)) 0

  zeros : Z ≡ 0 ∷ (replicate m 0 ++ rest)
  zeros =
      let e : k ≡ suc (m + (m + 1) * (m + 5)) = omega arith in
      cleared ∙ rw (e, replicate-append-replicate {A = ℕ} m ((m + 1) * (m + 5)) 0)

  written : with_word ≡ 0 ∷ (p ++ rest)
  written =
      let e : m + 1 - 1 ≡ m = omega arith in
      let behind = drop_at {A = ℕ} (replicate m 0) rest m (length-replicate m 0) in
      rw (zeros, put, e, behind)

  -- the word is p
  pub word-there : read_word m (put_mid 1 (m + 1 - 1) Z r) ≡ p
  unfolding read_word
  word-there = rw written (take_at p rest m as_long)

  -- and nothing else is there
  pub word-ready : m < 65535 → Sized (read_word m (put_mid 1 (m + 1 - 1) Z r)) m
      × (put_mid 1 (m + 1 - 1) Z r ≡ word_put (read_word m (put_mid 1 (m + 1 - 1) Z r)))
  unfolding word_put
  word-ready small = rw word-there (record { long = as_long; small = small }, written ∙ sym (rw as_long))
