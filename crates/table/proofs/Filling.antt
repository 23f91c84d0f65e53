-- A WORD WRITTEN INTO A CLEARED TABLE, behind its first entry: the letters can be added, and the word is the one that stands there. The
-- laws are said of what comes back from a call that was lent that part.
use mathlib.Core.Path.{◌≡◌, refl, ◌∙◌}
use mathlib.Core.List.{List, ◌∷◌, ◌++◌}
use Prim.Native.Nat.{ℕ, zero, suc, ◌+◌, ◌*◌, ◌-◌, ◌≤◌, ◌<◌}
use native.Mathlib.Omega.{arith}
use lib.ListN.{length, replicate, length-append, length-replicate, replicate-append-replicate, get_or-eq_default}
use lib.Seq.{take_at, drop_at}
use borrow.Rule.Slice.PartMut.{put_mid}
use Rattle.words.specs.Lists.{at}
use Rattle.words.specs.Words.{Word, letter}
use Rattle.chains.specs.Letters.{Blank, word_in}
use Rattle.words.proofs.Loops.{padded}

-- Z is the table of k entries, cleared, and the part that is lent comes back as r
module _ {Z r : List ℕ} {p : Word} {m k : ℕ} (size : k ≡ 6 * (m + 1)) (cleared : Z ≡ replicate k 0) (put : r ≡ p)
    (many : length p ≡ m) where
  abbrev with_word : List ℕ
  with_word = put_mid 1 (m + 1 - 1) Z r

  abbrev expected : List ℕ
  expected = 0 ∷ (p ++ replicate (5 * suc m) 0)

  zeros : Z ≡ 0 ∷ (replicate m 0 ++ replicate (5 * suc m) 0)
  zeros =
      let e : k ≡ suc (m + 5 * suc m) = omega arith in
      cleared ∙ rw (e, replicate-append-replicate {A = ℕ} m (5 * suc m) 0)

  laid : with_word ≡ expected
  laid =
      let e : m + 1 - 1 ≡ m = omega arith in
      let rest = drop_at {A = ℕ} (replicate m 0) (replicate (5 * suc m) 0) m (length-replicate m 0) in
      rw (zeros, put, e, rest)

  -- letters can be added
  pub word_blank : ((i : ℕ) → i < m → letter p i < 256) → Blank with_word m
  word_blank small = rw laid (record {
    size = simp (length-append, length-replicate) (omega arith);
    corner = refl;
    letters = letters;
    empty = empty;
  })
    where
      letters : (i : ℕ) → i ≤ m → at expected i < 256
      letters zero h = omega arith
      letters (suc i) h = rw (padded p (5 * suc m) i) (small i (omega arith))

      empty : (i : ℕ) → m < i → at expected i ≡ 0
      empty zero h = absurd (omega arith)
      empty (suc i) h = padded p (5 * suc m) i ∙ get_or-eq_default p 0 (omega arith)

  -- and the word is p
  pub word_put_lem : word_in with_word m ≡ p
  word_put_lem = rw laid (take_at p (replicate (5 * suc m) 0) m many)
