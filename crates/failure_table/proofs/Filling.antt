-- A WORD THAT STANDS IN ROW 0 of a table whose other entries are cleared: the table is that of the word alone, and no suffix is walked yet.
use mathlib.Core.Path.{◌≡◌, refl}
use mathlib.Core.List.{List, [], ◌∷◌}
use Prim.Native.Nat.{ℕ, suc, ◌+◌, ◌*◌, ◌-◌, ◌≤◌, ◌<◌}
use native.Mathlib.Omega.{arith}
use lib.ListN.{length, set, replicate, take, drop, length-take, length-drop, drop_of_length-le}
use borrow.Rule.Slice.PartMut.{put_mid}
use Rattle.std.proofs.lemmas.List.{append-nil, length-take-le}
use Rattle.words.specs.Words.{letter}
use Rattle.failure.specs.FailureRule.{after_suffix}
use Rattle.failure_table.specs.FailureTable.{failure_room, word_alone, lay_failures, lay_arrows, failure_table_from}
use Rattle.failure_table.specs.Building.{word_in, Stage}

-- L with zeros r behind row 0, and one before the word
abbrev pub cleared : ℕ → List ℕ → List ℕ → List ℕ
cleared m L r = put_mid (m + 1) (length (set L 0 0) - (m + 1)) (set L 0 0) r

-- how many entries are behind row 0
abbrev pub behind : ℕ → List ℕ → ℕ
behind m L = length (take (length (set L 0 0) - (m + 1)) (drop (m + 1) (set L 0 0)))

module _ (m : ℕ) where
  -- the word stands there alone
  cleared-alone : (L r : List ℕ) → length L ≡ failure_room m → r ≡ replicate (behind m L) 0 → cleared m L r ≡ word_alone (word_in L m)
  unfolding word_alone
  cleared-alone [] r size zeros = absurd (omega (arith, size))
  cleared-alone (x ∷ l) r size zeros =
      let one : m + 1 ≡ suc m = omega arith in
      let end : drop (suc (length l) - suc m) (drop m l) ≡ [] = drop_of_length-le (drop m l) (omega (arith, length-drop m l)) in
      let long : length (take m l) ≡ m = length-take-le m l (omega (arith, size)) in
      let many : behind m (x ∷ l) ≡ 9 * (m + 1) = omega (arith, size, length-take {A = ℕ}, length-drop {A = ℕ}) in
      rw (zeros, many, long, one, end, append-nil) refl

  -- and suffixes can be walked
  pub word_stage : (L : List ℕ) {r : List ℕ} → length L ≡ failure_room m → r ≡ replicate (behind m L) 0 → 1 ≤ m → m < 65535
      → ((i : ℕ) → letter (word_in L m) i < 256) → Stage (word_in L m) m (cleared m L r) 0 0
  unfolding after_suffix failure_table_from lay_arrows lay_failures
  word_stage L {r} size zeros some-letter small bytes = record {
    long = length-take-le m (drop 1 L) (omega (arith, size, length-drop 1 L));
    small = small;
    letters = bytes;
    inside = some-letter;
    table = cleared-alone L r size zeros;
    slots = refl;
  }
