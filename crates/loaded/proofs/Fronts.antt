-- THE FILE UP TO ITS LETTERS: what it shows, from the numbers that were read; and what a caller may take from the answer that the letters
-- are there.
use mathlib.Core.Path.{◌≡◌}
use mathlib.Core.Bool.{true, false, ◌&&◌}
use mathlib.Core.List.{List}
use Prim.Native.Nat.{ℕ, ◌+◌, ◌-◌, ◌≤◌, ◌<◌}
use native.Mathlib.Omega.{arith}
use lib.ListN.{length}
use lib.Dec.{leb}
use borrow.Author.Tests.{le-leb, lt-leb, leb-true}
use Rattle.words.specs.Limits.{least_saved, longest_word}
use Rattle.words.proofs.Lists.{and_true}
use Rattle.words.proofs.Limits.{saved-some}
use Rattle.std.specs.Prelude.{Ok}
use Rattle.std.specs.Ordering.{is_le, nat_cmp}
use Rattle.std.proofs.lemmas.Bool.Decides.{nat_tests}
use Rattle.number.specs.declared.Number.{Number}
use Rattle.number.specs.Number.{number_at}
use Rattle.loaded.specs.Cases.{FrontCaseAt, edition_unread, edition_other, length_unread, length_bad, letters_missing, letters-there}
use Rattle.loaded.proofs.Cases.{front_case}
use Rattle.loaded.specs.Load.{Front, letters, stop, letters_at, front_at, front}

-- ── From the number of letters ─────────────────────────────────────────────

-- what the library's order tests
pub le_told : (a b : ℕ) → is_le (nat_cmp a b) ≡ leb a b
le_told a b = grind (arith, nat_tests)

module _ (s : List ℕ) (i : ℕ) {n : Number} (read : number_at s i ≡ Ok n) where
  abbrev m : ℕ
  m = n.value

  abbrev j : ℕ
  j = n.next.at

  -- it is below the least or above the greatest
  pub shows_other_size : leb least_saved m && leb m longest_word ≡ false → stop 8 i ≡ letters_at s i
  shows_other_size off = simp (read, off)

  module _ (sized : leb least_saved m && leb m longest_word ≡ true) where
    -- the file ends before the last of the letters
    pub shows-cut : length s - j < m → stop 5 (length s) ≡ letters_at s i
    shows-cut short = simp (read, sized, lt-leb (j + m) (length s) (omega arith))

    -- the letters are there
    pub shows-letters : m ≤ length s - j → letters m j ≡ letters_at s i
    shows-letters there =
        let some : 1 ≤ m = omega (arith, saved-some, leb-true least_saved m (and_true {a = leb least_saved m} sized).0) in
        simp (read, sized, le-leb (j + m) (length s) (omega arith))

-- ── What a caller has ──────────────────────────────────────────────────────

-- m letters, as many as are allowed, stand in the file s from place j on
pub record LettersIn (s : List ℕ) (m j : ℕ) : Type 0 where
  pub least : least_saved ≤ m
  pub most : m ≤ longest_word
  pub inside : j + m ≤ length s

-- the letters that are answered are there
pub front_at-letters : (s : List ℕ) (o : ℕ) {m j : ℕ} → front_at s o ≡ letters m j → LettersIn s m j
front_at-letters s o {m} {j} e = by (front_case s o) e
  where
    never : {r p : ℕ} → stop r p ≡ letters m j → LettersIn s m j
    never g = let z : ◌≡◌ {A = ℕ} 0 1 = cc in absurd (omega arith)

    same : {n k : ℕ} → LettersIn s n k → letters n k ≡ letters m j → LettersIn s m j
    same {n} {k} I g =
        let size : n ≡ m = cc in
        let place : k ≡ j = cc in
        record { least = omega (arith, I.least); most = omega (arith, I.most); inside = omega (arith, I.inside) }

    by : {f : Front} → FrontCaseAt s o f → f ≡ letters m j → LettersIn s m j
    by (edition_unread a) g = never g
    by (edition_other a b) g = never g
    by (length_unread a b) g = never g
    by (length_bad a b d) g = never g
    by (letters_missing a b d k h) g = never g
    by (letters-there a b d l h) g = same (record { least = d; most = l; inside = h }) g

pub front-letters : (s : List ℕ) {m j : ℕ} → front s ≡ letters m j → LettersIn s m j
front-letters s e = front_at-letters s 0 e
