-- WHAT THE CODE'S STEPS COME TO: a file of edition 2 is read on behind its first byte; the ways of its end; and three stores that seal.
use mathlib.Core.Path.{◌≡◌, refl, sym, ap, ◌∙◌}
use mathlib.Core.Bool.{true, false}
use mathlib.Core.List.{List, [], ◌∷◌, ◌++◌}
use Prim.Native.Nat.{ℕ, suc, ◌+◌, ◌≤◌}
use native.Mathlib.Numerals.{add-one}
use native.Mathlib.Omega.{arith}
use lib.ListN.{length, take, drop, set, length-set}
use lib.Seq.{drop-set-lt, take-set-lt, sets-eq}
use borrow.Author.Tests.{eqb-true, eqb-false, eq-eqb}
use Rattle.words.specs.Lists.{at}
use Rattle.words.specs.Words.{Word, Place}
use Rattle.words.specs.Limits.{longest_word}
use Rattle.number.proofs.Theorems.{spelling-single, number_at-spelled}
use Rattle.saved.specs.File.{edition}
use Rattle.saved.proofs.Spelled.{edition-number}
use Rattle.loaded.specs.Load.{front_within, front_at, letters_at, behind, ending}
use Rattle.loaded.specs.Cases.{Reads}
use Rattle.loaded.proofs.Theorems.{ending_is}
use Rattle.crc.specs.Check.{check, low, high, sealed}
use Rattle.editions.specs.Either.{checked_at, as_plain, front_either}
use Rattle.editions.proofs.AsPlain.{as_other, plain-length, plain-number, ending-end}
use Rattle.editions.proofs.Files.{as_plain-drop}

module _ (s : List ℕ) (o : Place) where
  -- ── Up to the letters ────────────────────────────────────────────────────

  pub one-read : at s o ≡ 2 → Reads (as_plain s o) o edition (o + 1)
  one-read e =
      let single = spelling-single 1 (omega arith) in
      let stands = as_plain-drop s o e ∙ ap (λ l. l ++ drop (suc o) s) (sym single) in
      rw edition-number (rw single at (number_at-spelled (as_plain s o) o 1 (drop (suc o) s) (omega arith) stands))

  pub checked-front : checked_at s o ≡ true → letters_at s (o + 1) ≡ front_either longest_word s o
  unfolding front_within
  checked-front t =
      rw (one-read (eqb-true (at s o) 2 t), eq-eqb edition edition refl, plain-number s o (o + 1) (omega arith), plain-length s o)

  pub other_front : checked_at s o ≡ false → front_at s o ≡ front_either longest_word s o
  other_front t = ap (λ l. front_within longest_word l o) (sym (as_other s o (eqb-false (at s o) 2 t)))

  -- ── Behind them ──────────────────────────────────────────────────────────

  module _ (i : Place) (w : Word) where
    -- the check stands behind what it is the check of, within the file
    pub check-inside : {p : Place} → behind p ≡ ending s i w → o ≤ i → (o ≤ p) × (p ≤ length s)
    check-inside {p} q h = let e = ending-end s ((ending_is s i w (behind p)).0 (sym q)) in (omega (arith, e.0), e.1)

-- ── Sealing ────────────────────────────────────────────────────────────────

pub seal_stores : (l : List ℕ) (n c : ℕ) → 1 ≤ n → n + 2 ≤ length l → c ≡ check (take n (set l 0 2))
    → set (set (set l 0 2) n (low c)) (n + 1) (high c) ≡ sealed (set (take n l) 0 2) ++ drop (n + 2) l
unfolding sealed
seal_stores l n c some h e =
    let t = set l 0 2 in
    let front : take n t ≡ set (take n l) 0 2 = take-set-lt n l 0 2 (omega arith) in
    let back : drop (n + 2) t ≡ drop (n + 2) l = drop-set-lt (n + 2) l 0 2 (omega arith) in
    rw (add-one n) (sets-eq (low c ∷ high c ∷ []) t n (rw (length-set l 0 2) h) ∙ rw (e, front, back))
