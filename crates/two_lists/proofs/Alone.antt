-- A MARK THAT IS LOOKED FOR ALONE: its search is lent the part of the list of starts that has a partner in the list of numbers, and the
-- numbers of what it listed are zero. So both lists are as the find record has them.
use mathlib.Core.Path.{◌≡◌, refl, sym, ap, ◌∙◌}
use mathlib.Core.List.{List, [], ◌∷◌, ◌++◌, append_assoc}
use Prim.Native.Nat.{ℕ, zero, suc, ◌≤◌, min}
use native.Mathlib.Decide.{dec_le}
use native.Mathlib.Omega.{arith}
use lib.ListN.{length, take, drop, replicate, take-append-drop, length-take, length-replicate, drop_of_length-le}
use lib.Seq.{length-take-le, take_all, drop-append-le}
use Rattle.words.specs.Words.{Place}
use Rattle.finds.specs.Finds.{filled}
use Rattle.two_lists.specs.TwoLists.{fit_both, filled_to}
use Rattle.two_lists.specs.FindRecord.{Find, starts_of, numbers_of, of_mark, Lists, lists, listed, alone}
use Rattle.two_lists.proofs.Filling.{filled_to-length, both_nil}

-- ── A part of a list, filled ───────────────────────────────────────────────

drop-part : (n k : ℕ) (F : List ℕ) → n ≤ length F → drop k (take n F) ++ drop n F ≡ drop (min n k) F
drop-part n k F h = by (dec_le k n)
  where
    size : length (take n F) ≡ n
    size = length-take-le n F h

    by : Dec (k ≤ n) → drop k (take n F) ++ drop n F ≡ drop (min n k) F
    by (yes l) =
        let e : min n k ≡ k = omega arith in
        rw e (sym (drop-append-le k (take n F) (drop n F) (omega (arith, size))) ∙ ap (drop k) (take-append-drop n F))
    by (no l) =
        let e : min n k ≡ n = omega arith in
        rw (e, drop_of_length-le (take n F) {i = k} (omega (arith, size)))

min-zero-left : (k : ℕ) → min 0 k ≡ 0
min-zero-left k = omega arith

min-zero-right : (n : ℕ) → min n 0 ≡ 0
min-zero-right n = omega arith

min-suc : (n k : ℕ) → min (suc n) (suc k) ≡ suc (min n k)
min-suc n k = omega arith

take-replicate : (n k a : ℕ) → take n (replicate k a) ≡ replicate (min n k) a
take-replicate zero k a = rw (min-zero-left k)
take-replicate (suc n) zero a = rw (min-zero-right (suc n))
take-replicate (suc n) (suc k) a = rw (min-suc n k, take-replicate n k a)

drop_least : (n : ℕ) (F : List ℕ) → drop (min (length F) n) F ≡ drop n F
drop_least n F = by (dec_le (length F) n)
  where
    by : Dec (length F ≤ n) → drop (min (length F) n) F ≡ drop n F
    by (yes h) = drop_of_length-le F {i = min (length F) n} (omega arith) ∙ sym (drop_of_length-le F {i = n} h)
    by (no h) = let e : min (length F) n ≡ n = omega arith in rw e

-- who fills the first n entries fills the list up to there
pub filled-part : (n : ℕ) (l F : List ℕ) → n ≤ length F → filled l (take n F) ++ drop n F ≡ filled_to n l F
unfolding filled filled_to
filled-part n l F h =
    let front : take (length F) (take n l) ≡ take n l = take_all (length F) (take n l) (simp length-take (omega arith)) in
    rw (
      length-take-le n F h,
      front,
      length-take n l,
      append_assoc (take n l) (drop (length l) (take n F)) (drop n F),
      drop-part n
          (length l) F h,
    )

-- zeros in the first entries that there are for them
pub filled-zeros : (n : ℕ) (F : List ℕ) {e : ℕ} → e ≡ min (length F) n
    → replicate (length (take e F)) 0 ++ drop e F ≡ filled (replicate n 0) F
unfolding filled
filled-zeros n F {e} i =
    let size : length (take e F) ≡ min (length F) n = length-take-le e F (omega arith) ∙ i in
    rw (size, take-replicate (length F) n 0, length-replicate {A = ℕ} n 0, i, drop_least n F)

-- ── One mark ───────────────────────────────────────────────────────────────

pub starts_of-mark : (j : ℕ) (l : List Place) → starts_of (of_mark j l) ≡ l
starts_of-mark j [] = refl
starts_of-mark j (s ∷ l) = ap (λ (k : List ℕ). s ∷ k) (starts_of-mark j l)

pub numbers_of-mark : (j : ℕ) (l : List Place) → numbers_of (of_mark j l) ≡ replicate (length l) j
numbers_of-mark j [] = refl
numbers_of-mark j (s ∷ l) = ap (λ (k : List ℕ). j ∷ k) (numbers_of-mark j l)

-- what the search left of the n entries of S that it was lent, P, and the numbering of those of G, Q
pub alone-listed : (l S G : List ℕ) {n count : ℕ} {P Q : List ℕ} → n ≡ min (length S) (length G) → count ≡ length l
    → P ≡ filled l (take n S) → Q ≡ filled (replicate count 0) (take n G) → lists (P ++ drop n S) (Q ++ drop n G) ≡ alone l (lists S G)
unfolding listed
alone-listed l S G {n} fits e p q =
    rw (
      p,
      q,
      e,
      filled-part n l S (omega arith),
      filled-part n (replicate (length l) 0) G (omega arith),
      starts_of-mark 0 l,
      numbers_of-mark 0 l,
      fits,
    )

-- ── What is kept ───────────────────────────────────────────────────────────

-- both lists keep their lengths
pub listed-starts-length : (l : List Find) (F : Lists) → length (listed l F).starts ≡ length F.starts
unfolding listed
listed-starts-length l F = filled_to-length (fit_both F.starts F.numbers) (starts_of l) F.starts

pub listed-numbers-length : (l : List Find) (F : Lists) → length (listed l F).numbers ≡ length F.numbers
unfolding listed
listed-numbers-length l F = filled_to-length (fit_both F.starts F.numbers) (numbers_of l) F.numbers

-- nothing was found
pub listed-nothing : (F : Lists) → listed [] F ≡ F
unfolding listed
listed-nothing F =
    let b = both_nil F.starts F.numbers in
    ap2_lists (sym b.one) (sym b.other)
  where
    ap2_lists : {A B C D : List ℕ} → A ≡ C → B ≡ D → lists A B ≡ lists C D
    ap2_lists e f = rw (e, f)
