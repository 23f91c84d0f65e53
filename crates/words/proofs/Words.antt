-- Laws of words: their equality, their parts, their mirrors. Two parts are equal if they are letter by letter; a mirror's part is found by
-- cutting the word in three.
use mathlib.Core.Path.{◌≡◌, refl, sym, ap, ◌∙◌}
use mathlib.Core.Bool.{true}
use mathlib.Core.List.{[], ◌∷◌, ◌++◌, append_assoc, reverse, reverse-append, reverse-reverse}
use Prim.Native.Nat.{ℕ, suc, ◌+◌, ◌≤◌, ◌<◌}
use native.Mathlib.Nat.{le_refl, zero-add}
use native.Mathlib.Omega.{arith}
use lib.ListN.{length, drop, length-append, length-take, length-drop, length-reverse}
use lib.Seq.{take-suc, take-add, take_all, drop-cons, drop-drop, get_or-take, get_or-drop, take_at, drop_at, ext_get_or}
use lib.Dec.{eqb}
use borrow.Author.Tests.{eqb-true, eq-eqb}
use Rattle.words.specs.Words.{Word, letter, part, mirror, same}
use Rattle.words.proofs.Lists.{and_true}

-- ── same ───────────────────────────────────────────────────────────────────

pub same_true : (u v : Word) → same u v ≡ true → u ≡ v
unfolding same
same_true [] [] e = refl
same_true [] (d ∷ v) e = cc
same_true (c ∷ u) [] e = cc
same_true (c ∷ u) (d ∷ v) e =
    let r = and_true {a = eqb c d} {b = same u v} e in
    cc (eqb-true c d r.0, same_true u v r.1)

pub same_refl : (u : Word) → same u u ≡ true
unfolding same
same_refl [] = refl
same_refl (c ∷ u) = rw (eq-eqb c c refl, same_refl u)

-- ── part ───────────────────────────────────────────────────────────────────

module _ (p : Word) where
  pub part_length : (a n : ℕ) → a + n ≤ length p → length (part p a n) ≡ n
  part_length a n h = simp (length-take, length-drop) (omega arith)

  pub part_at : (a n j : ℕ) → j < n → letter (part p a n) j ≡ letter p (a + j)
  part_at a n j h = rw (get_or-take, get_or-drop)

  pub part_snoc : (a n : ℕ) → a + n < length p → part p a (suc n) ≡ part p a n ++ (letter p (a + n) ∷ [])
  part_snoc a n h =
      let l : n < length (drop a p) = rw (length-drop a p) (omega arith) in
      rw (take-suc (drop a p) n 0 l, get_or-drop a p n 0)

  pub part-cons : (a n : ℕ) → a < length p → part p a (suc n) ≡ letter p a ∷ part p (suc a) n
  part-cons a n h = rw (drop-cons p a 0 h)

  pub part-split : (a d n : ℕ) → part p a (d + n) ≡ part p a d ++ part p (a + d) n
  part-split a d n = rw (take-add d n (drop a p), drop-drop d a p)

  pub part-whole : part p 0 (length p) ≡ p
  part-whole = take_all (length p) p (le_refl _)

  pub part_of_part : (a n b k : ℕ) → a + n ≤ length p → b + k ≤ n → part (part p a n) b k ≡ part p (a + b) k
  part_of_part a n b k h l = ext_get_or 0 _ _ (sizes.0 ∙ sym sizes.1) (λ i g. at i (rw sizes.0 at g))
    where
      sizes : (length (part (part p a n) b k) ≡ k) × (length (part p (a + b) k) ≡ k)
      sizes = (simp (length-take, length-drop) (omega arith), simp (length-take, length-drop) (omega arith))

      at : (i : ℕ) → i < k → letter (part (part p a n) b k) i ≡ letter (part p (a + b) k) i
      at i g =
          let e : a + (b + i) ≡ a + b + i = omega arith in
          rw (get_or-take, get_or-drop) (part_at a n (b + i) (omega arith))
          ∙ ap (letter p) e
          ∙ sym (part_at (a + b) k i g)

  -- where a part is u and then v, v stands in the word behind u
  pub part_ends_in : (a n : ℕ) (u v : Word) → a + n ≤ length p → part p a n ≡ u ++ v
      → (length u + length v ≡ n) × (part p (a + length u) (length v) ≡ v)
  part_ends_in a n u v h e = (size, behind)
    where
      size : length u + length v ≡ n
      size = sym (length-append u v) ∙ ap length (sym e) ∙ part_length a n h

      front : Word
      front = part p a (length u)

      back : Word
      back = part p (a + length u) (length v)

      split : front ++ back ≡ u ++ v
      split = sym (part-split a (length u) (length v)) ∙ ap (part p a) size ∙ e

      behind : back ≡ v
      behind =
          sym (drop_at front back (length u) (part_length a (length u) (omega (arith, size))))
          ∙ ap (drop (length u)) split
          ∙ drop_at u v (length u) refl

-- ── mirror ─────────────────────────────────────────────────────────────────

pub mirror_injective : (u v : Word) → mirror u ≡ mirror v → u ≡ v
mirror_injective u v e = sym (reverse-reverse u) ∙ ap (λ (l : Word). reverse l) e ∙ reverse-reverse v

-- the last letter of a part is the first of its mirror
pub mirror_snoc : (p : Word) (a n : ℕ) → a + n < length p → mirror (part p a (suc n)) ≡ letter p (a + n) ∷ mirror (part p a n)
mirror_snoc p a n h = rw (part_snoc p a n h) (reverse-append (part p a n) (letter p (a + n) ∷ []))

-- a part's mirror is the part of the mirror that stands as far from the other end
pub mirror-part : (p : Word) (a n b : ℕ) → a + n + b ≡ length p → mirror (part p a n) ≡ part (mirror p) b n
mirror-part p a n b e = sym (rw (whole, drop_at (mirror z) (mirror y ++ mirror x) b size-z) (take_at (mirror y) (mirror x) n size-y))
  where
    x : Word
    x = part p 0 a

    y : Word
    y = part p a n

    z : Word
    z = part p (a + n) b

    size-y : length (mirror y) ≡ n
    size-y = length-reverse y ∙ part_length p a n (omega arith)

    size-z : length (mirror z) ≡ b
    size-z = length-reverse z ∙ part_length p (a + n) b (omega arith)

    split : p ≡ x ++ (y ++ z)
    split =
        sym (part-whole p)
        ∙ ap (part p 0) (sym e)
        ∙ rw (part-split p 0 (a + n) b, part-split p 0 a n, zero-add, zero-add) (append_assoc x y z)

    whole : mirror p ≡ mirror z ++ (mirror y ++ mirror x)
    whole =
        ap (λ (l : Word). reverse l) split
        ∙ reverse-append x (y ++ z)
        ∙ rw (reverse-append y z) (append_assoc (mirror z) (mirror y) (mirror x))
