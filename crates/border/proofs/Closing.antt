-- `closes` letter by letter: where the first letters of u stand in v up to its end. Ends are told by where they start, which spares the
-- subtraction.
use mathlib.Core.Path.{◌≡◌, sym, ap, ◌∙◌}
use mathlib.Core.Bool.{true}
use Prim.Native.Nat.{ℕ, ◌+◌, ◌-◌, ◌≤◌, ◌<◌}
use native.Mathlib.Nat.{zero-add}
use native.Mathlib.Omega.{arith}
use lib.ListN.{length, length-take, length-drop}
use lib.Seq.{ext_get_or}
use Rattle.words.specs.Words.{Word, letter, part}
use Rattle.words.proofs.Words.{same_true, same_refl, part_length, part_at}
use Rattle.border.specs.Borders.{closes}

-- the first k letters of u stand in v at `start`, and there v ends
pub record Closing (u : Word) (k : ℕ) (v : Word) : Type 0 where
  pub start : ℕ
  pub sum : start + k ≡ length v
  pub same : (i : ℕ) → i < k → letter v (start + i) ≡ letter u i

module _ (u v : Word) (k : ℕ) (h : k ≤ length u) where
  pub closes_closing : closes u k v ≡ true → Closing u k v
  unfolding closes
  closes_closing e = record { start = length v - k; sum = omega (arith, fits); same = letters }
    where
      parts : part u 0 k ≡ part v (length v - k) k
      parts = same_true (part u 0 k) (part v (length v - k) k) e

      fits : k ≤ length v
      fits =
          let size : length (part v (length v - k) k) ≡ k = ap length (sym parts) ∙ part_length u 0 k (omega arith) in
          omega (arith, simp (length-take, length-drop) at size)

      letters : (i : ℕ) → i < k → letter v (length v - k + i) ≡ letter u i
      letters i l =
          sym (part_at v (length v - k) k i l)
          ∙ ap (λ (p : Word). letter p i) (sym parts)
          ∙ part_at u 0 k i l
          ∙ ap (letter u) (zero-add i)

  pub closing_closes : Closing u k v → closes u k v ≡ true
  unfolding closes
  closing_closes C = rw parts (same_refl (part v (length v - k) k))
    where
      place : C.start ≡ length v - k
      place = omega (arith, C.sum)

      sizes : (length (part u 0 k) ≡ k) × (length (part v (length v - k) k) ≡ k)
      sizes = (part_length u 0 k (omega arith), part_length v (length v - k) k (omega (arith, C.sum)))

      letters : (i : ℕ) → i < k → letter (part u 0 k) i ≡ letter (part v (length v - k) k) i
      letters i l =
          part_at u 0 k i l
          ∙ ap (letter u) (zero-add i)
          ∙ sym (C.same i l)
          ∙ ap (λ (a : ℕ). letter v (a + i)) place
          ∙ sym (part_at v (length v - k) k i l)

      parts : part u 0 k ≡ part v (length v - k) k
      parts = ext_get_or 0 _ _ (sizes.0 ∙ sym sizes.1) (λ i l. letters i (rw sizes.0 at l))

-- no letters close every word
pub nothing-closes : (u v : Word) → closes u 0 v ≡ true
nothing-closes u v =
    closing_closes u v 0 (omega arith) (record { start = length v; sum = omega arith; same = λ i l. absurd (omega arith) })
