-- EVERY FAULT SHOWS WITHIN THE FILE, and its field ends there: a number that is read ends within the file.
use mathlib.Core.Path.{◌≡◌, refl}
use mathlib.Core.Logic.{◌⊎◌, inl, inr}
use mathlib.Core.List.{List, ◌∷◌}
use Prim.Native.Nat.{ℕ, ◌≤◌, ◌<◌}
use native.Mathlib.Omega.{arith}
use lib.ListN.{length}
use Rattle.words.specs.Words.{Word, Place}
use Rattle.saved.specs.File.{Step}
use Rattle.loaded.specs.Cases.{Reads}
use Rattle.loaded.proofs.Fields.{reads-inside}
use Rattle.faults.specs.Faults.{ArrowsAt, none_read, one-read}
use Rattle.faults.specs.Faults.{FaultAt, number_cut, letters_cut, byte_refused, other_edition, bad_length, bad_count, other_arrow}
use Rattle.faults.specs.Faults.{no_arrow_left, arrows_missing, bytes_left}

module _ (s : List ℕ) where
  arrows-inside : {w : Word} {d : ℕ} {l : List Step} {p : Place} → ArrowsAt s w d l p → p ≤ length s
  arrows-inside (none_read {c = c} C h few) = (reads-inside s c h).1
  arrows-inside (one-read {j = j} A h g) = (reads-inside s j g).1

  one : (p : Place) {v : ℕ} {q : Place} → Reads s p v q → (p < q) × (q ≤ length s)
  one p h = reads-inside s p h

  before : (p : Place) {v : ℕ} {q : Place} → Reads s p v q → p < length s
  before p h = let i = one p h in omega (arith, i.0, i.1)

  -- arrows stand behind their number
  pub arrows-take : {w : Word} {d : ℕ} {l : List Step} {p : Place} → ArrowsAt s w d l p → 1 ≤ p
  arrows-take (none_read {c = c} C h few) = omega (arith, (one c h).0)
  arrows-take (one-read {j = j} A h g) = omega (arith, (one j g).0)

  pub fault_inside : {r : ℕ} {p q : Place} → FaultAt s r p q → (p ≤ q) × (q ≤ length s)
  fault_inside (number_cut N c) = (omega arith, omega arith)
  fault_inside (letters_cut h g l k d) = (omega arith, omega arith)
  fault_inside (byte_refused N b) = (omega arith, omega (arith, b.inside))
  fault_inside (other_edition h d) = (omega arith, (one 0 h).1)
  fault_inside (bad_length {p = p} h g d) = let i = one p g in (omega (arith, i.0), i.1)
  fault_inside (bad_count {p = p} C h d) = let i = one p h in (omega (arith, i.0), i.1)
  fault_inside (other_arrow {p = p} {j = j} A h g d) = let i = one j g in (omega (arith, (one p h).0, i.0), i.1)
  fault_inside (no_arrow_left {p = p} {j = j} A h g) = let i = one j g in (omega (arith, (one p h).0, i.0), i.1)
  fault_inside (arrows_missing A) = (omega arith, arrows-inside A)
  fault_inside (bytes_left A h) = (omega arith, omega (arith, h))

  -- what is at fault takes a byte at least, or stands behind some
  pub fault_takes : {r : ℕ} {p q : Place} → FaultAt s r p q → (r ≡ 5 → ⊥) → 1 ≤ q
  fault_takes (number_cut N c) five = absurd (five refl)
  fault_takes (letters_cut h g l k d) five = absurd (five refl)
  fault_takes (byte_refused N b) five = omega arith
  fault_takes (other_edition h d) five = omega (arith, (one 0 h).0)
  fault_takes (bad_length {p = p} h g d) five = omega (arith, (one p g).0)
  fault_takes (bad_count {p = p} C h d) five = omega (arith, (one p h).0)
  fault_takes (other_arrow {p = p} {j = j} A h g d) five = omega (arith, (one p h).0, (one j g).0)
  fault_takes (no_arrow_left {p = p} {j = j} A h g) five = omega (arith, (one p h).0, (one j g).0)
  fault_takes (arrows_missing A) five = arrows-take A
  fault_takes (bytes_left A h) five = omega arith

  -- 10 shows behind the number of arrows
  pub ten_behind : {r : ℕ} {p q : Place} → FaultAt s r p q → r ≡ 10 → 1 ≤ p
  ten_behind (number_cut N c) e = absurd (omega arith)
  ten_behind (letters_cut h g l k d) e = absurd (omega arith)
  ten_behind (byte_refused N b) e = absurd (omega arith)
  ten_behind (other_edition h d) e = absurd (omega arith)
  ten_behind (bad_length h g d) e = absurd (omega arith)
  ten_behind (bad_count C h d) e = absurd (omega arith)
  ten_behind (other_arrow A h g d) e = arrows-take A
  ten_behind (no_arrow_left A h g) e = arrows-take A
  ten_behind (arrows_missing A) e = arrows-take A
  ten_behind (bytes_left A h) e = absurd (omega arith)

  -- 5 shows at the end, and all others before it, but for missing arrows
  pub cut_at_the_end : {r : ℕ} {p q : Place} → FaultAt s r p q → r ≡ 5 → p ≡ length s
  cut_at_the_end (number_cut N c) e = refl
  cut_at_the_end (letters_cut h g l k d) e = refl
  cut_at_the_end (byte_refused N b) e = absurd (omega arith)
  cut_at_the_end (other_edition h d) e = absurd (omega arith)
  cut_at_the_end (bad_length h g d) e = absurd (omega arith)
  cut_at_the_end (bad_count C h d) e = absurd (omega arith)
  cut_at_the_end (other_arrow A h g d) e = absurd (omega arith)
  cut_at_the_end (no_arrow_left A h g) e = absurd (omega arith)
  cut_at_the_end (arrows_missing A) e = absurd (omega arith)
  cut_at_the_end (bytes_left A h) e = absurd (omega arith)

  pub others_before_the_end : {r : ℕ} {p q : Place} → FaultAt s r p q → (r ≡ 5 → ⊥)
      → (p < length s) ⊎ ((w : Word) × (t : Step) × (l : List Step) × ArrowsAt s w 0 (t ∷ l) p)
  others_before_the_end (number_cut N c) other = absurd (other refl)
  others_before_the_end (letters_cut h g l k d) other = absurd (other refl)
  others_before_the_end (byte_refused N b) other = inl b.inside
  others_before_the_end (other_edition h d) other = inl (before 0 h)
  others_before_the_end (bad_length {p = p} h g d) other = inl (before p g)
  others_before_the_end (bad_count {p = p} C h d) other = inl (before p h)
  others_before_the_end (other_arrow {p = p} {j = j} A h g d) other = inl (omega (arith, before p h, before j g))
  others_before_the_end (no_arrow_left {p = p} A h g) other = inl (before p h)
  others_before_the_end (arrows_missing {w = w} {t = t} {l = l} A) other = inr (w, t, l, A)
  others_before_the_end (bytes_left A h) other = inl h
