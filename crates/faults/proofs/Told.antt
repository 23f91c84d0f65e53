-- AND WHERE THE FILE IS BROKEN, READING SHOWS IT: each fault is a way of reading edition 1 that ends with its number and place. So a file
-- has one fault.
use mathlib.Core.Path.{◌≡◌, sym, ap₂, ◌∙◌}
use mathlib.Core.List.{List}
use Prim.Native.Nat.{ℕ, ◌+◌, ◌≤◌}
use native.Mathlib.Omega.{arith}
use lib.ListN.{length}
use Rattle.words.specs.Words.{Word, Place, part}
use Rattle.saved.specs.File.{Step}
use Rattle.loaded.specs.Load.{letters, stop, front, Ending, broken, wrong, verdict}
use Rattle.loaded.specs.Cases.{Unread, cut_off, bad_byte}
use Rattle.loaded.specs.Cases.{FrontCase, edition_unread, edition_other, length_unread, length_bad, letters_missing, letters-there}
use Rattle.loaded.specs.Cases.{ArrowsCase, arrow_agrees, up_unread, over_unread, arrow_differs, all_agree}
use Rattle.loaded.specs.Cases as Cases
use Rattle.loaded.specs.Cases.{EndingCase, count_unread, count_too_large, count_fits, VerdictCase, arrows_wrong, leftovers}
use Rattle.loaded.proofs.Theorems.{front_is, verdict_is}
use Rattle.faults.specs.Faults.{CountAt, ArrowsAt, none_read, one-read}
use Rattle.faults.specs.Faults.{NumberPlace, on_edition_at, length_at, count_at, first-at, second_at}
use Rattle.faults.specs.Faults.{FaultAt, number_cut, letters_cut, byte_refused, other_edition, bad_length, bad_count, other_arrow}
use Rattle.faults.specs.Faults.{no_arrow_left, arrows_missing, bytes_left}

-- reading shows the refusal r at p: up to the letters, or behind them
pub data Tells (s : List ℕ) (r : ℕ) (p : Place) : Type 0 where
  before_letters : FrontCase s (stop r p) → Tells s r p
  behind-letters : {w : Word} {c : Place} → CountAt s w c → VerdictCase s c w (wrong r p) → Tells s r p

module _ {s : List ℕ} where
  -- what the arrows from p on come to, those from the count on come to
  pub arrows-ending : {w : Word} {d : ℕ} {l : List Step} {p : Place} {e : Ending} → ArrowsAt s w d l p → ArrowsCase s p d l e
      → (c : Place) × CountAt s w c × EndingCase s c w e
  arrows-ending (none_read {c = c} C h few) a = (c, C, count_fits h few a)
  arrows-ending (one-read A h g) a = arrows-ending A (arrow_agrees h g a)

  broken-tells : {w : Word} {d : ℕ} {l : List Step} {i : Place} {r : ℕ} {p : Place} → ArrowsAt s w d l i → ArrowsCase s i d l (broken r p)
      → Tells s r p
  broken-tells A a = let E = arrows-ending A a in behind-letters E.1 (arrows_wrong E.2)

  unread_tells : {i : Place} {r : ℕ} {p : Place} → NumberPlace s i → Unread s i r p → Tells s r p
  unread_tells on_edition_at u = before_letters (edition_unread u)
  unread_tells (length_at h) u = before_letters (length_unread h u)
  unread_tells (count_at C) u = behind-letters C (arrows_wrong (count_unread u))
  unread_tells (first-at A) u = broken-tells A (up_unread u)
  unread_tells (second_at A h) u = broken-tells A (over_unread h u)

  pub fault_tells : {r : ℕ} {p q : Place} → FaultAt s r p q → Tells s r p
  fault_tells (number_cut N c) = unread_tells N (cut_off c)
  fault_tells (letters_cut h g l k d) = before_letters (letters_missing h g l k d)
  fault_tells (byte_refused N b) = unread_tells N (bad_byte b)
  fault_tells (other_edition h d) = before_letters (edition_other h d)
  fault_tells (bad_length h g d) = before_letters (length_bad h g d)
  fault_tells (bad_count C h d) = behind-letters C (arrows_wrong (count_too_large h d))
  fault_tells (other_arrow A h g d) = broken-tells A (arrow_differs h g d)
  fault_tells (no_arrow_left A h g) = broken-tells A (Cases.no_arrow_left h g)
  fault_tells (arrows_missing A) = broken-tells A Cases.arrows_missing
  fault_tells (bytes_left A h) = let E = arrows-ending A all_agree in behind-letters E.1 (leftovers E.2 h)

-- ── One fault ──────────────────────────────────────────────────────────────

-- reading shows one thing
tells-one : {s : List ℕ} {r r' : ℕ} {p p' : Place} → Tells s r p → Tells s r' p' → (r ≡ r') × (p ≡ p')
tells-one {s} {r} {r'} {p} {p'} = by
  where
    letters-shown : {w : Word} {c : Place} → (C : CountAt s w c) → front s ≡ letters (length w) C.letters_place
    letters-shown {w} C =
        let inside : C.letters_place + length w ≤ length s = omega (arith, C.place, C.inside) in
        (front_is s _).1 (letters-there C.length_at C.length_read C.least C.most inside)

    never : {B : Type 0} {n q m i : ℕ} → stop n q ≡ letters m i → B
    never e = let z : ◌≡◌ {A = ℕ} 0 1 = cc in absurd (omega arith)

    both : {w w' : Word} {c c' : Place} → CountAt s w c → CountAt s w' c' → VerdictCase s c w (wrong r p)
        → VerdictCase s c' w' (wrong r' p') → wrong r p ≡ wrong r' p'
    both {w} {w'} {c} {c'} C C' v v' =
        let shown = sym (letters-shown C) ∙ letters-shown C' in
        let size : length w ≡ length w' = cc in
        let place : C.letters_place ≡ C'.letters_place = cc in
        let word : w ≡ w' = C.letters ∙ ap₂ (part s) place size ∙ sym C'.letters in
        let after : c ≡ c' = C.place ∙ ap₂ ◌+◌ place size ∙ sym C'.place in
        sym ((verdict_is s c w _).1 v) ∙ ap₂ (verdict s) after word ∙ (verdict_is s c' w' _).1 v'

    by : Tells s r p → Tells s r' p' → (r ≡ r') × (p ≡ p')
    by (before_letters f) (before_letters f') = let same = sym ((front_is s _).1 f) ∙ (front_is s _).1 f' in (cc same, cc same)
    by (before_letters f) (behind-letters C v) = never (sym ((front_is s _).1 f) ∙ letters-shown C)
    by (behind-letters C v) (before_letters f) = never (sym ((front_is s _).1 f) ∙ letters-shown C)
    by (behind-letters C v) (behind-letters C' v') = let same = both C C' v v' in (cc same, cc same)

-- and so a file has one fault at most
pub one_fault : (s : List ℕ) {r r' : ℕ} {p p' q q' : Place} → FaultAt s r p q → FaultAt s r' p' q' → (r ≡ r') × (p ≡ p')
one_fault s f f' = tells-one (fault_tells f) (fault_tells f')
