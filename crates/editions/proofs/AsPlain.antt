-- A FILE AND THE SAME BYTES WITH 1 FOR THE NUMBER OF EDITION 2 show the same behind that number: a number that is read there, and so every
-- arrow, hangs on the bytes from its place on and on the file's length.
use mathlib.Core.Path.{◌≡◌, refl, ap, ◌∙◌}
use mathlib.Core.List.{List}
use Prim.Native.Nat.{ℕ, ◌≤◌, ◌<◌}
use native.Mathlib.Omega.{arith}
use lib.ListN.{length, take, drop, set, length-set}
use lib.Seq.{drop-set-lt}
use borrow.Author.Tests.{eqb-true, eqb-false, eq-eqb, ne_eqb}
use Rattle.words.specs.Lists.{at}
use Rattle.words.specs.Words.{Word, Place, part}
use Rattle.words.proofs.Lists.{test_cases}
use Rattle.number.specs.Number.{Seen, number, ends, refused, see_number, placed, number_at}
use Rattle.saved.specs.File.{Step}
use Rattle.loaded.specs.Load.{Ending, behind, ending}
use Rattle.number.proofs.Theorems.{cut-exactly, bad-exactly}
use Rattle.loaded.specs.Cases.{Reads, Unread, cut_off, bad_byte}
use Rattle.loaded.specs.Cases.{ArrowsCase, arrow_agrees, up_unread, over_unread, arrow_differs, no_arrow_left, arrows_missing, all_agree}
use Rattle.loaded.specs.Cases.{EndingCase, count_unread, count_too_large, count_fits}
use Rattle.loaded.proofs.Cases.{refused_unread, ending_case, case_ending}
use Rattle.loaded.proofs.Fields.{reads-inside}
use Rattle.editions.specs.Either.{checked_at, as_plain}

-- ── By its edition ─────────────────────────────────────────────────────────

module _ (s : List ℕ) (o : Place) where
  pub as_checked : at s o ≡ 2 → as_plain s o ≡ set s o 1
  unfolding as_plain
  as_checked e = rw (eq-eqb (at s o) 2 e)

  pub as_other : (at s o ≡ 2 → ⊥) → as_plain s o ≡ s
  unfolding as_plain
  as_other d = rw (ne_eqb (at s o) 2 d)

  pub by_edition : {C : Type 0} → (at s o ≡ 2 → C) → ((at s o ≡ 2 → ⊥) → C) → C
  by_edition f g = test_cases (checked_at s o) (λ t. f (eqb-true (at s o) 2 t)) (λ t. g (eqb-false (at s o) 2 t))

  pub plain-length : length (as_plain s o) ≡ length s
  plain-length = by_edition (λ e. ap {B = ℕ} length (as_checked e) ∙ length-set s o 1) (λ d. ap {B = ℕ} length (as_other d))

  pub plain-drop : (i : Place) → o < i → drop i (as_plain s o) ≡ drop i s
  plain-drop i h = by_edition (λ e. ap (drop i) (as_checked e) ∙ drop-set-lt i s o 1 h) (λ d. ap (drop i) (as_other d))

  pub plain-part : (i : Place) (m : ℕ) → o < i → part (as_plain s o) i m ≡ part s i m
  plain-part i m h = ap (take m) (plain-drop i h)

  pub plain-number : (i : Place) → o < i → number_at (as_plain s o) i ≡ number_at s i
  unfolding number_at
  plain-number i h =
      ap (λ (l : List ℕ). placed (as_plain s o) i (see_number l)) (plain-drop i h)
      ∙ by (see_number (drop i s))
    where
      by : (g : Seen) → placed (as_plain s o) i g ≡ placed s i g
      by (number v n) = refl
      by ends = rw plain-length
      by (refused n) = refl

-- ── Behind it ──────────────────────────────────────────────────────────────

-- two files that show the same numbers behind place o
module _ (s t : List ℕ) (o : Place) (same : (i : Place) → o < i → number_at t i ≡ number_at s i) where
  reads_too : (i : Place) {v : ℕ} {j : Place} → o < i → Reads s i v j → Reads t i v j
  reads_too i h r = same i h ∙ r

  unread_too : (i : Place) {r : ℕ} {p : Place} → o < i → Unread s i r p → Unread t i r p
  unread_too i h (cut_off c) = refused_unread t i (same i h ∙ (cut-exactly s i).1 c)
  unread_too i h (bad_byte {p = p} b) = refused_unread t i (same i h ∙ (bad-exactly s i p).1 b)

  behind_too : (i : Place) {v : ℕ} {j : Place} → o < i → Reads s i v j → o < j
  behind_too i h r = omega (arith, (reads-inside s i r).0)

  arrows_too : {i : Place} {n : ℕ} {l : List Step} {e : Ending} → o < i → ArrowsCase s i n l e → ArrowsCase t i n l e
  arrows_too {i} h (arrow_agrees {j = j} a b c) =
      let g = behind_too i h a in
      arrow_agrees (reads_too i h a) (reads_too j g b) (arrows_too (behind_too j g b) c)
  arrows_too {i} h (up_unread u) = up_unread (unread_too i h u)
  arrows_too {i} h (over_unread {j = j} a u) = over_unread (reads_too i h a) (unread_too j (behind_too i h a) u)
  arrows_too {i} h (arrow_differs {j = j} a b d) = arrow_differs (reads_too i h a) (reads_too j (behind_too i h a) b) d
  arrows_too {i} h (no_arrow_left {j = j} a b) = no_arrow_left (reads_too i h a) (reads_too j (behind_too i h a) b)
  arrows_too h arrows_missing = arrows_missing
  arrows_too h all_agree = all_agree

  ending_too : {i : Place} {w : Word} {e : Ending} → o < i → EndingCase s i w e → EndingCase t i w e
  ending_too {i} h (count_unread u) = count_unread (unread_too i h u)
  ending_too {i} h (count_too_large a b) = count_too_large (reads_too i h a) b
  ending_too {i} h (count_fits a b c) = count_fits (reads_too i h a) b (arrows_too (behind_too i h a) c)

pub plain-ending : (s : List ℕ) (o i : Place) (w : Word) → o < i → ending (as_plain s o) i w ≡ ending s i w
plain-ending s o i w h = case_ending (as_plain s o) (ending_too s (as_plain s o) o (plain-number s o) h (ending_case s i w))

-- ── Where the arrows end ───────────────────────────────────────────────────

module _ (s : List ℕ) where
  arrows-end : {i : Place} {n : ℕ} {l : List Step} {p : Place} → i ≤ length s → ArrowsCase s i n l (behind p) → (i ≤ p) × (p ≤ length s)
  arrows-end {i} h (arrow_agrees {j = j} a b c) =
      let inside = reads-inside s j b in
      let rest = arrows-end inside.1 c in
      (omega (arith, (reads-inside s i a).0, inside.0, rest.0), rest.1)
  arrows-end h all_agree = (omega arith, h)

  -- behind the place where their number stands, and within the file
  pub ending-end : {i : Place} {w : Word} {p : Place} → EndingCase s i w (behind p) → (i < p) × (p ≤ length s)
  ending-end {i} (count_fits a b c) =
      let inside = reads-inside s i a in
      let rest = arrows-end inside.1 c in
      (omega (arith, inside.0, rest.0), rest.1)
