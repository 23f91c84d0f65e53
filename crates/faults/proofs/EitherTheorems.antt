-- THE THEOREMS on where a file of either edition is broken: within the file; before the place that is told it is right, and with what is at
-- fault it is no longer. In edition 1, and up to behind the arrows of edition 2, they are those of edition 1; where a file that begins so
-- has reached its check, all arrows were right, and the fault was another.
use mathlib.Core.Path.{◌≡◌, refl, ◌∙◌}
use mathlib.Core.Logic.{◌⊎◌, inl, inr, ⊎_elim, ◌↔◌}
use mathlib.Core.List.{List, ◌∷◌}
use Prim.Native.Nat.{ℕ, ◌+◌, ◌≤◌, ◌<◌}
use native.Mathlib.Decide.{dec_le}
use native.Mathlib.Omega.{arith}
use lib.ListN.{length, drop}
use Rattle.words.specs.Lists.{at}
use Rattle.words.specs.Words.{Word, Place}
use Rattle.number.specs.Number.{Bytes}
use Rattle.saved.specs.File.{Step, own_steps, spell}
use Rattle.editions.specs.Editions.{plain, checked}
use Rattle.editions.specs.Either.{as_plain}
use Rattle.editions.proofs.AsPlain.{as_other, by_edition, plain-length}
use Rattle.editions.proofs.Files.{plain-bytes}
use Rattle.faults.specs.Faults.{CountAt, ArrowsAt, FaultAt, bytes_left}
use Rattle.faults.specs.Beginnings.{Begins, Declares}
use Rattle.faults.specs.EitherFaults.{FaultEither, in_edition_1, up_to_arrows, check_cut, check_differs, bytes_behind}
use Rattle.faults.specs.EitherFaults.{BeginsIn, BeginsEither}
use Rattle.faults.proofs.Told.{one_fault}
use Rattle.faults.proofs.Inside.{fault_inside, fault_takes, ten_behind, cut_at_the_end, others_before_the_end}
use Rattle.faults.proofs.Theorems.{letters-right, right-before, arrow-right-before, wrong-behind}
use Rattle.faults.proofs.EitherBegins.{begins_plain, other_begins, two_begins, lifted, lowered, reached, all_there}
use Rattle.faults.proofs.EitherBegins.{check-right-before, check-right-behind, check-wrong, left-wrong}

module _ (s : List ℕ) where
  abbrev t : List ℕ
  t = as_plain s 0

  -- ── 1. Within the file ───────────────────────────────────────────────────

  pub either_inside : {r : ℕ} {p q : Place} → FaultEither s r p q → (p ≤ q) × (q ≤ length s)
  either_inside (in_edition_1 d F) = fault_inside s F
  either_inside (up_to_arrows two F last) = let i = fault_inside t F in (i.0, rw (plain-length s 0) at i.1)
  either_inside (check_cut A h) = (omega arith, omega arith)
  either_inside (check_differs A h d) = (omega arith, h)
  either_inside (bytes_behind A q h) = (omega arith, omega (arith, h))

  -- 5 shows at the end, and all others before it, but for missing arrows
  pub either_cut : {r : ℕ} {p q : Place} → FaultEither s r p q → r ≡ 5 → p ≡ length s
  either_cut (in_edition_1 d F) e = cut_at_the_end s F e
  either_cut (up_to_arrows two F last) e = cut_at_the_end t F e ∙ plain-length s 0
  either_cut (check_cut A h) e = refl
  either_cut (check_differs A h d) e = absurd (omega arith)
  either_cut (bytes_behind A q h) e = absurd (omega arith)

  pub either_before : {r : ℕ} {p q : Place} → FaultEither s r p q → (r ≡ 5 → ⊥)
      → (p < length s) ⊎ ((w : Word) × (x : Step) × (l : List Step) × ArrowsAt t w 0 (x ∷ l) p)
  either_before (in_edition_1 d F) other = rw (as_other s 0 d) (others_before_the_end s F other)
  either_before (up_to_arrows two F last) other =
      ⊎_elim (λ h. inl (rw (plain-length s 0) at h)) (λ a. inr a) (others_before_the_end t F other)
  either_before (check_cut A h) other = absurd (other refl)
  either_before (check_differs A h d) other = inl (omega (arith, h))
  either_before (bytes_behind A q h) other = inl h

  module _ (bytes : Bytes s) where
    bytes_too : Bytes t
    bytes_too = plain-bytes s bytes 0

    either : {p : Place} → Begins t p → BeginsEither s p
    either B = by_edition s 0 (λ two. (checked, lifted s two B)) (λ d. (plain, begins_plain (rw (as_other s 0 d) at B)))

    -- ── 2. Before the place that is told ───────────────────────────────────

    -- the bytes before a refusal with 7, 8, 9, 11 or 13 are those of some word's file
    pub either_right_before : {r : ℕ} {p q : Place} → FaultEither s r p q → (r ≡ 5 → ⊥) → (r ≡ 6 → ⊥) → (r ≡ 10 → ⊥) → BeginsEither s p
    either_right_before (in_edition_1 d F) five six ten = (plain, begins_plain (right-before s bytes F five six ten))
    either_right_before (up_to_arrows two F last) five six ten = (checked, lifted s two (right-before t bytes_too F five six ten))
    either_right_before (check_cut A h) five six ten = absurd (five refl)
    either_right_before (check_differs A h d) five six ten = (checked, check-right-before s bytes A)
    either_right_before (bytes_behind A q h) five six ten = (checked, check-right-behind s bytes A (omega arith) q)

    -- up to the number of arrows the file is its word's
    pub either_letters_right : {w : Word} {p : Place} → CountAt t w p → BeginsEither s p
    either_letters_right C = either (letters-right t bytes_too C)

    -- a file of either edition that begins so begins one of edition 1 with 1 for 2, or has all arrows of its word, so that 11 is the fault
    begins_or_left : at s 0 ≡ 2 → {p : Place} → 1 ≤ p → p ≤ length s → BeginsEither s p
        → Begins t p ⊎ ((n : Place) × FaultAt t 11 n (n + 1))
    begins_or_left two {p} some inside E =
        let B = two_begins two some E in
        let v = B.saved.word in
        by B (dec_le p (length (spell v)))
      where
        by : (B : BeginsIn checked s p) → Dec (p ≤ length (spell B.saved.word))
            → Begins t p ⊎ ((n : Place) × FaultAt t 11 n (n + 1))
        by B (yes h) = inl (lowered s two B h)
        by B (no h) =
            let v = B.saved.word in
            let n = length (spell v) in
            let whole = reached s two B (omega arith) inside in
            inr (n, bytes_left (all_there t v (drop n t) B.saved.savable whole) (omega (arith, plain-length s 0)))

    -- those before a refusal with 10 are exactly if the file declares as many arrows as its word has
    pub either_arrow_right : {r : ℕ} {p q : Place} → FaultEither s r p q → r ≡ 10
        → (w : Word) × (n : ℕ) × Declares t w n × (BeginsEither s p ↔ (n ≡ length (own_steps w)))
    either_arrow_right (in_edition_1 {p = p} d F) e =
        let a = arrow-right-before s bytes F e in
        let declared : Declares t a.0 a.1 = rw (as_other s 0 d) a.2 in
        (a.0, a.1, declared, (λ B. a.3.0 (other_begins d (ten_behind s F e) B), λ n. (plain, begins_plain (a.3.1 n))))
    either_arrow_right (up_to_arrows {r = r} {p = p} {q = q} two F last) e =
        let a = arrow-right-before t bytes_too F e in
        let i = fault_inside t F in
        let inside : p ≤ length s = omega (arith, i.0, i.1, plain-length s 0) in
        (a.0, a.1, a.2, (λ B. by a.3.0 (begins_or_left two (ten_behind t F e) inside B), λ n. (checked, lifted s two (a.3.1 n))))
      where
        by : {C : Type 0} → (Begins t p → C) → Begins t p ⊎ ((n : Place) × FaultAt t 11 n (n + 1)) → C
        by f (inl B) = f B
        by f (inr G) = absurd (last (one_fault t F G.1).0)
    either_arrow_right (check_cut A h) e = absurd (omega arith)
    either_arrow_right (check_differs A h d) e = absurd (omega arith)
    either_arrow_right (bytes_behind A q h) e = absurd (omega arith)

    -- ── 3. With the field at fault ─────────────────────────────────────────

    -- no word's file, in either edition, begins with the bytes up to the end of what is refused with 6 to 11 or 13
    pub either_wrong_behind : {r : ℕ} {p q : Place} → FaultEither s r p q → (r ≡ 5 → ⊥) → BeginsEither s q → ⊥
    either_wrong_behind (in_edition_1 d F) five B =
        wrong-behind s bytes F five (other_begins d (fault_takes s F five) B)
    either_wrong_behind (up_to_arrows {r = r} {p = p} {q = q} two F last) five B =
        by (begins_or_left two (fault_takes t F five) (rw (plain-length s 0) at (fault_inside t F).1) B)
      where
        by : Begins t q ⊎ ((n : Place) × FaultAt t 11 n (n + 1)) → ⊥
        by (inl C) = wrong-behind t bytes_too F five C
        by (inr G) = last (one_fault t F G.1).0
    either_wrong_behind (check_cut A h) five B = absurd (five refl)
    either_wrong_behind (check_differs A h d) five B = check-wrong s bytes A d (two_begins A.0 (omega arith) B)
    either_wrong_behind (bytes_behind A q h) five B = left-wrong s bytes A (two_begins A.0 (omega arith) B)
