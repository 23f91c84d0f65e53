-- What the reading of one window says. Where it fails, the letters read are those from the failing place on, and their mirror is not
-- walked; where it does not fail, all the window's letters are read, and their mirror is walked. Each goes by one induction over the
-- letters that are left: none, a letter that fails, a letter that is read.
use mathlib.Core.Path.{◌≡◌, refl, ap, ◌∙◌}
use mathlib.Core.Option.{none, some}
use Prim.Native.Nat.{ℕ, zero, suc, ◌+◌, ◌-◌, ◌≤◌, ◌<◌}
use native.Mathlib.Nat.{le_refl, add-zero}
use native.Mathlib.Omega.{arith}
use lib.ListN.{length}
use Rattle.words.specs.Words.{Word, Place, letter, part, mirror}
use Rattle.words.proofs.Lists.{option_cases}
use Rattle.words.proofs.Words.{mirror_snoc}
use Rattle.oracle.specs.Arrows.{State, Delta, walk}
use Rattle.oracle.proofs.Targets.{never}
use Rattle.backward.specs.Steps.{Reading, read_all, fails_at, one_more, read_down}

-- ── Walks of mirrors ───────────────────────────────────────────────────────

module _ (δ : Delta) (t : Word) (a n : ℕ) (inside : a + n < length t) (x : State) where
  -- the walk of a part's mirror goes the arrow of the part's last letter first
  walk_on : (y : State) → δ x (letter t (a + n)) ≡ some y → walk δ x (mirror (part t a (suc n))) ≡ walk δ y (mirror (part t a n))
  unfolding walk
  walk_on y e = rw (mirror_snoc t a n inside, walk, e)

  -- and ends at once where there is none
  walk-stuck : δ x (letter t (a + n)) ≡ none → walk δ x (mirror (part t a (suc n))) ≡ none
  unfolding walk
  walk-stuck e = rw (mirror_snoc t a n inside, walk, e)

-- ── Readings ───────────────────────────────────────────────────────────────

-- a reading of k letters from s on failed at f, with so many letters read
pub record FailedAt (s : Place) (k : ℕ) (f : Place) (read : ℕ) : Type 0 where
  pub not_before : s ≤ f
  pub before-end : f < s + k
  pub counted : read + f ≡ s + k

module _ (δ : Delta) (t : Word) (s : Place) where
  -- no letter is left
  pub read_done : (x : State) → read_down δ t s 0 x ≡ read_all
  unfolding read_down
  read_done x = refl

  -- the first letter has no arrow
  pub read-fails : (k : ℕ) (x : State) → δ x (letter t (s + k)) ≡ none → read_down δ t s (suc k) x ≡ fails_at (s + k)
  unfolding read_down
  read-fails k x e = rw (e, read_down)

  -- it has one, along which the others are read
  pub read_goes : (k : ℕ) (x y : State) → δ x (letter t (s + k)) ≡ some y → read_down δ t s (suc k) x ≡ one_more (read_down δ t s k y)
  unfolding read_down
  read_goes k x y e = rw (e, read_down)

  -- what holds where no letter is left, where a letter fails, and of one more letter where it held, holds of every reading
  reading-induction
      : (P : ℕ → State → Reading → Type 0)
      → ((x : State) → P 0 x read_all)
      → ((k : ℕ) (x : State) → δ x (letter t (s + k)) ≡ none → P (suc k) x (fails_at (s + k)))
      → ((k : ℕ) (x y : State) (r : Reading) → δ x (letter t (s + k)) ≡ some y → P k y r → P (suc k) x (one_more r))
      → (k : ℕ) (x : State) → P k x (read_down δ t s k x)
  reading-induction P done fails goes zero x = rw (read_done x) (done x)
  reading-induction P done fails goes (suc k) x = option_cases (δ x (letter t (s + k)))
      (λ e. rw (read-fails k x e) (fails k x e))
      (λ y e. rw (read_goes k x y e) (goes k x y (read_down δ t s k y) e (reading-induction P done fails goes k y)))

  -- the failing letter is one of the window's, and the letters read are those from it on: it counts one itself
  pub failed-place : (k : ℕ) (x : State) (f : Place) → (read_down δ t s k x).failed ≡ some f
      → FailedAt s k f (read_down δ t s k x).letters
  failed-place k x f = reading-induction (λ k x r. r.failed ≡ some f → FailedAt s k f r.letters)
      (λ x e. never refl e)
      (λ k x d e. let q : s + k ≡ f = cc in record { not_before = omega arith; before-end = omega arith; counted = omega arith })
      (λ k x y r d rec e. let h = rec e in record { not_before = omega arith; before-end = omega arith; counted = omega arith })
      k x

  -- a reading that does not fail reads every letter
  pub whole-letters : (k : ℕ) (x : State) → (read_down δ t s k x).failed ≡ none → (read_down δ t s k x).letters ≡ k
  whole-letters k x = reading-induction (λ k x r. r.failed ≡ none → r.letters ≡ k)
      (λ x e. refl)
      (λ k x d e. cc)
      (λ k x y r d rec e. ap suc (rec e))
      k x

  -- no reading reads more letters than the window has
  pub reading_letters_most : (k : ℕ) (x : State) → (read_down δ t s k x).letters ≤ k
  reading_letters_most k x = reading-induction (λ k x r. r.letters ≤ k)
      (λ x. le_refl 0)
      (λ k x d. omega arith)
      (λ k x y r d rec. omega arith)
      k x

  -- a reading that does not fail walks the window's mirror
  pub whole-walked : (k : ℕ) (x : State) → s + k ≤ length t → (read_down δ t s k x).failed ≡ none
      → (y : State) × (walk δ x (mirror (part t s k)) ≡ some y)
  unfolding walk
  whole-walked k x = reading-induction Walked
      (λ x h e. (x, refl))
      (λ k x d h e. never e refl)
      (λ k x y r d rec h e. rw (walk_on δ t s k (omega arith) x y d) (rec (omega arith) e))
      k x
    where
      Walked : ℕ → State → Reading → Type 0
      Walked k x r = s + k ≤ length t → r.failed ≡ none → (y : State) × (walk δ x (mirror (part t s k)) ≡ some y)

  -- a reading that fails does not walk the mirror of the letters from the failing one on
  pub failed-walk : (k : ℕ) (x : State) (f : Place) → s + k ≤ length t → (read_down δ t s k x).failed ≡ some f
      → walk δ x (mirror (part t f (s + k - f))) ≡ none
  failed-walk k x f h e =
      let r = reading-induction Stuck (λ x h e. never refl e) fails goes k x h e in
      let q : s + k - f ≡ suc r.0 = omega (arith, r.1) in
      rw q r.2
    where
      -- d letters were walked before the failing one
      Stuck : ℕ → State → Reading → Type 0
      Stuck k x r = s + k ≤ length t → r.failed ≡ some f
          → (d : ℕ) × (f + suc d ≡ s + k) × (walk δ x (mirror (part t f (suc d))) ≡ none)

      fails : (k : ℕ) (x : State) → δ x (letter t (s + k)) ≡ none → Stuck (suc k) x (fails_at (s + k))
      fails k x d h e =
          let q : s + k ≡ f = cc in
          (0, omega arith, walk-stuck δ t f 0 (omega arith) x (rw (q, ← add-zero f) at d))

      goes : (k : ℕ) (x y : State) (r : Reading) → δ x (letter t (s + k)) ≡ some y → Stuck k y r → Stuck (suc k) x (one_more r)
      goes k x y r d rec h e =
          let b = rec (omega arith) e in
          let q : s + k ≡ f + suc b.0 = omega (arith, b.1) in
          (suc b.0, omega arith, walk_on δ t f (suc b.0) (omega arith) x y (rw q at d) ∙ b.2)
