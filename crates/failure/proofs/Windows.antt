-- The search with the failure oracle, window after window. Its readings fail where those of the backward search do, with the arrows along
-- which letters lead by both kinds, and read as many letters; so no occurrence is lost where a reading fails. Where none does, the word is
-- compared. The list and the letters go by one induction over the windows.
use mathlib.Core.Path.{◌≡◌, refl, sym, ap, ◌∙◌}
use mathlib.Core.Bool.{Bool, true, false}
use mathlib.Core.Logic.{by_cases}
use mathlib.Core.Option.{Option, none, some}
use mathlib.Core.List.{List, ◌∷◌}
use Prim.Native.Nat.{ℕ, zero, suc, ◌+◌, ◌-◌, ◌*◌, ◌≤◌, ◌<◌}
use native.Mathlib.Nat.{zero-add, mul-one, mul-suc, mul-add, mul-le-mul_left}
use native.Mathlib.Decide.{dec_le}
use native.Mathlib.Omega.{arith}
use lib.ListN.{length}
use borrow.Author.Tests.{le-leb, lt-leb}
use Rattle.words.specs.Words.{Letter, Word, Place, letter, stands, occurrences}
use Rattle.words.proofs.Lists.{option_cases, test_cases}
use Rattle.words.proofs.Occurrences.{since, since-start, since-past, since-here, since-later}
use Rattle.oracle.specs.Arrows.{State}
use Rattle.backward.specs.Steps.{after_find, read_down}
use Rattle.backward.proofs.Reading.{FailedAt, failed-place, reading_letters_most}
use Rattle.backward.proofs.AfterFind.{after_moves, after_safe}
use Rattle.backward.proofs.Windows.{WalksParts, reading_loses_none}
use Rattle.failure.specs.FailureRule.{Asking, leads}
use Rattle.failure.specs.FailureSteps.{none_left, fails_asked, one_asked, read_both, read_window_both, failure_next, failure_listed}
use Rattle.failure.specs.FailureSteps.{FailureReading, FailureSweep, no_window, failure_windows, failure_steps_with}

-- ── Readings ───────────────────────────────────────────────────────────────

module _ (σ : Asking) (t : Word) (s : Place) where
  -- no letter is left
  pub both_done : (x : State) → read_both σ t s 0 x ≡ none_left
  unfolding read_both
  both_done x = refl

  -- the last one fails
  pub both_fails : (k : ℕ) (x : State) → (σ x (letter t (s + k))).to ≡ none
      → read_both σ t s (suc k) x ≡ fails_asked (s + k) (σ x (letter t (s + k)))
  unfolding read_both
  both_fails k x e = rw (e, read_both)

  -- it leads on
  pub both_goes : (k : ℕ) (x y : State) → (σ x (letter t (s + k))).to ≡ some y
      → read_both σ t s (suc k) x ≡ one_asked (σ x (letter t (s + k))) (read_both σ t s k y)
  unfolding read_both
  both_goes k x y e = rw (e, read_both)

  -- a reading by both kinds, but for the failure arrows, is one with the arrows along which letters lead
  abbrev AsReadDown : ℕ → State → FailureReading → Type 0
  AsReadDown k x r = let one = read_down (leads σ) t s k x in (r.failed ≡ one.failed) × (r.letters ≡ one.letters)

  pub as_read_down : (k : ℕ) (x : State) → AsReadDown k x (read_both σ t s k x)
  unfolding read_both read_down
  as_read_down zero x = (refl, refl)
  as_read_down (suc k) x = option_cases (leads σ x (letter t (s + k)))
      (λ e. rw (e, read_both, read_down) (refl, refl))
      (λ y e. let r = as_read_down k y in rw (e, read_both, read_down) (r.0, ap suc r.1))

  -- where it failed
  pub both_failed_place : (k : ℕ) (x : State) (f : Place) → (read_both σ t s k x).failed ≡ some f
      → FailedAt s k f (read_both σ t s k x).letters
  both_failed_place k x f e = let r = as_read_down k x in rw r.1 (failed-place (leads σ) t s k x f (sym r.0 ∙ e))

  -- it reads no more letters than there are
  both_letters_most : (k : ℕ) (x : State) → (read_both σ t s k x).letters ≤ k
  both_letters_most k x = rw (as_read_down k x).1 (reading_letters_most (leads σ) t s k x)

-- ── All windows ────────────────────────────────────────────────────────────

module _ (σ : Asking) (w t : Word) where
  -- where the window behind the one at s starts
  abbrev pub next : Place → Place
  next s = failure_next w t s (read_window_both σ w t s).failed

  -- what the later windows say, with what the one at s adds
  abbrev pub with_window : Place → FailureSweep → FailureSweep
  with_window s later =
      let r = read_window_both σ w t s in
      record {
        starts = failure_listed w t s r.failed later.starts;
        letters = r.letters + later.letters;
        failures = r.failures + later.failures;
      }

  -- every window starts behind the one before
  pub next_moves : (s : Place) → s < next s
  next_moves s = option_cases (read_window_both σ w t s).failed
      (λ e. test_cases (stands w t s) (λ d. rw (e, d) (omega (arith, after_moves w))) (λ d. rw (e, d) (omega arith)))
      (λ f e. let p = both_failed_place σ t s (length w) 0 f e in rw e (omega arith))

  -- a window that ends behind the text is none
  pub windows-past : (k : ℕ) (s : Place) → length t < s + length w → failure_windows σ w t k s ≡ no_window
  unfolding failure_windows
  windows-past zero s h = refl
  windows-past (suc k) s h = rw (lt-leb (s + length w) (length t) h)

  -- one that ends within the text is read
  pub windows-one : (k : ℕ) (s : Place) → s + length w ≤ length t
      → failure_windows σ w t (suc k) s ≡ with_window s (failure_windows σ w t k (next s))
  unfolding failure_windows
  windows-one k s h = rw (le-leb (s + length w) (length t) h)

  -- what holds past the last window, and of one more window where it held, holds of all windows
  pub windows-induction
      : (P : Place → FailureSweep → Type 0)
      → ((s : Place) → length t < s + length w → P s no_window)
      → ((s : Place) (later : FailureSweep) → s + length w ≤ length t → P (next s) later → P s (with_window s later))
      → (k : ℕ) (s : Place) → length t < k + s → P s (failure_windows σ w t k s)
  windows-induction P past one zero s h = rw (windows-past zero s (omega arith)) (past s (omega arith))
  windows-induction P past one (suc k) s h = by_cases (dec_le (s + length w) (length t))
      (λ l. rw (windows-one k s l) (one s _ l (windows-induction P past one k _ (omega (arith, next_moves s)))))
      (λ l. rw (windows-past (suc k) s (omega arith)) (past s (omega arith)))

  -- the bound on the windows does not matter, if it is enough
  pub windows-enough : (k k' : ℕ) (s : Place) → length t < k + s → length t < k' + s
      → failure_windows σ w t k s ≡ failure_windows σ w t k' s
  windows-enough k k' s h = windows-induction AsAnyBound (λ s l k' h. sym (windows-past k' s l)) one k s h k'
    where
      AsAnyBound : Place → FailureSweep → Type 0
      AsAnyBound s r = (k' : ℕ) → length t < k' + s → r ≡ failure_windows σ w t k' s

      one : (s : Place) (later : FailureSweep) → s + length w ≤ length t → AsAnyBound (next s) later → AsAnyBound s (with_window s later)
      one s later l rec zero h = absurd (omega arith)
      one s later l rec (suc k') h = ap (with_window s) (rec k' (omega (arith, next_moves s))) ∙ sym (windows-one k' s l)

  -- ── The letters ──────────────────────────────────────────────────────────

  -- the windows from s on read at most m letters at each of the places from s to n - m
  windows-letters : (k : ℕ) (s : Place) → length t < k + s
      → (failure_windows σ w t k s).letters ≤ length w * (suc (length t) - (s + length w))
  windows-letters = windows-induction Few (λ s l. omega arith) one
    where
      ahead : Place → ℕ
      ahead s = suc (length t) - (s + length w)

      Few : Place → FailureSweep → Type 0
      Few s r = r.letters ≤ length w * ahead s

      one : (s : Place) (later : FailureSweep) → s + length w ≤ length t → Few (next s) later → Few s (with_window s later)
      one s later l h =
          let u : suc (ahead (next s)) ≤ ahead s = omega (arith, next_moves s) in
          omega (arith, mul-le-mul_left (length w) u, both_letters_most σ t s (length w) 0)

  -- all windows: at each of the places from 0 to n - m
  pub steps-letters : (failure_steps_with σ w t).letters ≤ length w * (suc (length t) - length w)
  unfolding failure_steps_with
  steps-letters = rw (zero-add (length w)) at (windows-letters (suc (length t)) 0 (omega arith))

  -- so at most m (n - m + 1) letters are read
  pub steps_letters_most : length w ≤ length t → (failure_steps_with σ w t).letters ≤ length w * (length t - length w + 1)
  steps_letters_most h = let e : suc (length t) - length w ≡ length t - length w + 1 = omega arith in rw e at steps-letters

  -- in a text shorter than the word nothing is read and nothing found
  pub steps-short : length t < length w → failure_steps_with σ w t ≡ no_window
  unfolding failure_steps_with
  steps-short h = windows-past (suc (length t)) 0 (omega arith)

-- ── The failure arrows ─────────────────────────────────────────────────────

-- where a letter takes at most b failure arrows
module _ (σ : Asking) (b : ℕ) (few : (x : State) (c : Letter) → (σ x c).taken ≤ b) (t : Word) where
  -- a reading takes at most b for each letter that it reads
  both_failures_most : (s : Place) (k : ℕ) (x : State) → (read_both σ t s k x).failures ≤ b * (read_both σ t s k x).letters
  both_failures_most s zero x = rw (both_done σ t s x) (omega arith)
  both_failures_most s (suc k) x =
      let here = few x (letter t (s + k)) in
      option_cases (σ x (letter t (s + k))).to
      (λ e. rw (both_fails σ t s k x e) (omega (arith, mul-one b)))
      (λ y e.
      let rest = read_both σ t s k y in
      rw (both_goes σ t s k x y e) (omega (arith, both_failures_most s k y, mul-suc b rest.letters)))

  -- and so do all windows
  pub steps_failures_most : (w : Word) → (failure_steps_with σ w t).failures ≤ b * (failure_steps_with σ w t).letters
  unfolding failure_steps_with
  steps_failures_most w =
      windows-induction σ w t (λ s r. r.failures ≤ b * r.letters) (λ s l. omega arith) one (suc (length t)) 0 (omega arith)
    where
      one : (s : Place) (later : FailureSweep) → s + length w ≤ length t → later.failures ≤ b * later.letters
          → (with_window σ w t s later).failures ≤ b * (with_window σ w t s later).letters
      one s later l h =
          omega (arith, both_failures_most s (length w) 0, mul-add b (read_window_both σ w t s).letters later.letters)

-- ── The list ───────────────────────────────────────────────────────────────

-- all that this search asks of its arrows is that each part of the mirrored word is walked
module _ (σ : Asking) {w : Word} (parts : WalksParts w (leads σ)) (t : Word) where
  -- the windows from s on list the occurrences from s on
  windows-list : (k : ℕ) (s : Place) → length t < k + s → (failure_windows σ w t k s).starts ≡ since w t s
  windows-list = windows-induction σ w t (λ s r. r.starts ≡ since w t s)
      (λ s h. sym (since-past w t s h))
      (λ s later l. one s l (read_window_both σ w t s).failed refl (stands w t s) refl later.starts)
    where
      one
          : (s : Place) → s + length w ≤ length t → (o : Option Place) → (read_window_both σ w t s).failed ≡ o
          → (b : Bool) → stands w t s ≡ b
          → (later : List Place) → later ≡ since w t (failure_next w t s o) → failure_listed w t s o later ≡ since w t s
      one s l (some f) e b d later rec =
          let place = both_failed_place σ t s (length w) 0 f e in
          let failed = sym (as_read_down σ t s (length w) 0).0 ∙ e in
          let lost = reading_loses_none parts t s (length w) l f failed in
          rec ∙ sym (since-later w t s (f + 1) (omega arith) (λ j h u. lost j (omega arith) (omega arith)))
      one s l none e true d later rec =
          let moved : suc s ≤ s + after_find w = omega (arith, after_moves w) in
          let skipped = since-later w t (suc s) _ moved (λ j h u there. omega (arith, after_safe w t s j d there h)) in
          rw d (ap (λ (p : List Place). s ∷ p) (rw d at rec ∙ sym skipped) ∙ sym (since-here w t s l d))
      one s l none e false d later rec =
          rw d (rw d at rec ∙ sym (since-later w t s (s + 1) (omega arith) (λ j h u. elsewhere j (omega arith))))
        where
          elsewhere : (j : Place) → j ≡ s → stands w t j ≡ true → ⊥
          elsewhere j q there = let here = rw q at there in let z : ◌≡◌ {A = ℕ} 0 1 = cc in omega arith

  -- the search lists the occurrences
  pub steps-list : (failure_steps_with σ w t).starts ≡ occurrences w t
  unfolding failure_steps_with
  steps-list = windows-list (suc (length t)) 0 (omega arith) ∙ since-start w t
