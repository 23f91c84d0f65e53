-- SO FAR, AND STILL AHEAD: before each window, the finds so far and the starts of the windows still ahead are all starts, and so with the
-- letters read and the failure arrows taken. This says what the search's loop ends with, and that no sum in it is too large: all letters
-- are fewer than 2^48, and each takes fewer than 2^16 failure arrows.
use mathlib.Core.Path.{◌≡◌, refl, sym, ap, ◌∙◌}
use mathlib.Core.Bool.{true, false}
use mathlib.Core.Option.{none, some}
use mathlib.Core.List.{List, [], ◌∷◌, ◌++◌, append_assoc, append-nil}
use Prim.Native.Nat.{ℕ, suc, ◌+◌, ◌-◌, ◌≤◌, ◌<◌}
use native.Mathlib.Nat.{le_refl, zero-add, mul-le-mul}
use native.Mathlib.Omega.{arith}
use lib.ListN.{length, length-append}
use Rattle.words.specs.Words.{Word, Place, stands}
use Rattle.words.specs.declared.Place.{Place as Placed}
use Rattle.backward.specs.Steps.{after_find}
use Rattle.backward.proofs.Reading.{FailedAt, whole-letters}
use Rattle.backward.proofs.AfterFind.{after_moves, after_most}
use Rattle.std.specs.Prelude.{Some, None}
use Rattle.search.specs.Answers.{failed_at}
use Rattle.search.proofs.Readings.{failed-told, whole-told}
use Rattle.finds.specs.Finds.{filled}
use Rattle.finds.proofs.Filling.{filled-nil, filled-length}
use Rattle.failure.specs.FailureRule.{Asking, leads}
use Rattle.failure.specs.FailureSteps.{FailureSweep, read_window_both, failure_windows, failure_steps_with}
use Rattle.failure.proofs.Windows.{as_read_down, both_failed_place, next, with_window, next_moves}
use Rattle.failure.proofs.Windows.{windows-past, windows-one, windows-enough, steps-letters, steps_failures_most}
use Rattle.failure_search.specs.declared.CountedRead.{CountedRead}
use Rattle.failure_search.specs.Tallies.{counted_read_of, failure_tally_of}
use Rattle.failure_search.proofs.States.{FewTaken}

-- ── The windows still ahead ────────────────────────────────────────────────

-- a window adds the starts l, n letters and f failure arrows
abbrev adding : List Place → ℕ → ℕ → FailureSweep → FailureSweep
adding l n f R = record { starts = l ++ R.starts; letters = n + R.letters; failures = f + R.failures }

module _ (σ : Asking) (w t : Word) where
  -- what the windows from s on give
  abbrev ahead : Place → FailureSweep
  ahead s = failure_windows σ w t (suc (length t)) s

  -- the failure arrows of the window at s
  abbrev taking : Place → ℕ
  taking s = (read_window_both σ w t s).failures

  -- a window and those behind it
  ahead-one : (s : Place) → s + length w ≤ length t → ahead s ≡ with_window σ w t s (ahead (next σ w t s))
  ahead-one s h =
      let behind = next_moves σ w t s in
      let enough = windows-enough σ w t (length t) (suc (length t)) (next σ w t s) (omega arith) (omega arith) in
      windows-one σ w t (length t) s h ∙ ap (with_window σ w t s) enough

  whole-read : (s : Place) → (read_window_both σ w t s).failed ≡ none → (read_window_both σ w t s).letters ≡ length w
  whole-read s e = let r = as_read_down σ t s (length w) 0 in r.1 ∙ whole-letters (leads σ) t s (length w) 0 (sym r.0 ∙ e)

  -- where it is read whole and the word stands
  ahead-found : (s : Place) → s + length w ≤ length t → (read_window_both σ w t s).failed ≡ none → stands w t s ≡ true
      → ahead s ≡ adding (s ∷ []) (length w) (taking s) (ahead (s + after_find w))
  ahead-found s h e d = rw (e, d, whole-read s e) at (ahead-one s h)

  -- where it is read whole and the word does not stand
  ahead-unlike : (s : Place) → s + length w ≤ length t → (read_window_both σ w t s).failed ≡ none → stands w t s ≡ false
      → ahead s ≡ adding [] (length w) (taking s) (ahead (s + 1))
  ahead-unlike s h e d = rw (e, d, whole-read s e) at (ahead-one s h)

  -- where it fails
  ahead-failed : (s f : Place) → s + length w ≤ length t → (read_window_both σ w t s).failed ≡ some f
      → ahead s ≡ adding [] (s + length w - f) (taking s) (ahead (f + 1))
  ahead-failed s f h e =
      let place = both_failed_place σ t s (length w) 0 f e in
      let read : (read_window_both σ w t s).letters ≡ s + length w - f = omega arith in
      rw (e, read) at (ahead-one s h)

-- ── So far ─────────────────────────────────────────────────────────────────

-- the caller's list was F₀ and is F, and the window is at s
pub record SoFar (σ : Asking) (w t : Word) (F₀ F : List ℕ) (s : Place) (count letters failures : ℕ) : Type 0 where
  pub found : List Place
  pub number : length found ≡ count
  pub list : F ≡ filled found F₀
  pub all-starts : found ++ (ahead σ w t s).starts ≡ (failure_steps_with σ w t).starts
  pub all_letters : letters + (ahead σ w t s).letters ≡ (failure_steps_with σ w t).letters
  pub all_failures : failures + (ahead σ w t s).failures ≡ (failure_steps_with σ w t).failures
  pub few : count ≤ s
  pub inside : s ≤ length t

-- nothing is read
pub so_far_start : {σ : Asking} {w t : Word} {F : List ℕ} → SoFar σ w t F F 0 0 0 0
unfolding failure_steps_with
so_far_start {F = F} = record {
  found = [];
  number = refl;
  list = filled-nil F;
  all-starts = refl;
  all_letters = zero-add _;
  all_failures = zero-add _;
  few = le_refl 0;
  inside = omega arith;
}

module _ {σ : Asking} {w t : Word} {F₀ F : List ℕ} {s count letters failures : ℕ} (I : SoFar σ w t F₀ F s count letters failures) where
  abbrev all : FailureSweep
  all = failure_steps_with σ w t

  -- the list has kept its length
  pub so_far_length : length F ≡ length F₀
  so_far_length = ap length I.list ∙ filled-length I.found F₀

  -- no window is left
  pub so_far_end : length t < s + length w
      → (record { count = count; letters = letters; failures = failures } ≡ failure_tally_of all) × (F ≡ filled all.starts F₀)
  so_far_end h =
      let past = windows-past σ w t (suc (length t)) s h in
      let all_found : I.found ≡ all.starts = sym (append-nil I.found) ∙ (rw past at I.all-starts) in
      let all_read : letters ≡ all.letters = omega (arith, rw past at I.all_letters) in
      let all-taken : failures ≡ all.failures = omega (arith, rw past at I.all_failures) in
      let all-counted : count ≡ length all.starts = sym I.number ∙ ap length all_found in
      (rw (all-counted, all_read, all-taken), rw all_found at I.list)

  -- the letters, with those ahead, are fewer than 2^48
  pub letters_fit : length w < 65536 → length t < 4294967295 → letters + (ahead σ w t s).letters < 281474976710656
  letters_fit m n =
      let places : suc (length t) - length w ≤ 4294967295 = omega arith in
      let read : length w ≤ 65535 = omega arith in
      omega (arith, steps-letters σ w t, mul-le-mul read places)

  -- and the failure arrows fewer than 2^64
  failures_fit : length w < 65536 → length t < 4294967295 → FewTaken σ → failures + (ahead σ w t s).failures < 18446744073709551616
  failures_fit m n f = omega (arith, steps_failures_most σ 65535 f t w, letters_fit m n)

  -- ── One window more ──────────────────────────────────────────────────────

  module _ (h : s + length w ≤ length t) (r : CountedRead) (says : r ≡ counted_read_of (read_window_both σ w t s)) where
    how_is : r.how ≡ failed_at (read_window_both σ w t s).failed
    how_is = ap (λ (q : CountedRead). q.how) says

    failures_is : r.failures ≡ taking σ w t s
    failures_is = ap (λ (q : CountedRead). q.failures) says

    -- its failure arrows fit too
    pub window_taken : length w < 65536 → length t < 4294967295 → FewTaken σ → failures + r.failures < 18446744073709551616
    window_taken m n f = omega (arith, failures_is, rw (ahead-one σ w t s h) at (failures_fit m n f))

    -- it adds the starts l and k letters, and the next one is at s'
    so-far-on
        : {s' : Place} (l : List Place) (k : ℕ) → ahead σ w t s ≡ adding l k (taking σ w t s) (ahead σ w t s')
        → {F' : List ℕ} {count' : ℕ} → count' ≡ count + length l → F' ≡ filled (I.found ++ l) F₀ → count' ≤ s' → s' ≤ length t
        → SoFar σ w t F₀ F' s' count' (letters + k) (failures + r.failures)
    so-far-on l k q counted list few inside = record {
      found = I.found ++ l;
      number = length-append I.found l ∙ omega arith;
      list = list;
      all-starts = append_assoc I.found l _ ∙ (rw q at I.all-starts);
      all_letters = omega (arith, rw q at I.all_letters);
      all_failures = omega (arith, failures_is, rw q at I.all_failures);
      few = few;
      inside = inside;
    }

    -- no start is added
    same-list : F ≡ filled (I.found ++ []) F₀
    same-list = rw (append-nil I.found) I.list

    -- it was read whole
    module _ (told : r.how ≡ None) where
      whole : (read_window_both σ w t s).failed ≡ none
      whole = whole-told _ r.how how_is told

      -- its letters fit too
      pub whole-fits : length w < 65536 → length t < 4294967295 → letters + length w < 281474976710656
      whole-fits m n = omega (arith, whole-read σ w t s whole, rw (ahead-one σ w t s h) at (letters_fit m n))

      -- the word stands there, and that is noted, as one find more
      pub so-far-find
          : true ≡ stands w t s → 1 ≤ length w → {step : ℕ} → step ≡ after_find w → {F' : List ℕ} {count' : ℕ} → count' ≡ count + 1
          → ((l f : List ℕ) → length l ≡ count → F ≡ filled l f → F' ≡ filled (l ++ (s ∷ [])) f)
          → SoFar σ w t F₀ F' (s + step) count' (letters + length w) (failures + r.failures)
      so-far-find d some-letter moves counted noted =
          let step-moves = after_moves w in
          let list = noted I.found F₀ I.number I.list in
          rw moves (so-far-on (s ∷ []) (length w) (ahead-found σ w t s h whole (sym d)) counted list
          (omega arith) (omega (arith, after_most w some-letter)))

      -- it does not
      pub so_far_unlike : false ≡ stands w t s → 1 ≤ length w → SoFar σ w t F₀ F (s + 1) count (letters + length w) (failures + r.failures)
      so_far_unlike d some-letter =
          so-far-on [] (length w) (ahead-unlike σ w t s h whole (sym d)) (omega arith) same-list (omega arith) (omega arith)

    -- it failed
    module _ (f : Placed) (told : r.how ≡ Some f) where
      failed : (read_window_both σ w t s).failed ≡ some f.0
      failed = failed-told _ r.how f how_is told

      -- inside the window
      pub fails-inside : FailedAt s (length w) f.0 (read_window_both σ w t s).letters
      fails-inside = both_failed_place σ t s (length w) 0 f.0 failed

      -- and the next one starts behind the failing letter
      pub so_far_miss : SoFar σ w t F₀ F (f.0 + 1) count (letters + (s + length w - f.0)) (failures + r.failures)
      so_far_miss =
          let place = fails-inside in
          let next = ahead-failed σ w t s f.0 h failed in
          so-far-on [] (s + length w - f.0) next (omega arith) same-list (omega arith) (omega arith)
