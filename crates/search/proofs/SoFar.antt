-- SO FAR, AND STILL AHEAD: before each window, the finds so far and the starts of the windows still ahead are all starts, and so with the
-- letters read. This says what the search's loop ends with, and that no sum in it is too large: all letters are at most m (n + 1).
use mathlib.Core.Path.{◌≡◌, refl, sym, ap, ◌∙◌}
use mathlib.Core.Option.{none, some}
use mathlib.Core.List.{List, [], ◌∷◌, ◌++◌, append_assoc, append-nil}
use Prim.Native.Nat.{ℕ, suc, ◌+◌, ◌-◌, ◌≤◌, ◌<◌}
use native.Mathlib.Nat.{le_refl, zero-add, mul-le-mul}
use native.Mathlib.Omega.{arith}
use lib.ListN.{length, length-append}
use Rattle.words.specs.Words.{Word, Place}
use Rattle.words.specs.declared.Place.{Place as Placed}
use Rattle.oracle.specs.Arrows.{Delta}
use Rattle.backward.specs.Steps.{Sweep, read_down, after_find, windows, steps}
use Rattle.backward.proofs.Reading.{FailedAt, failed-place, whole-letters}
use Rattle.backward.proofs.AfterFind.{after_moves, after_most}
use Rattle.backward.proofs.Windows.{next, with_window, next_moves, windows-past, windows-one, windows-enough, steps-letters}
use Rattle.search.specs.Answers.{MaybePlace}
use Rattle.std.specs.Prelude.{Some, None}
use Rattle.search.specs.Answers.{reading_of, tally_of}
use Rattle.finds.specs.Finds.{filled}
use Rattle.search.proofs.Readings.{failed-told, whole-told}
use Rattle.finds.proofs.Filling.{filled-nil, filled-length}

-- ── The windows still ahead ────────────────────────────────────────────────

module _ (δ : Delta) (w t : Word) where
  -- what the windows from s on give
  abbrev ahead : Place → Sweep
  ahead s = windows δ w t (suc (length t)) s

  -- a window and those behind it
  ahead-one : (s : Place) → s + length w ≤ length t → ahead s ≡ with_window δ w t s (ahead (next δ w t s))
  ahead-one s h =
      let behind = next_moves δ w t s in
      let enough = windows-enough δ w t (length t) (suc (length t)) (next δ w t s) (omega (arith, behind)) (omega (arith, behind)) in
      windows-one δ w t (length t) s h ∙ ap (with_window δ w t s) enough

  -- where it is read whole
  ahead-whole : (s : Place) → s + length w ≤ length t → (read_down δ t s (length w) 0).failed ≡ none
      → ahead s ≡ record { starts = s ∷ (ahead (s + after_find w)).starts; letters = length w + (ahead (s + after_find w)).letters }
  ahead-whole s h e = rw (e, whole-letters δ t s (length w) 0 e) at (ahead-one s h)

  -- where it fails
  ahead-failed : (s f : Place) → s + length w ≤ length t → (read_down δ t s (length w) 0).failed ≡ some f
      → ahead s ≡ record { starts = (ahead (f + 1)).starts; letters = (s + length w - f) + (ahead (f + 1)).letters }
  ahead-failed s f h e =
      let place = failed-place δ t s (length w) 0 f e in
      let read : (read_down δ t s (length w) 0).letters ≡ s + length w - f = omega (arith, place.counted) in
      rw (e, read) at (ahead-one s h)

-- ── So far ─────────────────────────────────────────────────────────────────

-- the caller's list was F₀ and is F, and the window is at s
pub record SoFar (δ : Delta) (w t : Word) (F₀ F : List ℕ) (s : Place) (count letters : ℕ) : Type 0 where
  pub found : List Place
  pub number : length found ≡ count
  pub list : F ≡ filled found F₀
  pub all-starts : found ++ (ahead δ w t s).starts ≡ (steps δ w t).starts
  pub all_letters : letters + (ahead δ w t s).letters ≡ (steps δ w t).letters
  pub few : count ≤ s
  pub inside : s ≤ length t

-- nothing is read
pub so_far_start : {δ : Delta} {w t : Word} {F : List ℕ} → SoFar δ w t F F 0 0 0
unfolding steps
so_far_start {F = F} = record {
  found = [];
  number = refl;
  list = filled-nil F;
  all-starts = refl;
  all_letters = zero-add _;
  few = le_refl 0;
  inside = omega arith;
}

module _ {δ : Delta} {w t : Word} {F₀ F : List ℕ} {s : Place} {count letters : ℕ} (I : SoFar δ w t F₀ F s count letters) where
  -- the list has kept its length
  pub so_far_length : length F ≡ length F₀
  so_far_length = ap length I.list ∙ filled-length I.found F₀

  -- no window is left
  pub so_far_end : length t < s + length w
      → (record { count = count; letters = letters } ≡ tally_of (steps δ w t)) × (F ≡ filled (steps δ w t).starts F₀)
  so_far_end h =
      let past = windows-past δ w t (suc (length t)) s h in
      let all_found : I.found ≡ (steps δ w t).starts = sym (append-nil I.found) ∙ (rw past at I.all-starts) in
      let all_read : letters ≡ (steps δ w t).letters = omega (arith, rw past at I.all_letters) in
      let all-counted : count ≡ length (steps δ w t).starts = sym I.number ∙ ap length all_found in
      (rw (all-counted, all_read), rw all_found at I.list)

  -- the letters, with those ahead, are fewer than 2^48
  pub letters_fit : length w < 65536 → length t < 4294967295 → letters + (ahead δ w t s).letters < 281474976710656
  letters_fit m n =
      let places : suc (length t) - length w ≤ 4294967295 = omega arith in
      let read : length w ≤ 65535 = omega arith in
      omega (arith, I.all_letters, steps-letters δ w t, mul-le-mul read places)

  -- ── One window more ──────────────────────────────────────────────────────

  module _ (h : s + length w ≤ length t) (r : MaybePlace) (says : r ≡ reading_of (read_down δ t s (length w) 0)) where
    -- it was read whole: its letters fit too
    pub find-fits : r ≡ None → length w < 65536 → length t < 4294967295 → letters + length w < 281474976710656
    find-fits e m n = omega (arith, rw (ahead-whole δ w t s h (whole-told _ r says e)) at (letters_fit m n))

    -- and it is noted, as one find more
    pub so-far-find
        : r ≡ None → 1 ≤ length w → {step : ℕ} → step ≡ after_find w → {F' : List ℕ} {count' : ℕ} → count' ≡ count + 1
        → ((l f : List ℕ) → length l ≡ count → F ≡ filled l f → F' ≡ filled (l ++ (s ∷ [])) f)
        → SoFar δ w t F₀ F' (s + step) count' (letters + length w)
    so-far-find e some-letter moves counted noted =
        let whole = ahead-whole δ w t s h (whole-told _ r says e) in
        rw moves (record {
          found = I.found ++ (s ∷ []);
          number = length-append I.found (s ∷ []) ∙ omega (arith, I.number);
          list = noted I.found F₀ I.number I.list;
          all-starts = append_assoc I.found (s ∷ []) _ ∙ (rw whole at I.all-starts);
          all_letters = omega (arith, rw whole at I.all_letters);
          few = omega (arith, I.few, after_moves w);
          inside = omega (arith, after_most w some-letter);
        })

    module _ (f : Placed) (e : r ≡ Some f) where
      -- it failed, at a letter of its own
      pub fails-inside : FailedAt s (length w) f.0 (read_down δ t s (length w) 0).letters
      fails-inside = failed-place δ t s (length w) 0 f.0 (failed-told _ r f says e)

      -- and the next window starts behind it
      pub so_far_miss : SoFar δ w t F₀ F (f.0 + 1) count (letters + (s + length w - f.0))
      so_far_miss =
          let failed = ahead-failed δ w t s f.0 h (failed-told _ r f says e) in
          record {
            found = I.found;
            number = I.number;
            list = I.list;
            all-starts = rw failed at I.all-starts;
            all_letters = omega (arith, rw failed at I.all_letters);
            few = omega (arith, I.few, fails-inside);
            inside = omega (arith, fails-inside);
          }
