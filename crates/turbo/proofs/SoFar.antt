-- SO FAR, AND STILL AHEAD: before each window, the finds so far and those of the windows still ahead are all finds, and so with the letters
-- read. A window adds what its two readings answer: the first says where the second begins, which goes as `forward` does from there.
use mathlib.Core.Path.{◌≡◌, refl, sym, ap, ◌∙◌}
use mathlib.Core.List.{List, [], ◌++◌, append_assoc, append-nil}
use Prim.Native.Nat.{ℕ, suc, ◌+◌, ◌-◌, ◌*◌, ◌≤◌, ◌<◌}
use native.Mathlib.Nat.{le_refl, zero-add}
use native.Mathlib.Omega.{arith}
use lib.ListN.{length, length-append}
use Rattle.words.specs.Words.{Word, Place}
use Rattle.words.proofs.Lists.{option_cases}
use Rattle.oracle.specs.Arrows.{Delta}
use Rattle.backward.specs.Steps.{read_down}
use Rattle.search.specs.Answers.{tally_of}
use Rattle.finds.specs.Finds.{filled}
use Rattle.finds.proofs.Filling.{filled-nil, filled-length}
use Rattle.turbo_steps.specs.Turbo.{kept_at, Advance, window_end, read_back, next_low, next_place, read_forth, turbo_windows, turbo_steps}
use Rattle.turbo_steps.proofs.Between.{kept-short, kept-past, kept_fresh}
use Rattle.turbo_steps.proofs.Windows.{with_window, windows-past, windows-one}
use Rattle.turbo_steps.proofs.Windows.{Moves, window_moves, steps-letters}
use Rattle.turbo.specs.declared.Begin.{Begin}
use Rattle.turbo.specs.declared.Stop.{Stop}
use Rattle.turbo.specs.Readings.{begins_at, StopsAs}

-- the caller's list was F₀ and is F; h letters are kept at c, and none of them stands before `low`
pub record SoFar (δ : Delta) (w t : Word) (F₀ F : List ℕ) (c : Place) (h count letters : ℕ) : Type 0 where
  pub bound : ℕ
  pub low : Place
  pub found : List Place
  pub enough : length t < bound + c
  pub below : low ≤ c
  pub inside : c ≤ length t
  pub keeps : h ≡ kept_at w t low c
  pub number : length found ≡ count
  pub list : F ≡ filled found F₀
  pub all-starts : found ++ (turbo_windows δ w t bound low c).starts ≡ (turbo_steps δ w t).starts
  pub all_letters : letters + (turbo_windows δ w t bound low c).letters ≡ (turbo_steps δ w t).letters
  pub few : count ≤ c

-- nothing is read
pub so_far_start : {δ : Delta} {w t : Word} {F : List ℕ} → 1 ≤ length w → SoFar δ w t F F 0 0 0 0
unfolding turbo_steps
so_far_start {w = w} {t = t} {F = F} some-letter = record {
  bound = suc (length t);
  low = 0;
  found = [];
  enough = omega arith;
  below = le_refl 0;
  inside = omega arith;
  keeps = sym (kept_fresh w t 0 some-letter (omega arith));
  number = refl;
  list = filled-nil F;
  all-starts = refl;
  all_letters = zero-add _;
  few = le_refl 0;
}

module _ {δ : Delta} {w t : Word} {F₀ F : List ℕ} {c : Place} {h count letters : ℕ} (I : SoFar δ w t F₀ F c h count letters) where
  -- the list has kept its length
  pub so_far_length : length F ≡ length F₀
  so_far_length = ap length I.list ∙ filled-length I.found F₀

  -- the letters are at most 2n
  pub so_far_letters : 1 ≤ length w → letters ≤ 2 * length t
  so_far_letters some-letter = omega (arith, I.all_letters, steps-letters δ w t some-letter)

  -- the window starts within the text
  pub so_far_fits : 1 ≤ length w → h ≤ c
  so_far_fits some-letter = omega (arith, I.keeps, kept-past w t I.low c I.below I.inside some-letter)

  -- where it ends
  abbrev end : Place
  end = c - h + length w

  end_is : end ≡ window_end w t I.low c
  end_is = ap (λ (x : ℕ). c - x + length w) I.keeps

  -- no window is left
  pub so_far_end : length t < end
      → (record { count = count; letters = letters } ≡ tally_of (turbo_steps δ w t)) × (F ≡ filled (turbo_steps δ w t).starts F₀)
  so_far_end l =
      let past = windows-past δ w t I.low c I.bound (rw end_is at l) in
      let all_found : I.found ≡ (turbo_steps δ w t).starts = sym (append-nil I.found) ∙ (rw past at I.all-starts) in
      let all_read : letters ≡ (turbo_steps δ w t).letters = omega (arith, rw past at I.all_letters) in
      let all-counted : count ≡ length (turbo_steps δ w t).starts = sym I.number ∙ ap length all_found in
      (rw (all-counted, all_read), rw all_found at I.list)

  -- ── One window more ──────────────────────────────────────────────────────

  module _ (some-letter : 1 ≤ length w) (within : end ≤ length t) where
    moves : Moves δ w t I.low c
    moves = window_moves δ w t I.low c some-letter I.below I.inside (rw end_is at within)

    pub so_far_longer : c < end
    so_far_longer = rw end_is moves.longer

    ahead-one : turbo_windows δ w t I.bound I.low c
        ≡ with_window δ w t I.low c (turbo_windows δ w t (I.bound - 1) (next_low δ w t I.low c) (read_forth δ w t I.low c).place)
    ahead-one =
        let one : I.bound ≡ suc (I.bound - 1) = omega (arith, I.enough, I.inside) in
        ap (λ (k : ℕ). turbo_windows δ w t k I.low c) one ∙ windows-one δ w t I.low c (I.bound - 1) (rw end_is at within)

    module _ {b : Begin} (begins : b ≡ begins_at c h (read_down δ t c (end - c) 0)) where
      begins_so : b ≡ begins_at c h (read_back δ w t I.low c)
      begins_so = begins ∙ ap (λ (e : Place). begins_at c h (read_down δ t c (e - c) 0)) end_is

      place_is : b.place.0 ≡ next_place δ w t I.low c
      place_is = ap (λ (x : Begin). x.place.0) begins_so

      -- what is kept where the reading forward begins
      begin_keeps : b.keep ≡ kept_at w t (next_low δ w t I.low c) (next_place δ w t I.low c)
      begin_keeps = ap (λ (x : Begin). x.keep) begins_so ∙ option_cases (read_back δ w t I.low c).failed
          (λ e. rw e I.keeps)
          (λ f e.
          let inside : f + 1 ≤ length t = omega (arith, rw e at moves.within, rw end_is at within) in
          rw e (sym (kept_fresh w t (f + 1) some-letter inside)))

      -- it may begin there
      pub begin_fits : (b.keep < length w) × (b.keep ≤ b.place.0) × (c ≤ b.place.0) × (b.place.0 ≤ end)
      begin_fits =
          let low = next_low δ w t I.low c in
          let place = next_place δ w t I.low c in
          let inside : place ≤ length t = omega (arith, moves.within, rw end_is at within) in (
            omega (arith, begin_keeps, kept-short w t low place some-letter),
            omega (arith, begin_keeps, place_is, kept-past w t low place moves.below inside some-letter),
            omega (arith, place_is, moves.on),
            omega (arith, place_is, end_is, moves.within),
          )

      module _ {r : Stop} {F' : List ℕ} (stops : StopsAs w t end b.place.0 b.keep count F r F') where
        abbrev o : Advance
        o = read_forth δ w t I.low c

        as_forth : (r.place.0 ≡ o.place)
            × (r.keep ≡ kept_at w t (next_low δ w t I.low c) o.place)
            × (r.count ≡ count + length o.starts)
            × ((l G : List ℕ) → length l ≡ count → F ≡ filled l G → F' ≡ filled (l ++ o.starts) G)
        as_forth =
            let S = rw (end_is, place_is) at stops in
            S.as_forward (next_low δ w t I.low c) moves.below begin_keeps

        -- it stops at the window's end or behind it, within the text
        pub stop-fits : (b.place.0 ≤ r.place.0) × (end ≤ r.place.0) × (r.place.0 ≤ length t)
        stop-fits =
            let R = moves.reads in
            let at = as_forth.0 in
            (omega (arith, at, place_is, R.counted), omega (arith, at, end_is, R.past), omega (arith, at, R.inside))

        pub so_far_window : SoFar δ w t F₀ F' r.place.0 r.keep r.count (letters + (b.letters + (r.place.0 - b.place.0)))
        so_far_window =
            let R = moves.reads in
            let S = as_forth in
            let read : b.letters ≡ (read_back δ w t I.low c).letters = ap (λ (x : Begin). x.letters) begins_so in
            let passed : r.place.0 - b.place.0 ≡ o.letters = omega (arith, S.0, place_is, R.counted) in
            record {
              bound = I.bound - 1;
              low = next_low δ w t I.low c;
              found = I.found ++ o.starts;
              enough = omega (arith, I.enough, moves.longer, R.past, S.0);
              below = omega (arith, moves.below, R.counted, S.0);
              inside = stop-fits.2;
              keeps = rw S.0 S.1;
              number = length-append I.found o.starts ∙ omega (arith, I.number, S.2);
              list = S.3 I.found F₀ I.number I.list;
              all-starts = rw S.0 (append_assoc I.found o.starts _ ∙ (rw ahead-one at I.all-starts));
              all_letters = rw (read, passed, S.0) (omega (arith, rw ahead-one at I.all_letters));
              few = stops.few;
            }
