-- READING A WINDOW as code does it, letter by letter from the window's end: what is still to be read fails where the whole window does, and
-- takes the failure arrows that are still to be taken. So the loop breaks with the window's answer. A window read whole is then compared.
use mathlib.Core.Path.{◌≡◌, refl, sym, ap, ◌∙◌}
use mathlib.Core.Logic.{◌≢◌}
use mathlib.Core.Bool.{Bool, ◌&&◌}
use mathlib.Core.List.{[], ◌∷◌}
use Prim.Native.Nat.{ℕ, suc, ◌+◌, ◌-◌, ◌*◌, ◌<◌, ◌≤◌}
use native.Mathlib.Nat.{le_refl, zero-add}
use native.Mathlib.Omega.{arith}
use lib.ListN.{length}
use Rattle.words.specs.Words.{Word, letter, part, same, stands}
use Rattle.words.specs.Answers.{MaybeState, arrow_to}
use Rattle.words.specs.declared.State.{State as Stated}
use Rattle.std.specs.Prelude.{Some, None, nat_eq}
use Rattle.std.specs.Cmp.Lexicographic.{pointwise}
use Rattle.words.proofs.Answers.{arrow-told, arrow-untold}
use Rattle.oracle.specs.Arrows.{State}
use Rattle.failure.specs.FailureRule.{Asked, Asking}
use Rattle.failure.specs.FailureSteps.{FailureReading, read_both}
use Rattle.failure.proofs.Windows.{both_done, both_fails, both_goes}
use Rattle.failure_search.specs.Tallies.{counted_read_of}

-- from state x the first `left` letters of the window at s, of m letters, are still to be read, with so many failure arrows taken
pub record StillToRead (σ : Asking) (t : Word) (s m left : ℕ) (x : State) (taken : ℕ) : Type 0 where
  pub within : left ≤ m
  pub few : taken ≤ 65535 * (m - left)
  pub fails : (read_both σ t s m 0).failed ≡ (read_both σ t s left x).failed
  pub takes : (read_both σ t s m 0).failures ≡ taken + (read_both σ t s left x).failures

module _ {σ : Asking} {t : Word} {s m : ℕ} where
  -- all of them
  pub all_to_read : StillToRead σ t s m m 0 0
  all_to_read = record { within = le_refl m; few = omega arith; fails = refl; takes = sym (zero-add _) }

  module _ {left : ℕ} {x : State} {k : ℕ} (R : StillToRead σ t s m left x k) where
    abbrev whole : FailureReading
    whole = read_both σ t s m 0

    -- no letter is left
    pub none_to_read : left ≡ 0 → record { how = None; failures = k } ≡ counted_read_of whole
    none_to_read e =
        let failed = rw (e, both_done σ t s x) at R.fails in
        let taken : whole.failures ≡ k = omega (arith, rw (e, both_done σ t s x) at R.takes) in
        rw (failed, taken)

-- the letter behind the first `left` leads so, with so many failure arrows taken up to there
pub record LetterRead (σ : Asking) (t : Word) (s m left : ℕ) (leads : MaybeState) (taken : ℕ) : Type 0 where
  pub within : left < m
  pub few : taken ≤ 65535 * (m - left)
  pub ends : leads ≡ None → record { how = Some (record { 0 = s + left }); failures = taken } ≡ counted_read_of (read_both σ t s m 0)
  pub goes : (y : Stated) → leads ≡ Some y → StillToRead σ t s m left y.0 taken

-- one letter is left to be read, and is asked for
module _ {σ : Asking} {t : Word} {s m left : ℕ} {x : State} {k : ℕ} (R : StillToRead σ t s m left x k) (more : left ≢ 0) where
  abbrev asked : Asked
  asked = σ x (letter t (s + (left - 1)))

  pub letter_read : {leads : MaybeState} {k' : ℕ} → asked.taken ≤ 65535 → leads ≡ arrow_to asked.to → k' ≡ k + asked.taken
      → LetterRead σ t s m (left - 1) leads k'
  letter_read {leads} {k'} small to taken = record { within = omega (arith, R.within); few = few; ends = ends; goes = goes }
    where
      one : left ≡ suc (left - 1)
      one = omega arith

      few : k' ≤ 65535 * (m - (left - 1))
      few = omega (arith, R.few, R.within)

      ends : leads ≡ None → record { how = Some (record { 0 = s + (left - 1) }); failures = k' } ≡ counted_read_of (read_both σ t s m 0)
      ends e =
          let here = both_fails σ t s (left - 1) x (arrow-untold _ leads to e) in
          let failed = rw (one, here) at R.fails in
          let counted : (read_both σ t s m 0).failures ≡ k' = rw taken (rw (one, here) at R.takes) in
          rw (failed, counted)

      goes : (y : Stated) → leads ≡ Some y → StillToRead σ t s m (left - 1) y.0 k'
      goes y e =
          let on = both_goes σ t s (left - 1) x y.0 (arrow-told _ leads y to e) in
          record {
            within = omega (arith, R.within);
            few = few;
            fails = rw (one, on) at R.fails;
            takes = omega (arith, taken, rw (one, on) at R.takes);
          }

-- ── The word compared ──────────────────────────────────────────────────────

-- `==` tells whether words are the same
same_as : (u v : Word) → pointwise nat_eq u v ≡ same u v
unfolding same
same_as [] [] = refl
same_as [] (d ∷ v) = refl
same_as (c ∷ u) [] = refl
same_as (c ∷ u) (d ∷ v) = ap (λ b. nat_eq c d && b) (same_as u v)

-- comparing the word with the letters of the window tells whether it stands there
pub compared : (w t : Word) (s : ℕ) {r b : Bool} → r ≡ pointwise nat_eq (part t s (s + length w - s)) w → r ≡ b → b ≡ stands w t s
unfolding stands
compared w t s e f = let q : s + length w - s ≡ length w = omega arith in sym f ∙ (rw q at e) ∙ same_as _ w
