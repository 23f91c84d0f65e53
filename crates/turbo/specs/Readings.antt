-- What the readings of a window answer, and all windows together.
--
--   kept_behind h f  how many letters are kept behind a reading down to a place where h are: h, or none where a letter f failed
--   begins_at c h r  where the reading forward begins, once r was read from the window's end down to c, where h letters are kept: at c with
--                    what is kept there, or behind the failing letter with nothing; and the letters that were read
--   StopsAs w t e c h count F r F'
--                    a reading forward from c, where h letters are kept, so many finds are listed and the list is F, stops as r says and
--                    leaves F': whatever the place before which what is kept may not start, as `forward` does; its finds are listed behind
--                    those before
--   Swept δ w t F r F'
--                    all windows, with the arrows δ: r is what the Turbo steps count, and their finds fill the list F, which becomes F'
--
-- 02, 'Linear on hostile text'.
use Rattle.std.specs.Prelude.{◌≡◌, List, ◌++◌, ℕ, ◌+◌, ◌-◌, ◌≤◌, length}
use Rattle.std.proofs.Math.Option.{Option, none, some}
use Rattle.words.specs.Words.{Word, Place}
use Rattle.backward.specs.Steps.{Reading}
use Rattle.oracle.specs.Arrows.{Delta}
use Rattle.search.specs.Answers.{tally_of}
use Rattle.finds.specs.declared.Tally.{Tally}
use Rattle.finds.specs.Finds.{filled}
use Rattle.turbo_steps.specs.Turbo.{kept_at, forward, behind, turbo_steps}
use Rattle.turbo.specs.declared.Begin.{Begin}
use Rattle.turbo.specs.declared.Stop.{Stop}

abbrev pub kept_behind : ℕ → Option Place → ℕ
kept_behind h none = h
kept_behind h (some f) = 0

abbrev pub begins_at : Place → ℕ → Reading → Begin
begins_at c h r = record { place = record { 0 = behind c r.failed }; keep = kept_behind h r.failed; letters = r.letters }

pub record StopsAs (w t : Word) (e c : Place) (h count : ℕ) (F : List ℕ) (r : Stop) (F' : List ℕ) : Type 0 where
  pub few : r.count ≤ r.place.0
  pub as_forward : (low : Place) → low ≤ c → h ≡ kept_at w t low c → let o = forward w t low e (length t - c) c in
      (r.place.0 ≡ o.place)
      × (r.keep ≡ kept_at w t low o.place)
      × (r.count ≡ count + length o.starts)
      × ((l G : List ℕ) → length l ≡ count → F ≡ filled l G → F' ≡ filled (l ++ o.starts) G)

abbrev pub Swept : Delta → Word → Word → List ℕ → Tally → List ℕ → Type 0
Swept δ w t F r F' = let o = turbo_steps δ w t in (r ≡ tally_of o) × (F' ≡ filled o.starts F)
