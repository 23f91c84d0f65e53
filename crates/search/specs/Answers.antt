-- What the search's answers mean.
--
--   MaybePlace    how a window was read: where its first letter without an arrow stands, or that each has one
--   reading_of r  how it was read by the steps
--   tally_of R    what a search counts
--
-- 01, 'The backward search'.
use Rattle.std.proofs.Math.Option.{Option, none, some}
use Rattle.std.specs.Prelude.{length, Option as Maybe, Some, None}
use Rattle.words.specs.Words.{Place}
use Rattle.words.specs.declared.Place.{Place as Placed}
use Rattle.finds.specs.declared.Tally.{Tally}
use Rattle.backward.specs.Steps.{Reading, Sweep}

abbrev pub MaybePlace : Type 0
MaybePlace = Maybe Placed

abbrev pub failed_at : Option Place → MaybePlace
failed_at none = None
failed_at (some f) = Some (record { 0 = f })

abbrev pub reading_of : Reading → MaybePlace
reading_of r = failed_at r.failed

abbrev pub tally_of : Sweep → Tally
tally_of R = record { count = length R.starts; letters = R.letters }
