-- WHAT AN ENTRY TELLS: its target, or no arrow where it is 65535.
use mathlib.Core.Path.{◌≡◌, sym, ◌∙◌}
use mathlib.Core.Logic.{◌≢◌}
use mathlib.Core.Option.{Option, none, some}
use Prim.Native.Nat.{ℕ}
use native.Mathlib.Decide.{ℕ_discrete}
use borrow.Author.Tests.{eq-eqb, ne_eqb}
use Rattle.oracle.specs.Arrows.{State}
use Rattle.prepared.specs.Prepared.{told}

pub told-some : (v : ℕ) → v ≢ 65535 → told v ≡ some v
told-some v f = rw (ne_eqb v 65535 f)

pub told_none : (v : ℕ) → v ≡ 65535 → told v ≡ none
told_none v e = rw (eq-eqb v 65535 e)

-- what is known of the arrow that an entry tells
module _ {v : ℕ} {arrow : Option State} (tells : told v ≡ arrow) where
  pub tells_none : v ≡ 65535 → arrow ≡ none
  tells_none e = sym tells ∙ told_none v e

  pub tells-some : v ≢ 65535 → arrow ≡ some v
  tells-some f = sym tells ∙ told-some v f

-- an entry that tells an arrow is its target
pub told_is : (v : ℕ) (y : State) → told v ≡ some y → v ≡ y
told_is v y e = by (ℕ_discrete v 65535)
  where
    by : Dec (v ≡ 65535) → v ≡ y
    by (yes q) = let z = sym (told_none v q) ∙ e in cc
    by (no f) = let z = sym (told-some v f) ∙ e in cc
