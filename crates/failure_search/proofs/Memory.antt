-- WHAT IS REMEMBERED of first letters: nothing at the start.
use mathlib.Core.Path.{◌≡◌, refl, sym, ◌∙◌}
use Prim.Native.Nat.{ℕ, zero, suc}
use lib.ListN.{replicate, length-replicate}
use Rattle.std.specs.Prelude.{List, Option as Maybe, Some, None, slice_index_or}
use Rattle.failure.specs.FailureRule.{Asking}
use Rattle.failure_search.specs.declared.First.{First}
use Rattle.failure_search.specs.Memory.{Remembers}

abbrev pub nothing : ℕ → List (Maybe First)
nothing n = replicate n None

none-at : (n i : ℕ) → slice_index_or (nothing n) i None ≡ None
none-at zero i = refl
none-at (suc n) zero = refl
none-at (suc n) (suc i) = none-at n i

pub remembers_nothing : (σ : Asking) → Remembers σ (nothing 256)
remembers_nothing σ = record {
  size = length-replicate {A = Maybe First} 256 None;
  tells = λ c r e. let f : None ≡ Some r = sym (none-at 256 c) ∙ e in cc;
}
