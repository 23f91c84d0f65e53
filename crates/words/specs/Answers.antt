-- What the answers of code mean: the state or the lack of one that each stands for.
--
--   MaybeState    what code answers where a state is asked for
--   arrow_to o    the answer to where an arrow leads
--   supply_of o   the answer to what a supply is
use Rattle.std.proofs.Math.Option.{Option, none, some}
use Rattle.std.specs.Prelude.{ℕ, Option as Maybe, Some, None}
use Rattle.words.specs.declared.State.{State}

abbrev pub MaybeState : Type 0
MaybeState = Maybe State

abbrev pub arrow_to : Option ℕ → MaybeState
arrow_to none = None
arrow_to (some y) = Some (record { 0 = y })

abbrev pub supply_of : Option ℕ → MaybeState
supply_of o = arrow_to o
