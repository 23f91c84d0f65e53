-- What an answer of code says of the arrow that it stands for.
use mathlib.Core.Path.{◌≡◌, refl}
use mathlib.Core.Option.{Option, none, some}
use Prim.Native.Nat.{ℕ}
use Rattle.words.specs.Answers.{arrow_to}
use Rattle.words.specs.declared.State.{State}
use Rattle.words.specs.Answers.{MaybeState}
use Rattle.std.specs.Prelude.{Some, None}

-- it leads to a state
pub arrow-told : (o : Option ℕ) (r : MaybeState) (y : State) → r ≡ arrow_to o → r ≡ Some y → o ≡ some y.0
arrow-told none r y says e = cc
arrow-told (some z) r y says e = cc

-- there is none
pub arrow-untold : (o : Option ℕ) (r : MaybeState) → r ≡ arrow_to o → r ≡ None → o ≡ none
arrow-untold none r says e = refl
arrow-untold (some z) r says e = cc
