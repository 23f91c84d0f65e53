-- COPYING THE FIRST ENTRY of each column: these tell the arrows of state 0.
use mathlib.Core.Path.{sym, ap, ◌∙◌}
use mathlib.Core.List.{List}
use Prim.Native.Nat.{ℕ, ◌<◌}
use native.Mathlib.Nat.{add-zero}
use Rattle.words.specs.Lists.{at}
use Rattle.words.specs.Answers.{MaybeState, arrow_to}
use Rattle.prepared.specs.Prepared.{told, Firsts, Rows}
use Rattle.prepared.specs.Filling.{Copied}

-- what is copied are the arrows of state 0
pub copied_firsts : {L : List ℕ} {m : ℕ} {C D : List ℕ} {F : List MaybeState} {rows : ℕ} → Rows L m C D rows → 0 < rows
    → Copied C D F 256 → Firsts L m F
copied_firsts {C = C} {D = D} R h K = record {
  size = K.size;
  small = K.small;
  arrows = λ c b. K.same c b ∙ ap arrow_to (ap told (ap (at D) (sym (add-zero (at C c)))) ∙ R.arrows 0 h c b);
}
