-- HOW THE ARROWS GROW. The rule adds them to the spine one after the other, each where there was none, and to the first later state that
-- has its letter (`Stitched`). The spine's arrows lead there too. So all of them do, no arrow takes the place of an earlier one, and one at
-- most leaves a state on a letter.
use mathlib.Core.Path.{◌≡◌, sym, ◌∙◌}
use mathlib.Core.Logic.{⊎_elim}
use mathlib.Core.Option.{none, some}
use mathlib.Core.List.{List, ◌∷◌, Memᴰ}
use Prim.Native.Nat.{suc, pred, ◌<◌}
use native.Mathlib.Omega.{arith}
use lib.ListN.{length}
use Rattle.words.specs.Words.{Letter, Word, letter}
use Rattle.oracle.specs.Arrows.{State, Arrow, arrow, target, spine, OneEach}
use Rattle.oracle.proofs.Targets.{never, target_pass, target_member}
use Rattle.oracle.proofs.FileOrder.{spine_member}
use Rattle.oracle.proofs.SuffixRule.{spine-target}
use Rattle.failure.proofs.Halts.{Keeps}
use Rattle.failure.proofs.Added as Failure
use Rattle.storacle.specs.StoracleRule.{FirstLater}

-- the arrows are added one after the other
pub data Stitched (p : Word) : List Arrow → Type 0 where
  spine_alone : Stitched p (spine p)
  stitched_on : {A : List Arrow} {x : State} {c : Letter} {y : State} → Stitched p A → FirstLater p x c y → target A x c ≡ none
      → Stitched p (arrow x c y ∷ A)

-- an arrow where there was none leaves the others as they are
pub new-keeps : (A : List Arrow) (x : State) (c : Letter) (y : State) → target A x c ≡ none
    → Keeps (target A) (target (arrow x c y ∷ A))
new-keeps A x c y f x' c' y' e =
    ⊎_elim (λ t. t ∙ e) (λ t. never f (rw (t.0, t.1) at e)) (target_pass A (arrow x c y) x' c')

module _ {p : Word} where
  -- the spine's arrows lead to the next state, which is the first later one
  spine-first : {a : Arrow} → Memᴰ a (spine p) → FirstLater p a.source a.on a.to
  spine-first {a} i =
      let r = spine_member p i in
      let own : pred a.to ≡ a.source = omega (arith, r.2) in
      record {
        later = omega (arith, r.2);
        state = omega (arith, r.0, r.2);
        incoming = rw own (sym r.1);
        first = λ z u v. absurd (omega (arith, r.2));
      }

  -- so do all
  pub stitched-first : {A : List Arrow} → Stitched p A → {a : Arrow} → Memᴰ a A → FirstLater p a.source a.on a.to
  stitched-first spine_alone i = spine-first i
  stitched-first (stitched_on S F f) (Memᴰ.head e) = rw e F
  stitched-first (stitched_on S F f) (Memᴰ.tail i) = stitched-first S i

  pub stitched_to : {A : List Arrow} → Stitched p A → (x : State) (c : Letter) (y : State) → target A x c ≡ some y → FirstLater p x c y
  stitched_to {A} S x c y e = stitched-first S (target_member A x c y e)

  -- the spine stays
  pub stitched-spine : {A : List Arrow} → Stitched p A → (x : State) → x < length p → target A x (letter p x) ≡ some (suc x)
  stitched-spine spine_alone x h = spine-target p x h
  stitched-spine (stitched_on {A = A} {x = s} {c = c} {y = y} S F f) x h =
      new-keeps A s c y f x (letter p x) (suc x) (stitched-spine S x h)

  -- one arrow at most leaves a state on a letter
  pub stitched-one_each : {A : List Arrow} → Stitched p A → OneEach A
  unfolding OneEach
  stitched-one_each spine_alone = Failure.added-one_each p Failure.bare
  stitched-one_each (stitched_on S F f) = (f, stitched-one_each S)
