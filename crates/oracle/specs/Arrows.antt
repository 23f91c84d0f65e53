-- Automata over a word's letters: states are numbers, all final, and 0 is where every walk starts.
--
--   State         the number of a state
--   Arrow         from a state, on a letter, to a state; `arrow x c y` is the one from x on c to y
--   Delta         where the arrow from a state on a letter leads, if there is one
--   target A      the Delta of a list of arrows
--   walk δ x v    where the walk of v from x ends, if every letter has its arrow
--   spine p       the arrows from i to i + 1 on the letter between them
--   OneEach A     one arrow at most leaves a state on a letter
--
-- 01, 'The oracle of a word'.
use Rattle.std.specs.Prelude.{◌≡◌, ◌&&◌, cond, List, [], ◌∷◌, map, ℕ, suc, length, eqb}
use Rattle.std.proofs.Math.Option.{Option, none, some}
use Rattle.words.specs.Lists.{from}
use Rattle.words.specs.Words.{Letter, Word, letter}

abbrev pub State : Type 0
State = ℕ

pub record Arrow : Type 0 where
  pub source : State
  pub on : Letter
  pub to : State

abbrev pub arrow : State → Letter → State → Arrow
arrow x c y = record { source = x; on = c; to = y }

abbrev pub Delta : Type 0
Delta = State → Letter → Option State

unfoldable pub target : List Arrow → Delta
target [] x c = none
target (a ∷ A) x c = cond (eqb a.source x && eqb a.on c) (some a.to) (target A x c)

unfoldable pub walk : Delta → State → Word → Option State
walk δ x [] = some x
walk δ x (c ∷ v) = elim (δ x c) [ none ↦ none | some y ↦ walk δ y v ]

unfoldable pub spine : Word → List Arrow
spine p = map (λ i. arrow i (letter p i) (suc i)) (from 0 (length p))

-- behind each arrow stands no other from its state on its letter
unfoldable pub OneEach : List Arrow → Type 0
OneEach [] = Unit {0}
OneEach (a ∷ A) = (target A a.source a.on ≡ none) × OneEach A
