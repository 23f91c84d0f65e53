-- WHAT A SEARCH PREPARES of a table L, in arrays of its own, so that an arrow is found by one load: it tells exactly the arrows that are
-- read from L, letter by letter and state by state.
--
--   told v                     the arrow that an entry tells: none where it is 65535, else its target
--   spot c d                   which flag is for the letter d behind the letter c; other letters may share it
--   FewStates δ C D rows       of any arrows δ: the column of letter c starts at entry c of C, and its entry x in D tells the arrow from x
--                              on c, for so many states x; these are few enough that none is taken for the entry that tells none
--   Firsts L m F               entry c of F is where c leads from state 0, a state below the entry that tells no arrow, or none
--   Followers L m P            a flag of P that is not set says that no arrow on d leaves the state to which c leads from state 0
--   Rows L m C D rows          `FewStates` of the table's arrows
use Rattle.std.specs.Prelude.{◌≡◌, Bool, false, cond, get_or, None, List, ℕ, ◌+◌, ◌*◌, ◌≤◌, ◌<◌, length, eqb}
use Rattle.std.specs.Option.{ForSome}
use Rattle.std.proofs.Math.Option.{Option, none, some}
use Rattle.words.specs.Lists.{at}
use Rattle.words.specs.Words.{Letter}
use Rattle.words.specs.Answers.{MaybeState, arrow_to}
use Rattle.oracle.specs.Arrows.{State, Delta}
use Rattle.table.specs.Table.{read_arrow}

abbrev pub told : ℕ → Option State
told v = cond (eqb v 65535) none (some v)

abbrev pub spot : Letter → Letter → ℕ
spot c d = 31 * c + d

pub record FewStates (δ : Delta) (C D : List ℕ) (rows : ℕ) : Type 0 where
  pub size : length C ≡ 256
  pub few : rows ≤ 65535
  pub inside : (x : State) → x < rows → (c : Letter) → c < 256 → at C c + x < length D
  pub arrows : (x : State) → x < rows → (c : Letter) → c < 256 → told (at D (at C c + x)) ≡ δ x c

-- what F has for c
abbrev pub leads : List MaybeState → Letter → MaybeState
leads F c = get_or F c None

pub record Firsts (L : List ℕ) (m : ℕ) (F : List MaybeState) : Type 0 where
  pub size : length F ≡ 256
  pub small : (c : Letter) → c < 256 → ForSome (leads F c) (λ x. x.0 < 65535)
  pub arrows : (c : Letter) → c < 256 → leads F c ≡ arrow_to (read_arrow m L 0 c)

-- flag i of P, unset behind its end
abbrev pub is_set : List Bool → ℕ → Bool
is_set P i = get_or P i false

pub record Followers (L : List ℕ) (m : ℕ) (P : List Bool) : Type 0 where
  pub size : length P ≡ 8192
  pub clear : (c : Letter) → c < 256 → (x : State) → read_arrow m L 0 c ≡ some x
      → (d : Letter) → d < 256 → is_set P (spot c d) ≡ false → read_arrow m L x d ≡ none

abbrev pub Rows : List ℕ → ℕ → List ℕ → List ℕ → ℕ → Type 0
Rows L m C D rows = FewStates (read_arrow m L) C D rows
