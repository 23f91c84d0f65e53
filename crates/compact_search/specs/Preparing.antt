-- WHAT A SEARCH PREPARES of compact rows, in small arrays of its own, so that most arrows are found by one load: the arrows of state 0 by
-- letter, and columns of the arrows of the first states, which tell exactly the arrows δ that are read from the rows.
--
--   FirstTargets δ m F     entry c of F tells the arrow from state 0 on c, and what it tells is a state of m letters
--   FirstEntries C D F n   for so many letters c, entry c of F is the first of the column that starts at entry c of C in D
--   Column δ c D           entry x of D tells the arrow from x on c, for as many states as D is long
--   Untold n D             D has n entries, and none tells an arrow
use Rattle.std.specs.Prelude.{◌≡◌, ◌≢◌, List, ℕ, ◌≤◌, ◌<◌, length}
use Rattle.words.specs.Lists.{at}
use Rattle.words.specs.Words.{Letter}
use Rattle.oracle.specs.Arrows.{State, Delta}
use Rattle.prepared.specs.Prepared.{told}

pub record FirstTargets (δ : Delta) (m : ℕ) (F : List ℕ) : Type 0 where
  pub size : length F ≡ 256
  pub arrows : (c : Letter) → c < 256 → told (at F c) ≡ δ 0 c
  pub states : (c : Letter) → c < 256 → at F c ≢ 65535 → at F c ≤ m

pub record FirstEntries (C D F : List ℕ) (n : ℕ) : Type 0 where
  pub size : length F ≡ 256
  pub same : (c : Letter) → c < n → at F c ≡ at D (at C c)

pub record Column (δ : Delta) (c : Letter) (D : List ℕ) : Type 0 where
  pub arrows : (x : State) → x < length D → told (at D x) ≡ δ x c

pub record Untold (n : ℕ) (D : List ℕ) : Type 0 where
  pub size : length D ≡ n
  pub untold : (i : ℕ) → i < n → at D i ≡ 65535
