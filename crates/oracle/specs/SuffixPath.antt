-- THE SUFFIX PATH of a state: its supply, that one's supply, and so on, down to state 0, which has none. Every step falls to a smaller
-- state.
--
--   SuffixPath S x l    l is the suffix path of x, S giving the supply of each state above 0
--
-- 001, section 2.2; 01, 'The oracle of a word'.
use Rattle.std.specs.Prelude.{◌≡◌, List, [], ◌∷◌, ◌<◌}
use Rattle.oracle.specs.Arrows.{State}

pub data SuffixPath (S : State → State) : State → List State → Type 0 where
  ended : {x : State} → x ≡ 0 → SuffixPath S x []
  falls : {x y : State} {l : List State} → 0 < x → y ≡ S x → SuffixPath S y l → SuffixPath S x (y ∷ l)
