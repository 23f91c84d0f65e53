-- THE SUPPLY of a state by 001's definition, which asks neither rule's way of building: where the longest end of the first i letters
-- that stands at least twice among them is walked to. Occurrences may overlap, and the empty end counts: it stands twice among one letter
-- or more, and once among none, so that state 0 alone has no supply.
--
--   ends u         the ends of u, longest first
--   twice u v      whether v stands at least twice in u
--   repeated u     the longest end of u that does
--   supply p i     the state where that end of the first i letters is walked to
--
-- 001, section 2.2 (repet and S); 01, 'The oracle of a word'; demand 2.
use Rattle.std.specs.Prelude.{Bool, List, [], ◌∷◌, length, take, leb}
use Rattle.std.proofs.Math.Option.{Option, none, some}
use Rattle.words.specs.Lists.{first}
use Rattle.words.specs.Words.{Word, occurrences}
use Rattle.oracle.specs.Arrows.{State, walk}
use Rattle.oracle.specs.SuffixRule.{oracle}

unfoldable pub ends : Word → List Word
ends [] = [] ∷ []
ends (c ∷ u) = (c ∷ u) ∷ ends u

unfoldable pub twice : Word → Word → Bool
twice u v = leb 2 (length (occurrences v u))

unfoldable pub repeated : Word → Option Word
repeated u = first (twice u) (ends u)

unfoldable pub supply : Word → State → Option State
supply p i = elim (repeated (take i p)) [ none ↦ none | some v ↦ walk (oracle p) 0 v ]
