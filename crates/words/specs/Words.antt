-- Letters, words and where words stand.
--
-- The papers count letters from 1. Here `letter p i` is the letter behind the first i: their p1 is `letter p 0`, and the
-- letter between state i and state i + 1 of an oracle is `letter p i`.
--
--   Letter            the number of a byte
--   Word              a list of letters; texts are words too
--   Place             how many letters stand before
--   letter p i        the letter of p behind its first i
--   part p a n        the n letters of p behind its first a
--   mirror p          p read from its end
--   same u v          whether u and v are one word
--   stands v t s      whether v stands in t at place s
--   occurrences v t   every place where v stands in t, rising, overlaps included
--   Factor v t        v stands somewhere in t
--
-- 01, 'The oracle of a word' and 'The backward search'; demand 2.
use Rattle.std.specs.Prelude.{◌≡◌, Bool, true, false, ◌&&◌, List, [], ◌∷◌, reverse, ℕ, suc, ◌-◌, length, get_or, take, drop, eqb}
use Rattle.words.specs.Lists.{from, only}

abbrev pub Letter : Type 0
Letter = ℕ

abbrev pub Word : Type 0
Word = List Letter

abbrev pub Place : Type 0
Place = ℕ

abbrev pub letter : Word → ℕ → Letter
letter p i = get_or p i 0

abbrev pub part : Word → Place → ℕ → Word
part p a n = take n (drop a p)

abbrev pub mirror : Word → Word
mirror p = reverse p

unfoldable pub same : Word → Word → Bool
same [] [] = true
same [] (d ∷ v) = false
same (c ∷ u) [] = false
same (c ∷ u) (d ∷ v) = eqb c d && same u v

unfoldable pub stands : Word → Word → Place → Bool
stands v t s = same (part t s (length v)) v

-- the places 0 to n - m are the ones at which a word of m letters ends within n
unfoldable pub occurrences : Word → Word → List Place
occurrences v t = only (stands v t) (from 0 (suc (length t) - length v))

abbrev pub Factor : Word → Word → Type 0
Factor v t = (s : Place) × (stands v t s ≡ true)
