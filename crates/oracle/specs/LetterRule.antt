-- THE LETTER-BY-LETTER RULE: 001, figure 4, as 01 restates it. It keeps, for each state, its suffix path: its supply, the supply of that,
-- and so on. The path of state 0 is empty: 'no supply' is a case of its own and no number.
--
--   Automaton         the arrows made so far, and the suffix path of each state
--   path_of b x       the suffix path of x
--   supply_made b x   the supply of x, if it has one
--   NewState          the states that get an arrow to a new state, besides the one before it, and its supply
--   climb δ c l       along the path l: the states before the first with an arrow on c, and the new state's supply
--   add_letter t c b  adds state t + 1 with letter c to the states 0 to t
--   built_up_to p t   what the rule has made of the first t letters
--   sources_of p t    the states that get an arrow on letter t, besides t itself
--   letter_rule p     what it makes of p
--
-- 01, 'The oracle of a word'; demand 2.
use Rattle.std.proofs.Math.Option.{Option, none, some}
use mathlib.Core.List.{List, [], ◌∷◌, ◌++◌, map, head?}
use Rattle.std.specs.Prelude.{ℕ, zero, suc, length, get_or}
use Rattle.words.specs.Words.{Letter, Word, letter}
use Rattle.oracle.specs.Arrows.{State, Arrow, arrow, Delta, target}

pub record Automaton : Type 0 where
  pub arrows : List Arrow
  pub paths : List (List State)

abbrev pub path_of : Automaton → State → List State
path_of b x = get_or b.paths x []

abbrev pub supply_made : Automaton → State → Option State
supply_made b x = head? (path_of b x)

pub record NewState : Type 0 where
  pub sources : List State
  pub supply : State

-- while k exists and has no arrow on c, it is a source of one, and its supply comes next. The new state's supply is 0 if k ran
-- out, else where k's arrow on c leads
unfoldable pub climb : Delta → Letter → List State → NewState
climb δ c [] = record { sources = []; supply = 0 }
climb δ c (k ∷ l) = elim (δ k c) [
  | some y ↦ record { sources = []; supply = y }
  | none ↦ let r = climb δ c l in record { sources = k ∷ r.sources; supply = r.supply }
]

unfoldable pub add_letter : State → Letter → Automaton → Automaton
add_letter t c b =
    let r = climb (target b.arrows) c (path_of b t) in
    let new = map (λ k. arrow k c (suc t)) (t ∷ r.sources) in
    record { arrows = new ++ b.arrows; paths = b.paths ++ ((r.supply ∷ path_of b r.supply) ∷ []) }

unfoldable pub built_up_to : Word → ℕ → Automaton
built_up_to p zero = record { arrows = []; paths = [] ∷ [] }
built_up_to p (suc t) = add_letter t (letter p t) (built_up_to p t)

unfoldable pub sources_of : Word → ℕ → List State
sources_of p t = let b = built_up_to p t in (climb (target b.arrows) (letter p t) (path_of b t)).sources

unfoldable pub letter_rule : Word → Automaton
letter_rule p = built_up_to p (length p)
