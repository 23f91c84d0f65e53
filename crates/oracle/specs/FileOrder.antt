-- THE FILE'S ORDER of extra arrows: by rising source, then rising target. An arrow into a state carries that state's letter, so source and
-- target say all of it.
--
--   leads_to o y          whether o is the state y
--   extra_targets δ p x   the targets of the extra arrows that leave x, rising
--   targets_before δ p k  those of the states before k, one state behind the other
--   Extra                 an extra arrow, by its source and its target; `extra x y` is the one from x to y
--   extras_before δ p k   the extra arrows of the states before k, in the same order
--   file_arrows p         the extra arrows of a word's oracle, in the file's order
--
-- 01, 'The file on disk'.
use Rattle.std.specs.Prelude.{Bool, false, List, [], ◌++◌, map, zero, suc, pred, ◌-◌, length, eqb}
use Rattle.std.proofs.Math.Option.{Option, none, some}
use Rattle.words.specs.Lists.{from, only}
use Rattle.words.specs.Words.{Word, letter}
use Rattle.oracle.specs.Arrows.{State, Delta}
use Rattle.oracle.specs.SuffixRule.{oracle}

unfoldable pub leads_to : Option State → State → Bool
leads_to none y = false
leads_to (some z) y = eqb z y

-- an extra arrow climbs by at least 2: from x to one of x + 2, .., m
unfoldable pub extra_targets : Delta → Word → State → List State
extra_targets δ p x = only (λ y. leads_to (δ x (letter p (pred y))) y) (from (suc (suc x)) (length p - suc x))

unfoldable pub targets_before : Delta → Word → State → List State
targets_before δ p zero = []
targets_before δ p (suc x) = targets_before δ p x ++ extra_targets δ p x

pub record Extra : Type 0 where
  pub source : State
  pub to : State

abbrev pub extra : State → State → Extra
extra x y = record { source = x; to = y }

unfoldable pub extras_before : Delta → Word → State → List Extra
extras_before δ p zero = []
extras_before δ p (suc x) = extras_before δ p x ++ map (extra x) (extra_targets δ p x)

-- the last state has none
unfoldable pub file_arrows : Word → List Extra
file_arrows p = extras_before (oracle p) p (length p)
