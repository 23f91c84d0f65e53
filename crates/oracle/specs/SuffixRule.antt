-- THE SUFFIX RULE decides what an oracle is: 003, algorithm 1, as 01 restates it. The suffix that 01 calls pi..pm is the one behind the
-- first i - 1 letters, so its i = 2 to m is i = 1 to m - 1 here; its k counts letters from the word's start, and is the same number here.
--
--   Halt              where a walk halts, and how many letters of the word stand before the first that was not spelled
--   far δ x k v       the walk of v from x as far as arrows go, k letters standing before v
--   mend p h          the arrow that a walk halted at h lacks, in a list of one or none
--   missing p A i     the arrow that suffix i adds to the arrows A, in such a list
--   extras_after p i  the arrows added for the suffixes 1 to i, the last one first
--   extra_arrows p    the extra arrows: those of all suffixes
--   suffix_rule p     all arrows: the extra ones and the spine
--   oracle p          where they lead
--
-- 01, 'The oracle of a word'; demand 2.
use Rattle.std.specs.Prelude.{cond, List, [], ◌∷◌, ◌++◌, ℕ, zero, suc, ◌-◌, length, drop, eqb}
use Rattle.std.proofs.Math.Option.{none, some}
use Rattle.words.specs.Words.{Word, letter}
use Rattle.oracle.specs.Arrows.{State, Arrow, arrow, Delta, target, spine}

pub record Halt : Type 0 where
  pub state : State
  pub up_to : ℕ

unfoldable pub far : Delta → State → ℕ → Word → Halt
far δ x k [] = record { state = x; up_to = k }
far δ x k (c ∷ v) = elim (δ x c) [ none ↦ record { state = x; up_to = k } | some y ↦ far δ y (suc k) v ]

-- halted in state j with the letters up to k spelled, k not m: an arrow from j to k + 1 on the letter between k and k + 1
unfoldable pub mend : Word → Halt → List Arrow
mend p h =
    let j = h.state in
    let k = h.up_to in
    cond (eqb k (length p)) [] (arrow j (letter p k) (suc k) ∷ [])

unfoldable pub missing : Word → List Arrow → ℕ → List Arrow
missing p A i = mend p (far (target A) 0 i (drop i p))

unfoldable pub extras_after : Word → ℕ → List Arrow
extras_after p zero = []
extras_after p (suc i) = let E = extras_after p i in missing p (E ++ spine p) (suc i) ++ E

unfoldable pub extra_arrows : Word → List Arrow
extra_arrows p = extras_after p (length p - 1)

unfoldable pub suffix_rule : Word → List Arrow
suffix_rule p = extra_arrows p ++ spine p

abbrev pub oracle : Word → Delta
oracle p = target (suffix_rule p)
