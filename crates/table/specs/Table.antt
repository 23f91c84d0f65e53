-- THE TABLE of an oracle over a word of m letters: six rows of n = m + 1 entries, and the rule by which it is read. The rule looks entries
-- up and runs neither construction.
--
--   row 0, entry i    the letter of state i, for i from 1 to m
--   row 1, entry i    the supply of state i, for i from 1 to m
--   row 2, entry k    where state k's extra arrows start in row 3; they end where the next state's start
--   row 3, entry s    the targets of all extra arrows, in the file's order
--   rows 4 and 5      zero, and so is every entry that is not named here
--
--   room m               how many entries
--   table_from p δ S     the table of the arrows δ and the supplies S over p
--   table_of p           the table of a word: the suffix rule's arrows, 001's supplies
--   read_word m L        the word, read from the entries L
--   read_targets m L x   the targets of the extra arrows that leave x
--   read_arrow m L x c   where the arrow from x on c leads
--   read_supply m L x    the supply of x
--
-- 01, 'When the library says no', its last part.
use Rattle.std.specs.Prelude.{cond, List, ◌∷◌, ◌++◌, map, ℕ, suc, ◌+◌, ◌*◌, ◌-◌, length, take, replicate, eqb, ltb, leb}
use Rattle.std.proofs.Math.Option.{Option, none, some, get_or}
use Rattle.words.specs.Lists.{at, from, first}
use Rattle.words.specs.Words.{Word, part}
use Rattle.oracle.specs.Arrows.{State, Delta}
use Rattle.oracle.specs.SuffixRule.{oracle}
use Rattle.oracle.specs.Supply.{supply}
use Rattle.oracle.specs.FileOrder.{targets_before}

abbrev pub room : ℕ → ℕ
room m = 6 * (m + 1)

-- ── Laid out ───────────────────────────────────────────────────────────────

unfoldable pub table_from : Word → Delta → (State → State) → List ℕ
table_from p δ S =
    let m = length p in
    let n = suc m in
    let letters : List ℕ = 0 ∷ p in
    let supplies : List ℕ = 0 ∷ map S (from 1 m) in
    let starts = map (λ k. length (targets_before δ p k)) (from 0 n) in
    let targets = take n (targets_before δ p n ++ replicate n 0) in
    letters ++ (supplies ++ (starts ++ (targets ++ replicate (2 * n) 0)))

unfoldable pub table_of : Word → List ℕ
table_of p = table_from p (oracle p) (λ x. get_or (supply p x) 0)

-- ── Read ───────────────────────────────────────────────────────────────────

unfoldable pub read_word : ℕ → List ℕ → Word
read_word m L = part L 1 m

unfoldable pub read_targets : ℕ → List ℕ → State → List State
read_targets m L x =
    let n = suc m in
    let start = at L (2 * n + x) in
    let end = at L (2 * n + suc x) in
    part L (3 * n + start) (end - start)

-- the spine's arrow, or the first extra one whose target has the letter
unfoldable pub read_arrow : ℕ → List ℕ → Delta
read_arrow m L x c = cond (ltb x m) (cond (eqb (at L (suc x)) c) (some (suc x)) (first (λ y. eqb (at L y) c) (read_targets m L x))) none

-- state 0, and what is no state, has none
unfoldable pub read_supply : ℕ → List ℕ → State → Option State
read_supply m L x = cond (eqb x 0) none (cond (leb x m) (some (at L (suc m + x))) none)
