-- THE TABLE of a storacle over a word of m letters: m + 6 rows of n = m + 1 entries, and the rule by which it is read. The rule looks
-- entries up and runs no construction.
--
--   row 0, entry i      the letter of state i, for i from 1 to m
--   row 1, entry i      the column of that letter: the first state that has it
--   row 2 + x, entry i  where the arrow from state x on the letter of column i leads; 0 for none, as none leads to state 0
--   rows m + 3 and on   zero, and so is every entry that is not named here
--
--   storacle_room m        how many entries
--   column p c             the column of a letter; 0 for one that the word has not
--   cell_of m x i          the entry of the arrow from x on the letter of column i
--   blank p                the table of no arrows
--   storacle_table_from p A
--                          the table of the arrows A over p, of which the first counts where two leave a state on a letter
--   storacle_table p       the table of a word: the storacle rule's arrows
--   read_storacle m L x c  where the arrow from x on c leads
--
-- 02, 'Storacle'; 01, 'When the library says no', its last part.
use Rattle.std.specs.Prelude.{cond, List, [], ◌∷◌, ◌++◌, map, ℕ, ◌+◌, ◌*◌, length, set, replicate, eqb, leb}
use Rattle.std.proofs.Math.Option.{none, some}
use Rattle.words.specs.Lists.{at}
use Rattle.words.specs.Words.{Letter, Word}
use Rattle.oracle.specs.Arrows.{State, Arrow, Delta}
use Rattle.storacle.specs.StoracleRule.{first_later, storacle_rule}
use Rattle.table.specs.Table.{read_word}

abbrev pub storacle_room : ℕ → ℕ
storacle_room m = (m + 1) * (m + 6)

-- ── Laid out ───────────────────────────────────────────────────────────────

abbrev pub column : Word → Letter → State
column p c = first_later p 0 c

unfoldable pub cell_of : ℕ → State → State → ℕ
cell_of m x i = (2 + x) * (m + 1) + i

unfoldable pub blank : Word → List ℕ
blank p = (0 ∷ p) ++ ((0 ∷ map (column p) p) ++ replicate ((length p + 1) * (length p + 4)) 0)

unfoldable pub storacle_table_from : Word → List Arrow → List ℕ
storacle_table_from p [] = blank p
storacle_table_from p (a ∷ A) = set (storacle_table_from p A) (cell_of (length p) a.source (column p a.on)) a.to

unfoldable pub storacle_table : Word → List ℕ
storacle_table p = storacle_table_from p (storacle_rule p)

-- ── Read ───────────────────────────────────────────────────────────────────

unfoldable pub read_storacle : ℕ → List ℕ → Delta
read_storacle m L x c =
    let y = at L (cell_of m x (column (read_word m L) c)) in
    cond (leb x m) (cond (eqb y 0) none (some y)) none
