-- THE TABLE of a failure oracle over a word of m letters: ten rows of n = m + 1 entries, and the rule by which it is read. The rule looks
-- entries up and runs no construction.
--
--   row 0, entry i    the letter of state i, for i from 1 to m
--   row 1, entry x    where the failure arrow of state x leads; 0 where it has none, since failure arrows climb
--   row 2, entry x    the first slot of the symbol arrows of x beside the spine; 0 where it has none
--   row 3, entry s    the slot behind slot s, an older one; 0 where s is the last
--   row 4, entry s    the target of slot s; its letter is that of the arrow
--   rows 5 to 9       zero, and so is every entry that is not named here
--
-- Slots count from 1, in the order in which the rule adds the arrows.
--
--   failure_room m        how many entries
--   word_alone p          the table with the word alone
--   slotted L n u x y     an arrow from x to y in slot u + 1, before the others of x
--   lay_failures n F L    the failure arrows F in their row
--   lay_arrows n E L      the symbol arrows E in slots
--   failure_table_from p A
--                         the table of the arrows A over p
--   failure_table p       the table of a word: the failure rule's arrows
--   read_failure m L x    where the failure arrow of x leads
--   seek m L c g s        the first target with the letter c in the slots from s on, at most g of them
--   read_symbol m L x c   where the symbol arrow from x on c leads
--   read_ask m L          what becomes of a letter, by the table
--
-- 02, 'Failure oracle'; 01, 'When the library says no', its last part.
use Rattle.std.specs.Prelude.{cond, ◌&&◌, List, [], ◌∷◌, ◌++◌, ℕ, zero, suc, ◌+◌, ◌*◌, length, set, replicate, eqb, ltb, leb}
use Rattle.std.proofs.Math.Option.{Option, none, some}
use Rattle.words.specs.Lists.{at}
use Rattle.words.specs.Words.{Letter, Word}
use Rattle.oracle.specs.Arrows.{State, Arrow, Delta}
use Rattle.failure.specs.FailureRule.{Failure, Fails, Asking, ask, FailureArrows, failure_rule}

abbrev pub failure_room : ℕ → ℕ
failure_room m = 10 * (m + 1)

-- ── Laid out ───────────────────────────────────────────────────────────────

unfoldable pub word_alone : Word → List ℕ
word_alone p = (0 ∷ p) ++ replicate (9 * (length p + 1)) 0

unfoldable pub slotted : List ℕ → ℕ → ℕ → State → State → List ℕ
slotted L n u x y = set (set (set L (4 * n + (u + 1)) y) (3 * n + (u + 1)) (at L (2 * n + x))) (2 * n + x) (u + 1)

unfoldable pub lay_failures : ℕ → List Failure → List ℕ → List ℕ
lay_failures n [] L = L
lay_failures n (f ∷ F) L = set (lay_failures n F L) (n + f.source) f.to

unfoldable pub lay_arrows : ℕ → List Arrow → List ℕ → List ℕ
lay_arrows n [] L = L
lay_arrows n (a ∷ E) L = slotted (lay_arrows n E L) n (length E) a.source a.to

unfoldable pub failure_table_from : Word → FailureArrows → List ℕ
failure_table_from p A = let n = length p + 1 in lay_arrows n A.extra (lay_failures n A.failures (word_alone p))

unfoldable pub failure_table : Word → List ℕ
failure_table p = failure_table_from p (failure_rule p)

-- ── Read ───────────────────────────────────────────────────────────────────

unfoldable pub read_failure : ℕ → List ℕ → Fails
read_failure m L x = let z = at L (m + 1 + x) in cond (leb x m) (cond (eqb z 0) none (some z)) none

unfoldable pub seek : ℕ → List ℕ → Letter → ℕ → ℕ → Option State
seek m L c zero s = none
seek m L c (suc g) s =
    let y = at L (4 * (m + 1) + s) in
    let later = seek m L c g (at L (3 * (m + 1) + s)) in
    cond (eqb s 0) none (cond (eqb (at L y) c) (some y) later)

-- the spine's arrow, or the first other one whose target has the letter; what is no state has none
unfoldable pub read_symbol : ℕ → List ℕ → Delta
read_symbol m L x c =
    let others = seek m L c (m + 1) (at L (2 * (m + 1) + x)) in
    cond (leb x m) (cond (ltb x m && eqb (at L (x + 1)) c) (some (x + 1)) others) none

unfoldable pub read_ask : ℕ → List ℕ → Asking
read_ask m L = ask (read_symbol m L) (read_failure m L) m
