-- ONE ARROW MORE, ONE STEP MORE IN THE TABLE: what code writes for an arrow that is added turns the table of the arrows before into that of
-- the arrows then. Symbol arrows are laid out over the failure arrows; but a failure arrow writes into row 1, which no slot touches, so it
-- may be written behind them as well.
use mathlib.Core.Path.{◌≡◌, refl, sym}
use mathlib.Core.List.{List, [], ◌∷◌}
use Prim.Native.Nat.{ℕ, suc, ◌+◌, ◌*◌, ◌<◌}
use native.Mathlib.Omega.{arith}
use lib.ListN.{length, set}
use lib.Seq.{get_or-set_other, set_comm}
use Rattle.words.specs.Lists.{at}
use Rattle.words.specs.Words.{Word}
use Rattle.oracle.specs.Arrows.{State, Arrow}
use Rattle.failure.specs.FailureRule.{FailureArrows, with_failure, with_symbol}
use Rattle.failure_table.specs.FailureTable.{word_alone, slotted, lay_failures, lay_arrows, failure_table_from}

-- an entry of rows 0 and 1 may be written before a slot or behind it
slotted-set : (L : List ℕ) (n u : ℕ) (x y : State) (i z : ℕ) → i < 2 * n → slotted (set L i z) n u x y ≡ set (slotted L n u x y) i z
unfolding slotted
slotted-set L n u x y i z h =
    let first = at L (2 * n + x) in
    let with_target = set L (4 * n + (u + 1)) y in
    let with_next = set with_target (3 * n + (u + 1)) first in
    let same : first ≡ at (set L i z) (2 * n + x) = sym (get_or-set_other L i (2 * n + x) z 0 (omega arith)) in
    rw (
      ← same,
      set_comm L i (4 * n + (u + 1)) z y (omega arith),
      set_comm with_target i (3 * n + (u + 1)) z first (omega arith),
      set_comm with_next i (2 * n + x) z (u + 1) (omega arith),
    )

-- before all slots or behind them
arrows-set : (n : ℕ) (E : List Arrow) (L : List ℕ) (i z : ℕ) → i < 2 * n → lay_arrows n E (set L i z) ≡ set (lay_arrows n E L) i z
unfolding lay_arrows
arrows-set n [] L i z h = refl
arrows-set n (a ∷ E) L i z h = rw (arrows-set n E L i z h) (slotted-set (lay_arrows n E L) n (length E) a.source a.to i z h)

-- a failure arrow more is an entry more
pub with_failure_lem : (p : Word) (A : FailureArrows) (x k : State) → x < length p
    → failure_table_from p (with_failure x k A) ≡ set (failure_table_from p A) (length p + 1 + x) k
unfolding failure_table_from lay_failures
with_failure_lem p A x k h =
    let n = length p + 1 in
    arrows-set n A.extra (lay_failures n A.failures (word_alone p)) (n + x) k (omega arith)

-- a symbol arrow more is a slot more
pub with_symbol_lem : (p : Word) (A : FailureArrows) (x k : State)
    → failure_table_from p (with_symbol p x k A) ≡ slotted (failure_table_from p A) (length p + 1) (length A.extra) x (suc k)
unfolding failure_table_from lay_arrows
with_symbol_lem p A x k = refl
