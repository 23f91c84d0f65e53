-- FILLING THE ENTRIES, state by state: those of the states before x are right, and those of the states from x on are empty.
use mathlib.Core.Path.{◌≡◌}
use mathlib.Core.Option.{none}
use mathlib.Core.List.{List}
use Prim.Native.Nat.{ℕ, ◌≤◌, ◌<◌}
use native.Mathlib.Omega.{arith}
use lib.ListN.{length}
use Rattle.oracle.specs.Arrows.{State}
use Rattle.table.specs.Table.{read_arrow}
use Rattle.prepared.specs.Prepared.{Rows}
use Rattle.prepared.specs.Filling.{Apart, Told}

pub record Filling (L : List ℕ) (m : ℕ) (C : List ℕ) (k : ℕ) (D₀ D : List ℕ) (x : State) : Type 0 where
  pub size : length D ≡ length D₀
  pub most : x ≤ k
  pub passed : (y : State) → y < x → Told C D y (read_arrow m L y)
  pub ahead : (y : State) → x ≤ y → y < k → Told C D y (λ _. none)

-- as many states as are passed
pub fill_end : {L : List ℕ} {m : ℕ} {C : List ℕ} {k : ℕ} {D₀ D : List ℕ} {x : State} → Filling L m C k D₀ D x
    → Apart C k (length D₀) → k ≤ 16384 → Rows L m C D x
fill_end F A few = record {
  size = A.size;
  few = omega (arith, F.most, few);
  inside = λ y h c b. omega (arith, A.inside c b, F.most, F.size);
  arrows = F.passed;
}
