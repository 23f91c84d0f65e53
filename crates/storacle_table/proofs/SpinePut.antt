-- THE SPINE PUT IN CODE, from its last arrow to the first: before each, those behind it are laid out (`SpinePut`).
use mathlib.Core.Path.{◌≡◌, refl, sym, ap, ◌∙◌}
use mathlib.Core.List.{List, [], ◌∷◌, map}
use Prim.Native.Nat.{ℕ, suc, ◌+◌, ◌-◌, ◌*◌, ◌≤◌, ◌<◌}
use native.Mathlib.Omega.{arith}
use lib.ListN.{length, set}
use Rattle.words.specs.Lists.{at, from}
use Rattle.words.specs.Words.{Word, letter}
use Rattle.oracle.specs.Arrows.{State, Arrow, arrow, spine}
use Rattle.storacle_table.specs.StoracleTable.{storacle_room, column, cell_of, blank, storacle_table_from}
use Rattle.storacle_table.proofs.Cells.{cell-inside, cell-fits, column-inside}
use Rattle.storacle_table.proofs.Laid.{Laid, blank-laid, arrow-laid}
use Rattle.storacle_table.proofs.Columns.{column_of}

-- the arrows of the spine from state x on
abbrev spine_from : Word → State → List Arrow
spine_from p x = map (λ i. arrow i (letter p i) (suc i)) (from x (length p - x))

module _ (p : Word) where
  spine-none : spine_from p (length p) ≡ []
  unfolding from
  spine-none = let e : length p - length p ≡ 0 = omega arith in rw (e, from)

  spine_more : (x : State) → x < length p → spine_from p x ≡ arrow x (letter p x) (suc x) ∷ spine_from p (suc x)
  unfolding from
  spine_more x h = let e : length p - x ≡ suc (length p - suc x) = omega arith in rw (e, from)

  spine-whole : spine_from p 0 ≡ spine p
  unfolding spine
  spine-whole = let e : length p - 0 ≡ length p = omega arith in rw e

-- the spine's arrows from state x on are put
pub record SpinePut (p : Word) (L : List ℕ) (x : State) : Type 0 where
  pub inside : x ≤ length p
  pub table : L ≡ storacle_table_from p (spine_from p x)
  pub laid : Laid p (spine_from p x) L

arrow_more : {p : Word} {L : List ℕ} (x : State) → x < length p → SpinePut p L (suc x)
    → SpinePut p (set L (cell_of (length p) x (column p (letter p x))) (suc x)) x
unfolding storacle_table_from
arrow_more {p} {L} x h P = record {
  inside = omega arith;
  table = rw (spine_more p x h) (ap (λ T. set T (cell_of (length p) x (column p (letter p x))) (suc x)) P.table);
  laid = rw (spine_more p x h) (arrow-laid P.laid x (letter p x) (suc x) (omega arith) x h refl);
}

module _ {p : Word} {m : ℕ} (long : length p ≡ m) where
  pub spine-start : {L : List ℕ} → L ≡ blank p → SpinePut p L m
  unfolding storacle_table_from
  spine-start e = rw (← long) (record {
    inside = omega arith;
    table = rw (spine-none p) e;
    laid = rw (spine-none p, e) (blank-laid p);
  })

  pub spine-end : {L : List ℕ} {next : State} → SpinePut p L next → next ≡ 0 → L ≡ storacle_table_from p (spine p)
  spine-end P e = P.table ∙ rw e (ap (storacle_table_from p) (spine-whole p))

  module _ {L : List ℕ} {next : State} (P : SpinePut p L next) where
    pub spine-size : length L ≡ storacle_room m
    spine-size = rw (← long) P.laid.size

    module _ (more : 0 < next) where
      abbrev x : State
      x = next - 1

      column-there : at L (m + 1 + (x + 1)) ≡ column p (letter p x)
      column-there =
          let e : m + 1 + (x + 1) ≡ length p + 1 + suc x = omega arith in
          rw e (P.laid.columns (suc x) (omega (arith, P.inside)) ∙ column_of p x (omega (arith, P.inside)))

      pub spine-column : at L (m + 1 + (x + 1)) ≤ m
      spine-column = rw column-there (omega (arith, column-inside p (letter p x)))

      pub spine-cell : cell_of m x (at L (m + 1 + (x + 1))) < length L
      spine-cell = omega (arith, spine-size, cell-inside m x (at L (m + 1 + (x + 1))) (omega (arith, P.inside)) spine-column)

      pub spine-fits : m < 65535 → cell_of m x (at L (m + 1 + (x + 1))) ≤ 65536 * 65536
      spine-fits small = cell-fits m x (at L (m + 1 + (x + 1))) small (omega (arith, P.inside)) spine-column

      pub spine_step : SpinePut p (set L (cell_of m x (at L (m + 1 + (x + 1)))) (x + 1)) x
      spine_step =
          let cell_same = ap (λ n. cell_of n x (at L (m + 1 + (x + 1)))) (sym long) ∙ ap (cell_of (length p) x) column-there in
          let one : next ≡ suc x = omega arith in
          let above : x + 1 ≡ suc x = omega arith in
          let before : SpinePut p L (suc x) = rw one at P in
          rw (cell_same, above) (arrow_more x (omega (arith, P.inside)) before)
