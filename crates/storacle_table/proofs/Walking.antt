-- A SUFFIX WALKED IN CODE. Before each letter, in state x with the letters up to k spelled, the table is that of some arrows of which three
-- things hold (`Walking`): going on with the rule gives what the rule gives for the suffix; the walk from state 0 comes to x, with these
-- arrows and with more; and x is at most k. A letter that has its arrow leads on. For one that has none the rule would add the arrow and
-- walk again; the walk comes to x again, so code goes on from there. At the word's end the rule adds nothing more.
use mathlib.Core.Path.{◌≡◌, refl, sym, ap, ◌∙◌}
use mathlib.Core.Logic.{◌≢◌}
use mathlib.Core.Option.{none, some}
use mathlib.Core.List.{List, ◌∷◌}
use Prim.Native.Nat.{ℕ, suc, ◌+◌, ◌-◌, ◌*◌, ◌≤◌, ◌<◌}
use native.Mathlib.Omega.{arith}
use lib.ListN.{length, set}
use Rattle.words.specs.Lists.{at}
use Rattle.words.specs.Words.{Letter, Word, letter}
use Rattle.words.proofs.Lists.{option_cases, none_where}
use Rattle.oracle.specs.Arrows.{State, Arrow, arrow, Delta, target}
use Rattle.oracle.proofs.Targets.{target_hit}
use Rattle.failure.proofs.Halts.{Keeps}
use Rattle.storacle.specs.StoracleRule.{FirstLater, stitch, until_walked, storacle_after}
use Rattle.storacle.proofs.FirstLater.{first_later_is, first_later_least}
use Rattle.storacle.proofs.Stitched.{Stitched, stitched_on, new-keeps, stitched_to}
use Rattle.storacle.proofs.Halting.{far_of, far-ends, far-goes, far_stops}
use Rattle.storacle.proofs.Suffixes.{halt_of, until_done, until_next, all-walked}
use Rattle.storacle_table.specs.StoracleTable.{storacle_room, column, cell_of, storacle_table_from}
use Rattle.storacle_table.specs.Building.{FirstAlike, TableAfter}
use Rattle.storacle_table.proofs.Cells.{cell-inside, cell-fits, column-inside}
use Rattle.storacle_table.proofs.Laid.{entry_for, Laid}
use Rattle.storacle_table.proofs.Theorems.{stitched-laid}
use Rattle.storacle_table.proofs.Columns.{alike-first, column_of}

-- the walk of suffix i + 1 is in state x, with the letters up to k spelled
pub record Walking (p : Word) (i : ℕ) (L : List ℕ) (x : State) (k : ℕ) : Type 0 where
  pub arrows : List Arrow
  pub left : ℕ
  pub stitched : Stitched p arrows
  pub table : L ≡ storacle_table_from p arrows
  pub rule : until_walked left p (suc i) arrows ≡ storacle_after p (suc i)
  pub enough : length p ≤ left + k
  pub low : x ≤ k
  pub inside : k ≤ length p
  pub comes : (δ : Delta) → Keeps (target arrows) δ → far_of p δ 0 (suc i) ≡ far_of p δ x k

-- the table of the arrows of the suffixes 1 to i is where suffix i + 1 starts
pub walking_start : {p : Word} {i : ℕ} {L : List ℕ} → suc i ≤ length p → L ≡ storacle_table_from p (storacle_after p i)
    → Walking p i L 0 (suc i)
unfolding storacle_after
walking_start {p} {i} h e = record {
  arrows = storacle_after p i;
  left = length p;
  stitched = (all-walked p i (omega arith)).stitched;
  table = e;
  rule = refl;
  enough = omega arith;
  low = omega arith;
  inside = h;
  comes = λ δ K. refl;
}

module _ {p : Word} {i : ℕ} {L : List ℕ} {x : State} {k : ℕ} (W : Walking p i L x k) where
  abbrev A : List Arrow
  A = W.arrows

  pub walking_laid : Laid p A L
  walking_laid = stitched-laid W.stitched W.table

  -- at the word's end the rule adds nothing more
  pub walking_done : length p ≤ k → L ≡ storacle_table_from p (storacle_after p (suc i))
  walking_done h =
      let q : k ≡ length p = omega (arith, W.inside) in
      let halt = W.comes (target A) (λ x c y d. d) ∙ far-ends p (target A) x k q in
      W.table ∙ ap (storacle_table_from p) (sym (until_done p W.left A (suc i) (ap (λ h. h.up_to) halt)) ∙ W.rule)

  module _ (inside : k < length p) where
    abbrev c : Letter
    c = letter p k

    pub walking_column : at L (length p + 1 + suc k) ≡ column p (letter p k)
    walking_column = walking_laid.columns (suc k) inside ∙ column_of p k inside

    entry : at L (cell_of (length p) x (column p c)) ≡ entry_for (target A x c)
    entry = walking_laid.arrows x (omega (arith, W.low)) c

    -- the letter leads on
    pub walking_goes : (y : State) → at L (cell_of (length p) x (column p c)) ≡ y → y ≢ 0 → Walking p i L y (suc k)
    unfolding entry_for
    walking_goes y e f = option_cases (target A x c)
        (λ d. absurd (f (sym e ∙ entry ∙ rw d)))
        (λ z d.
        let same : z ≡ y = sym (entry ∙ rw d) ∙ e in
        let to : target A x c ≡ some y = rw same at d in
        record {
          arrows = A;
          left = W.left;
          stitched = W.stitched;
          table = W.table;
          rule = W.rule;
          enough = omega (arith, W.enough);
          low = first_later_least (stitched_to W.stitched x c y to) k W.low refl;
          inside = inside;
          comes = λ δ K. W.comes δ K ∙ far-goes p δ x k inside y (K x c y to);
        })

    -- it has no arrow
    module _ (nothing : at L (cell_of (length p) x (column p c)) ≡ 0) where
      lacks : target A x c ≡ none
      unfolding entry_for
      lacks = none_where (target A x c) (λ y e.
          let zero-there : y ≡ 0 = sym (entry ∙ rw e) ∙ nothing in
          omega (arith, (stitched_to W.stitched x c y e).later))

      halt : halt_of p A (suc i) ≡ record { state = x; up_to = k }
      halt = W.comes (target A) (λ x c y d. d) ∙ far_stops p (target A) x k inside lacks

      -- then one is added, to the first later state
      pub walking_adds : {y : State} → FirstAlike L x (suc k) y → Walking p i (set L (cell_of (length p) x (column p c)) y) y (suc k)
      unfolding storacle_table_from
      walking_adds {y} F = record {
        arrows = arrow x c y ∷ A;
        left = g;
        stitched = stitched_on W.stitched first lacks;
        table = ap (λ T. set T (cell_of (length p) x (column p c)) y) W.table;
        rule = sym added ∙ W.rule;
        enough = omega (arith, W.enough);
        low = first_later_least first k W.low refl;
        inside = inside;
        comes = λ δ K. W.comes δ (λ x' c' y' d. K x' c' y' (kept x' c' y' d)) ∙ far-goes p δ x k inside y (K x c y (target_hit A x c y));
      }
        where
          g : ℕ
          g = W.left - 1

          first : FirstLater p x c y
          first = alike-first p L walking_laid.letters x k inside F

          kept : Keeps (target A) (target (arrow x c y ∷ A))
          kept = new-keeps A x c y lacks

          added : until_walked W.left p (suc i) A ≡ until_walked g p (suc i) (arrow x c y ∷ A)
          added =
              let short : (halt_of p A (suc i)).up_to ≢ length p = λ e. omega (arith, ap (λ h. h.up_to) halt) in
              until_next p W.left A (suc i) short (omega (arith, W.enough))
              ∙ ap (λ h. until_walked g p (suc i) (stitch p h ∷ A)) halt
              ∙ ap (λ z. until_walked g p (suc i) (arrow x c z ∷ A)) (first_later_is first)

-- ── As code has it ─────────────────────────────────────────────────────────

module _ {p : Word} {m : ℕ} {i : ℕ} {L : List ℕ} {x : State} {k : ℕ} (long : length p ≡ m) (W : Walking p i L x k) where
  pub walking_size : length L ≡ storacle_room m
  walking_size = rw (← long) (walking_laid W).size

  module _ (inside : k < m) where
    -- what code takes for the letter's column, and for its cell
    abbrev here : State
    here = at L (m + 1 + k + 1)

    column-there : at L (m + 1 + k + 1) ≡ column p (letter p k)
    column-there =
        let e : m + 1 + k + 1 ≡ length p + 1 + suc k = omega arith in
        rw e (walking_column W (omega arith))

    pub step_column : at L (m + 1 + k + 1) ≤ m
    step_column = rw column-there (omega (arith, column-inside p (letter p k)))

    cell_same : cell_of m x (at L (m + 1 + k + 1)) ≡ cell_of (length p) x (column p (letter p k))
    cell_same = ap (λ n. cell_of n x (at L (m + 1 + k + 1))) (sym long) ∙ ap (cell_of (length p) x) column-there

    pub step_cell : cell_of m x (at L (m + 1 + k + 1)) < length L
    step_cell = omega (arith, walking_size, cell-inside m x here (omega (arith, W.low)) step_column)

    pub step_fits : m < 65535 → cell_of m x (at L (m + 1 + k + 1)) ≤ 65536 * 65536
    step_fits small = cell-fits m x here small (omega (arith, W.low)) step_column

    pub step_goes : (y : State) → at L (cell_of m x (at L (m + 1 + k + 1))) ≡ y → y ≢ 0 → Walking p i L y (k + 1)
    step_goes y e f =
        let one : k + 1 ≡ suc k = omega arith in
        rw one (walking_goes W (omega arith) y (rw cell_same at e) f)

    pub step_adds : {y : State} → at L (cell_of m x (at L (m + 1 + k + 1))) ≡ 0 → FirstAlike L x (k + 1) y
        → Walking p i (set L (cell_of m x (at L (m + 1 + k + 1))) y) y (k + 1)
    step_adds e F =
        let one : k + 1 ≡ suc k = omega arith in
        rw (one, cell_same) (walking_adds W (omega arith) (rw cell_same at e) (rw one at F))

-- the suffix behind the first i + 1 letters is walked from the table of the suffixes before it
pub after_walking : {p : Word} {m : ℕ} {L : List ℕ} {i : ℕ} → TableAfter p m L i → i + 1 < m → Walking p i L 0 (i + 1)
after_walking {i = i} S h =
    let one : i + 1 ≡ suc i = omega arith in
    rw one (walking_start (omega (arith, S.sized.long)) S.table)

-- and leaves the table with it
pub after-walked : {p : Word} {m : ℕ} {L L' : List ℕ} {i : ℕ} {x : State} {k : ℕ} → TableAfter p m L i → i + 1 < m → Walking p i L' x k
    → m ≤ k → TableAfter p m L' (i + 1)
after-walked {i = i} S h W end =
    let one : i + 1 ≡ suc i = omega arith in
    record {
      sized = S.sized;
      inside = omega arith;
      table = rw one (walking_done W (omega (arith, S.sized.long)));
    }
