-- ARROWS LAID OUT IN A TABLE: `Laid p A L` says what stands in each entry of L that the rule reads. It holds of the table of no arrows, and
-- an arrow more changes its own cell alone.
use mathlib.Core.Path.{◌≡◌, sym, ap, ◌∙◌}
use mathlib.Core.Logic.{⊎_elim, by_cases}
use mathlib.Core.Option.{Option, none, some}
use mathlib.Core.List.{List, [], ◌∷◌, ◌++◌, map}
use Prim.Native.Nat.{ℕ, suc, ◌+◌, ◌-◌, ◌*◌, ◌≤◌, ◌<◌}
use native.Mathlib.Decide.{ℕ_discrete}
use native.Mathlib.Omega.{arith}
use lib.ListN.{length, set, replicate, length-append, length-replicate, length-map, length-set, get_or-append, get_or-eq_default}
use lib.Seq.{ext_get_or, get_or-set_same, get_or-set_other}
use Rattle.words.specs.Lists.{at}
use Rattle.words.specs.Words.{Letter, Word, letter, part}
use Rattle.words.proofs.Lists.{at-behind}
use Rattle.words.proofs.Loops.{padded}
use Rattle.words.proofs.Words.{part_length, part_at}
use Rattle.oracle.specs.Arrows.{State, Arrow, arrow, target}
use Rattle.oracle.proofs.Targets.{target_hit, target_pass}
use Rattle.table.specs.Table.{read_word}
use Rattle.storacle_table.specs.StoracleTable.{storacle_room, column, cell_of, blank}
use Rattle.storacle_table.proofs.Cells.{cell-behind, cell-inside, cell-own, column-inside, column-own}

-- what stands for where an arrow leads
unfoldable pub entry_for : Option State → ℕ
entry_for none = 0
entry_for (some y) = y

pub record Laid (p : Word) (A : List Arrow) (L : List ℕ) : Type 0 where
  pub size : length L ≡ storacle_room (length p)
  pub letters : (i : ℕ) → i ≤ length p → at L i ≡ at (0 ∷ p) i
  pub columns : (i : ℕ) → i ≤ length p → at L (length p + 1 + i) ≡ at (0 ∷ map (column p) p) i
  pub arrows : (x : State) → x ≤ length p → (c : Letter) → at L (cell_of (length p) x (column p c)) ≡ entry_for (target A x c)

-- the word is read from such a table
pub laid_word : {p : Word} {A : List Arrow} {L : List ℕ} → Laid p A L → read_word (length p) L ≡ p
unfolding read_word
laid_word {p} {A} {L} D = ext_get_or 0 (part L 1 (length p)) p size (λ k h. letters k (rw size at h))
  where
    size : length (part L 1 (length p)) ≡ length p
    size = part_length L 1 (length p) (omega (arith, D.size))

    letters : (k : ℕ) → k < length p → letter (part L 1 (length p)) k ≡ letter p k
    letters k h = let e : 1 + k ≡ suc k = omega arith in part_at L 1 (length p) k h ∙ rw e (D.letters (suc k) (omega arith))

-- ── No arrows ──────────────────────────────────────────────────────────────

module _ (p : Word) where
  abbrev m : ℕ
  m = length p

  abbrev column_row : List ℕ
  column_row = 0 ∷ map (column p) p

  abbrev zeros : List ℕ
  zeros = replicate ((m + 1) * (m + 4)) 0

  row-size : length column_row ≡ m + 1
  row-size = omega (arith, length-map p (column p))

  pub blank-size : length (blank p) ≡ storacle_room m
  unfolding blank
  blank-size =
      let behind = length-append column_row zeros in
      let whole = length-append (0 ∷ p) (column_row ++ zeros) in
      omega (arith, length-replicate {A = ℕ} ((m + 1) * (m + 4)) 0, row-size)

  -- the letters
  pub blank-letter : (i : ℕ) → i ≤ m → at (blank p) i ≡ at (0 ∷ p) i
  unfolding blank
  blank-letter i h = get_or-append (0 ∷ p) (column_row ++ zeros) 0 i (omega arith)

  -- the columns, and zeros behind them
  pub blank-column : (i : ℕ) → at (blank p) (m + 1 + i) ≡ at (0 ∷ map (column p) p) i
  unfolding blank
  blank-column i = at-behind (0 ∷ p) (column_row ++ zeros) (m + 1) i (omega arith) ∙ padded column_row ((m + 1) * (m + 4)) i

  pub blank-zero : (j : ℕ) → 2 * (m + 1) ≤ j → at (blank p) j ≡ 0
  blank-zero j h =
      let e : j ≡ m + 1 + (j - (m + 1)) = omega arith in
      rw e (blank-column (j - (m + 1)) ∙ get_or-eq_default column_row 0 {n = j - (m + 1)} (omega (arith, row-size)))

  pub blank-laid : Laid p [] (blank p)
  unfolding entry_for target
  blank-laid = record {
    size = blank-size;
    letters = blank-letter;
    columns = λ i h. blank-column i;
    arrows = λ x h c. blank-zero (cell_of m x (column p c)) (cell-behind m x (column p c));
  }

-- ── One arrow more ─────────────────────────────────────────────────────────

module _ {p : Word} {A : List Arrow} {L : List ℕ} (D : Laid p A L) (x : State) (c : Letter) (y : State) where
  abbrev cell : ℕ
  cell = cell_of (length p) x (column p c)

  module _ (state : x ≤ length p) (k : ℕ) (inside : k < length p) (on : c ≡ letter p k) where
    cell-there : cell < length L
    cell-there = omega (arith, D.size, cell-inside (length p) x (column p c) state (column-inside p c))

    -- entries before the cells stay
    front : (j : ℕ) → j < 2 * (length p + 1) → at (set L cell y) j ≡ at L j
    front j h = get_or-set_other L cell j y 0 (omega (arith, cell-behind (length p) x (column p c)))

    -- so do the cells of other arrows
    others : (x' : State) (c' : Letter) → ((x' ≡ x) × (c' ≡ c) → ⊥)
        → at (set L cell y) (cell_of (length p) x' (column p c')) ≡ at L (cell_of (length p) x' (column p c'))
    others x' c' f = get_or-set_other L cell (cell_of (length p) x' (column p c')) y 0 (λ e.
        let r = cell-own (length p) x' x (column p c') (column p c) (column-inside p c') (column-inside p c) e in
        f (r.0, column-own p c' k inside (rw on at r.1) ∙ sym on))

    its_own : at (set L cell y) cell ≡ y
    its_own = get_or-set_same L cell y 0 cell-there

    pub arrow-laid : Laid p (arrow x c y ∷ A) (set L (cell_of (length p) x (column p c)) y)
    unfolding entry_for
    arrow-laid = record {
      size = length-set L cell y ∙ D.size;
      letters = λ i h. front i (omega arith) ∙ D.letters i h;
      columns = λ i h. front (length p + 1 + i) (omega arith) ∙ D.columns i h;
      arrows = arrows;
    }
      where
        arrows : (x' : State) → x' ≤ length p → (c' : Letter)
            → at (set L cell y) (cell_of (length p) x' (column p c')) ≡ entry_for (target (arrow x c y ∷ A) x' c')
        arrows x' h c' = by_cases (ℕ_discrete x' x)
            (λ e. by_cases (ℕ_discrete c' c)
            (λ d. rw (e, d, target_hit A x c y, entry_for) its_own)
            (λ d. as_before (λ t. d t.1)))
            (λ e. as_before (λ t. e t.0))
          where
            as_before : ((x' ≡ x) × (c' ≡ c) → ⊥)
                → at (set L cell y) (cell_of (length p) x' (column p c')) ≡ entry_for (target (arrow x c y ∷ A) x' c')
            as_before f =
                let other = ⊎_elim (λ t. t) (λ t. absurd (f t)) (target_pass A (arrow x c y) x' c') in
                others x' c' f ∙ D.arrows x' h c' ∙ ap entry_for (sym other)
