-- CELLS AND COLUMNS. Every arrow of states and columns has an entry of its own, behind the first two rows and within the room: rows are
-- m + 1 entries long, and no column is above m. Letters that the word has have columns of their own, and the others have column 0.
use mathlib.Core.Path.{◌≡◌, refl, sym, ◌∙◌}
use mathlib.Core.Logic.{⊎_elim, by_cases}
use Prim.Native.Nat.{ℕ, ◌+◌, ◌*◌, ◌≤◌, ◌<◌}
use native.Mathlib.Nat.{le_refl, mul-le-mul}
use native.Mathlib.Decide.{dec_lt}
use native.Mathlib.Omega.{arith}
use lib.ListN.{length}
use Rattle.words.specs.Words.{Letter, Word, letter}
use Rattle.oracle.specs.Arrows.{State}
use Rattle.storacle.specs.StoracleRule.{FirstLater}
use Rattle.storacle.proofs.FirstLater.{first_later-found, first_later_or_none}
use Rattle.storacle_table.specs.StoracleTable.{storacle_room, column, cell_of}

-- ── Cells ──────────────────────────────────────────────────────────────────

module _ (m : ℕ) where
  -- in row 2 + x
  pub cell_row : (x i : State) → cell_of m x i ≡ (2 + x) * (m + 1) + i
  unfolding cell_of
  cell_row x i = refl

  pub cell-behind : (x i : State) → 2 * (m + 1) ≤ cell_of m x i
  unfolding cell_of
  cell-behind x i = omega arith

  pub cell-inside : (x i : State) → x ≤ m → i ≤ m → cell_of m x i < storacle_room m
  unfolding cell_of
  cell-inside x i h b =
      let last : (2 + x) * (m + 1) ≤ (2 + m) * (m + 1) = mul-le-mul (omega arith) (le_refl _) in
      omega arith

  -- a later row is behind all entries of an earlier one
  cell-above : (x x' i i' : State) → i ≤ m → x < x' → cell_of m x i < cell_of m x' i'
  unfolding cell_of
  cell-above x x' i i' b h =
      let next : (3 + x) * (m + 1) ≤ (2 + x') * (m + 1) = mul-le-mul (omega arith) (le_refl _) in
      omega arith

  -- so no two arrows share one
  pub cell-own : (x x' i i' : State) → i ≤ m → i' ≤ m → cell_of m x i ≡ cell_of m x' i' → (x ≡ x') × (i ≡ i')
  cell-own x x' i i' b b' e = by_cases (dec_lt x x')
      (λ h. omega (arith, cell-above x x' i i' b h))
      (λ h. by_cases (dec_lt x' x)
      (λ h'. omega (arith, cell-above x' x i' i b' h'))
      (λ h'.
      let same : x ≡ x' = omega arith in
      (same, omega (arith, rw same at e, cell_row x' i, cell_row x' i'))))

-- rows and cells of states of 16 bits fit a machine's numbers
pub row_fits : (m : ℕ) (x : State) → m < 65535 → x ≤ m → (2 + x) * (m + 1) ≤ 65536 * 65535
row_fits m x h l = let row : 2 + x ≤ 65536 = omega arith in let long : m + 1 ≤ 65535 = omega arith in mul-le-mul row long

pub cell-fits : (m : ℕ) (x i : State) → m < 65535 → x ≤ m → i ≤ m → cell_of m x i ≤ 65536 * 65536
cell-fits m x i h l b = omega (arith, cell_row m x i, row_fits m x h l)

-- ── Columns ────────────────────────────────────────────────────────────────

module _ (p : Word) where
  pub column-first : (k : ℕ) → k < length p → FirstLater p 0 (letter p k) (column p (letter p k))
  column-first k h = first_later-found k (omega arith) h refl

  pub column-inside : (c : Letter) → column p c ≤ length p
  column-inside c = ⊎_elim (λ e. omega arith) (λ F. F.state) (first_later_or_none {p = p} {x = 0} {c = c} (omega arith))

  -- a letter with the column of one that the word has is that one
  pub column-own : (c : Letter) (k : ℕ) → k < length p → column p c ≡ column p (letter p k) → c ≡ letter p k
  column-own c k h e =
      let F = column-first k h in
      ⊎_elim
      (λ z. omega (arith, F.later))
      (λ G. sym G.incoming ∙ rw e F.incoming)
      (first_later_or_none {p = p} {x = 0} {c = c} (omega arith))
