-- THE ENTRIES OF A TABLE, row by row: what `table_from p δ S` holds at each place. A list of the same size with the same entries is the
-- same table, and where letters, supplies and targets are small, so is every entry.
use mathlib.Core.Path.{◌≡◌, refl, sym, ap, ◌∙◌}
use mathlib.Core.List.{List, ◌∷◌, ◌++◌, map}
use Prim.Native.Nat.{ℕ, zero, suc, ◌+◌, ◌*◌, ◌-◌, ◌≤◌, ◌<◌}
use native.Mathlib.Nat.{zero-add, add-zero}
use native.Mathlib.Numerals.{one-add}
use native.Mathlib.Decide.{dec_lt, ℕ_discrete}
use native.Mathlib.Omega.{arith}
use lib.ListN.{length, get_or, take, replicate, length-append, length-map, length-take, length-replicate}
use lib.ListN.{get_or-append, get_or-eq_default}
use lib.Seq.{get_or-take, ext_get_or}
use Rattle.words.specs.Lists.{at, from}
use Rattle.words.specs.Words.{Word, letter}
use Rattle.words.proofs.Lists.{from_length, map_from_at, at-behind}
use Rattle.words.proofs.Loops.{padded, zeros-at}
use Rattle.oracle.specs.Arrows.{State, Delta}
use Rattle.oracle.specs.FileOrder.{targets_before}
use Rattle.oracle.proofs.FileOrder.{before-room, before_at}
use Rattle.table.specs.Table.{room, table_from}

-- ── The entries of a table ─────────────────────────────────────────────────

module _ (p : Word) (δ : Delta) (S : State → State) where
  abbrev m : ℕ
  m = length p

  abbrev n : ℕ
  n = suc m

  abbrev L : List ℕ
  L = table_from p δ S

  abbrev supply_row : List ℕ
  supply_row = 0 ∷ map S (from 1 m)

  abbrev start_row : List ℕ
  start_row = map (λ k. length (targets_before δ p k)) (from 0 n)

  abbrev target_row : List ℕ
  target_row = take n (targets_before δ p n ++ replicate n 0)

  abbrev zeros : List ℕ
  zeros = replicate (2 * n) 0

  supply_row_lem : length supply_row ≡ n
  supply_row_lem = ap suc (length-map (from 1 m) S ∙ from_length 1 m)

  start_row_lem : length start_row ≡ n
  start_row_lem = length-map (from 0 n) _ ∙ from_length 0 n

  target_row_lem : length target_row ≡ n
  target_row_lem = simp (length-take, length-append, length-replicate) (omega arith)

  -- six rows
  pub from_size_lem : length L ≡ room (length p)
  unfolding table_from
  from_size_lem =
      let e : length L ≡ n + (length supply_row + (length start_row + (length target_row + length zeros))) = simp length-append in
      omega (arith, e, supply_row_lem, start_row_lem, target_row_lem, length-replicate {A = ℕ} (2 * n) 0)

  -- the letters, behind a zero
  pub row_0 : (i : ℕ) → i < n → at L i ≡ get_or (0 ∷ p) i 0
  unfolding table_from
  row_0 i h = get_or-append (0 ∷ p) _ 0 i h

  in_row_1 : (i : ℕ) → i < n → at L (n + i) ≡ get_or supply_row i 0
  unfolding table_from
  in_row_1 i h = at-behind (0 ∷ p) _ n i refl ∙ get_or-append supply_row _ 0 i (omega (arith, supply_row_lem))

  -- a zero
  pub row_1_first : at L n ≡ 0
  row_1_first = rw (add-zero n) at (in_row_1 0 (omega arith))

  -- and the supplies
  pub row_1 : (x : ℕ) → x < m → at L (n + suc x) ≡ S (suc x)
  row_1 x h = in_row_1 (suc x) (omega arith) ∙ rw (one-add x) at (map_from_at S 1 m x 0 h)

  behind_1 : (i : ℕ) → at L (n + (n + i)) ≡ get_or (start_row ++ (target_row ++ zeros)) i 0
  unfolding table_from
  behind_1 i = at-behind (0 ∷ p) _ n (n + i) refl ∙ at-behind supply_row _ n i supply_row_lem

  behind_2 : (i : ℕ) → at L (n + (n + (n + i))) ≡ get_or (target_row ++ zeros) i 0
  behind_2 i = behind_1 (n + i) ∙ at-behind start_row _ n i start_row_lem

  -- where each state's extra targets start
  pub row_2 : (i : ℕ) → i < n → at L (2 * n + i) ≡ length (targets_before δ p i)
  row_2 i h =
      let e : 2 * n + i ≡ n + (n + i) = omega arith in
      let value = map_from_at (λ k. length (targets_before δ p k)) 0 n i 0 h in
      rw e (behind_1 i ∙ get_or-append start_row _ 0 i (omega (arith, start_row_lem)) ∙ rw (zero-add i) at value)

  -- the extra targets of all states, and zeros
  pub row_3 : (i : ℕ) → i < n → at L (3 * n + i) ≡ get_or (targets_before δ p n) i 0
  row_3 i h =
      let e : 3 * n + i ≡ n + (n + (n + i)) = omega arith in
      let value = get_or-take n (targets_before δ p n ++ replicate n 0) i 0 h ∙ padded (targets_before δ p n) n i in
      rw e (behind_2 i ∙ get_or-append target_row _ 0 i (omega (arith, target_row_lem)) ∙ value)

  -- zeros
  pub row_4 : (i : ℕ) → i < 2 * n → at L (4 * n + i) ≡ 0
  row_4 i h =
      let e : 4 * n + i ≡ n + (n + (n + (n + i))) = omega arith in
      rw e (behind_2 (n + i) ∙ at-behind target_row _ n i target_row_lem ∙ zeros-at (2 * n) i)

  -- ── All entries ──────────────────────────────────────────────────────────

  -- what holds row by row holds of every entry
  rows : (P : ℕ → Type 0) → ((i : ℕ) → i < n → P i) → P n → ((x : ℕ) → x < m → P (n + suc x)) → ((i : ℕ) → i < n → P (2 * n + i))
      → ((i : ℕ) → i < n → P (3 * n + i))
      → ((i : ℕ) → i < 2 * n → P (4 * n + i)) → (i : ℕ) → i < 6 * n → P i
  rows P row0 row1-first row1 row2 row3 row4 i h = by (dec_lt i n) (ℕ_discrete i n) (dec_lt i (2 * n)) (dec_lt i (3 * n)) (dec_lt i (4 * n))
    where
      by : Dec (i < n) → Dec (i ≡ n) → Dec (i < 2 * n) → Dec (i < 3 * n) → Dec (i < 4 * n) → P i
      by (yes a) f b c d = row0 i a
      by (no a) (yes f) b c d = rw f row1-first
      by (no a) (no f) (yes b) c d = let e : n + suc (i - suc n) ≡ i = omega arith in rw e at (row1 (i - suc n) (omega arith))
      by (no a) (no f) (no b) (yes c) d = let e : 2 * n + (i - 2 * n) ≡ i = omega arith in rw e at (row2 (i - 2 * n) (omega arith))
      by (no a) (no f) (no b) (no c) (yes d) = let e : 3 * n + (i - 3 * n) ≡ i = omega arith in rw e at (row3 (i - 3 * n) (omega arith))
      by (no a) (no f) (no b) (no c) (no d) = let e : 4 * n + (i - 4 * n) ≡ i = omega arith in rw e at (row4 (i - 4 * n) (omega arith))

  -- a list of six rows with these entries is the table
  pub from_ext : (K : List ℕ) → length K ≡ 6 * n → ((i : ℕ) → i < n → at K i ≡ get_or (0 ∷ p) i 0) → at K n ≡ 0
      → ((x : ℕ) → x < m → at K (n + suc x) ≡ S (suc x))
      → ((i : ℕ) → i < n → at K (2 * n + i) ≡ length (targets_before δ p i))
      → ((i : ℕ) → i < n → at K (3 * n + i) ≡ get_or (targets_before δ p n) i 0)
      → ((i : ℕ) → i < 2 * n → at K (4 * n + i) ≡ 0) → K ≡ table_from p δ S
  from_ext K size r0 r1-first r1 r2 r3 r4 = ext_get_or 0 K L (omega (arith, from_size_lem)) (λ i h. same i (omega arith))
    where
      same : (i : ℕ) → i < 6 * n → at K i ≡ at L i
      same = rows (λ i. at K i ≡ at L i) (λ i h. r0 i h ∙ sym (row_0 i h)) (r1-first ∙ sym row_1_first) (λ x h. r1 x h ∙ sym (row_1 x h))
          (λ i h. r2 i h ∙ sym (row_2 i h)) (λ i h. r3 i h ∙ sym (row_3 i h)) (λ i h. r4 i h ∙ sym (row_4 i h))

  -- entries are numbers of 16 bits where letters and supplies are
  pub from_small : length p < 65535 → ((i : ℕ) → letter p i < 65536) → ((x : ℕ) → x < length p → S (suc x) < 65536)
      → length (targets_before δ p (suc (length p))) ≤ suc (length p) → (i : ℕ) → at (table_from p δ S) i < 65536
  from_small few letters supplies fits i = by (dec_lt i (6 * n))
    where
      row0 : (i : ℕ) → i < n → at L i < 65536
      row0 zero h = omega (arith, row_0 0 h)
      row0 (suc i) h = omega (arith, row_0 (suc i) h, letters i)

      inside : (i : ℕ) → i < 6 * n → at L i < 65536
      inside = rows (λ i. at L i < 65536) row0 (omega (arith, row_1_first)) (λ x h. omega (arith, row_1 x h, supplies x h))
          (λ i h. omega (arith, row_2 i h, before-room δ p i n h)) (λ i h. omega (arith, row_3 i h, before_at δ p n i))
          (λ i h. omega (arith, row_4 i h))

      by : Dec (i < 6 * n) → at L i < 65536
      by (yes h) = inside i h
      by (no h) = omega (arith, get_or-eq_default L 0 {n = i} (omega (arith, from_size_lem)))
