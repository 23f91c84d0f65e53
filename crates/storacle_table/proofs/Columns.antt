-- THE COLUMNS PUT IN CODE, from the first state to the last: before each, the entries up to its own are those of the table of no arrows,
-- and the others are zero. A state's column is the first that has its letter, found in row 0.
use mathlib.Core.Path.{◌≡◌, refl, sym, ap, ◌∙◌}
use mathlib.Core.Logic.{by_cases}
use mathlib.Core.List.{List, [], ◌∷◌, map}
use Prim.Native.Nat.{ℕ, zero, suc, pred, ◌+◌, ◌-◌, ◌*◌, ◌≤◌, ◌<◌}
use native.Mathlib.Decide.{dec_le, dec_lt, ℕ_discrete}
use native.Mathlib.Omega.{arith}
use lib.ListN.{length, set, length-append, length-replicate, length-set, get_or-eq_default}
use lib.Seq.{ext_get_or, get_or-set_same, get_or-set_other}
use Rattle.words.specs.Lists.{at}
use Rattle.words.specs.Words.{Word, letter}
use Rattle.words.proofs.Loops.{padded}
use Rattle.oracle.specs.Arrows.{State}
use Rattle.storacle.specs.StoracleRule.{FirstLater}
use Rattle.storacle.proofs.FirstLater.{first_later_is}
use Rattle.storacle_table.specs.StoracleTable.{storacle_room, column, blank}
use Rattle.storacle_table.specs.Building.{word_put, FirstAlike}
use Rattle.storacle_table.proofs.Laid.{blank-size, blank-letter, blank-column, blank-zero}

-- ── The first later state, in row 0 ────────────────────────────────────────

-- row 0 has the letters of p
abbrev pub Lettered : Word → List ℕ → Type 0
Lettered p L = (i : ℕ) → i ≤ length p → at L i ≡ at (0 ∷ p) i

module _ (p : Word) (L : List ℕ) (R : Lettered p L) where
  lettered : (z : State) → 0 < z → z ≤ length p → at L z ≡ letter p (pred z)
  lettered zero h b = absurd (omega arith)
  lettered (suc z) h b = R (suc z) b

  pub alike-first : (x : State) (k : ℕ) {z : State} → k < length p → FirstAlike L x (suc k) z → FirstLater p x (letter p k) z
  alike-first x k {z} h F =
      let own : at L (suc k) ≡ letter p k = R (suc k) h in
      record {
        later = F.behind;
        state = omega (arith, F.within);
        incoming = sym (lettered z (omega (arith, F.behind)) (omega (arith, F.within))) ∙ F.alike ∙ own;
        first = λ j u v e. F.first j u v (lettered j (omega arith) (omega (arith, F.within)) ∙ e ∙ sym own);
      }

-- ── Put one by one ─────────────────────────────────────────────────────────

-- the columns of the states below i are put
pub record ColumnsPut (p : Word) (L : List ℕ) (i : ℕ) : Type 0 where
  pub size : length L ≡ storacle_room (length p)
  pub passed : (j : ℕ) → j < length p + 1 + i → at L j ≡ at (blank p) j
  pub behind : (j : ℕ) → length p + 1 + i ≤ j → at L j ≡ 0

module _ (p : Word) where
  abbrev m : ℕ
  m = length p

  column-at : (v : Word) (k : ℕ) → k < length v → at (map (column p) v) k ≡ column p (letter v k)
  column-at [] k h = absurd (omega arith)
  column-at (c ∷ v) zero h = refl
  column-at (c ∷ v) (suc k) h = column-at v k (omega arith)

  pub column_of : (k : ℕ) → k < length p → at (0 ∷ map (column p) p) (suc k) ≡ column p (letter p k)
  column_of k h = column-at p k h

  pub columns-start : {L : List ℕ} → L ≡ word_put p → ColumnsPut p L 1
  unfolding word_put
  columns-start {L} e = record {
    size = ap length e ∙ length-append (0 ∷ p) _ ∙ omega (arith, length-replicate {A = ℕ} ((m + 1) * (m + 5)) 0);
    passed = λ j h. put j ∙ by_cases (dec_le j m)
        (λ l. sym (blank-letter p j l))
        (λ l. let q : j ≡ m + 1 + 0 = omega arith in rw q (zero-behind (m + 1 + 0) (omega arith) ∙ sym (blank-column p 0)));
    behind = λ j h. put j ∙ zero-behind j (omega arith);
  }
    where
      put : (j : ℕ) → at L j ≡ at (0 ∷ p) j
      put j = rw e (padded (0 ∷ p) ((m + 1) * (m + 5)) j)

      zero-behind : (j : ℕ) → m < j → at (0 ∷ p) j ≡ 0
      zero-behind j h = get_or-eq_default (0 ∷ p) 0 {n = j} (omega arith)

  module _ {L : List ℕ} {i : ℕ} (P : ColumnsPut p L i) where
    pub columns_lettered : 1 ≤ i → Lettered p L
    columns_lettered h j b = P.passed j (omega arith) ∙ blank-letter p j b

    pub columns_step : 1 ≤ i → i ≤ m → {z : State} → FirstAlike L 0 i z → ColumnsPut p (set L (m + 1 + i) z) (i + 1)
    columns_step h b {z} F = record {
      size = length-set L (m + 1 + i) z ∙ P.size;
      passed = λ j l. by_cases (ℕ_discrete j (m + 1 + i))
          (λ e. rw e (get_or-set_same L (m + 1 + i) z 0 there ∙ own))
          (λ e. get_or-set_other L (m + 1 + i) j z 0 e ∙ P.passed j (omega arith));
      behind = λ j l. get_or-set_other L (m + 1 + i) j z 0 (omega arith) ∙ P.behind j (omega arith);
    }
      where
        k : ℕ
        k = i - 1

        there : m + 1 + i < length L
        there = omega (arith, P.size)

        own : z ≡ at (blank p) (m + 1 + i)
        own =
            let e : i ≡ suc k = omega arith in
            let first = alike-first p L (columns_lettered h) 0 k (omega arith) (rw e at F) in
            sym (first_later_is first) ∙ sym (column_of k (omega arith)) ∙ rw (← e) (sym (blank-column p i))

    pub columns-end : m < i → L ≡ blank p
    columns-end h = ext_get_or 0 L (blank p) (P.size ∙ sym (blank-size p)) (λ j l. by_cases (dec_lt j (m + 1 + i))
        (λ b. P.passed j b)
        (λ b. P.behind j (omega arith) ∙ sym (blank-zero p j (omega arith))))

-- ── As code has it ─────────────────────────────────────────────────────────

-- p has m letters, and the columns of the states below i, which is one, are put
pub record PutUpTo (p : Word) (L : List ℕ) (m i : ℕ) : Type 0 where
  pub long : length p ≡ m
  pub some_state : 1 ≤ i
  pub columns : ColumnsPut p L i

pub put-start : {p : Word} {m : ℕ} {L : List ℕ} → length p ≡ m → L ≡ word_put p → PutUpTo p L m 1
put-start {p} long e = record { long = long; some_state = omega arith; columns = columns-start p e }

module _ {p : Word} {m : ℕ} {L : List ℕ} {i : ℕ} (P : PutUpTo p L m i) where
  pub put-size : length L ≡ storacle_room m
  put-size = rw (← P.long) P.columns.size

  pub put_step : i ≤ m → {z : State} → FirstAlike L 0 i z → PutUpTo p (set L (m + 1 + i) z) m (i + 1)
  put_step b {z} F = record {
    long = P.long;
    some_state = omega arith;
    columns = rw (← P.long) (columns_step p P.columns P.some_state (omega (arith, P.long)) F);
  }

  pub put-end : m < i → L ≡ blank p
  put-end h = columns-end p P.columns (omega (arith, P.long))
