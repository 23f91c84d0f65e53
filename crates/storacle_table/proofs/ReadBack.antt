-- THE TABLE OF A SET OF ARROWS IS READ AS THAT SET: its arrows are laid out one by one over the table of none. What is no state has no
-- arrow in the set, and none is read. That its entries are small goes by what is written: letters, columns and targets.
use mathlib.Core.Path.{◌≡◌, refl, sym, ◌∙◌}
use mathlib.Core.Logic.{by_cases}
use mathlib.Core.Option.{none, some}
use mathlib.Core.List.{List, [], ◌∷◌, map, Memᴰ}
use Prim.Native.Nat.{ℕ, zero, suc, pred, ◌+◌, ◌-◌, ◌≤◌, ◌<◌}
use native.Mathlib.Decide.{dec_le}
use native.Mathlib.Omega.{arith}
use lib.ListN.{length}
use borrow.Author.Tests.{eq-eqb, ne_eqb, le-leb, lt-leb}
use Rattle.words.specs.Lists.{at}
use Rattle.words.specs.Words.{Letter, Word}
use Rattle.words.proofs.Lists.{option_cases, none_where, Small, set-small}
use Rattle.oracle.specs.Arrows.{State, Arrow, target, OneEach}
use Rattle.oracle.proofs.Targets.{target_member}
use Rattle.table.specs.Table.{read_word}
use Rattle.storacle_table.specs.StoracleTable.{column, cell_of, blank, storacle_table_from, read_storacle}
use Rattle.storacle_table.specs.StoracleFreedom.{StoracleSet, ReadAsStoracle}
use Rattle.storacle_table.proofs.Cells.{column-inside}
use Rattle.storacle_table.proofs.Laid.{entry_for, Laid, laid_word, blank-letter, blank-column, blank-laid, arrow-laid}

module _ (p : Word) where
  abbrev m : ℕ
  m = length p

  -- one arrow fewer is such a set too
  fewer : {a : Arrow} {A : List Arrow} → StoracleSet p (a ∷ A) → StoracleSet p A
  unfolding OneEach
  fewer X = record {
    sources = λ b i. X.sources b (Memᴰ.tail i);
    above = λ b i. X.above b (Memᴰ.tail i);
    inside = λ b i. X.inside b (Memᴰ.tail i);
    letters = λ b i. X.letters b (Memᴰ.tail i);
    one_each = X.one_each.1;
  }

  -- every such set is laid out in its table
  pub all_laid : (A : List Arrow) → StoracleSet p A → Laid p A (storacle_table_from p A)
  unfolding storacle_table_from
  all_laid [] X = blank-laid p
  all_laid (a ∷ A) X =
      let i = Memᴰ.head {x = a} refl in
      let above = X.above a i in
      let inside = X.inside a i in
      arrow-laid (all_laid A (fewer X)) a.source a.on a.to (X.sources a i) (pred a.to) (omega arith) (X.letters a i)

  module _ {A : List Arrow} {L : List ℕ} (D : Laid p A L) (above : (x : State) (c : Letter) (y : State) → target A x c ≡ some y → 0 < y)
      (x : State) (c : Letter) where
    -- what the rule looks at
    abbrev entry : ℕ
    entry = at L (cell_of m x (column (read_word m L) c))

    looked_up : x ≤ m → entry ≡ entry_for (target A x c)
    looked_up h = rw (laid_word D) (D.arrows x h c)

    -- in a table where arrows are laid out they are read
    pub laid-read : x ≤ m → read_storacle m L x c ≡ target A x c
    unfolding read_storacle entry_for
    laid-read h = option_cases (target A x c)
        (λ e. rw (le-leb x m h, eq-eqb entry 0 (looked_up h ∙ rw e)) (sym e))
        (λ y e.
        let there : entry ≡ y = looked_up h ∙ rw e in
        rw (le-leb x m h, ne_eqb entry 0 (omega (arith, above x c y e)), there) (sym e))

    -- no arrow leaves what is no state
    far-read : m < x → read_storacle m L x c ≡ none
    unfolding read_storacle
    far-read h = rw (lt-leb x m h)

  module _ {A : List Arrow} (X : StoracleSet p A) where
    set-above : (x : State) (c : Letter) (y : State) → target A x c ≡ some y → 0 < y
    set-above x c y e = X.above _ (target_member A x c y e)

    pub arrows-read : (x : State) (c : Letter) → read_storacle (length p) (storacle_table_from p A) x c ≡ target A x c
    arrows-read x c = by_cases (dec_le x m)
        (λ h. laid-read (all_laid A X) set-above x c h)
        (λ h.
        let none-there = none_where (target A x c) (λ y e. omega (arith, X.sources _ (target_member A x c y e))) in
        far-read (all_laid A X) set-above x c (omega arith) ∙ sym none-there)

-- ── Small entries ──────────────────────────────────────────────────────────

module _ (b : ℕ) where
  cons-small : (L : List ℕ) → Small b L → 0 < b → Small b (0 ∷ L)
  cons-small L S h zero = h
  cons-small L S h (suc i) = S i

  -- columns are states
  columns-small : (p v : Word) → length p < b → Small b (map (column p) v)
  columns-small p [] h i = omega arith
  columns-small p (c ∷ v) h zero = omega (arith, column-inside p c)
  columns-small p (c ∷ v) h (suc i) = columns-small p v h i

  blank-small : (p : Word) → Small b p → length p < b → Small b (blank p)
  blank-small p S h j = by_cases (dec_le j (length p))
      (λ l. rw (blank-letter p j l) (cons-small p S (omega arith) j))
      (λ l.
      let i = j - (length p + 1) in
      let e : j ≡ length p + 1 + i = omega arith in
      rw e (rw (blank-column p i) (cons-small (map (column p) p) (columns-small p p h) (omega arith) i)))

  table-small : (p : Word) (A : List Arrow) → ((a : Arrow) → Memᴰ a A → a.to < b) → Small b (blank p)
      → Small b (storacle_table_from p A)
  unfolding storacle_table_from
  table-small p [] to S = S
  table-small p (a ∷ A) to S =
      let before = table-small p A (λ c i. to c (Memᴰ.tail i)) S in
      set-small b (storacle_table_from p A) (cell_of (length p) a.source (column p a.on)) a.to before (to a (Memᴰ.head refl))

-- for every word and every such set there is a table that is read as the set
pub storacle_freedom : (p : Word) (A : List Arrow) → StoracleSet p A → (L : List ℕ) × ReadAsStoracle p A L
storacle_freedom p A X = (
  storacle_table_from p A,
  record {
    size = (all_laid p A X).size;
    word = laid_word (all_laid p A X);
    arrows = arrows-read p X;
    entries = λ few letters. table-small 65536 p A (λ a i. omega (arith, X.inside a i)) (blank-small 65536 p letters few);
  },
)
