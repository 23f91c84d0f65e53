-- READING A TABLE BACK: the rule reads from `table_from p δ S` the word, the arrows and the supplies that the table was made of, for every
-- automaton over the word whose extra targets fit into their row.
use mathlib.Core.Path.{◌≡◌, refl, sym, ap, ◌∙◌}
use mathlib.Core.Logic.{◌≢◌}
use mathlib.Core.Option.{Option, none, some}
use mathlib.Core.List.{List, ◌++◌, Memᴰ}
use Prim.Native.Nat.{ℕ, zero, suc, pred, ◌+◌, ◌*◌, ◌-◌, ◌≤◌, ◌<◌}
use native.Mathlib.Decide.{dec_lt, ℕ_discrete}
use native.Mathlib.Omega.{arith}
use lib.ListN.{length, get_or-append}
use lib.Seq.{get_or-append-add, take-append_seam, ext_get_or}
use lib.Dec.{eqb}
use borrow.Author.Tests.{eqb-true, eq-eqb, ne_eqb, lt-ltb, le-ltb, le-leb}
use Rattle.words.specs.Lists.{at, first}
use Rattle.words.specs.Words.{Letter, Word, letter, part}
use Rattle.words.proofs.Lists.{first-none, first_only}
use Rattle.words.proofs.Words.{part_length, part_at}
use Rattle.oracle.specs.Arrows.{State, Delta}
use Rattle.oracle.specs.FileOrder.{extra_targets, targets_before}
use Rattle.oracle.proofs.Targets.{never}
use Rattle.oracle.proofs.FileOrder.{extra-target, target-extra, before-length, before_grows, before-room}
use Rattle.table.specs.Table.{table_from, read_word, read_targets, read_arrow, read_supply}
use Rattle.table.proofs.Rows.{from_size_lem, row_0, row_1, row_2, row_3}

-- ── The word and the supplies ──────────────────────────────────────────────

-- the word is read from whatever table was made over it
pub reads_word : (p : Word) (δ : Delta) (S : State → State) → read_word (length p) (table_from p δ S) ≡ p
unfolding read_word table_from
reads_word p δ S = take-append_seam p _

-- and so is the supply of each state above 0
pub reads-supply : (p : Word) (δ : Delta) (S : State → State) (x : State) → 0 < x → x ≤ length p
    → read_supply (length p) (table_from p δ S) x ≡ some (S x)
unfolding read_supply
reads-supply p δ S zero h b = absurd (omega arith)
reads-supply p δ S (suc x) h b = rw (le-leb (suc x) (length p) b, row_1 p δ S x b, ne_eqb (suc x) 0 (λ e. omega arith))

-- state 0 has none, in whatever list
pub reads_no_supply : (m : ℕ) (L : List ℕ) → read_supply m L 0 ≡ none
unfolding read_supply
reads_no_supply m L = refl

-- ── The arrows ─────────────────────────────────────────────────────────────

-- among the extra targets of all states, where those of one state stand
pub own-targets : (p : Word) (δ : Delta) (x n : State) → x < n → (i : ℕ) → i < length (extra_targets δ p x)
    → at (targets_before δ p n) (length (targets_before δ p x) + i) ≡ at (extra_targets δ p x) i
own-targets p δ x n h i l =
    let r = before_grows δ p x n h in
    let own = extra_targets δ p x in
    rw r.1 (get_or-append-add (targets_before δ p x) (own ++ r.0) i 0 ∙ get_or-append own r.0 0 i l)

-- δ has the word's spine, its arrows climb and carry their target's letter, and its extra targets fit into a row
pub record Over (p : Word) (δ : Delta) : Type 0 where
  pub spine : (i : State) → i < length p → δ i (letter p i) ≡ some (suc i)
  pub into : (x : State) (c : Letter) (y : State) → δ x c ≡ some y → (z : State) × (y ≡ suc z) × (z < length p) × (c ≡ letter p z) × (x ≤ z)
  pub fits : length (targets_before δ p (suc (length p))) ≤ suc (length p)

module _ (p : Word) {δ : Delta} (O : Over p δ) (S : State → State) where
  abbrev m : ℕ
  m = length p

  abbrev n : ℕ
  n = suc m

  abbrev L : List ℕ
  L = table_from p δ S

  -- the extra targets of each state
  pub reads-targets : (x : State) → x < length p → read_targets (length p) (table_from p δ S) x ≡ extra_targets δ p x
  unfolding read_targets
  reads-targets x h = rw (many, from_here) (ext_get_or 0 slots own size entry)
    where
      before : List State
      before = targets_before δ p x

      own : List State
      own = extra_targets δ p x

      inside : length before + length own ≤ n
      inside = omega (arith, O.fits, before-room δ p x n (omega arith))

      from_here : at L (2 * n + x) ≡ length before
      from_here = row_2 p δ S x (omega arith)

      many : at L (2 * n + suc x) - at L (2 * n + x) ≡ length own
      many = omega (arith, from_here, row_2 p δ S (suc x) (omega arith), before-length δ p x)

      slots : List State
      slots = part L (3 * n + length before) (length own)

      size : length slots ≡ length own
      size = part_length L (3 * n + length before) (length own) (omega (arith, inside, from_size_lem p δ S))

      entry : (i : ℕ) → i < length slots → at slots i ≡ at own i
      entry i g =
          let l : i < length own = rw size at g in
          let e : 3 * n + length before + i ≡ 3 * n + (length before + i) = omega arith in
          part_at L (3 * n + length before) (length own) i l
          ∙ ap (at L) e
          ∙ row_3 p δ S (length before + i) (omega (arith, inside))
          ∙ own-targets p δ x n (omega arith) i l

  letter_at : (z : State) → z < m → at L (suc z) ≡ letter p z
  letter_at z h = row_0 p δ S (suc z) (omega arith)

  -- if c is not the spine's letter, the first extra target with letter c is where the arrow leads
  first-extra : (x : State) (c : Letter) → x < m → letter p x ≢ c → first (λ y. eqb (at L y) c) (extra_targets δ p x) ≡ δ x c
  first-extra x c h f = by (δ x c) refl
    where
      carries : (y : State) → Memᴰ y (extra_targets δ p x) → at L y ≡ c → δ x c ≡ some y
      carries y k e =
          let r = extra-target δ p x k in
          let q : suc (pred y) ≡ y = omega (arith, r.0) in
          let g : at L y ≡ letter p (pred y) = rw q at (letter_at (pred y) (omega (arith, r.0, r.1))) in
          rw (sym g ∙ e) at r.2

      by : (o : Option State) → δ x c ≡ o → first (λ y. eqb (at L y) c) (extra_targets δ p x) ≡ o
      by none e = first-none _ _ (λ y k. ne_eqb (at L y) c (λ q. never e (carries y k q)))
      by (some y) e = on (O.into x c y e)
        where
          on : (z : State) × (y ≡ suc z) × (z < m) × (c ≡ letter p z) × (x ≤ z) → first (λ y. eqb (at L y) c) (extra_targets δ p x) ≡ some y
          on v =
              let z = v.0 in
              let apart : x ≢ z = λ q. f (ap (letter p) q ∙ sym v.3) in
              let q : pred y ≡ z = omega (arith, v.1) in
              let here = target-extra δ p x y (omega (arith, v.1, v.4)) (omega (arith, v.1, v.2)) (rw (q, ← v.3) e) in
              let found : at L y ≡ c = rw v.1 (letter_at z v.2) ∙ sym v.3 in
              first_only _ _ here (eq-eqb (at L y) c found) (λ y' k t. cc (carries y' k (eqb-true (at L y') c t)))

  -- every arrow
  pub reads-arrow : (x : State) (c : Letter) → read_arrow (length p) (table_from p δ S) x c ≡ δ x c
  unfolding read_arrow
  reads-arrow x c = by (dec_lt x m) (ℕ_discrete (letter p x) c)
    where
      out : m ≤ x → (o : Option State) → δ x c ≡ o → none ≡ o
      out h none e = refl
      out h (some y) e = let v = O.into x c y e in absurd (omega (arith, v.2, v.4))

      by : Dec (x < m) → Dec (letter p x ≡ c) → read_arrow m L x c ≡ δ x c
      by (no h) d = rw (le-ltb x m (omega arith)) (out (omega arith) (δ x c) refl)
      by (yes h) (yes e) = rw (lt-ltb x m h, letter_at x h, eq-eqb (letter p x) c e, ← e) (sym (O.spine x h))
      by (yes h) (no f) = rw (lt-ltb x m h, letter_at x h, ne_eqb (letter p x) c f, reads-targets x h) (first-extra x c h f)
