-- FINISHING: all states have their sets, starts and targets; the last one, which no arrow leaves, gets its starts, and the two rows that
-- were the first form's alone are cleared. What stands then are the compact rows of the word that stood in row 0 at the start, place by
-- place.
use mathlib.Core.Path.{◌≡◌, sym, ap, ◌∙◌}
use mathlib.Core.Logic.{by_cases}
use mathlib.Core.List.{List}
use mathlib.Core.Option.{get_or}
use Prim.Native.Nat.{ℕ, zero, suc, ◌+◌, ◌*◌, ◌-◌, ◌≤◌, ◌<◌}
use native.Mathlib.Numerals.{add-one, one-add}
use native.Mathlib.Decide.{dec_lt}
use native.Mathlib.Omega.{arith}
use lib.ListN.{length, take, drop, replicate, length-take, length-drop, length-replicate, get_or-append}
use lib.Seq.{get_or-take, get_or-drop, length-take-le, ext_get_or}
use borrow.Rule.Slice.PartMut.{mid_of, put_mid, same_len_mid}
use Rattle.words.specs.Lists.{at}
use Rattle.words.specs.Words.{Word}
use Rattle.words.proofs.Lists.{at-behind, map_from_at}
use Rattle.words.proofs.Loops.{zeros-at}
use Rattle.oracle.specs.SuffixRule.{oracle}
use Rattle.oracle.specs.Supply.{supply}
use Rattle.chains.specs.Letters.{word_in}
use Rattle.table.specs.Table.{table_of}
use Rattle.table.proofs.Rows.{row_0, row_1_first, row_1}
use Rattle.compact.specs.Compact.{targets_up_to, sets_from, compact_sets, compact_table}
use Rattle.compact.proofs.CompactRows.{word_at, letters-there, supplies-there, zeros-there, starts-there, targets-there}
use Rattle.compact.proofs.Theorems.{compact_table-size}
use Rattle.compact_fill.specs.Filling.{first_place, FirstForm, OwnWords, WithStarts, AllStates, FilledRows}
use Rattle.compact_fill.proofs.OutArrows.{own-word, first_stays}

-- ── Two rows cleared ───────────────────────────────────────────────────────

-- what stands where a part of L was replaced by zeros
module _ (L : List ℕ) (a k : ℕ) (room : a + k ≤ length L) {C : List ℕ} (cleared : C ≡ replicate (length (mid_of a k L)) 0) where
  mid_size : length (mid_of a k L) ≡ k
  mid_size = simp (length-take, length-drop) (omega arith)

  C_size : length C ≡ k
  C_size = ap length cleared ∙ length-replicate (length (mid_of a k L)) 0 ∙ mid_size

  front-size : length (take a L) ≡ a
  front-size = length-take-le a L (omega arith)

  pub cleared-size : length (put_mid a k L C) ≡ length L
  cleared-size = same_len_mid a k L C (C_size ∙ sym mid_size)

  pub cleared-before : (i : ℕ) → i < a → at (put_mid a k L C) i ≡ at L i
  cleared-before i h = get_or-append (take a L) _ 0 i (omega (arith, front-size)) ∙ get_or-take a L i 0 h

  pub cleared-here : (i : ℕ) → i < k → at (put_mid a k L C) (a + i) ≡ 0
  cleared-here i h =
      at-behind (take a L) _ a i front-size
      ∙ get_or-append C _ 0 i (omega (arith, C_size))
      ∙ ap (λ (l : List ℕ). at l i) cleared
      ∙ zeros-at (length (mid_of a k L)) i

  pub cleared-behind : (i : ℕ) → at (put_mid a k L C) (a + (k + i)) ≡ at L (a + (k + i))
  cleared-behind i =
      at-behind (take a L) _ a (k + i) front-size
      ∙ at-behind C _ k i C_size
      ∙ get_or-drop k (drop a L) i 0
      ∙ get_or-drop a L (k + i) 0

-- ── The rows of the first form that stay ───────────────────────────────────

module _ (p : Word) where
  abbrev n : ℕ
  n = length p + 1

  same-letters : (i : ℕ) → i < length p + 1 → at (table_of p) i ≡ at (compact_table p) i
  unfolding table_of compact_table
  same-letters i h = row_0 p (oracle p) _ i (omega arith) ∙ sym (letters-there p (oracle p) _ i h)

  same-supplies : (i : ℕ) → i < length p + 1 → at (table_of p) (length p + 1 + i) ≡ at (compact_table p) (length p + 1 + i)
  unfolding table_of compact_table
  same-supplies zero h =
      let e : length p + 1 + 0 ≡ suc (length p) = omega arith in
      rw e (row_1_first p (oracle p) _) ∙ sym (supplies-there p (oracle p) _ 0 h)
  same-supplies (suc i) h =
      let value = map_from_at (λ x. get_or (supply p x) 0) 1 (length p) i 0 (omega arith) in
      rw (add-one (length p)) (row_1 p (oracle p) _ i (omega arith))
      ∙ sym (supplies-there p (oracle p) _ (suc i) h ∙ rw (one-add i) at value)

  zeros_of : (i : ℕ) → i < 2 * n → at (compact_table p) (2 * n + i) ≡ 0
  unfolding compact_table
  zeros_of = zeros-there p (oracle p) _

  starts_of_lem : (i : ℕ) → i < 4 * n → at (compact_table p) (4 * n + i) ≡ length (targets_up_to (oracle p) (64 * i))
  unfolding compact_table
  starts_of_lem = starts-there p (oracle p) _

  targets_of : (i : ℕ) → i < 2 * n → at (compact_table p) (8 * n + i) ≡ at (targets_up_to (oracle p) (256 * n)) i
  unfolding compact_table
  targets_of = targets-there p (oracle p) _

-- what the rows of K hold
record Rowed (p : Word) (m : ℕ) (K : List ℕ) : Type 0 where
  size : length K ≡ 10 * (m + 1)
  kept : (i : ℕ) → i < 2 * (m + 1) → at K i ≡ at (table_of p) i
  zeros : (i : ℕ) → i < 2 * (m + 1) → at K (2 * (m + 1) + i) ≡ 0
  starts : (i : ℕ) → i < 4 * (m + 1) → at K (4 * (m + 1) + i) ≡ length (targets_up_to (oracle p) (64 * i))
  targets : (i : ℕ) → i < 2 * (m + 1) → at K (8 * (m + 1) + i) ≡ at (targets_up_to (oracle p) (256 * (m + 1))) i

rowed_table : {p : Word} {m : ℕ} {K : List ℕ} → Rowed p m K → length p ≡ m → K ≡ compact_table p
rowed_table {p} {m} {K} R e = by (rw (← e) at R)
  where
    by : Rowed p (length p) K → K ≡ compact_table p
    by R = ext_get_or 0 K (compact_table p) (R.size ∙ sym (compact_table-size p)) (λ i h. entry i (rw R.size at h))
      where
        k : ℕ
        k = length p + 1

        kept : (i : ℕ) → i < 2 * k → at K i ≡ at (compact_table p) i
        kept i h = R.kept i h ∙ by_cases (dec_lt i k)
            (same-letters p i)
            (λ l. let e : k + (i - k) ≡ i = omega arith in rw e at (same-supplies p (i - k) (omega arith)))

        behind : (i : ℕ) → i < 8 * k → at K (2 * k + i) ≡ at (compact_table p) (2 * k + i)
        behind i h = by_cases (dec_lt i (2 * k))
            (λ l. R.zeros i l ∙ sym (zeros_of p i l))
            (λ l. by_cases (dec_lt i (6 * k))
            (λ u.
            let e : 4 * k + (i - 2 * k) ≡ 2 * k + i = omega arith in
            rw e at (R.starts (i - 2 * k) (omega arith) ∙ sym (starts_of_lem p (i - 2 * k) (omega arith))))
            (λ u.
            let e : 8 * k + (i - 6 * k) ≡ 2 * k + i = omega arith in
            rw e at (R.targets (i - 6 * k) (omega arith) ∙ sym (targets_of p (i - 6 * k) (omega arith)))))

        entry : (i : ℕ) → i < 10 * k → at K i ≡ at (compact_table p) i
        entry i h = by_cases (dec_lt i (2 * k))
            (kept i)
            (λ l. let e : 2 * k + (i - 2 * k) ≡ i = omega arith in rw e at (behind (i - 2 * k) (omega arith)))

-- ── All rows ───────────────────────────────────────────────────────────────

module _ {p : Word} {L : List ℕ} {m : ℕ} (F : FirstForm p L m) where
  -- the first form is still there, and what the starts of the last state ask for
  module _ {L₁ : List ℕ} (A : AllStates (oracle p) m L L₁) where
    pub still-first : FirstForm p L₁ m
    still-first = first_stays F A.size A.before

    pub last-asked : {Z : List ℕ} {all : ℕ} → Z ≡ sets_from (oracle p) m → all ≡ first_place (oracle p) m
        → (m ≤ m) × OwnWords (oracle (word_in L₁ m)) m Z × (all ≡ first_place (oracle (word_in L₁ m)) m)
    last-asked {Z} z counted = rw (own-word still-first)
        (omega arith, λ k h. rw z (word_at (oracle p) m (4 * m + k) (omega arith)), counted)

  module _ {L₂ : List ℕ} (R : FilledRows (oracle p) m L L₂) {a k : ℕ}
      (two : a ≡ 2 * (m + 1)) (as_many : k ≡ a) {C : List ℕ} (cleared : C ≡ replicate (length (mid_of a k L₂)) 0) where
    abbrev A : AllStates (oracle p) m L R.but_last
    A = R.states

    abbrev S : WithStarts (oracle p) m m R.but_last L₂
    S = R.last

    size : length L₂ ≡ 10 * (m + 1)
    size = S.size ∙ A.size ∙ F.size

    room : a + k ≤ length L₂
    room = omega (arith, size)

    behind : (i : ℕ) → 4 * (m + 1) ≤ i → at (put_mid a k L₂ C) i ≡ at L₂ i
    behind i h = let e : a + (k + (i - a - k)) ≡ i = omega arith in rw e at (cleared-behind L₂ a k room cleared (i - a - k))

    start : (i : ℕ) → i < 4 * (m + 1) → at L₂ (4 * (m + 1) + i) ≡ length (targets_up_to (oracle p) (64 * i))
    start i h = by_cases (dec_lt i (4 * m))
        (λ l. S.before (4 * (m + 1) + i) (omega arith) ∙ A.starts i l)
        (λ l.
        let e : 4 * (m + 1) + (4 * m + (i - 4 * m)) ≡ 4 * (m + 1) + i = omega arith in
        let number : 4 * m + (i - 4 * m) ≡ i = omega arith in
        rw (e, number) at (S.starts (i - 4 * m) (omega arith)))

    pub table_done : put_mid a k L₂ C ≡ compact_table p
    table_done = rowed_table (record {
      size = cleared-size L₂ a k room cleared ∙ size;
      kept = λ i h.
          cleared-before L₂ a k room cleared i (omega arith)
          ∙ S.before i (omega arith)
          ∙ A.before i (omega arith)
          ∙ F.rows i (omega arith);
      zeros = λ i h. ap (λ (b : ℕ). at (put_mid a k L₂ C) (b + i)) (sym two) ∙ cleared-here L₂ a k room cleared i (omega arith);
      starts = λ i h. behind (4 * (m + 1) + i) (omega arith) ∙ start i h;
      targets = λ i h. behind (8 * (m + 1) + i) (omega arith) ∙ S.behind (8 * (m + 1) + i) (omega arith) ∙ A.targets i h;
    }) F.long

pub sets-done : {p : Word} {L : List ℕ} {m : ℕ} → FirstForm p L m → {Z : List ℕ} → Z ≡ sets_from (oracle p) m → Z ≡ compact_sets p
unfolding compact_sets
sets-done F e = rw F.long e
