-- THE THEOREMS on compact rows, for every word of whatever length, each a sentence about the definitions alone: they have 4(m+1) words of
-- 64 bits and 10(m+1) entries of 16; the rule reads from them, for every state and byte, what is read from the first form; the word and
-- the supplies are read from them as from that.
use mathlib.Core.Path.{◌≡◌, sym, ap, ◌∙◌}
use mathlib.Core.Logic.{by_cases}
use mathlib.Core.Bool.{false}
use mathlib.Core.Option.{none, get_or}
use mathlib.Core.List.{List}
use Prim.Native.Nat.{ℕ, zero, suc, ◌+◌, ◌*◌, ◌-◌, ◌^◌, ◌≤◌, ◌<◌}
use native.Mathlib.Numerals.{add-one, one-add}
use native.Mathlib.Decide.{dec_lt, dec_le}
use native.Mathlib.Omega.{arith}
use lib.ListN.{length, get_or-eq_default}
use lib.Pow.{pow_pos}
use lib.Seq.{take-append_seam}
use borrow.Author.Tests.{le-leb, ne_eqb}
use Rattle.words.specs.Lists.{at}
use Rattle.words.specs.Words.{Letter, Word, letter}
use Rattle.words.proofs.Lists.{map_from_at, none_where}
use Rattle.oracle.specs.Arrows.{State}
use Rattle.oracle.specs.SuffixRule.{oracle}
use Rattle.oracle.specs.Supply.{supply}
use Rattle.oracle.proofs.Targets.{never}
use Rattle.oracle.proofs.Chain.{zero_on, chain-arrow}
use Rattle.oracle.proofs.Theorems.{oracle-supplied, supply_lower, no_supply}
use Rattle.table.specs.Table.{table_of, read_word, read_arrow, read_supply}
use Rattle.table.proofs.Theorems.{oracle-over, table-arrow}
use Rattle.compact.specs.Compact.{sets_room, compact_room, arrow_number, is_arrow, targets_up_to, compact_from, compact_sets}
use Rattle.compact.specs.Compact.{compact_table, in_set, how_many, read_compact}
use Rattle.compact.specs.CompactFormed.{CompactFormed}
use Rattle.compact.proofs.Targets.{targets_rise, target_at, target_of_lem}
use Rattle.compact.proofs.CompactRows.{sets-size, word_at, compact_size}
use Rattle.compact.proofs.CompactRows.{letters-there, supplies-there, zeros-there, starts-there, targets-there}
use Rattle.compact.proofs.ReadBack.{word_small, set_told, place-told, reads_compact, beyond_state, beyond_bytes}
use Rattle.compact.proofs.Few.{targets-few}

module _ (p : Word) where
  abbrev m : ℕ
  m = length p

  abbrev Z : List ℕ
  Z = compact_sets p

  abbrev L : List ℕ
  L = compact_table p

  -- ── Size ─────────────────────────────────────────────────────────────────

  pub compact_sets-size : length (compact_sets p) ≡ sets_room (length p)
  unfolding compact_sets
  compact_sets-size = sets-size (oracle p) m

  pub compact_table-size : length (compact_table p) ≡ compact_room (length p)
  unfolding compact_table
  compact_table-size = compact_size p (oracle p) _

  -- the targets fit into two rows
  pub targets_fit : length (targets_up_to (oracle p) (256 * (length p + 1))) ≤ 2 * (length p + 1)
  targets_fit = omega (arith, targets-few p (256 * (length p + 1)))

  -- ── Arrows ───────────────────────────────────────────────────────────────

  -- no arrow leaves the last state, or what is no state
  pub no_arrow : (x : State) (c : Letter) → m ≤ x → oracle p x c ≡ none
  no_arrow x c h = none_where (oracle p x c) (λ y e. let v = (oracle-over p).into x c y e in omega (arith, v.2, v.4))

  -- for every state and byte, the suffix rule's arrow
  pub compact_arrow : (x : State) (c : Letter) → c < 256 → read_compact (length p) (compact_sets p) (compact_table p) x c ≡ oracle p x c
  unfolding compact_sets compact_table
  compact_arrow x c l = by_cases (dec_le x m)
      (λ h. reads_compact p (oracle p) _ targets_fit x c h l)
      (λ h. beyond_state m Z L x c (omega arith) ∙ sym (no_arrow x c (omega arith)))

  -- and so that of the first form
  pub compact_agrees : (x : State) (c : Letter) → c < 256
      → read_compact (length p) (compact_sets p) (compact_table p) x c ≡ read_arrow (length p) (table_of p) x c
  compact_agrees x c l = compact_arrow x c l ∙ sym (table-arrow p x c)

  -- where the word's letters are bytes, for whatever number
  pub compact_agrees_all : ((i : ℕ) → letter p i < 256) → (x : State) (c : Letter)
      → read_compact (length p) (compact_sets p) (compact_table p) x c ≡ oracle p x c
  compact_agrees_all bytes x c = by_cases (dec_lt c 256)
      (compact_arrow x c)
      (λ l. beyond_bytes m Z L x c (omega arith) ∙ sym (none_where (oracle p x c) (λ y e.
      let v = (oracle-over p).into x c y e in
      omega (arith, v.3, bytes v.0))))

  -- ── The word and the supplies ────────────────────────────────────────────

  pub compact_word : read_word (length p) (compact_table p) ≡ p
  unfolding read_word compact_table compact_from
  compact_word = take-append_seam p _

  pub compact_supply : (x : State) → x ≤ length p → read_supply (length p) (compact_table p) x ≡ supply p x
  unfolding compact_table read_supply
  compact_supply zero h = sym (no_supply p)
  compact_supply (suc x) h =
      let s = supply_lower p (suc x) (omega arith) h in
      let S : State → State = λ x. get_or (supply p x) 0 in
      let value = map_from_at S 1 m x 0 h in
      let there : at L (suc m + suc x) ≡ S (suc x) =
      rw (← add-one m) (supplies-there p (oracle p) S (suc x) (omega arith)) ∙ rw (one-add x) at value in
      rw (ne_eqb (suc x) 0 (λ e. omega arith), le-leb (suc x) m h, there, s.1)

  -- ── Word by word and entry by entry ──────────────────────────────────────

  -- a state's set are the letters on which an arrow leaves it
  pub compact_set : (x : State) → x ≤ length p → (c : Letter) → c < 256 → in_set (compact_sets p) x c ≡ is_arrow (oracle p x c)
  unfolding compact_sets
  compact_set x h c l = set_told (oracle p) m Z (word_at (oracle p) m) x h c l

  -- words of 64 bits
  pub compact_words_small : (i : ℕ) → at (compact_sets p) i < 2 ^ 64
  unfolding compact_sets
  compact_words_small i = by_cases (dec_lt i (sets_room m))
      (λ h. rw (word_at (oracle p) m i h) (word_small (oracle p) i))
      (λ h. rw (get_or-eq_default Z 0 {n = i} (omega (arith, sets-size (oracle p) m))) (pow_pos 64))

  -- the targets of all arrows, and zeros behind them
  pub compact_targets : (i : ℕ) → i < 2 * (length p + 1)
      → at (compact_table p) (8 * (length p + 1) + i) ≡ at (targets_up_to (oracle p) (256 * (length p + 1))) i
  unfolding compact_table
  compact_targets = targets-there p (oracle p) _

  -- ── Lookups ──────────────────────────────────────────────────────────────

  -- where a word's targets start is behind the smaller letters' targets of its state
  place : (x : State) (c : Letter) → x ≤ m → c ≤ 256
      → at L (4 * (m + 1) + 4 * x) + how_many (in_set Z x) c ≡ length (targets_up_to (oracle p) (arrow_number x c))
  unfolding compact_sets compact_table
  place = place-told p (oracle p) _ targets_fit

  start : (i : ℕ) → i < 4 * (m + 1) → at L (4 * (m + 1) + i) ≡ length (targets_up_to (oracle p) (64 * i))
  unfolding compact_table
  start = starts-there p (oracle p) _

  letter_at : (x : State) → x < m → at L (x + 1) ≡ letter p x
  unfolding compact_table
  letter_at x h = rw (add-one x) (letters-there p (oracle p) _ (suc x) (omega arith))

  -- a letter on which no arrow leaves state 0 has none
  none_first : (x : State) (c : Letter) → oracle p 0 c ≡ none → oracle p x c ≡ none
  none_first x c e = none_where (oracle p x c) (λ y f.
      let v = (oracle-over p).into x c y f in
      let O = oracle-supplied p in
      never e (chain-arrow O c y (zero_on O x (omega (arith, v.2, v.4))) f).1)

  target-bound : (i : ℕ) → i < 2 * (m + 1) → at L (8 * (m + 1) + i) ≤ m
  unfolding compact_table
  target-bound i h = rw (targets-there p (oracle p) _ i h) (by_cases (dec_lt i (length all))
      (λ l.
      let T = target_of_lem (oracle p) (256 * (m + 1)) i l in
      let v = (oracle-over p).into _ _ T.to T.leads in
      let here : at all i ≡ T.to = ap (at all) (sym T.place) ∙ target_at (oracle p) T.number T.leads _ T.below in
      omega (arith, here, v.1, v.2))
      (λ l. omega (arith, get_or-eq_default all 0 {n = i} (omega arith))))
    where
      all : List State
      all = targets_up_to (oracle p) (256 * (m + 1))

  last_empty : (c : Letter) → c < 256 → in_set Z m c ≡ false
  unfolding is_arrow
  last_empty c l = compact_set m (omega arith) c l ∙ ap is_arrow (no_arrow m c (omega arith))

  pub compact_formed : length p < 30000 → ((i : ℕ) → letter p i < 256) → CompactFormed (compact_sets p) (compact_table p) (length p)
  compact_formed few bytes = record {
    small = few;
    words = omega (arith, compact_sets-size);
    enough = omega (arith, compact_table-size);
    starts = λ x h k l.
        let e : 64 * (4 * x + k) ≡ arrow_number x (64 * k) = omega arith in
        start (4 * x + k) (omega arith) ∙ ap (λ (g : ℕ). length (targets_up_to (oracle p) g)) e ∙ sym (place x (64 * k) h (omega arith));
    fits = λ x h.
        let all = targets_rise (oracle p) (arrow_number x 256) (256 * (m + 1)) (omega arith) in
        omega (arith, place x 256 h (omega arith), all, targets_fit);
    targets = target-bound;
    spine = λ x h. rw (letter_at x h, add-one x) (compact_arrow x (letter p x) (bytes x) ∙ (oracle-over p).spine x h);
    last = λ c l. last_empty c l;
    firsts = λ x c e.
        let all = compact_agrees_all bytes in
        all x c ∙ none_first x c (sym (all 0 c) ∙ e);
  }

  -- ── Small ────────────────────────────────────────────────────────────────

  supplies-small : (i : ℕ) → i < m + 1 → at L (m + 1 + i) ≤ m
  unfolding compact_table
  supplies-small zero h = omega (arith, supplies-there p (oracle p) (λ x. get_or (supply p x) 0) 0 h)
  supplies-small (suc i) h =
      let S : State → State = λ x. get_or (supply p x) 0 in
      let value = rw (one-add i) at (map_from_at S 1 m i 0 (omega arith)) in
      let s = supply_lower p (suc i) (omega arith) (omega arith) in
      let lower : S (suc i) ≡ s.0 = rw s.1 in
      omega (arith, supplies-there p (oracle p) S (suc i) h, value, lower, s.2)

  zeros-between : (i : ℕ) → i < 2 * (m + 1) → at L (2 * (m + 1) + i) ≡ 0
  unfolding compact_table
  zeros-between = zeros-there p (oracle p) _

  corner : at L 0 ≡ 0
  unfolding compact_table
  corner = letters-there p (oracle p) _ 0 (omega arith)

  -- entries of 16 bits
  pub compact_entries_small : length p < 30000 → ((i : ℕ) → letter p i < 256) → (i : ℕ) → at (compact_table p) i < 65536
  compact_entries_small few bytes i =
      by_cases (dec_lt i (m + 1)) (front i) (λ h.
      by_cases (dec_lt i (2 * (m + 1))) (λ l. row (m + 1) supply_row_lem (omega arith) (omega arith)) (λ l.
      by_cases (dec_lt i (4 * (m + 1))) (λ k. row (2 * (m + 1)) zero-rows (omega arith) (omega arith)) (λ k.
      by_cases (dec_lt i (8 * (m + 1))) (λ j. row (4 * (m + 1)) start_rows_lem (omega arith) (omega arith)) (λ j.
      by_cases (dec_lt i (10 * (m + 1))) (λ u. row (8 * (m + 1)) target_rows_lem (omega arith) (omega arith))
      (λ u. behind (omega arith))))))
    where
      -- what holds of each of k entries from a on holds of i, if it is one of them
      row : {k : ℕ} (a : ℕ) → ((j : ℕ) → j < k → at L (a + j) < 65536) → a ≤ i → i < a + k → at L i < 65536
      row a small h l = let e : a + (i - a) ≡ i = omega arith in rw e at (small (i - a) (omega arith))

      front : (i : ℕ) → i < m + 1 → at L i < 65536
      front zero h = omega (arith, corner)
      front (suc i) h = omega (arith, rw (add-one i) at (letter_at i (omega arith)), bytes i)

      supply_row_lem : (j : ℕ) → j < m + 1 → at L (m + 1 + j) < 65536
      supply_row_lem j h = omega (arith, supplies-small j h)

      zero-rows : (j : ℕ) → j < 2 * (m + 1) → at L (2 * (m + 1) + j) < 65536
      zero-rows j h = omega (arith, zeros-between j h)

      start_rows_lem : (j : ℕ) → j < 4 * (m + 1) → at L (4 * (m + 1) + j) < 65536
      start_rows_lem j h = omega (arith, start j h, targets_rise (oracle p) (64 * j) (256 * (m + 1)) (omega arith), targets_fit)

      target_rows_lem : (j : ℕ) → j < 2 * (m + 1) → at L (8 * (m + 1) + j) < 65536
      target_rows_lem j h = omega (arith, target-bound j h)

      behind : 10 * (m + 1) ≤ i → at L i < 65536
      behind h = omega (arith, get_or-eq_default L 0 {n = i} (omega (arith, compact_table-size)))
