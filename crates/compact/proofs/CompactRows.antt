-- THE WORDS AND THE ENTRIES of compact rows, place by place: what `sets_from δ m` and `compact_from p δ S` hold.
use mathlib.Core.Path.{◌≡◌, sym, ap, ◌∙◌}
use mathlib.Core.List.{List, ◌∷◌, ◌++◌, map}
use Prim.Native.Nat.{ℕ, suc, ◌+◌, ◌*◌, ◌<◌}
use native.Mathlib.Nat.{zero-add}
use native.Mathlib.Numerals.{add-one}
use native.Mathlib.Omega.{arith}
use lib.ListN.{length, get_or, take, replicate, length-append, length-map, length-take, length-replicate}
use lib.ListN.{get_or-append}
use lib.Seq.{get_or-take}
use Rattle.words.specs.Lists.{at, from}
use Rattle.words.specs.Words.{Word}
use Rattle.words.proofs.Lists.{from_length, map_from_at, at-behind}
use Rattle.words.proofs.Loops.{padded, zeros-at}
use Rattle.oracle.specs.Arrows.{State, Delta}
use Rattle.compact.specs.Compact.{sets_room, compact_room, set_word, targets_up_to, sets_from, compact_from}

-- ── The words ──────────────────────────────────────────────────────────────

module _ (δ : Delta) (m : ℕ) where
  pub sets-size : length (sets_from δ m) ≡ sets_room m
  unfolding sets_from
  sets-size = length-map (from 0 (sets_room m)) (set_word δ) ∙ from_length 0 (sets_room m)

  pub word_at : (i : ℕ) → i < sets_room m → at (sets_from δ m) i ≡ set_word δ i
  unfolding sets_from
  word_at i h = rw (zero-add i) at (map_from_at (set_word δ) 0 (sets_room m) i 0 h)

-- ── The entries ────────────────────────────────────────────────────────────

module _ (p : Word) (δ : Delta) (S : State → State) where
  abbrev m : ℕ
  m = length p

  abbrev n : ℕ
  n = m + 1

  abbrev L : List ℕ
  L = compact_from p δ S

  abbrev letter_row : List ℕ
  letter_row = 0 ∷ p

  abbrev supply_row : List ℕ
  supply_row = 0 ∷ map S (from 1 m)

  abbrev zeros : List ℕ
  zeros = replicate (2 * n) 0

  abbrev start_rows : List ℕ
  start_rows = map (λ i. length (targets_up_to δ (64 * i))) (from 0 (4 * n))

  abbrev target_rows : List ℕ
  target_rows = take (2 * n) (targets_up_to δ (256 * n) ++ replicate (2 * n) 0)

  letter_row_lem : length letter_row ≡ n
  letter_row_lem = sym (add-one m)

  supply_row_lem : length supply_row ≡ n
  supply_row_lem = ap suc (length-map (from 1 m) S ∙ from_length 1 m) ∙ sym (add-one m)

  zero-rows : length zeros ≡ 2 * n
  zero-rows = length-replicate {A = ℕ} (2 * n) 0

  start_rows_lem : length start_rows ≡ 4 * n
  start_rows_lem = length-map (from 0 (4 * n)) _ ∙ from_length 0 (4 * n)

  target_rows_lem : length target_rows ≡ 2 * n
  target_rows_lem = simp (length-take, length-append, length-replicate) (omega arith)

  pub compact_size : length L ≡ compact_room (length p)
  unfolding compact_from
  compact_size =
      let behind = length supply_row + (length zeros + (length start_rows + length target_rows)) in
      let e : length L ≡ length letter_row + behind = simp length-append in
      omega (arith, e, supply_row_lem, zero-rows, start_rows_lem, target_rows_lem)

  -- the letters, behind a zero
  pub letters-there : (i : ℕ) → i < n → at L i ≡ get_or (0 ∷ p) i 0
  unfolding compact_from
  letters-there i h = get_or-append letter_row _ 0 i (omega (arith, letter_row_lem))

  behind-letters : (i : ℕ) → at L (n + i) ≡ at (supply_row ++ (zeros ++ (start_rows ++ target_rows))) i
  unfolding compact_from
  behind-letters i = at-behind letter_row _ n i letter_row_lem

  -- a zero and the supplies
  pub supplies-there : (i : ℕ) → i < n → at L (n + i) ≡ get_or (0 ∷ map S (from 1 m)) i 0
  supplies-there i h = behind-letters i ∙ get_or-append supply_row _ 0 i (omega (arith, supply_row_lem))

  behind-supplies : (i : ℕ) → at L (n + (n + i)) ≡ at (zeros ++ (start_rows ++ target_rows)) i
  behind-supplies i = behind-letters (n + i) ∙ at-behind supply_row _ n i supply_row_lem

  -- zeros
  pub zeros-there : (i : ℕ) → i < 2 * n → at L (2 * n + i) ≡ 0
  zeros-there i h =
      let e : 2 * n + i ≡ n + (n + i) = omega arith in
      rw e (behind-supplies i ∙ get_or-append zeros _ 0 i (omega (arith, zero-rows)) ∙ zeros-at (2 * n) i)

  behind-zeros : (i : ℕ) → at L (4 * n + i) ≡ at (start_rows ++ target_rows) i
  behind-zeros i =
      let e : 4 * n + i ≡ n + (n + (2 * n + i)) = omega arith in
      rw e (behind-supplies (2 * n + i) ∙ at-behind zeros _ (2 * n) i zero-rows)

  -- where each word's targets start
  pub starts-there : (i : ℕ) → i < 4 * n → at L (4 * n + i) ≡ length (targets_up_to δ (64 * i))
  starts-there i h =
      let value = map_from_at (λ k. length (targets_up_to δ (64 * k))) 0 (4 * n) i 0 h in
      behind-zeros i ∙ get_or-append start_rows _ 0 i (omega (arith, start_rows_lem)) ∙ rw (zero-add i) at value

  -- the targets, and zeros
  pub targets-there : (i : ℕ) → i < 2 * n → at L (8 * n + i) ≡ at (targets_up_to δ (256 * n)) i
  targets-there i h =
      let e : 8 * n + i ≡ 4 * n + (4 * n + i) = omega arith in
      rw e (behind-zeros (4 * n + i)
      ∙ at-behind start_rows _ (4 * n) i start_rows_lem
      ∙ get_or-take (2 * n) (targets_up_to δ (256 * n) ++ replicate (2 * n) 0) i 0 h
      ∙ padded (targets_up_to δ (256 * n)) (2 * n) i)
