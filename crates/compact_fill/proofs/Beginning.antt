-- BEGINNING: the first form of a word in the front of entries that were cleared. Rows 4 and 5 of a first form are zero, so all behind its
-- row 3 is.
use mathlib.Core.Path.{◌≡◌, ap, ◌∙◌}
use mathlib.Core.Logic.{by_cases}
use mathlib.Core.List.{List, ◌++◌}
use Prim.Native.Nat.{ℕ, suc, ◌+◌, ◌*◌, ◌-◌, ◌≤◌, ◌<◌}
use native.Mathlib.Decide.{dec_lt}
use native.Mathlib.Omega.{arith}
use lib.ListN.{length, drop, replicate, length-append, length-drop, length-replicate, length-reverse}
use lib.ListN.{get_or-append, get_or-eq_default}
use lib.Seq.{get_or-drop}
use Rattle.words.specs.Lists.{at}
use Rattle.words.specs.Words.{Word, letter, mirror}
use Rattle.words.proofs.Lists.{at-behind}
use Rattle.words.proofs.Loops.{zeros-at}
use Rattle.oracle.specs.SuffixRule.{oracle}
use Rattle.chains.specs.Letters.{word_in}
use Rattle.table.specs.Table.{table_of}
use Rattle.table.proofs.Copying.{mirror-small}
use Rattle.table.proofs.Rows.{row_4}
use Rattle.table.proofs.Theorems.{table-size}
use Rattle.compact.specs.Compact.{sets_room, compact_room, compact_sets, compact_table}
use Rattle.compact_fill.specs.Filling.{FirstForm}
use Rattle.compact_fill.proofs.OutArrows.{own-word, first-own}

-- a mirror's letters are bytes where the word's are
pub mirror-bytes : (w : Word) → ((i : ℕ) → letter w i < 256) → (i : ℕ) → letter (mirror w) i < 256
mirror-bytes w small i = by_cases (dec_lt i (length w))
    (mirror-small w small i)
    (λ h. omega (arith, get_or-eq_default (mirror w) 0 {n = i} (omega (arith, length-reverse w))))

-- T was cleared, and its front of so many entries comes back as r
module _ (p : Word) {m k : ℕ} {T r : List ℕ} (long : length p ≡ m) (few : m < 30000) (bytes : (i : ℕ) → letter p i < 256)
    (size : k ≡ compact_room m) (cleared : T ≡ replicate k 0) (filled : r ≡ table_of p) where
  abbrev L : List ℕ
  L = r ++ drop (6 * (m + 1)) T

  front-size : length r ≡ 6 * (m + 1)
  front-size = ap length filled ∙ table-size p ∙ rw long

  rest-zero : (i : ℕ) → at (drop (6 * (m + 1)) T) i ≡ 0
  rest-zero i = get_or-drop (6 * (m + 1)) T i 0 ∙ ap (λ (l : List ℕ). at l (6 * (m + 1) + i)) cleared ∙ zeros-at k (6 * (m + 1) + i)

  front : (i : ℕ) → i < 6 * (m + 1) → at L i ≡ at (table_of p) i
  front i h = get_or-append r _ 0 i (omega (arith, front-size)) ∙ ap (λ (l : List ℕ). at l i) filled

  spare : (i : ℕ) → i < 2 * suc (length p) → at (table_of p) (4 * suc (length p) + i) ≡ 0
  unfolding table_of
  spare = row_4 p (oracle p) _

  all-size : length T ≡ k
  all-size = ap length cleared ∙ length-replicate k 0

  first : FirstForm p L m
  first = record {
    long = long;
    few = few;
    bytes = bytes;
    size = length-append r _ ∙ omega (arith, front-size, length-drop (6 * (m + 1)) T, all-size, size);
    rows = λ i h. front i (omega arith);
  }

  zeros : (i : ℕ) → 4 * (m + 1) ≤ i → at L i ≡ 0
  zeros i h = by_cases (dec_lt i (6 * (m + 1)))
      (λ l.
      let e : 4 * suc (length p) + (i - 4 * (m + 1)) ≡ i = omega (arith, long) in
      front i l ∙ rw e at (spare (i - 4 * (m + 1)) (omega (arith, long))))
      (λ l.
      let e : 6 * (m + 1) + (i - 6 * (m + 1)) ≡ i = omega arith in
      rw e at (at-behind r (drop (6 * (m + 1)) T) (6 * (m + 1)) (i - 6 * (m + 1)) front-size ∙ rest-zero (i - 6 * (m + 1))))

  -- what finishing asks for
  pub finish_asked : (Z : List ℕ) → length Z ≡ sets_room m
      → FirstForm (word_in L m) L m × ((length Z ≡ sets_room m) × ((i : ℕ) → 4 * (m + 1) ≤ i → at L i ≡ 0))
  finish_asked Z z = (first-own first, (z, zeros))

  -- and what it leaves is the word's
  pub finish_told : {Y K : List ℕ} → (Y ≡ compact_sets (word_in L m)) × (K ≡ compact_table (word_in L m))
      → (Y ≡ compact_sets p) × (K ≡ compact_table p)
  finish_told says = rw (own-word first) at says
