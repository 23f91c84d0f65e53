-- FINISHING: the letters are added, the chains laid out, and the two rows that served are cleared. What stands then is the table of the
-- word that stood in row 0 at the start, row by row.
use mathlib.Core.Path.{◌≡◌, refl, sym, ◌∙◌}
use mathlib.Core.Option
use mathlib.Core.List.{List, ◌∷◌, ◌++◌, append-nil}
use Prim.Native.Nat.{ℕ, zero, suc, ◌+◌, ◌*◌, ◌-◌, ◌<◌}
use native.Mathlib.Numerals.{one-add}
use native.Mathlib.Omega.{arith}
use lib.ListN.{length, get_or, take, drop, replicate, length-append, length-take, length-drop, length-replicate}
use lib.ListN.{get_or-append, drop_of_length-le}
use lib.Seq.{length-take-le, get_or-take, ext_get_or}
use borrow.Rule.Slice.PartMut.{mid_of, put_mid}
use Rattle.words.specs.Lists.{at}
use Rattle.words.specs.Words.{Word}
use Rattle.words.proofs.Words.{part_length, part_at}
use Rattle.oracle.specs.Arrows.{State}
use Rattle.oracle.specs.SuffixRule.{oracle}
use Rattle.oracle.specs.Supply.{supply}
use Rattle.oracle.specs.FileOrder.{targets_before}
use Rattle.chains.specs.Letters.{Blank, word_in, ChainsOf}
use Rattle.table.specs.Table.{table_of}
use Rattle.table.specs.Layout.{Laid}
use Rattle.words.proofs.Lists.{at-behind}
use Rattle.words.proofs.Loops.{zeros-at}
use Rattle.table.proofs.Rows.{from_ext}

-- ── Row by row ─────────────────────────────────────────────────────────────

-- what the rows of K hold
record Rowed (p : Word) (m : ℕ) (K : List ℕ) : Type 0 where
  size : length K ≡ 6 * suc m
  letters : (i : ℕ) → i < suc m → at K i ≡ get_or (0 ∷ p) i 0
  no_supply : at K (suc m) ≡ 0
  supplies : (x : State) → x < m → at K (suc m + suc x) ≡ Option.get_or (supply p (suc x)) 0
  starts : (k : State) → k < suc m → at K (2 * suc m + k) ≡ length (targets_before (oracle p) p k)
  targets : (s : ℕ) → s < suc m → at K (3 * suc m + s) ≡ get_or (targets_before (oracle p) p (suc m)) s 0
  zeros : (i : ℕ) → i < 2 * suc m → at K (4 * suc m + i) ≡ 0

rowed_table : {p : Word} {m : ℕ} {K : List ℕ} → Rowed p m K → length p ≡ m → K ≡ table_of p
unfolding table_of
rowed_table {p} {m} {K} R e = by (rw (← e) at R)
  where
    by : Rowed p (length p) K → K ≡ table_of p
    by R = from_ext p (oracle p) _ K R.size R.letters R.no_supply R.supplies R.starts R.targets R.zeros

-- ── The word ───────────────────────────────────────────────────────────────

word_size : (L : List ℕ) (m : ℕ) → length L ≡ 6 * suc m → length (word_in L m) ≡ m
word_size L m e = part_length L 1 m (omega arith)

module _ {B L : List ℕ} {m u : ℕ} (b : Blank B m) (H : ChainsOf B m L u) where
  -- adding letters leaves the word
  word_kept : word_in L m ≡ word_in B m
  word_kept = ext_get_or 0 (word_in L m) (word_in B m) (in_L ∙ sym (word_size B m b.size)) (λ i h. same i (rw in_L at h))
    where
      in_L : length (word_in L m) ≡ m
      in_L = word_size L m H.chained.size

      same : (i : ℕ) → i < m → at (word_in L m) i ≡ at (word_in B m) i
      same i h = part_at L 1 m i h ∙ H.letters (1 + i) (omega arith) ∙ sym (part_at B 1 m i h)

  -- so the chains are those of the word that stands beside them
  pub chains_own : ChainsOf L m L u
  chains_own = record {
    chained = H.chained;
    slots = H.slots;
    heads = H.heads;
    letters = λ i h. refl;
    no_supply = H.no_supply;
    supplies = λ x h. rw word_kept (H.supplies x h);
    targets = λ x h. rw word_kept (H.targets x h);
    counted = rw word_kept H.counted;
    unlaid = H.unlaid;
  }

  -- ── The table ────────────────────────────────────────────────────────────

  -- behind four rows the table comes back cleared
  module _ {K C : List ℕ} {a : ℕ} (Y : Laid L m K) (cleared : C ≡ replicate (length (mid_of a (length K - a) K)) 0)
      (four-rows : a ≡ 4 * suc m) where
    abbrev scratch : ℕ
    scratch = 4 * suc m

    abbrev expected : List ℕ
    expected = take scratch K ++ replicate (length K - scratch) 0

    six : length K ≡ 6 * suc m
    six = Y.size ∙ H.chained.size

    laid : put_mid a (length K - a) K C ≡ expected
    laid =
        let many : length (mid_of scratch (length K - scratch) K) ≡ length K - scratch = simp (length-take, length-drop) (omega arith) in
        let none = drop_of_length-le (drop scratch K) {i = length K - scratch} (omega (arith, length-drop scratch K)) in
        rw (cleared, four-rows, many, none, append-nil)

    in_front : length (take scratch K) ≡ scratch
    in_front = length-take-le scratch K (omega (arith, six))

    front : (i : ℕ) → i < scratch → at expected i ≡ at K i
    front i h = get_or-append (take scratch K) _ 0 i (omega (arith, in_front)) ∙ get_or-take scratch K i 0 h

    behind : (i : ℕ) → at expected (scratch + i) ≡ 0
    behind i = at-behind (take scratch K) (replicate (length K - scratch) 0) scratch i in_front ∙ zeros-at (length K - scratch) i

    -- what lay before the chains is as it was
    low : (i : ℕ) → i < 2 * suc m → at expected i ≡ at L i
    low i h = front i (omega arith) ∙ Y.kept i h

    letters : (i : ℕ) → i < suc m → at expected i ≡ get_or (0 ∷ word_in B m) i 0
    letters zero h = low 0 (omega arith) ∙ H.letters 0 h ∙ b.corner
    letters (suc i) h = low (suc i) (omega arith) ∙ H.letters (suc i) h ∙ sym (rw (one-add i) at (part_at B 1 m i (omega arith)))

    -- the table of the word
    pub finished : put_mid a (length K - a) K C ≡ table_of (word_in B m)
    finished = laid ∙ rowed_table rows (word_size B m b.size)
      where
        rows : Rowed (word_in B m) m expected
        rows = record {
          size = simp (length-append, length-take, length-replicate) (omega (arith, six));
          letters = letters;
          no_supply = low (suc m) (omega arith) ∙ H.no_supply;
          supplies = λ x h. low (suc m + suc x) (omega arith) ∙ rw (H.supplies x h);
          starts = λ k h. front (2 * suc m + k) (omega arith) ∙ rw word_kept at (Y.starts k h);
          targets = λ s h. front (3 * suc m + s) (omega arith) ∙ rw word_kept at (Y.targets s h);
          zeros = λ i h. behind i;
        }
