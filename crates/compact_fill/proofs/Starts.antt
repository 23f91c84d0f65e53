-- WHERE THE TARGETS OF A STATE'S WORDS START: word by word (`StartsSoFar`), behind those of the words before it. Each word adds as many as
-- it has ones (`word_more`); where one arrow or two leave a state, they are told without counting (`lone_start`, `pair_start`).
use mathlib.Core.Path.{◌≡◌, sym, ap, ap₂, ◌∙◌}
use mathlib.Core.Bool.{Bool, true, false, cond}
use mathlib.Core.List.{List}
use Prim.Native.Nat.{ℕ, suc, ◌+◌, ◌*◌, ◌≤◌, ◌<◌}
use native.Mathlib.Omega.{arith}
use lib.ListN.{length, set, length-set}
use lib.Seq.{get_or-set_same, get_or-set_other}
use lib.Count.{ones}
use lib.Dec.{ltb}
use borrow.Author.Count.{below_more}
use Rattle.std.specs.Int.{from_bool}
use Rattle.words.specs.Lists.{at}
use Rattle.words.specs.Words.{Letter, Word}
use Rattle.oracle.specs.Arrows.{State, Delta}
use Rattle.oracle.specs.SuffixRule.{oracle}
use Rattle.compact.specs.Compact.{arrow_number, is_arrow, set_word, targets_up_to, bit_at, how_many}
use Rattle.compact.proofs.Counting.{count-split, count_same, count_lone, count_pair, all_ones}
use Rattle.compact.proofs.Targets.{there, targets-length, targets_rise}
use Rattle.compact.proofs.ReadBack.{word-told, word_small, arrow_at-number}
use Rattle.compact.proofs.Theorems.{targets_fit}
use Rattle.compact_fill.specs.Filling.{out_targets, letter_into, first_place, FirstForm}
use Rattle.compact_fill.proofs.OutArrows.{letters-differ}
use Rattle.compact_fill.proofs.Marking.{lone_among, pair_among}

-- the targets of one word more
pub word_more : (δ : Delta) (i : ℕ) → length (targets_up_to δ (64 * i)) + ones (set_word δ i) ≡ length (targets_up_to δ (64 * suc i))
word_more δ i =
    let e : 64 * i + 64 ≡ 64 * suc i = omega arith in
    let in-word : ones (set_word δ i) ≡ how_many (λ d. there δ (64 * i + d)) 64 =
    all_ones (set_word δ i) 64 (word_small δ i) ∙ count_same (bit_at (set_word δ i)) (λ d. there δ (64 * i + d)) 64 (word-told δ i) in
    let all = rw e at (count-split (there δ) (64 * i) 64) in
    omega (arith, targets-length δ (64 * i), targets-length δ (64 * suc i), in-word, all)

-- no more than fit
pub starts-few : (p : Word) {m : ℕ} (g : ℕ) → length p ≡ m → g ≤ 256 * (m + 1) → length (targets_up_to (oracle p) g) ≤ 2 * (m + 1)
starts-few p {m} g e h =
    let all : g ≤ 256 * (length p + 1) = omega arith in
    omega (arith, targets_rise (oracle p) g (256 * (length p + 1)) all, targets_fit p)

-- ── Word by word ───────────────────────────────────────────────────────────

-- the first i words of x have their starts
pub record StartsSoFar (δ : Delta) (m : ℕ) (x : State) (L L' : List ℕ) (i : ℕ) : Type 0 where
  pub size : length L' ≡ length L
  pub starts : (k : ℕ) → k < i → at L' (4 * (m + 1) + (4 * x + k)) ≡ length (targets_up_to δ (64 * (4 * x + k)))
  pub before : (j : ℕ) → j < 4 * (m + 1) + 4 * x → at L' j ≡ at L j
  pub behind : (j : ℕ) → 4 * (m + 1) + 4 * suc x ≤ j → at L' j ≡ at L j

module _ {δ : Delta} {m : ℕ} {x : State} {L : List ℕ} where
  pub one-start : {L' : List ℕ} {i v : ℕ} → StartsSoFar δ m x L L' i → i < 4 → 4 * (m + 1) + 4 * suc x ≤ length L
      → v ≡ length (targets_up_to δ (64 * (4 * x + i))) → StartsSoFar δ m x L (set L' (4 * (m + 1) + (4 * x + i)) v) (i + 1)
  one-start {L'} {i} {v} S h room e = record {
    size = simp length-set S.size;
    starts = below_more _ i
        (λ k l. get_or-set_other L' here (4 * (m + 1) + (4 * x + k)) v 0 (λ q. omega arith) ∙ S.starts k l)
        (get_or-set_same L' here v 0 (omega (arith, S.size)) ∙ e);
    before = λ j l. get_or-set_other L' here j v 0 (λ q. omega arith) ∙ S.before j l;
    behind = λ j l. get_or-set_other L' here j v 0 (λ q. omega arith) ∙ S.behind j l;
  }
    where
      here : ℕ
      here = 4 * (m + 1) + (4 * x + i)

-- and the targets of these are counted
pub record CountedSoFar (δ : Delta) (m : ℕ) (x : State) (L L' : List ℕ) (so_far i : ℕ) : Type 0 where
  pub inside : i ≤ 4
  pub counted : so_far ≡ length (targets_up_to δ (64 * (4 * x + i)))
  pub starts : StartsSoFar δ m x L L' i

module _ {δ : Delta} {m : ℕ} {x : State} {L : List ℕ} where
  pub one-counted : {L' : List ℕ} {so_far i r : ℕ} → CountedSoFar δ m x L L' so_far i → i < 4 → 4 * (m + 1) + 4 * suc x ≤ length L
      → r ≡ ones (set_word δ (4 * x + i)) → CountedSoFar δ m x L (set L' (4 * (m + 1) + (4 * x + i)) so_far) (so_far + r) (i + 1)
  one-counted {L'} {so_far} {i} C h room e = record {
    inside = omega arith;
    counted = let next : 4 * x + (i + 1) ≡ suc (4 * x + i) = omega arith in rw (next, e, C.counted) (word_more δ (4 * x + i));
    starts = one-start C.starts h room C.counted;
  }

-- ── One arrow or two ───────────────────────────────────────────────────────

-- a test as code adds it
pub test_added : (before : ℕ) {r : ℕ} (b : Bool) → r ≡ from_bool b → before + r ≡ before + cond b 1 0
test_added before true e = ap (λ (n : ℕ). before + n) e
test_added before false e = ap (λ (n : ℕ). before + n) e

module _ {p : Word} {L : List ℕ} {m : ℕ} (F : FirstForm p L m) {x : State} (h : x < m) where
  abbrev c : Letter
  c = letter_into p (x + 1)

  -- the targets before letter d of x: those of the states before, and those of the smaller letters
  start-behind : {r : ℕ} (d : ℕ) → d ≤ 256 → how_many (λ e. is_arrow (oracle p x e)) d ≡ r
      → length (targets_up_to (oracle p) (arrow_number x d)) ≡ first_place (oracle p) x + r
  start-behind d l counted =
      targets-length (oracle p) (arrow_number x d)
      ∙ count-split (there (oracle p)) (256 * x) d
      ∙ ap₂ (λ (a b : ℕ). a + b) (sym (targets-length (oracle p) (256 * x)))
      (count_same _ _ d (λ e k. ap is_arrow (arrow_at-number (oracle p) x e (omega arith))) ∙ counted)

  pub lone_start : length (out_targets p x) ≡ 1 → (d : ℕ) → d ≤ 256
      → length (targets_up_to (oracle p) (arrow_number x d)) ≡ first_place (oracle p) x + cond (ltb c d) 1 0
  lone_start alone d l = start-behind d l (count_lone _ c d (λ e k. lone_among F x h alone e))

  pub pair_start : length (out_targets p x) ≡ 2 → (d : ℕ) → d ≤ 256 → length (targets_up_to (oracle p) (arrow_number x d))
      ≡ first_place (oracle p) x + (cond (ltb c d) 1 0 + cond (ltb (letter_into p (at (out_targets p x) 1)) d) 1 0)
  pair_start both d l =
      start-behind d l (count_pair _ d (letters-differ F x h (omega (arith, both))) (λ e k. pair_among F x h both e))
