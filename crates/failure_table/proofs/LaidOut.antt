-- ARROWS LAID OUT IN A TABLE: `LaidOut p A L` says that by the rule the arrows A are read from L, and that its slots are in order. It holds
-- of the word alone, which has no arrow but its spine.
use mathlib.Core.Path.{◌≡◌, sym, ap, ◌∙◌}
use mathlib.Core.Option.{Option, none, some}
use mathlib.Core.List.{List, [], ◌∷◌}
use Prim.Native.Nat.{ℕ, suc, ◌+◌, ◌*◌, ◌≤◌, ◌<◌}
use native.Mathlib.Omega.{arith}
use lib.ListN.{length, replicate, length-append, length-replicate, get_or-eq_default}
use lib.Seq.{ext_get_or}
use Rattle.words.specs.Lists.{at}
use Rattle.words.specs.Words.{Letter, Word, letter, part}
use Rattle.words.proofs.Lists.{none_where}
use Rattle.words.proofs.Loops.{padded}
use Rattle.words.proofs.Words.{part_length, part_at}
use Rattle.oracle.specs.Arrows.{State, target, spine}
use Rattle.oracle.proofs.Targets.{target_member}
use Rattle.oracle.proofs.FileOrder.{spine_member}
use Rattle.oracle.proofs.SuffixRule.{spine-target}
use Rattle.failure.specs.FailureRule.{failure_of, FailureArrows, symbols}
use Rattle.table.specs.Table.{read_word}
use Rattle.failure_table.specs.FailureTable.{failure_room, word_alone, read_failure, read_symbol}
use Rattle.failure_table.proofs.Lookups.{first_slot, failure-none, seek-none, spine_cases, symbol-spine, symbol-slots}
use Rattle.failure_table.proofs.Slots.{SlotsOlder, SlotsInside}

-- the arrows A over p are laid out in L
pub record LaidOut (p : Word) (A : FailureArrows) (L : List ℕ) : Type 0 where
  pub size : length L ≡ failure_room (length p)
  pub letters : (i : ℕ) → i ≤ length p → at L i ≡ at (0 ∷ p) i
  pub few : length A.extra ≤ length p
  pub firsts : (x : State) → x ≤ length p → first_slot (length p) L x ≤ length A.extra
  pub nexts : SlotsOlder (length p) L
  pub targets : SlotsInside (length p) L
  pub failures-read : (x : State) → x ≤ length p → read_failure (length p) L x ≡ failure_of A.failures x
  pub symbols-read : (x : State) (c : Letter) → x ≤ length p → read_symbol (length p) L x c ≡ target (symbols p A) x c

-- the word is read from such a table
pub laid_word : {p : Word} {A : FailureArrows} {L : List ℕ} → LaidOut p A L → read_word (length p) L ≡ p
unfolding read_word
laid_word {p} {A} {L} D = ext_get_or 0 (part L 1 (length p)) p size (λ k h. letters k (rw size at h))
  where
    size : length (part L 1 (length p)) ≡ length p
    size = part_length L 1 (length p) (omega arith)

    letters : (k : ℕ) → k < length p → letter (part L 1 (length p)) k ≡ letter p k
    letters k h = let e : 1 + k ≡ suc k = omega arith in part_at L 1 (length p) k h ∙ rw e (D.letters (suc k) (omega arith))

-- ── The word alone ─────────────────────────────────────────────────────────

module _ (p : Word) where
  abbrev m : ℕ
  m = length p

  alone-size : length (word_alone p) ≡ failure_room m
  unfolding word_alone
  alone-size = length-append (0 ∷ p) (replicate (9 * (m + 1)) 0) ∙ omega (arith, length-replicate {A = ℕ} (9 * (m + 1)) 0)

  -- its entries are the letters, behind a zero
  pub alone_at : (i : ℕ) → at (word_alone p) i ≡ at (0 ∷ p) i
  unfolding word_alone
  alone_at i = padded (0 ∷ p) (9 * (m + 1)) i

  -- and zeros behind them
  alone-zero : (i : ℕ) → m < i → at (word_alone p) i ≡ 0
  alone-zero i h = alone_at i ∙ get_or-eq_default (0 ∷ p) 0 {n = i} (omega arith)

  -- the spine has no other arrow than those of the word's letters
  spine-none : (x : State) (c : Letter) → ((x < m) × (c ≡ letter p x) → ⊥) → target (spine p) x c ≡ none
  spine-none x c f =
      none_where (target (spine p) x c) (λ y e. let r = spine_member p (target_member (spine p) x c y e) in f (r.0, r.1))

  alone-symbols : (x : State) (c : Letter) → x ≤ m → read_symbol m (word_alone p) x c ≡ target (spine p) x c
  alone-symbols x c h =
      let one : x + 1 ≡ suc x = omega arith in
      let letter_of : at (word_alone p) (x + 1) ≡ letter p x = rw one (alone_at (suc x)) in
      spine_cases m (word_alone p) x c
      (λ r.
      let own : letter p x ≡ c = sym letter_of ∙ r.1 in
      symbol-spine m (word_alone p) x c h r ∙ ap {B = Option State} some one ∙ sym (rw own at (spine-target p x r.0)))
      (λ f.
      let no_slot = seek-none m (word_alone p) c (suc m) _ (alone-zero (2 * (m + 1) + x) (omega arith)) in
      symbol-slots m (word_alone p) x c h f ∙ no_slot ∙ sym (spine-none x c (λ r. f (r.0, letter_of ∙ sym r.1))))

  -- the word alone is the table of no arrows
  pub alone-laid : LaidOut p (record { extra = []; failures = [] }) (word_alone p)
  unfolding failure_of
  alone-laid = record {
    size = alone-size;
    letters = λ i h. alone_at i;
    few = omega arith;
    firsts = λ x h. omega (arith, alone-zero (2 * (m + 1) + x) (omega arith));
    nexts = λ s z h. omega (arith, alone-zero (3 * (m + 1) + s) (omega arith));
    targets = λ s h. omega (arith, alone-zero (4 * (m + 1) + s) (omega arith));
    failures-read = λ x h. failure-none m (word_alone p) x h (alone-zero (m + 1 + x) (omega arith));
    symbols-read = alone-symbols;
  }
