-- A SYMBOL ARROW MORE is the slot u + 1, put before the other slots of its state a. The slots up to u are the same, so all states but a are
-- read as before. In a the new slot is looked at first: on its letter the new arrow is read, and on others it is passed.
use mathlib.Core.Path.{◌≡◌, sym, ap, ◌∙◌}
use mathlib.Core.Logic.{◌≢◌, ⊎_elim, by_cases}
use mathlib.Core.Option.{Option, none, some}
use mathlib.Core.List.{List, ◌∷◌}
use Prim.Native.Nat.{ℕ, suc, ◌+◌, ◌*◌, ◌≤◌, ◌<◌}
use native.Mathlib.Decide.{ℕ_discrete}
use native.Mathlib.Omega.{arith}
use lib.ListN.{length, set, length-set}
use lib.Seq.{get_or-set_same, get_or-set_other}
use Rattle.words.specs.Lists.{at}
use Rattle.words.specs.Words.{Letter, Word, letter}
use Rattle.oracle.specs.Arrows.{State, Arrow, arrow, target}
use Rattle.oracle.proofs.Targets.{never, target_hit, target_pass}
use Rattle.failure.specs.FailureRule.{FailureArrows, symbols, with_symbol}
use Rattle.failure_table.specs.FailureTable.{failure_room, slotted, seek, read_symbol}
use Rattle.failure_table.proofs.Lookups.{first_slot, next_slot, slot_target, slot_letter}
use Rattle.failure_table.proofs.Lookups.{seek-here, seek-later, OnSpine, symbol-spine, symbol-slots}
use Rattle.failure_table.proofs.Slots.{SlotsOlder, SlotsInside, seek-enough, SameSlots, seek-alike, symbol-alike, failure-alike}
use Rattle.failure_table.proofs.LaidOut.{LaidOut}

-- there is room for an arrow from a into k + 1 on its letter, and a has none on it
pub record NewSymbol (p : Word) (A : FailureArrows) (a k : State) : Type 0 where
  pub few : length A.extra < length p
  pub state : a ≤ length p
  pub low : k < length p
  pub lacks : target (symbols p A) a (letter p k) ≡ none

module _ {p : Word} {A : FailureArrows} {L : List ℕ} (D : LaidOut p A L) {a k : State} (N : NewSymbol p A a k) where
  abbrev m : ℕ
  m = length p

  abbrev n : ℕ
  n = m + 1

  -- the slots that are used, and the new one
  abbrev u : ℕ
  u = length A.extra

  abbrev slot : ℕ
  slot = u + 1

  -- ── The entries ──────────────────────────────────────────────────────────

  -- the table with its target, and with the slot behind it
  abbrev with_target : List ℕ
  with_target = set L (4 * n + slot) (suc k)

  abbrev with_next : List ℕ
  with_next = set with_target (3 * n + slot) (first_slot m L a)

  -- and with the slot as the first of a
  abbrev L₁ : List ℕ
  L₁ = slotted L n u a (suc k)

  next-size : length with_next ≡ failure_room m
  next-size = length-set with_target (3 * n + slot) _ ∙ length-set L (4 * n + slot) (suc k) ∙ D.size

  -- three entries are written, and no others
  kept : (i : ℕ) → i ≢ 2 * n + a → i ≢ 3 * n + slot → i ≢ 4 * n + slot → at L₁ i ≡ at L i
  unfolding slotted
  kept i f g h =
      get_or-set_other with_next (2 * n + a) i slot 0 f
      ∙ get_or-set_other with_target (3 * n + slot) i (first_slot m L a) 0 g
      ∙ get_or-set_other L (4 * n + slot) i (suc k) 0 h

  new-first : first_slot m L₁ a ≡ slot
  unfolding slotted
  new-first = get_or-set_same with_next (2 * n + a) slot 0 (omega (arith, next-size))

  new-next : next_slot m L₁ slot ≡ first_slot m L a
  unfolding slotted
  new-next =
      let room = length-set L (4 * n + slot) (suc k) in
      get_or-set_other with_next (2 * n + a) (3 * n + slot) slot 0 (omega arith)
      ∙ get_or-set_same with_target (3 * n + slot) (first_slot m L a) 0 (omega arith)

  new-target : slot_target m L₁ slot ≡ suc k
  unfolding slotted
  new-target =
      get_or-set_other with_next (2 * n + a) (4 * n + slot) slot 0 (omega arith)
      ∙ get_or-set_other with_target (3 * n + slot) (4 * n + slot) (first_slot m L a) 0 (omega arith)
      ∙ get_or-set_same L (4 * n + slot) (suc k) 0 (omega arith)

  letters-kept : (i : ℕ) → i ≤ m → at L₁ i ≡ at L i
  letters-kept i h = kept i (omega arith) (omega arith) (omega arith)

  first-kept : (x : State) → x ≤ m → x ≢ a → first_slot m L₁ x ≡ first_slot m L x
  first-kept x h f = kept (2 * n + x) (omega arith) (omega arith) (omega arith)

  next-kept : (s : ℕ) → s ≤ m → s ≢ slot → next_slot m L₁ s ≡ next_slot m L s
  next-kept s h f = kept (3 * n + s) (omega arith) (omega arith) (omega arith)

  target-kept : (s : ℕ) → s ≤ m → s ≢ slot → slot_target m L₁ s ≡ slot_target m L s
  target-kept s h f = kept (4 * n + s) (omega arith) (omega arith) (omega arith)

  -- ── The slots ────────────────────────────────────────────────────────────

  slots_kept : SameSlots m L L₁ u
  slots_kept = record {
    room = D.few;
    letters = letters-kept;
    nexts = λ s z h. next-kept s (omega arith) (omega arith);
    targets = λ s z h. target-kept s (omega arith) (omega arith);
  }

  -- from an older slot on, the same is found
  sought : (c : Letter) (g s : ℕ) → s ≤ u → seek m L₁ c g s ≡ seek m L c g s
  sought = seek-alike slots_kept D.nexts D.targets

  new-letter : slot_letter m L₁ slot ≡ letter p k
  new-letter = rw new-target (letters-kept (suc k) (omega arith) ∙ D.letters (suc k) (omega arith))

  -- in a, the new arrow is found on its letter
  found : seek m L₁ (letter p k) (suc m) (first_slot m L₁ a) ≡ some (suc k)
  found = rw new-first (seek-here m L₁ (letter p k) m slot (omega arith) new-letter ∙ ap {B = Option State} some new-target)

  -- on other letters it is passed
  passed : (c : Letter) → c ≢ letter p k → seek m L₁ c (suc m) (first_slot m L₁ a) ≡ seek m L c (suc m) (first_slot m L a)
  passed c f =
      let b = D.firsts a N.state in
      let behind = seek-later m L₁ c m slot (omega arith) (λ q. f (sym q ∙ new-letter)) in
      let enough = seek-enough m L c D.nexts m (suc m) (first_slot m L a) (omega arith) (omega arith) (omega arith) in
      rw new-first (behind ∙ rw new-next (sought c m (first_slot m L a) b ∙ enough))

  -- ── The symbol arrows ────────────────────────────────────────────────────

  -- all symbol arrows then
  abbrev more : List Arrow
  more = arrow a (letter p k) (suc k) ∷ symbols p A

  -- the spine has no arrow from a on the letter, as none was read
  off_spine : OnSpine m L₁ a (letter p k) → ⊥
  off_spine r =
      let before : OnSpine m L a (letter p k) = (r.0, sym (letters-kept (a + 1) (omega arith)) ∙ r.1) in
      never (D.symbols-read a (letter p k) N.state ∙ N.lacks) (symbol-spine m L a (letter p k) N.state before)

  read-new : read_symbol m L₁ a (letter p k) ≡ target more a (letter p k)
  read-new = symbol-slots m L₁ a (letter p k) N.state off_spine ∙ found ∙ sym (target_hit (symbols p A) a (letter p k) (suc k))

  symbols_then : (x : State) (c : Letter) → x ≤ m → read_symbol m L₁ x c ≡ target more x c
  symbols_then x c h = by_cases (ℕ_discrete x a)
      (λ e. by_cases (ℕ_discrete c (letter p k))
      (λ d. rw (e, d) read-new)
      (λ d. as_before (rw e (passed c d)) (λ t. d t.1)))
      (λ e.
      let first = first-kept x h e in
      as_before (rw first (sought c (suc m) (first_slot m L x) (D.firsts x h))) (λ t. e t.0))
    where
      as_before : seek m L₁ c (suc m) (first_slot m L₁ x) ≡ seek m L c (suc m) (first_slot m L x) → ((x ≡ a) × (c ≡ letter p k) → ⊥)
          → read_symbol m L₁ x c ≡ target more x c
      as_before q f =
          let other = ⊎_elim (λ t. t) (λ t. absurd (f t)) (target_pass (symbols p A) (arrow a (letter p k) (suc k)) x c) in
          symbol-alike slots_kept x c h q ∙ D.symbols-read x c h ∙ sym other

  -- ── All of it ────────────────────────────────────────────────────────────

  firsts_then : (x : State) → x ≤ m → first_slot m L₁ x ≤ suc u
  firsts_then x h = by_cases (ℕ_discrete x a)
      (λ e. rw e (omega (arith, new-first)))
      (λ e. omega (arith, first-kept x h e, D.firsts x h))

  nexts_then : SlotsOlder m L₁
  nexts_then s z h = by_cases (ℕ_discrete s slot)
      (λ e. rw e (omega (arith, new-next, D.firsts a N.state)))
      (λ e. omega (arith, next-kept s h e, D.nexts s z h))

  targets_then : SlotsInside m L₁
  targets_then s h = by_cases (ℕ_discrete s slot)
      (λ e. rw e (omega (arith, new-target)))
      (λ e. omega (arith, target-kept s h e, D.targets s h))

  -- where arrows are laid out, they are laid out with a symbol arrow more
  pub symbol-laid : LaidOut p (with_symbol p a k A) (slotted L (length p + 1) (length A.extra) a (suc k))
  symbol-laid = record {
    size = unfold slotted in length-set with_next (2 * n + a) slot ∙ next-size;
    letters = λ i h. letters-kept i h ∙ D.letters i h;
    few = N.few;
    firsts = firsts_then;
    nexts = nexts_then;
    targets = targets_then;
    failures-read = λ x h. failure-alike m L L₁ x (kept (n + x) (omega arith) (omega arith) (omega arith)) ∙ D.failures-read x h;
    symbols-read = symbols_then;
  }
