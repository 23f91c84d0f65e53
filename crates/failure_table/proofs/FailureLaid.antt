-- A FAILURE ARROW MORE is one entry of row 1. The other rows are the same, so symbol arrows are read as before; and failure arrows are, but
-- for the state that has the new one.
use mathlib.Core.Path.{◌≡◌, sym, ap, ◌∙◌}
use mathlib.Core.Logic.{◌≢◌, ⊎_elim, by_cases}
use mathlib.Core.Option.{Option, some}
use mathlib.Core.List.{List, ◌∷◌}
use Prim.Native.Nat.{ℕ, suc, ◌+◌, ◌*◌, ◌≤◌, ◌<◌}
use native.Mathlib.Decide.{ℕ_discrete}
use native.Mathlib.Omega.{arith}
use lib.ListN.{length, set, length-set}
use lib.Seq.{get_or-set_same, get_or-set_other}
use Rattle.words.specs.Lists.{at}
use Rattle.words.specs.Words.{Letter, Word}
use Rattle.oracle.specs.Arrows.{State, target}
use Rattle.failure.specs.FailureRule.{failure, failure_of, FailureArrows, symbols, with_failure}
use Rattle.failure.proofs.Added.{failure-hit, failure_pass}
use Rattle.failure_table.specs.FailureTable.{read_failure, read_symbol}
use Rattle.failure_table.proofs.Lookups.{first_slot, failure_entry, failure-some}
use Rattle.failure_table.proofs.Slots.{SameSlots, seek-alike, symbol-alike, failure-alike}
use Rattle.failure_table.proofs.LaidOut.{LaidOut}

module _ {p : Word} {A : FailureArrows} {L : List ℕ} (D : LaidOut p A L) (a k : State) (up : a < k) (low : k < length p) where
  abbrev m : ℕ
  m = length p

  abbrev L₁ : List ℕ
  L₁ = set L (m + 1 + a) k

  -- one entry is written, and no other
  kept : (i : ℕ) → i ≢ m + 1 + a → at L₁ i ≡ at L i
  kept i f = get_or-set_other L (m + 1 + a) i k 0 f

  new : failure_entry m L₁ a ≡ k
  new = get_or-set_same L (m + 1 + a) k 0 (omega arith)

  failures_then : (x : State) → x ≤ m → read_failure m L₁ x ≡ failure_of (failure a k ∷ A.failures) x
  failures_then x h = by_cases (ℕ_discrete x a)
      (λ e.
      let there = failure-some m L₁ a (omega arith) (λ z. omega (arith, new)) in
      rw e (there ∙ ap {B = Option State} some new ∙ sym (failure-hit A.failures a k)))
      (λ e.
      let passed = ⊎_elim (λ t. t) (λ t. absurd (e t)) (failure_pass A.failures (failure a k) x) in
      failure-alike m L L₁ x (kept (m + 1 + x) (omega arith)) ∙ D.failures-read x h ∙ sym passed)

  slots_kept : SameSlots m L L₁ (length A.extra)
  slots_kept = record {
    room = D.few;
    letters = λ i h. kept i (omega arith);
    nexts = λ s z h. kept (3 * (m + 1) + s) (omega arith);
    targets = λ s z h. kept (4 * (m + 1) + s) (omega arith);
  }

  symbols_then : (x : State) (c : Letter) → x ≤ m → read_symbol m L₁ x c ≡ target (symbols p A) x c
  symbols_then x c h =
      let sought = seek-alike slots_kept D.nexts D.targets c (suc m) (first_slot m L x) (D.firsts x h) in
      let first = kept (2 * (m + 1) + x) (omega arith) in
      symbol-alike slots_kept x c h (rw first sought) ∙ D.symbols-read x c h

  -- where arrows are laid out, they are laid out with a failure arrow more
  pub failure-laid : LaidOut p (with_failure a k A) (set L (length p + 1 + a) k)
  failure-laid = record {
    size = length-set L (m + 1 + a) k ∙ D.size;
    letters = λ i h. kept i (omega arith) ∙ D.letters i h;
    few = D.few;
    firsts = λ x h. rw (kept (2 * (m + 1) + x) (omega arith)) (D.firsts x h);
    nexts = λ s z h. rw (kept (3 * (m + 1) + s) (omega arith)) (D.nexts s z h);
    targets = λ s h. rw (kept (4 * (m + 1) + s) (omega arith)) (D.targets s h);
    failures-read = failures_then;
    symbols-read = symbols_then;
  }
