-- WHAT A LETTER MAY DO, over a table that is formed: it leads to a state, and takes at most m failure arrows. The first goes by
-- induction on the bounds of the reading rule, slot by slot and failure arrow by failure arrow.
use mathlib.Core.Path.{◌≡◌, refl, sym, ◌∙◌}
use mathlib.Core.Logic.{by_cases}
use mathlib.Core.Option.{some}
use mathlib.Core.List.{List}
use Prim.Native.Nat.{ℕ, zero, suc, ◌≤◌, ◌<◌}
use native.Mathlib.Decide.{dec_le}
use native.Mathlib.Omega.{arith}
use Rattle.words.specs.Words.{Letter}
use Rattle.words.specs.declared.State.{State as Stated}
use Rattle.std.specs.Prelude.{Some}
use Rattle.words.proofs.Lists.{option_cases}
use Rattle.words.proofs.Answers.{arrow-told}
use Rattle.words.specs.Answers.{MaybeState, arrow_to}
use Rattle.oracle.specs.Arrows.{State, Delta}
use Rattle.oracle.proofs.Targets.{never}
use Rattle.failure.specs.FailureRule.{Fails, Asking, ask}
use Rattle.failure.proofs.Paths.{ask-hit, ask-stop, ask_fail, ask-taken}
use Rattle.failure_table.specs.FailureTable.{seek, read_symbol, read_failure, read_ask}
use Rattle.failure_table.specs.FailureFormed.{FailureFormed}
use Rattle.failure_table.proofs.Lookups.{first_slot, next_slot, slot_cases, seek-none, seek-here, seek-later}
use Rattle.failure_table.proofs.Lookups.{spine_cases, symbol-spine, symbol-slots, symbol-far}

some_same : {x y : ℕ} → some x ≡ some y → x ≡ y
some_same e = cc

-- ── States ─────────────────────────────────────────────────────────────────

module _ {L : List ℕ} {m : ℕ} (F : FailureFormed L m) where
  -- what slots lead to
  slots-state : (c : Letter) (g s : ℕ) (y : State) → s ≤ m → seek m L c g s ≡ some y → y ≤ m
  unfolding seek
  slots-state c zero s y h e = never refl e
  slots-state c (suc g) s y h e = slot_cases m L c s
      (λ z. never (seek-none m L c (suc g) s z) e)
      (λ z d. omega (arith, some_same (sym (seek-here m L c g s z d) ∙ e), F.targets s h))
      (λ z d.
      let older = F.nexts s (omega arith) h in
      slots-state c g (next_slot m L s) y (omega arith) (sym (seek-later m L c g s z d) ∙ e))

  -- what symbol arrows lead to
  symbol-state : (x : State) (c : Letter) (y : State) → read_symbol m L x c ≡ some y → y ≤ m
  symbol-state x c y e = by_cases (dec_le x m)
      (λ h. spine_cases m L x c
      (λ r. omega (arith, r.0, some_same (sym (symbol-spine m L x c h r) ∙ e)))
      (λ f. slots-state c (suc m) (first_slot m L x) y (F.firsts x h) (sym (symbol-slots m L x c h f) ∙ e)))
      (λ h. never (symbol-far m L x c (omega arith)) e)

module _ (δ : Delta) (φ : Fails) where
  -- where symbol arrows lead to states, so do letters by both kinds
  ask-state : (m : ℕ) → ((x : State) (c : Letter) (y : State) → δ x c ≡ some y → y ≤ m)
      → (g : ℕ) (x : State) (c : Letter) (y : State) → (ask δ φ g x c).to ≡ some y → y ≤ m
  unfolding ask
  ask-state m states zero x c y e = states x c y e
  ask-state m states (suc g) x c y e = option_cases (δ x c)
      (λ d. option_cases (φ x)
      (λ f. never refl (rw (ask-stop δ φ (suc g) x c d f) at e))
      (λ z f. ask-state m states g z c y (rw (ask_fail δ φ g x z c d f) at e)))
      (λ z d. states x c y (d ∙ rw (ask-hit δ φ (suc g) x z c d) at e))

-- ── In code ────────────────────────────────────────────────────────────────

-- the state that code goes on from is a state
pub next-state : {L : List ℕ} {m : ℕ} → FailureFormed L m → (x : State) (c : Letter) {leads : MaybeState}
    → leads ≡ arrow_to (read_ask m L x c).to → (y : Stated) → leads ≡ Some y → y.0 ≤ m
unfolding read_ask
next-state {L} {m} F x c {leads} to y e =
    ask-state (read_symbol m L) (read_failure m L) m (symbol-state F) m x c y.0 (arrow-told _ leads y to e)

-- a letter takes fewer than 2^16 failure arrows
abbrev pub FewTaken : Asking → Type 0
FewTaken σ = (x : State) (c : Letter) → (σ x c).taken ≤ 65535

-- over a table it does
pub few-taken : (m : ℕ) (L : List ℕ) → m < 65535 → FewTaken (read_ask m L)
unfolding read_ask
few-taken m L h x c = omega (arith, ask-taken (read_symbol m L) (read_failure m L) m x c)
