-- SLOTS SOUGHT ALIKE. Slots lead to older ones, so every bound that is enough finds the same. Where two lists have the same letters and the
-- same slots up to u, the same is found from such a slot on, and so the same arrows are read. Both go by induction on the bound.
use mathlib.Core.Path.{◌≡◌, refl, sym, ap, ◌∙◌}
use mathlib.Core.Option.{Option, some}
use mathlib.Core.List.{List}
use Prim.Native.Nat.{ℕ, zero, suc, ◌+◌, ◌≤◌, ◌<◌}
use native.Mathlib.Omega.{arith}
use Rattle.words.specs.Lists.{at}
use Rattle.words.specs.Words.{Letter}
use Rattle.oracle.specs.Arrows.{State}
use Rattle.failure_table.specs.FailureTable.{read_failure, seek, read_symbol}
use Rattle.failure_table.proofs.Lookups.{failure_entry, first_slot, next_slot, slot_target, slot_letter}
use Rattle.failure_table.proofs.Lookups.{slot_cases, seek-none, seek-here, seek-later, spine_cases, symbol-spine, symbol-slots}

-- slots lead to older ones
abbrev pub SlotsOlder : ℕ → List ℕ → Type 0
SlotsOlder m L = (s : ℕ) → 0 < s → s ≤ m → next_slot m L s < s

-- the bound on the slots does not matter, if it is enough
pub seek-enough : (m : ℕ) (L : List ℕ) (c : Letter) → SlotsOlder m L → (g g' s : ℕ) → s ≤ m → s < g → s < g'
    → seek m L c g s ≡ seek m L c g' s
seek-enough m L c older zero g' s b h h' = absurd (omega arith)
seek-enough m L c older (suc g) zero s b h h' = absurd (omega arith)
seek-enough m L c older (suc g) (suc g') s b h h' = slot_cases m L c s
    (λ e. seek-none m L c (suc g) s e ∙ sym (seek-none m L c (suc g') s e))
    (λ e d. seek-here m L c g s e d ∙ sym (seek-here m L c g' s e d))
    (λ e d.
    let l = older s (omega arith) b in
    let rest = seek-enough m L c older g g' (next_slot m L s) (omega arith) (omega arith) (omega arith) in
    seek-later m L c g s e d ∙ rest ∙ sym (seek-later m L c g' s e d))

-- targets of slots are states
abbrev pub SlotsInside : ℕ → List ℕ → Type 0
SlotsInside m L = (s : ℕ) → s ≤ m → slot_target m L s ≤ m

-- L' has the letters of L, and its slots up to u
pub record SameSlots (m : ℕ) (L L' : List ℕ) (u : ℕ) : Type 0 where
  pub room : u ≤ m
  pub letters : (i : ℕ) → i ≤ m → at L' i ≡ at L i
  pub nexts : (s : ℕ) → 0 < s → s ≤ u → next_slot m L' s ≡ next_slot m L s
  pub targets : (s : ℕ) → 0 < s → s ≤ u → slot_target m L' s ≡ slot_target m L s

module _ {m : ℕ} {L L' : List ℕ} {u : ℕ} (S : SameSlots m L L' u) where
  letter-alike : SlotsInside m L → (s : ℕ) → 0 < s → s ≤ u → slot_letter m L' s ≡ slot_letter m L s
  letter-alike inside s z h = rw (S.targets s z h) (S.letters (slot_target m L s) (inside s (omega arith)))

  -- from such a slot on, the same is found
  pub seek-alike : SlotsOlder m L → SlotsInside m L → (c : Letter) (g s : ℕ) → s ≤ u → seek m L' c g s ≡ seek m L c g s
  unfolding seek
  seek-alike older inside c zero s h = refl
  seek-alike older inside c (suc g) s h = slot_cases m L c s
      (λ e. seek-none m L' c (suc g) s e ∙ sym (seek-none m L c (suc g) s e))
      (λ e d.
      let z : 0 < s = omega arith in
      let found = seek-here m L' c g s e (letter-alike inside s z h ∙ d) in
      found ∙ ap {B = Option State} some (S.targets s z h) ∙ sym (seek-here m L c g s e d))
      (λ e d.
      let z : 0 < s = omega arith in
      let passed = seek-later m L' c g s e (λ q. d (sym (letter-alike inside s z h) ∙ q)) in
      let behind = older s z (omega arith) in
      let rest = seek-alike older inside c g (next_slot m L s) (omega arith) in
      passed ∙ ap (seek m L' c g) (S.nexts s z h) ∙ rest ∙ sym (seek-later m L c g s e d))

  -- a state whose slots have the same arrow has the same symbol arrow
  pub symbol-alike : (x : State) (c : Letter) → x ≤ m → seek m L' c (suc m) (first_slot m L' x) ≡ seek m L c (suc m) (first_slot m L x)
      → read_symbol m L' x c ≡ read_symbol m L x c
  symbol-alike x c h e = spine_cases m L x c
      (λ r. symbol-spine m L' x c h (r.0, same-letter r.0 ∙ r.1) ∙ sym (symbol-spine m L x c h r))
      (λ f. symbol-slots m L' x c h (λ r. f (r.0, sym (same-letter r.0) ∙ r.1)) ∙ e ∙ sym (symbol-slots m L x c h f))
    where
      same-letter : x < m → at L' (x + 1) ≡ at L (x + 1)
      same-letter l = S.letters (x + 1) (omega arith)

-- a state whose failure entry is the same has the same failure arrow
pub failure-alike : (m : ℕ) (L L' : List ℕ) (x : State) → failure_entry m L' x ≡ failure_entry m L x
    → read_failure m L' x ≡ read_failure m L x
unfolding read_failure
failure-alike m L L' x e = rw e
