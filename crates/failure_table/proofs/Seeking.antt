-- A LOOKUP IN CODE: `Seeking` is what holds before each slot that is looked at, namely that the slots from it on have the arrow if there is
-- one. Slots lead to older ones, so the bound of the reading rule is enough at each of them.
use mathlib.Core.Path.{◌≡◌, sym, ap, ◌∙◌}
use mathlib.Core.Logic.{◌≢◌}
use mathlib.Core.List.{List}
use Prim.Native.Nat.{ℕ, suc, ◌+◌, ◌≤◌, ◌<◌}
use native.Mathlib.Omega.{arith}
use Rattle.words.specs.Lists.{at}
use Rattle.words.specs.Words.{Letter}
use Rattle.words.specs.Answers.{arrow_to}
use Rattle.std.specs.Prelude.{Some, None}
use Rattle.oracle.specs.Arrows.{State}
use Rattle.failure_table.specs.FailureTable.{seek, read_symbol}
use Rattle.failure_table.specs.FailureFormed.{FailureFormed}
use Rattle.failure_table.proofs.Lookups.{first_slot, next_slot, slot_target, slot_letter}
use Rattle.failure_table.proofs.Lookups.{seek-none, seek-here, seek-later, symbol-spine, symbol-slots}
use Rattle.failure_table.proofs.Slots.{seek-enough}

-- the arrow from x on c is to be found in the slots from s on
pub record Seeking (L : List ℕ) (m : ℕ) (x : State) (c : Letter) (s : ℕ) : Type 0 where
  pub slot : s ≤ m
  pub same : read_symbol m L x c ≡ seek m L c (suc m) s

module _ {L : List ℕ} {m : ℕ} {x : State} {c : Letter} (F : FailureFormed L m) (state : x ≤ m) where
  -- the spine has the arrow
  pub seek-spine : x < m → at L (x + 1) ≡ c → Some (record { 0 = x + 1 }) ≡ arrow_to (read_symbol m L x c)
  seek-spine h e = ap arrow_to (sym (symbol-spine m L x c state (h, e)))

  -- it has not
  pub seek-start : (x < m → at L (x + 1) ≢ c) → Seeking L m x c (first_slot m L x)
  seek-start f = record { slot = F.firsts x state; same = symbol-slots m L x c state (λ r. f r.0 r.1) }

  module _ {s : ℕ} (S : Seeking L m x c s) where
    -- no slot is left
    pub seek-end : s ≡ 0 → None ≡ arrow_to (read_symbol m L x c)
    seek-end e = ap arrow_to (sym (S.same ∙ seek-none m L c (suc m) s e))

    -- the next slot is an older one
    pub seek-older : s ≢ 0 → next_slot m L s < s
    seek-older f = F.nexts s (omega arith) S.slot

    -- the slot has the arrow
    pub seek_hit : s ≢ 0 → slot_letter m L s ≡ c → Some (record { 0 = slot_target m L s }) ≡ arrow_to (read_symbol m L x c)
    seek_hit f e = ap arrow_to (sym (S.same ∙ seek-here m L c m s f e))

    -- it has not
    pub seek-next : s ≢ 0 → slot_letter m L s ≢ c → Seeking L m x c (next_slot m L s)
    seek-next f e =
        let older = seek-older f in
        let enough = seek-enough m L c F.nexts m (suc m) (next_slot m L s) (omega arith) (omega arith) (omega arith) in
        record { slot = omega arith; same = S.same ∙ seek-later m L c m s f e ∙ enough }
