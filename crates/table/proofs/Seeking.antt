-- A LOOKUP IN THE CODE'S ANSWERS: each way out of it, and `Seeking`, what holds before each slot that is looked at.
use mathlib.Core.Path.{◌≡◌, sym, ap, ◌∙◌}
use mathlib.Core.Logic.{◌≢◌}
use mathlib.Core.List.{List}
use Prim.Native.Nat.{ℕ, ◌+◌, ◌*◌, ◌-◌, ◌≤◌, ◌<◌}
use native.Mathlib.Omega.{arith}
use lib.ListN.{length}
use Rattle.words.specs.Lists.{at}
use Rattle.words.specs.Words.{Letter}
use Rattle.words.specs.Answers.{arrow_to}
use Rattle.std.specs.Prelude.{Some, None}
use Rattle.oracle.specs.Arrows.{State}
use Rattle.table.specs.Table.{read_arrow}
use Rattle.table.specs.Formed.{Formed}
use Rattle.table.proofs.Formed.{first_of, arrow-far, arrow-spine, arrow-slots, slots-inside, slot-hit, slot_next, slot_end_lem}

-- the arrow from x on c is to be found in the slots from s to e
pub record Seeking (L : List ℕ) (m : ℕ) (x : State) (c : Letter) (e s : ℕ) : Type 0 where
  pub formed : Formed L m
  pub inside : e ≤ m + 1
  pub same : read_arrow m L x c ≡ first_of L c (3 * (m + 1) + s) (e - s)

-- ── Without a slot ─────────────────────────────────────────────────────────

module _ (L : List ℕ) (m : ℕ) (x : State) (c : Letter) where
  -- no arrow leaves the last state
  pub seek-far : m ≤ x → None ≡ arrow_to (read_arrow m L x c)
  seek-far h = ap arrow_to (sym (arrow-far L m x c h))

  -- the spine's arrow
  pub seek-spine : x < m → at L (x + 1) ≡ c → Some (record { 0 = x + 1 }) ≡ arrow_to (read_arrow m L x c)
  seek-spine h q = ap arrow_to (sym (arrow-spine L m x c h q))

-- ── Slot by slot ───────────────────────────────────────────────────────────

module _ {L : List ℕ} {m : ℕ} {x : State} {c : Letter} where
  -- all slots of the state are ahead
  pub seek-start : Formed L m → x < m → at L (x + 1) ≢ c → Seeking L m x c (at L (2 * (m + 1) + x + 1)) (at L (2 * (m + 1) + x))
  seek-start F h f = record { formed = F; inside = slots-inside F x h; same = arrow-slots L m x c h f }

  module _ {e s : ℕ} (S : Seeking L m x c e s) where
    within : s < e → 3 * (m + 1) + s < length L
    within h = omega (arith, S.inside, S.formed.enough)

    -- it has the letter
    pub seek_hit : s < e → at L (at L (3 * (m + 1) + s)) ≡ c → Some (record { 0 = at L (3 * (m + 1) + s) }) ≡ arrow_to (read_arrow m L x c)
    seek_hit h q = ap arrow_to (sym (S.same ∙ slot-hit L c (3 * (m + 1)) s e h (within h) q))

    -- it has not: the next slot
    pub seek-next : s < e → at L (at L (3 * (m + 1) + s)) ≢ c → Seeking L m x c e (s + 1)
    seek-next h q = record { formed = S.formed; inside = S.inside; same = S.same ∙ slot_next L c (3 * (m + 1)) s e h (within h) q }

    -- no slot is left
    pub seek-end : e ≤ s → None ≡ arrow_to (read_arrow m L x c)
    seek-end h = ap arrow_to (sym (S.same ∙ slot_end_lem L c (3 * (m + 1)) s e h))
