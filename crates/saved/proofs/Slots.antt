-- THE STEPS OF A WORD AND ITS TABLE, slot by slot: how many steps there are, where the table has the source and the target of each, and the
-- step that these make. A slot belongs to the last state whose arrows start at or before it.
use mathlib.Core.Path.{◌≡◌, refl, sym, ap, ◌∙◌}
use mathlib.Core.List.{List, [], ◌∷◌}
use Prim.Native.Nat.{ℕ, suc, ◌+◌, ◌*◌, ◌-◌, ◌≤◌, ◌<◌}
use native.Mathlib.Decide.{ℕ_discrete}
use native.Mathlib.Numerals.{add-one}
use native.Mathlib.Omega.{arith}
use lib.ListN.{length, drop, drop_of_length-le}
use lib.Seq.{drop-cons}
use Rattle.words.specs.Lists.{at}
use Rattle.words.specs.Words.{Word}
use Rattle.oracle.specs.Arrows.{State}
use Rattle.oracle.specs.SuffixRule.{oracle}
use Rattle.oracle.specs.FileOrder.{targets_before, Extra, extra, file_arrows}
use Rattle.oracle.proofs.FileOrder.{before_last, extras_length, SlotOf, slot-arrow, slot_target_lem, oracle_extras_fit}
use Rattle.table.specs.Table.{table_of}
use Rattle.table.proofs.Rows.{row_2, row_3}
use Rattle.table.proofs.Theorems.{table-size}
use Rattle.saved.specs.File.{steps_from, own_steps}
use Rattle.saved.specs.Stepping.{Tabled, steps_ahead, Standing, Leapt}

-- ── How many ───────────────────────────────────────────────────────────────

-- a step for each arrow
pub steps-length : (s : State) (l : List Extra) → length (steps_from s l) ≡ length l
unfolding steps_from
steps-length s [] = refl
steps-length s (a ∷ l) = ap suc (steps-length a.source l)

module _ (p : Word) where
  -- and for each target
  pub own-count : length (own_steps p) ≡ length (targets_before (oracle p) p (length p))
  unfolding own_steps file_arrows
  own-count = steps-length 0 (file_arrows p) ∙ extras_length (oracle p) p (length p)

  -- at most m - 1
  pub own-few : length (own_steps p) ≤ length p - 1
  own-few = omega (arith, own-count, oracle_extras_fit p (length p))

  -- none is ahead behind the last
  pub none_ahead : (x : State) (s : ℕ) → length (own_steps p) ≤ s → steps_ahead p x s ≡ []
  unfolding steps_from own_steps
  none_ahead x s h = rw (drop_of_length-le (file_arrows p) {i = s} (omega (arith, steps-length 0 (file_arrows p))))

  -- the way starts before slot 0, at state 0
  pub stand_start : 1 ≤ length p → Standing p 0 0
  unfolding targets_before
  stand_start h = record { behind = omega arith; inside = omega arith }

-- ── Where the table has them ───────────────────────────────────────────────

module _ {p : Word} {L : List ℕ} (T : Tabled p L) where
  abbrev m : ℕ
  m = length p

  -- six rows
  pub tabled_size : length L ≡ 6 * (m + 1)
  tabled_size = ap length T.table ∙ table-size p

  -- row 2 says where the arrows of each state start
  starts-at : (x : State) → x ≤ m → at L (2 * suc m + x) ≡ length (targets_before (oracle p) p x)
  unfolding table_of
  starts-at x h = rw T.table (row_2 p (oracle p) _ x (omega arith))

  -- those of the last state would start behind all
  pub count_at : at L (2 * (m + 1) + m) ≡ length (own_steps p)
  count_at = rw (add-one m) (starts-at m (omega arith)) ∙ sym (own-count p)

  module _ {x : State} {s : ℕ} (S : Standing p x s) (h : s < length (own_steps p)) where
    abbrev next : ℕ
    next = at L (2 * (m + 1) + x + 1)

    abbrev y : State
    y = at L (3 * (m + 1) + s)

    next_start : next ≡ length (targets_before (oracle p) p (suc x))
    next_start = let e : 2 * (m + 1) + x + 1 ≡ 2 * suc m + suc x = omega arith in rw e (starts-at (suc x) S.inside)

    -- the next state's arrows start at or before the slot
    pub stand_next : next ≤ s → Standing p (x + 1) s
    stand_next l = by (ℕ_discrete (suc x) m)
      where
        by : Dec (suc x ≡ m) → Standing p (x + 1) s
        by (yes e) = absurd (omega (arith, next_start, own-count p, ap (λ z. length (targets_before (oracle p) p z)) e))
        by (no e) = rw (add-one x) (record { behind = omega (arith, next_start); inside = omega (arith, S.inside) })

    module _ (l : s < next) where
      own : SlotOf (oracle p) p x s
      own = (S.behind, omega (arith, next_start))

      target_at : y ≡ at (targets_before (oracle p) p m) s
      unfolding table_of
      target_at = rw (T.table, add-one m) (row_3 p (oracle p) _ s (omega (arith, own-few p)) ∙ ap (λ t. at t s) (before_last (oracle p) p))

      -- the target is at least 2 above the source
      pub target-climbs : (x + 2 ≤ y) × (y ≤ m)
      target-climbs = rw target_at (slot_target_lem (oracle p) p own m S.inside)

      -- the step of the slot
      pub leapt : {from : State} → Leapt p from s (record { up = x - from; over = y - x - 2; source = record { 0 = x } })
      unfolding steps_from file_arrows
      leapt {from} = record { next = rw (add-one s, split); stands = record { behind = omega (arith, S.behind); inside = S.inside } }
        where
          split : drop s (file_arrows p) ≡ extra x y ∷ drop (suc s) (file_arrows p)
          split =
              drop-cons (file_arrows p) s (extra x 0) (omega (arith, own-count p, extras_length (oracle p) p m))
              ∙ rw (slot-arrow (oracle p) p own m S.inside, target_at)
