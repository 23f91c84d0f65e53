-- SPELLING INTO BYTES: what holds before each group that code counts or writes. The bytes still to come spell what is left of the number,
-- so that nothing has to be said of those that stand already.
use mathlib.Core.Path.{◌≡◌, refl, ◌∙◌}
use mathlib.Core.List.{List}
use Prim.Native.Nat.{ℕ, suc, ◌+◌, ◌≤◌, ◌<◌}
use native.Mathlib.Omega.{arith}
use lib.ListN.{length, set}
use lib.Seq.{sets, sets-eq}
use Rattle.number.specs.Number.{greatest, spell_number, written}
use Rattle.number.proofs.Spelling.{Spells, last, follows, spelling-spells, spells-some, groups-length}

-- ── Counting ───────────────────────────────────────────────────────────────

-- the next byte is the n-th, and the rest of them spell what is left
pub record Counting (v left n : ℕ) : Type 0 where
  pub rest : List ℕ
  pub spells : Spells left rest
  pub ahead : n + length rest ≡ suc (length (spell_number v))

-- nothing is counted
pub count-start : (v : ℕ) → v ≤ greatest → Counting v v 1
count-start v h = record { rest = spell_number v; spells = spelling-spells v h; ahead = omega arith }

module _ {v left n : ℕ} (C : Counting v left n) where
  -- at most five
  pub count-few : n ≤ 5
  unfolding spell_number
  count-few = omega (arith, spells-some C.spells, C.ahead, groups-length 4 v)

  -- the last group
  pub count-end : left < 128 → (n ≡ length (spell_number v)) × (n ≤ 5)
  count-end h = by C.spells C.ahead
    where
      by : {l : List ℕ} → Spells left l → n + length l ≡ suc (length (spell_number v)) → (n ≡ length (spell_number v)) × (n ≤ 5)
      by (last g) e = (omega arith, count-few)
      by (follows g s) e = absurd (omega arith)

-- ── Writing ────────────────────────────────────────────────────────────────

-- s, written from place a on, has become t; the next byte goes to place i, and the rest of them make of t what the whole spelling makes
-- of s
pub record Writing (s : List ℕ) (a v : ℕ) (t : List ℕ) (i left : ℕ) : Type 0 where
  pub rest : List ℕ
  pub spells : Spells left rest
  pub ahead : i + length rest ≡ a + length (spell_number v)
  pub still : sets t i rest ≡ sets s a (spell_number v)
  pub size : length t ≡ length s
  pub room : a + length (spell_number v) ≤ length s

-- nothing is written
pub write_start : (s : List ℕ) (a v : ℕ) → v ≤ greatest → a + length (spell_number v) ≤ length s → Writing s a v s a v
write_start s a v h r = record { rest = spell_number v; spells = spelling-spells v h; ahead = refl; still = refl; size = refl; room = r }

module _ {s : List ℕ} {a v : ℕ} {t : List ℕ} {i left : ℕ} (W : Writing s a v t i left) where
  -- the last group
  pub write_end : left < 128 → (i + 1 ≡ a + length (spell_number v)) × (set t i left ≡ written s a v)
  unfolding written
  write_end h = by W.spells W.ahead W.still
    where
      by : {l : List ℕ} → Spells left l → i + length l ≡ a + length (spell_number v) → sets t i l ≡ sets s a (spell_number v)
          → (i + 1 ≡ a + length (spell_number v)) × (set t i left ≡ written s a v)
      by (last g) e q = (e, q ∙ sets-eq (spell_number v) s a W.room)
      by (follows g r) e q = absurd (omega arith)
