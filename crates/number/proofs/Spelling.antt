-- THE SPELLING of a number, as a relation with a case for a last group and one for a group that another follows. The spelling has it and
-- nothing else does, so that a proof about spellings goes group by group and meets no test.
use mathlib.Core.Path.{◌≡◌, refl}
use mathlib.Core.List.{List, [], ◌∷◌}
use Prim.Native.Nat.{ℕ, zero, suc, ◌+◌, ◌*◌, ◌/◌, ◌%◌, ◌≤◌, ◌<◌}
use native.Mathlib.Decide.{dec_lt}
use native.Mathlib.Omega.{arith}
use lib.ListN.{length}
use borrow.Author.Tests.{lt-ltb, le-ltb}
use Rattle.number.specs.Number.{Bytes, greatest, groups, spell_number}

-- l spells v
pub data Spells : ℕ → List ℕ → Type 0 where
  last : {v : ℕ} → v < 128 → Spells v (v ∷ [])
  follows : {v : ℕ} {l : List ℕ} → 128 ≤ v → Spells (v / 128) l → Spells v ((128 + v % 128) ∷ l)

-- one byte more before it, put as a reader meets it
pub spells-follow : {b u : ℕ} {l : List ℕ} → 128 ≤ b → b < 256 → 0 < u → Spells u l → Spells (b % 128 + 128 * u) (b ∷ l)
spells-follow {b} {u} {l} h g z s =
    let high : (b % 128 + 128 * u) / 128 ≡ u = omega arith in
    let low : 128 + (b % 128 + 128 * u) % 128 ≡ b = omega arith in
    rw low at (follows {v = b % 128 + 128 * u} {l = l} (omega arith) (rw high s))

-- the first number that k + 1 groups cannot spell, where the last of them is below 16
unfoldable pub top : ℕ → ℕ
top zero = 16
top (suc k) = 128 * top k

-- at least 16
pub top_least : (k : ℕ) → 16 ≤ top k
unfolding top
top_least zero = omega arith
top_least (suc k) = omega (arith, top_least k)

-- ── The spelling, and no other ─────────────────────────────────────────────

groups-last : (k v : ℕ) → v < 128 → groups k v ≡ v ∷ []
unfolding groups
groups-last zero v h = refl
groups-last (suc k) v h = rw (lt-ltb v 128 h)

groups-follow : (k v : ℕ) → 128 ≤ v → groups (suc k) v ≡ (128 + v % 128) ∷ groups k (v / 128)
unfolding groups
groups-follow k v h = rw (le-ltb v 128 h)

groups-spell : (k v : ℕ) → v < top k → Spells v (groups k v)
unfolding top groups
groups-spell zero v h = last {v = v} (omega arith)
groups-spell (suc k) v h = by (dec_lt v 128) (groups-spell k (v / 128) (omega arith))
  where
    by : Dec (v < 128) → Spells (v / 128) (groups k (v / 128)) → Spells v (groups (suc k) v)
    by (yes g) s = rw (groups-last (suc k) v g) (last g)
    by (no g) s = let b : 128 ≤ v = omega arith in rw (groups-follow k v b) (follows b s)

-- the spelling spells its number
pub spelling-spells : (v : ℕ) → v ≤ greatest → Spells v (spell_number v)
unfolding spell_number top
spelling-spells v h = groups-spell 4 v (omega arith)

-- nothing else does
pub spells_one : {v : ℕ} {l r : List ℕ} → Spells v l → Spells v r → l ≡ r
spells_one (last h) (last g) = refl
spells_one (last h) (follows g s) = absurd (omega arith)
spells_one (follows h s) (last g) = absurd (omega arith)
spells_one (follows h s) (follows g t) = cc (spells_one s t)

-- ── Its bytes and its length ───────────────────────────────────────────────

-- from one to n
abbrev Upto : ℕ → ℕ → Type 0
Upto n size = (1 ≤ size) × (size ≤ n)

-- at least one group, and at most k + 1
pub groups-length : (k v : ℕ) → Upto (suc k) (length (groups k v))
unfolding groups
groups-length zero v = (omega arith, omega arith)
groups-length (suc k) v = by (dec_lt v 128) (groups-length k (v / 128))
  where
    by : Dec (v < 128) → Upto (suc k) (length (groups k (v / 128))) → Upto (suc (suc k)) (length (groups (suc k) v))
    by (yes h) r = rw (groups-last (suc k) v h) (omega arith, omega arith)
    by (no h) r = rw (groups-follow k v (omega arith)) (omega arith, omega arith)

-- what spells is bytes
pub spells-bytes : {v : ℕ} {l : List ℕ} → Spells v l → Bytes l
spells-bytes (last h) zero = omega arith
spells-bytes (last h) (suc i) = omega arith
spells-bytes (follows h s) zero = omega arith
spells-bytes (follows h s) (suc i) = spells-bytes s i

-- at least one
pub spells-some : {v : ℕ} {l : List ℕ} → Spells v l → 1 ≤ length l
spells-some (last h) = omega arith
spells-some (follows h s) = omega arith
