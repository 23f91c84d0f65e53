-- THE FILE AND ITS STEPS, spelled: what is still ahead at a slot and behind the last one, and how many bytes a file has at most where the
-- spelling of a number up to m has at most w.
use mathlib.Core.Path.{◌≡◌, refl, ap}
use mathlib.Core.List.{List, [], ◌∷◌, ◌++◌, Memᴰ}
use Prim.Native.Nat.{ℕ, ◌+◌, ◌*◌, ◌-◌, ◌≤◌, ◌<◌}
use native.Mathlib.Nat.{mul-le-mul_left}
use native.Mathlib.Omega.{arith}
use lib.ListN.{length, length-append}
use Rattle.words.specs.Words.{Word}
use Rattle.oracle.specs.Arrows.{State}
use Rattle.oracle.specs.SuffixRule.{oracle}
use Rattle.oracle.specs.FileOrder.{Extra, file_arrows}
use Rattle.oracle.proofs.FileOrder.{extra-target, extra-before}
use Rattle.number.specs.Number.{spell_number}
use Rattle.number.proofs.Theorems.{spelling-length, spelling-single}
use Rattle.saved.specs.File.{edition, steps_from, spell_steps, own_steps, body, spell}
use Rattle.saved.specs.Stepping.{steps_ahead, Leapt}
use Rattle.saved.specs.declared.Leap.{Leap}
use Rattle.saved.proofs.Slots.{own-few, none_ahead}

-- ── Ahead of a slot ────────────────────────────────────────────────────────

-- a step, and what follows it
pub ahead-next : {p : Word} {x : State} {s : ℕ} {r : Leap} → Leapt p x s r
    → spell_steps (steps_ahead p x s) ≡ spell_number r.up ++ (spell_number r.over ++ spell_steps (steps_ahead p r.source.0 (s + 1)))
unfolding spell_steps
ahead-next J = ap spell_steps J.next

-- nothing behind the last
pub ahead-end : (p : Word) (x : State) (s : ℕ) → length (own_steps p) ≤ s → spell_steps (steps_ahead p x s) ≡ []
unfolding spell_steps
ahead-end p x s h = rw (none_ahead p x s h)

-- ── How long a file is ─────────────────────────────────────────────────────

-- the code's constant
pub edition-number : edition ≡ 1
unfolding edition
edition-number = refl

-- the edition takes one byte
pub file-length : (p : Word) → length (spell p)
    ≡ 1 + (length (spell_number (length p)) +
    (length p + (length (spell_number (length (own_steps p))) + length (spell_steps (own_steps p)))))
unfolding spell body
file-length p = rw (edition-number, spelling-single 1 (omega arith)) (simp length-append (omega arith))

module _ {m w : ℕ} (narrow : (v : ℕ) → v ≤ m → length (spell_number v) ≤ w) where
  steps_most : (s : State) (l : List Extra) → ((a : Extra) → Memᴰ a l → (a.source ≤ m) × (a.to ≤ m))
      → length (spell_steps (steps_from s l)) ≤ 2 * w * length (steps_from s l)
  unfolding steps_from spell_steps
  steps_most s [] f = omega arith
  steps_most s (a ∷ l) f =
      let ends = f a (Memᴰ.head refl) in
      let rest = steps_most a.source l (λ b n. f b (Memᴰ.tail n)) in
      let up = narrow (a.source - s) (omega (arith, ends.0)) in
      let over = narrow (a.to - a.source - 2) (omega (arith, ends.1)) in
      simp length-append (omega (arith, rest, up, over))

  -- at most m - 1 steps of two numbers each
  pub file_most : (p : Word) → length p ≡ m → 1 ≤ m → length (spell p) ≤ 1 + m + 2 * w * m
  unfolding own_steps file_arrows
  file_most p e h =
      let few = own-few p in
      let steps : length (spell_steps (own_steps p)) ≤ 2 * w * length (own_steps p) = steps_most 0 (file_arrows p) ends in
      let more : 2 * w * (length (own_steps p) + 1) ≤ 2 * w * m = mul-le-mul_left (2 * w) (omega arith) in
      omega (arith, file-length p, narrow (length p) (omega arith), narrow (length (own_steps p)) (omega arith))
    where
      ends : (a : Extra) → Memᴰ a (file_arrows p) → (a.source ≤ m) × (a.to ≤ m)
      ends a i =
          let r = extra-before (oracle p) p (length p) i in
          (omega (arith, r.0), omega (arith, (extra-target (oracle p) p a.source r.1).1))

-- far below what 64 bits hold
pub file-fits : (p : Word) → 1 ≤ length p → length p < 65535 → length (spell p) < 1000000
file-fits p h b = omega (arith, file_most {w = 5} (λ v _. (spelling-length v).1) p refl h)
