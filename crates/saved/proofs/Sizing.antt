-- COUNTING THE BYTES of a file, step by step. What is counted and what the steps ahead take make the whole, so that no sum passes it.
use mathlib.Core.Path.{◌≡◌, ap}
use mathlib.Core.List.{List}
use Prim.Native.Nat.{ℕ, ◌+◌, ◌≤◌, ◌<◌}
use native.Mathlib.Omega.{arith}
use lib.ListN.{length, length-append}
use Rattle.words.specs.Words.{Word}
use Rattle.oracle.specs.Arrows.{State}
use Rattle.number.specs.Number.{spell_number}
use Rattle.number.proofs.Theorems.{spelling-single}
use Rattle.saved.specs.File.{spell_steps, own_steps, spell}
use Rattle.saved.specs.Stepping.{Tabled, steps_ahead, Standing, Leapt}
use Rattle.saved.specs.declared.Leap.{Leap}
use Rattle.saved.proofs.Slots.{stand_start}
use Rattle.saved.proofs.Spelled.{ahead-next, ahead-end, file-length, file-fits}

pub record Sizing (p : Word) (size : ℕ) (x : State) (s : ℕ) : Type 0 where
  pub sum : size + length (spell_steps (steps_ahead p x s)) ≡ length (spell p)
  pub stands : Standing p x s

-- all but the steps
pub size-start : {p : Word} {e a b count : ℕ} → 1 ≤ length p → e ≡ length (spell_number 1) → a ≡ length (spell_number (length p))
    → count ≡ length (own_steps p) → b ≡ length (spell_number count) → Sizing p (e + a + length p + b) 0 0
unfolding own_steps
size-start {p} h e a count b =
    let edition-width = ap length (spelling-single 1 (omega arith)) in
    let count-width = ap (λ n. length (spell_number n)) count in
    record { sum = omega (arith, file-length p, edition-width, count-width); stands = stand_start p h }

module _ {p : Word} {size : ℕ} {x : State} {s : ℕ} (C : Sizing p size x s) where
  -- far from any overflow
  pub size_fits : {L : List ℕ} → Tabled p L → size < 1000000
  size_fits T = omega (arith, C.sum, file-fits p T.least T.most)

  -- one step more
  pub size_step : {r : Leap} {a b : ℕ} → Leapt p x s r → a ≡ length (spell_number r.up) → b ≡ length (spell_number r.over)
      → Sizing p (size + (a + b)) r.source.0 (s + 1)
  size_step J a b = record { sum = omega (arith, C.sum, simp length-append at (ap length (ahead-next J))); stands = J.stands }

  -- all steps
  pub size-end : length (own_steps p) ≤ s → size ≡ length (spell p)
  size-end h = omega (arith, C.sum, ap length (ahead-end p x s h))
