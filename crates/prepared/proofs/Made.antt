-- The arrays that are prepared, as they are made.
use mathlib.Core.Path.{◌≡◌}
use Prim.Native.Nat.{ℕ, ◌<◌}
use lib.ListN.{length, replicate, length-replicate, get_or-replicate}
use Rattle.words.specs.Lists.{at}
use Rattle.words.proofs.Loops.{zeros-at}
use Rattle.prepared.specs.Filling.{Zeros, Empty}

pub zeros-made : (n : ℕ) → Zeros n (replicate n 0)
zeros-made n = record { size = length-replicate {A = ℕ} n 0; zeros = zeros-at n }

made-empty : (n v : ℕ) → (length (replicate n v) ≡ n) × ((i : ℕ) → i < n → at (replicate n v) i ≡ v)
made-empty n v = (length-replicate {A = ℕ} n v, λ i h. get_or-replicate n i v 0 h)

pub empty-made : Empty (replicate 16384 65535)
empty-made = let made = made-empty 16384 65535 in record { size = made.0; untold = made.1 }
