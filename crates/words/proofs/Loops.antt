-- LOOPS OVER A LIST, entry by entry from the first. `Copied D s L i` is what holds before entry i is written where the entries of s are
-- copied over those of D, L being what stands there by then; a loop's proof needs its start, one step and its end. And what zeros are
-- looked up as.
use mathlib.Core.Path.{◌≡◌, refl, ◌∙◌}
use mathlib.Core.List.{List, [], ◌∷◌, ◌++◌}
use Prim.Native.Nat.{ℕ, zero, suc, ◌+◌, ◌≤◌, ◌<◌}
use native.Mathlib.Omega.{arith}
use lib.ListN.{length, set, replicate, length-set}
use lib.Seq.{get_or-set_same, get_or-set_other, ext_get_or}
use borrow.Author.Count.{below_more}
use Rattle.words.specs.Lists.{at}

-- ── Copying ────────────────────────────────────────────────────────────────

pub record Copied (D s L : List ℕ) (i : ℕ) : Type 0 where
  pub size : length L ≡ length D
  pub passed : (k : ℕ) → k < i → at L k ≡ at s k

-- nothing is passed
pub copy_start : (D s : List ℕ) → Copied D s D 0
copy_start D s = record { size = refl; passed = λ k h. absurd (omega arith) }

-- one entry more
pub copy_step : {D s L : List ℕ} {i v : ℕ} → Copied D s L i → i < length D → v ≡ at s i → Copied D s (set L i v) (i + 1)
copy_step {D} {s} {L} {i} {v} C h e = record { size = simp length-set C.size; passed = below_more _ i before (here ∙ e) }
  where
    here : at (set L i v) i ≡ v
    here = get_or-set_same L i v 0 (omega (arith, C.size))

    before : (k : ℕ) → k < i → at (set L i v) k ≡ at s k
    before k l = get_or-set_other L i k v 0 (λ q. omega arith) ∙ C.passed k l

-- all are passed
pub copy_end : {D s L : List ℕ} {i : ℕ} → Copied D s L i → length D ≡ length s → length D ≤ i → L ≡ s
copy_end {D} {s} {L} C e h = ext_get_or 0 L s (C.size ∙ e) (λ k l. C.passed k (omega (arith, C.size)))

-- ── Zeros ──────────────────────────────────────────────────────────────────

-- a list of zeros has no other entry
pub zeros-at : (n i : ℕ) → at (replicate n 0) i ≡ 0
zeros-at zero i = refl
zeros-at (suc n) zero = refl
zeros-at (suc n) (suc i) = zeros-at n i

-- zeros behind a list change no entry: what is not there is looked up as 0
pub padded : (l : List ℕ) (n i : ℕ) → at (l ++ replicate n 0) i ≡ at l i
padded [] n i = zeros-at n i
padded (a ∷ l) n zero = refl
padded (a ∷ l) n (suc i) = padded l n i
