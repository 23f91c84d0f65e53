-- A LOOKUP in formed rows, in the terms that code has: past the last state, at a letter that is not in the state's set, and at one that is,
-- whose target stands where its word's targets start and behind those of the ones below it.
use mathlib.Core.Path.{◌≡◌, sym, ap, ◌∙◌}
use mathlib.Core.Logic.{by_cases}
use mathlib.Core.Bool.{true, false}
use mathlib.Core.Option.{none, some}
use mathlib.Core.List.{List}
use Prim.Native.Nat.{ℕ, ◌+◌, ◌*◌, ◌/◌, ◌%◌, ◌≤◌, ◌<◌}
use native.Mathlib.Decide.{ℕ_discrete}
use native.Mathlib.Omega.{arith}
use Rattle.words.specs.Lists.{at}
use Rattle.words.specs.Words.{Letter}
use Rattle.oracle.specs.Arrows.{State}
use Rattle.compact.specs.Compact.{arrow_number, bit_at, in_set, how_many, read_compact}
use Rattle.compact.specs.CompactFormed.{CompactFormed}
use Rattle.compact.proofs.Counting.{count-passes}
use Rattle.compact.proofs.Ranking.{word_count}
use Rattle.compact.proofs.ReadBack.{beyond_state, reads-some, reads_none}

module _ {Z L : List ℕ} {m : ℕ} (F : CompactFormed Z L m) (x : State) (c : Letter) (byte : c < 256) where
  -- past the last state, and at it
  pub look_far : m ≤ x → read_compact m Z L x c ≡ none
  look_far h = by_cases (ℕ_discrete m x)
      (λ e. rw (← e) (reads_none m Z L m c (omega arith) byte (F.last c byte)))
      (λ e. beyond_state m Z L x c (omega arith))

  -- not in the set
  pub look_none : x < m → in_set Z x c ≡ false → read_compact m Z L x c ≡ none
  look_none h e = reads_none m Z L x c (omega arith) byte e

  -- the target's place, by its word
  pub look_place : x < m
      → at L (4 * (m + 1) + arrow_number x c / 64) + how_many (bit_at (at Z (arrow_number x c / 64))) (arrow_number x c % 64)
      ≡ at L (4 * (m + 1) + 4 * x) + how_many (in_set Z x) c
  look_place h =
      let k = c / 64 in
      let word : arrow_number x c / 64 ≡ 4 * x + k = omega arith in
      let bit : arrow_number x c % 64 ≡ c % 64 = omega arith in
      let whole : 64 * k + c % 64 ≡ c = omega arith in
      let counted = rw whole at (word_count Z x k (c % 64) (omega arith)) in
      rw (word, bit) (omega (arith, F.starts x (omega arith) k (omega arith), counted))

  module _ (h : x < m) (e : in_set Z x c ≡ true) where
    -- it is within the rows of targets
    pub look_inside : at L (4 * (m + 1) + 4 * x) + how_many (in_set Z x) c < 2 * (m + 1)
    look_inside = omega (arith, count-passes (in_set Z x) c 256 byte e, F.fits x (omega arith))

    -- and the arrow leads to what stands there
    pub look_some : {r : ℕ} → r ≡ at L (4 * (m + 1) + 4 * x) + how_many (in_set Z x) c
        → read_compact m Z L x c ≡ some (at L (8 * (m + 1) + r))
    look_some q = reads-some m Z L x c (omega arith) byte e ∙ ap (λ (i : ℕ). some (at L (8 * (m + 1) + i))) (sym q)

    -- both of what code counts
    pub look_found : {r : ℕ}
        → r ≡ at L (4 * (m + 1) + arrow_number x c / 64) + how_many (bit_at (at Z (arrow_number x c / 64))) (arrow_number x c % 64)
        → (r < 2 * (m + 1)) × (read_compact m Z L x c ≡ some (at L (8 * (m + 1) + r)))
    look_found q = (omega (arith, q, look_place h, look_inside), look_some (q ∙ look_place h))
