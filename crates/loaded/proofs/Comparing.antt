-- COMPARING ARROW BY ARROW: what holds before each arrow that code reads. What the file shows there against the word's steps still ahead is
-- what it shows at first against all of them.
use mathlib.Core.Path.{◌≡◌, refl, sym, ◌∙◌}
use mathlib.Core.Bool.{true, false, ◌&&◌, cond}
use mathlib.Core.List.{List}
use Prim.Native.Nat.{ℕ, zero, suc, ◌+◌, ◌-◌, ◌≤◌, ◌<◌}
use native.Mathlib.Omega.{arith}
use lib.ListN.{length}
use lib.Seq.{drop-cons}
use lib.Dec.{eqb}
use Rattle.words.specs.Words.{Word}
use Rattle.oracle.specs.Arrows.{State}
use Rattle.oracle.specs.FileOrder.{extra, file_arrows}
use Rattle.saved.specs.File.{Step, steps_from, own_steps}
use Rattle.saved.specs.Stepping.{steps_ahead, Standing, Leapt}
use Rattle.saved.specs.declared.Leap.{Leap}
use Rattle.saved.proofs.Slots.{steps-length, none_ahead, stand_start}
use Rattle.loaded.specs.Load.{both, neither, two_at, Ending, behind, broken, next_is, later, none_left, taking_two, arrows_at}

-- ── One arrow ──────────────────────────────────────────────────────────────

module _ (s : List ℕ) (i : ℕ) (l : List Step) where
  -- none is declared any more
  arrows-none : (n : ℕ) → n ≤ 0 → arrows_at s i n l ≡ cond (none_left l) (behind i) (broken 10 i)
  unfolding arrows_at
  arrows-none zero h = refl
  arrows-none (suc n) h = absurd (omega arith)

  -- one is
  arrows-some : (n : ℕ) → 0 < n
      → arrows_at s i n l ≡ taking_two (two_at s i) broken (λ a b k. cond (next_is a b l) (arrows_at s k (n - 1) (later l)) (broken 10 i))
  unfolding arrows_at
  arrows-some zero h = absurd (omega arith)
  arrows-some (suc n) h = let e : suc n - 1 ≡ n = omega arith in simp e

module _ (w : Word) (x : State) (slot : ℕ) where
  -- the word has steps ahead
  some-ahead : slot < length (own_steps w) → none_left (steps_ahead w x slot) ≡ false
  unfolding steps_from own_steps
  some-ahead h = simp (drop-cons (file_arrows w) slot (extra 0 0) (omega (arith, steps-length 0 (file_arrows w))))

-- ── All of them ────────────────────────────────────────────────────────────

-- of n declared arrows from place i on, those behind the first `slot` are still to be read, from place j on; so are the word's own, x
-- being the source before
pub record Comparing (w : Word) (s : List ℕ) (i n j slot : ℕ) (x : State) : Type 0 where
  pub same : arrows_at s j (n - slot) (steps_ahead w x slot) ≡ arrows_at s i n (own_steps w)
  pub stands : Standing w x slot

-- nothing is compared
pub compare_start : (w : Word) (s : List ℕ) (i n : ℕ) → 1 ≤ length w → Comparing w s i n i 0 0
unfolding own_steps
compare_start w s i n h = record { same = let e : n - 0 ≡ n = omega arith in rw e; stands = stand_start w h }

module _ {w : Word} {s : List ℕ} {i n j slot : ℕ} {x : State} (C : Comparing w s i n j slot x) where
  abbrev Shown : Ending → Type 0
  Shown v = v ≡ arrows_at s i n (own_steps w)

  shown : {v : Ending} → arrows_at s j (n - slot) (steps_ahead w x slot) ≡ v → Shown v
  shown e = sym e ∙ C.same

  module _ (none : n ≤ slot) where
    -- arrows are missing
    pub shows-missing : slot < length (own_steps w) → Shown (broken 10 j)
    shows-missing h = shown (arrows-none s j _ (n - slot) (omega arith) ∙ simp (some-ahead w x slot h))

    -- none is
    pub shows-behind : length (own_steps w) ≤ slot → Shown (behind j)
    shows-behind all = shown (arrows-none s j _ (n - slot) (omega arith) ∙ simp (none_ahead w x slot all))

  module _ (some : slot < n) where
    -- a number is refused
    pub shows-refused : {e p : ℕ} → neither e p ≡ two_at s j → Shown (broken e p)
    shows-refused r = shown (arrows-some s j _ (n - slot) (omega arith) ∙ simp (sym r))

    module _ {a b k : ℕ} (read : both a b k ≡ two_at s j) where
      turn : arrows_at s j (n - slot) (steps_ahead w x slot)
          ≡ cond (next_is a b (steps_ahead w x slot)) (arrows_at s k (n - (slot + 1)) (later (steps_ahead w x slot))) (broken 10 j)
      turn =
          let e : n - slot - 1 ≡ n - (slot + 1) = omega arith in
          arrows-some s j _ (n - slot) (omega arith) ∙ simp (sym read, e)

      -- the word has no more
      pub shows_too_many : length (own_steps w) ≤ slot → Shown (broken 10 j)
      shows_too_many h = shown (turn ∙ simp (none_ahead w x slot h))

      module _ {r : Leap} (L : Leapt w x slot r) where
        -- the word's own is another
        pub shows_other : eqb a r.up && eqb b r.over ≡ false → Shown (broken 10 j)
        shows_other off = shown (turn ∙ simp (L.next, off))

        -- it is the same
        pub compare_next : eqb a r.up && eqb b r.over ≡ true → Comparing w s i n k (slot + 1) r.source.0
        compare_next on = record { same = sym (turn ∙ simp (L.next, on)) ∙ C.same; stands = L.stands }
