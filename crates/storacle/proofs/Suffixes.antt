-- SUFFIX BY SUFFIX. Claim: with the arrows of the suffixes 1 to i, each of the suffixes 0 to i is walked.
--
--   Suffix 0 is the word, and runs on the spine. Where the walk of a suffix halts before the word's end, its state lacks the next letter,
--   and the arrow that is added has it. The walk comes there again, as no arrow was lost, takes the new one, and so spells a letter more at
--   least. So a bound of m arrows for a suffix is enough, any other that is enough gives the same arrows, and a suffix gets at most as many
--   as it has letters.
use mathlib.Core.Path.{◌≡◌, refl, sym, ◌∙◌}
use mathlib.Core.Logic.{◌≢◌, by_cases}
use mathlib.Core.Option.{none, some}
use mathlib.Core.List.{List, ◌∷◌}
use Prim.Native.Nat.{ℕ, zero, suc, ◌+◌, ◌-◌, ◌≤◌, ◌<◌}
use native.Mathlib.Nat.{le_refl}
use native.Mathlib.Decide.{ℕ_discrete}
use native.Mathlib.Omega.{arith}
use lib.ListN.{length, drop}
use borrow.Author.Tests.{eq-eqb, ne_eqb}
use Rattle.words.specs.Words.{Word, letter}
use Rattle.oracle.specs.Arrows.{State, Arrow, target, walk, spine}
use Rattle.oracle.specs.SuffixRule.{Halt}
use Rattle.oracle.proofs.Targets.{target_hit}
use Rattle.failure.proofs.Halts.{Keeps, walk_kept}
use Rattle.storacle.specs.StoracleRule.{FirstLater, first_later, stitch, until_walked, storacle_after}
use Rattle.storacle.proofs.FirstLater.{first_later-found, first_later_least}
use Rattle.storacle.proofs.Stitched.{Stitched, spine_alone, stitched_on, new-keeps, stitched_to, stitched-spine}
use Rattle.storacle.proofs.Halting.{far_of, HaltsAt, far-ends, far-goes, walk_halts, halted_walk}

module _ (p : Word) where
  -- where the walk of suffix i halts
  abbrev pub halt_of : List Arrow → ℕ → Halt
  halt_of A i = far_of p (target A) 0 i

  module _ {A : List Arrow} (S : Stitched p A) (i : ℕ) (inside : i ≤ length p) where
    pub suffix_halts : HaltsAt p (target A) 0 i (halt_of A i)
    suffix_halts = walk_halts p (target A) (stitched_to S) 0 i inside (omega arith)

    -- ── One arrow more ─────────────────────────────────────────────────────

    module _ (short : (halt_of A i).up_to ≢ length p) where
      abbrev j : State
      j = (halt_of A i).state

      abbrev k : ℕ
      k = (halt_of A i).up_to

      abbrev y : State
      y = first_later p j (letter p k)

      abbrev more : List Arrow
      more = stitch p (halt_of A i) ∷ A

      before-end : k < length p
      before-end = omega (arith, suffix_halts.inside)

      leads-first : FirstLater p j (letter p k) y
      leads-first = first_later-found k suffix_halts.low before-end refl

      lacking : target A j (letter p k) ≡ none
      lacking = suffix_halts.lacks before-end

      pub stitch_on : Stitched p more
      stitch_on = stitched_on S leads-first lacking

      pub stitch-keeps : Keeps (target A) (target more)
      stitch-keeps = new-keeps A j (letter p k) y lacking

      -- a letter more at least is spelled
      pub stitch-further : k < (halt_of more i).up_to
      stitch-further =
          let to-halt = suffix_halts.resumes stitch-keeps in
          let beyond = far-goes p (target more) j k before-end y (target_hit A j (letter p k) y) in
          let low = first_later_least leads-first k suffix_halts.low refl in
          let H = walk_halts p (target more) (stitched_to stitch_on) y (suc k) (omega (arith, before-end)) low in
          rw (to-halt ∙ beyond) H.onward

  -- ── While it is not walked ───────────────────────────────────────────────

  -- once it is walked, nothing is added
  pub until_done : (g : ℕ) (A : List Arrow) (i : ℕ) → (halt_of A i).up_to ≡ length p → until_walked g p i A ≡ A
  unfolding until_walked
  until_done zero A i e = refl
  until_done (suc g) A i e = rw (until_walked, eq-eqb (halt_of A i).up_to (length p) e)

  pub until_more : (g : ℕ) (A : List Arrow) (i : ℕ) → (halt_of A i).up_to ≢ length p
      → until_walked (suc g) p i A ≡ until_walked g p i (stitch p (halt_of A i) ∷ A)
  unfolding until_walked
  until_more g A i e = rw (until_walked, ne_eqb (halt_of A i).up_to (length p) e)

  -- whatever the bound, if it allows one arrow
  pub until_next : (g : ℕ) (A : List Arrow) (i : ℕ) → (halt_of A i).up_to ≢ length p → 0 < g
      → until_walked g p i A ≡ until_walked (g - 1) p i (stitch p (halt_of A i) ∷ A)
  until_next zero A i e h = absurd (omega arith)
  until_next (suc g) A i e h = let one : suc g - 1 ≡ g = omega arith in rw one (until_more g A i e)

  -- arrows are only added
  pub until_keeps_all : (g i : ℕ) (A : List Arrow) → length A ≤ length (until_walked g p i A)
  unfolding until_walked
  until_keeps_all zero i A = le_refl _
  until_keeps_all (suc g) i A = by_cases (ℕ_discrete (halt_of A i).up_to (length p))
      (λ e. rw (until_done (suc g) A i e) (le_refl _))
      (λ e. rw (until_more g A i e) (omega (arith, until_keeps_all g i (stitch p (halt_of A i) ∷ A))))

  -- the arrows B are enough for suffix i, keep the arrows A, and are at most as many more as letters were not spelled
  pub record WalkedWith (i : ℕ) (A B : List Arrow) : Type 0 where
    pub stitched : Stitched p B
    pub kept : Keeps (target A) (target B)
    pub walked : (halt_of B i).up_to ≡ length p
    pub few : length B + (halt_of A i).up_to ≤ length A + length p

  pub until_walked_lem : (g : ℕ) {A : List Arrow} → Stitched p A → (i : ℕ) → i ≤ length p → length p ≤ g + (halt_of A i).up_to
      → WalkedWith i A (until_walked g p i A)
  until_walked_lem zero {A} S i b enough =
      let e : (halt_of A i).up_to ≡ length p = omega (arith, (suffix_halts S i b).inside) in
      rw (until_done zero A i e) (record { stitched = S; kept = λ x c y d. d; walked = e; few = omega arith })
  until_walked_lem (suc g) {A} S i b enough = by_cases (ℕ_discrete (halt_of A i).up_to (length p))
      (λ e. rw (until_done (suc g) A i e) (record { stitched = S; kept = λ x c y d. d; walked = e; few = omega arith }))
      (λ e.
      let further = stitch-further S i b e in
      let R = until_walked_lem g (stitch_on S i b e) i b (omega arith) in
      rw (until_more g A i e) (record {
        stitched = R.stitched;
        kept = λ x c y d. R.kept x c y (stitch-keeps S i b e x c y d);
        walked = R.walked;
        few = omega (arith, R.few);
      }))

  -- any bound that is enough gives the same
  pub until_enough : (g g' : ℕ) {A : List Arrow} → Stitched p A → (i : ℕ) → i ≤ length p
      → length p ≤ g + (halt_of A i).up_to → length p ≤ g' + (halt_of A i).up_to → until_walked g p i A ≡ until_walked g' p i A
  until_enough zero g' {A} S i b h h' =
      let e : (halt_of A i).up_to ≡ length p = omega (arith, (suffix_halts S i b).inside) in
      until_done zero A i e ∙ sym (until_done g' A i e)
  until_enough (suc g) zero {A} S i b h h' =
      let e : (halt_of A i).up_to ≡ length p = omega (arith, (suffix_halts S i b).inside) in
      until_done (suc g) A i e ∙ sym (until_done zero A i e)
  until_enough (suc g) (suc g') {A} S i b h h' = by_cases (ℕ_discrete (halt_of A i).up_to (length p))
      (λ e. until_done (suc g) A i e ∙ sym (until_done (suc g') A i e))
      (λ e.
      let further = stitch-further S i b e in
      let same = until_enough g g' (stitch_on S i b e) i b (omega arith) (omega arith) in
      until_more g A i e ∙ same ∙ sym (until_more g' A i e))

  -- ── All suffixes up to one ───────────────────────────────────────────────

  -- the word runs on the spine
  spine_run : {A : List Arrow} → Stitched p A → (n k : ℕ) → k + n ≡ length p → (far_of p (target A) k k).up_to ≡ length p
  spine_run {A} S zero k e = let q : k ≡ length p = omega arith in rw (far-ends p (target A) k k q)
  spine_run {A} S (suc n) k e =
      let inside : k < length p = omega arith in
      rw (far-goes p (target A) k k inside (suc k) (stitched-spine S k inside)) (spine_run S n (suc k) (omega arith))

  -- what holds after the suffixes 1 to i
  pub record AllWalked (A : List Arrow) (i : ℕ) : Type 0 where
    pub stitched : Stitched p A
    pub walked : (j : ℕ) → j ≤ i → (y : State) × (walk (target A) 0 (drop j p) ≡ some y)

  walk_of : (A : List Arrow) (i : ℕ) → i ≤ length p → (halt_of A i).up_to ≡ length p → (y : State) × (walk (target A) 0 (drop i p) ≡ some y)
  walk_of A i b e = ((halt_of A i).state, halted_walk p (target A) (length p - i) 0 i (omega arith) e)

  -- the bound of the rule is enough
  pub rule_walks : (i : ℕ) {A : List Arrow} → Stitched p A → suc i ≤ length p → WalkedWith (suc i) A (until_walked (length p) p (suc i) A)
  rule_walks i S b = until_walked_lem (length p) S (suc i) b (omega arith)

  pub all-walked : (i : ℕ) → i ≤ length p → AllWalked (storacle_after p i) i
  unfolding storacle_after
  all-walked zero b = record {
    stitched = spine_alone;
    walked = λ j h. let q : j ≡ 0 = omega arith in rw q (walk_of (spine p) 0 b (spine_run spine_alone (length p) 0 (omega arith)));
  }
  all-walked (suc i) b =
      let P = all-walked i (omega arith) in
      let R = rule_walks i P.stitched b in
      record {
        stitched = R.stitched;
        walked = λ j h. by_cases (ℕ_discrete j (suc i))
            (λ e. rw e (walk_of _ (suc i) b R.walked))
            (λ e. let r = P.walked j (omega arith) in (r.0, walk_kept R.kept (drop j p) 0 r.0 r.1));
      }
