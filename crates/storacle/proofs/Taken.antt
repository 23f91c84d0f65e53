-- EVERY ARROW IS TAKEN BY A FACTOR. The spine's arrow from x is taken by the word's own beginning. An arrow that is added leaves the state
-- in which a suffix halted, to which the letters that it spelled lead, on the letter behind them. Later arrows change no walk. So a state
-- has an arrow on a letter exactly where a factor that is walked to it goes on with that letter.
use mathlib.Core.Path.{◌≡◌, refl, sym, ◌∙◌}
use mathlib.Core.Logic.{◌≢◌, by_cases}
use mathlib.Core.Option.{some}
use mathlib.Core.List.{List, ◌∷◌, Memᴰ}
use Prim.Native.Nat.{ℕ, zero, suc, ◌+◌, ◌-◌, ◌≤◌, ◌<◌}
use native.Mathlib.Nat.{le_refl, zero-add}
use native.Mathlib.Decide.{ℕ_discrete}
use native.Mathlib.Omega.{arith}
use lib.ListN.{length}
use Rattle.words.specs.Words.{Letter, Word, letter, part}
use Rattle.words.proofs.Lists.{option_cases}
use Rattle.words.proofs.Words.{part-cons, part_snoc}
use Rattle.oracle.specs.Arrows.{State, Arrow, Delta, target, walk, spine}
use Rattle.oracle.proofs.Walks.{walk_step, walk_snoc}
use Rattle.oracle.proofs.FileOrder.{spine_member}
use Rattle.failure.proofs.Halts.{Keeps, walk_kept}
use Rattle.storacle.specs.StoracleRule.{GoesOn, stitch, until_walked, storacle_after}
use Rattle.storacle.proofs.Stitched.{Stitched, spine_alone, stitched-spine}
use Rattle.storacle.proofs.Halting.{far_of, far-ends, far-goes, far_stops}
use Rattle.storacle.proofs.Suffixes.{halt_of, suffix_halts, stitch_on, stitch-keeps, until_done, until_more, all-walked}

module _ (p : Word) where
  -- ── The letters of a halted walk ─────────────────────────────────────────

  module _ (δ : Delta) where
    far-onward : (n : ℕ) (x : State) (k : ℕ) → k + n ≡ length p → k ≤ (far_of p δ x k).up_to
    far-onward zero x k e = let q : k ≡ length p = omega arith in rw (far-ends p δ x k q) (omega arith)
    far-onward (suc n) x k e =
        let inside : k < length p = omega arith in
        option_cases (δ x (letter p k))
        (λ d. rw (far_stops p δ x k inside d) (le_refl k))
        (λ y d. rw (far-goes p δ x k inside y d) (omega (arith, far-onward n y (suc k) (omega arith))))

    -- they lead to where it halts
    far-walked : (n : ℕ) (x : State) (k : ℕ) → k + n ≡ length p
        → walk δ x (part p k ((far_of p δ x k).up_to - k)) ≡ some (far_of p δ x k).state
    unfolding walk
    far-walked zero x k e =
        let q : k ≡ length p = omega arith in
        let no_letter : length p - k ≡ 0 = omega arith in
        rw (far-ends p δ x k q, no_letter)
    far-walked (suc n) x k e =
        let inside : k < length p = omega arith in
        option_cases (δ x (letter p k))
        (λ d. let no_letter : k - k ≡ 0 = omega arith in rw (far_stops p δ x k inside d, no_letter))
        (λ y d.
        let u = (far_of p δ y (suc k)).up_to in
        let one : u - k ≡ suc (u - suc k) = omega (arith, far-onward n y (suc k) (omega arith)) in
        let rest = far-walked n y (suc k) (omega arith) in
        rw (far-goes p δ x k inside y d, one, part-cons p k (u - suc k) inside)
        (walk_step δ (letter p k) (part p (suc k) (u - suc k)) x y d ∙ rest))

  -- ── One arrow after the other ────────────────────────────────────────────

  -- every arrow is taken
  abbrev pub AllTaken : List Arrow → Type 0
  AllTaken A = (a : Arrow) → Memᴰ a A → GoesOn p (target A) a.source a.on

  kept : {δ δ' : Delta} → Keeps δ δ' → {x : State} {c : Letter} → GoesOn p δ x c → GoesOn p δ' x c
  kept K {x} G = record {
    start = G.start;
    count = G.count;
    inside = G.inside;
    walked = walk_kept K (part p G.start G.count) 0 x G.walked;
    next = G.next;
  }

  -- the spine's arrow from x is taken by the first x letters
  spine-walk : (x : State) → x ≤ length p → walk (target (spine p)) 0 (part p 0 x) ≡ some x
  unfolding walk
  spine-walk zero h = refl
  spine-walk (suc x) h =
      rw (part_snoc p 0 x (omega arith), zero-add x)
      (walk_snoc (target (spine p)) (part p 0 x) (letter p x) 0 x (spine-walk x (omega arith)) ∙ stitched-spine spine_alone x h)

  spine-taken : AllTaken (spine p)
  spine-taken a i =
      let r = spine_member p i in
      record {
        start = 0;
        count = a.source;
        inside = omega (arith, r.0);
        walked = spine-walk a.source (omega (arith, r.0));
        next = rw (zero-add a.source) (sym r.1);
      }

  module _ {A : List Arrow} (S : Stitched p A) (i : ℕ) (inside : i ≤ length p) (short : (halt_of p A i).up_to ≢ length p) where
    abbrev more : List Arrow
    more = stitch p (halt_of p A i) ∷ A

    abbrev k : ℕ
    k = (halt_of p A i).up_to

    -- that of a halted suffix is taken by what was spelled of it
    own : GoesOn p (target more) (halt_of p A i).state (letter p k)
    own =
        let H = suffix_halts p S i inside in
        let spelled : i + (k - i) ≡ k = omega (arith, H.onward) in
        let to-halt = far-walked (target A) (length p - i) 0 i (omega arith) in
        record {
          start = i;
          count = k - i;
          inside = omega (arith, H.inside);
          walked = walk_kept (stitch-keeps p S i inside short) (part p i (k - i)) 0 _ to-halt;
          next = rw spelled;
        }

    stitch-taken : AllTaken A → AllTaken (stitch p (halt_of p A i) ∷ A)
    stitch-taken T a (Memᴰ.head e) = rw e own
    stitch-taken T a (Memᴰ.tail m) = kept (stitch-keeps p S i inside short) (T a m)

  until_taken : (g : ℕ) {A : List Arrow} → Stitched p A → (i : ℕ) → i ≤ length p → AllTaken A → AllTaken (until_walked g p i A)
  unfolding until_walked
  until_taken zero S i b T = T
  until_taken (suc g) {A} S i b T = by_cases (ℕ_discrete (halt_of p A i).up_to (length p))
      (λ e. rw (until_done p (suc g) A i e) T)
      (λ e. rw (until_more p g A i e) (until_taken g (stitch_on p S i b e) i b (stitch-taken S i b e T)))

  pub after-taken : (i : ℕ) → i ≤ length p → AllTaken (storacle_after p i)
  unfolding storacle_after
  after-taken zero b = spine-taken
  after-taken (suc i) b = until_taken (length p) (all-walked p i (omega arith)).stitched (suc i) b (after-taken i (omega arith))
