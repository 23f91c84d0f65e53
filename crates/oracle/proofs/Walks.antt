-- WALKS OF WORDS, as lists: every factor is walked, each letter climbs, and a walk as long as the word is the word's own, since no letter
-- of it may climb by more than 1. All that the search needs of an oracle is here.
use mathlib.Core.Path.{◌≡◌, refl, sym, ap, ◌∙◌}
use mathlib.Core.Option.{Option, some}
use mathlib.Core.List.{[], ◌∷◌, ◌++◌}
use Prim.Native.Nat.{ℕ, zero, suc, ◌+◌, ◌≤◌}
use native.Mathlib.Omega.{arith}
use lib.ListN.{length, drop}
use lib.Seq.{drop-cons, drop-length}
use Rattle.words.specs.Words.{Letter, Word, letter, part}
use Rattle.words.proofs.Lists.{option_cases}
use Rattle.words.proofs.Words.{part_snoc}
use Rattle.oracle.specs.Arrows.{State, Delta, walk}
use Rattle.oracle.proofs.Targets.{never}
use Rattle.oracle.proofs.Chain.{Supplied, arrow_up}
use Rattle.oracle.proofs.Reach.{reach, reach_0, reach_arrow}

-- ── Walks in pieces ────────────────────────────────────────────────────────

module _ (δ : Delta) where
  pub walk_step : (c : Letter) (v : Word) (x y : State) → δ x c ≡ some y → walk δ x (c ∷ v) ≡ walk δ y v
  unfolding walk
  walk_step c v x y e = rw (e, walk)

  -- a walk that gets anywhere takes its first arrow
  pub walk_first : (c : Letter) (v : Word) (x z : State) → walk δ x (c ∷ v) ≡ some z
      → (y : State) × (δ x c ≡ some y) × (walk δ y v ≡ some z)
  unfolding walk
  walk_first c v x z e = option_cases (δ x c) (λ d. never refl (rw (d, walk) at e)) (λ y d. (y, d, rw (d, walk) at e))

  pub walk-append : (u v : Word) (x z : State) → walk δ x (u ++ v) ≡ some z → (y : State) × (walk δ x u ≡ some y) × (walk δ y v ≡ some z)
  unfolding walk
  walk-append [] v x z e = (x, refl, e)
  walk-append (c ∷ u) v x z e =
      let f = walk_first c (u ++ v) x z e in
      let r = walk-append u v f.0 z f.2 in
      (r.0, walk_step c u x f.0 f.1 ∙ r.1, r.2)

  pub walk_snoc : (v : Word) (c : Letter) (x y : State) → walk δ x v ≡ some y → walk δ x (v ++ (c ∷ [])) ≡ δ y c
  unfolding walk
  walk_snoc [] c x y e = let q : x ≡ y = cc in option_cases (δ y c) (λ d. rw (q, d, walk)) (λ z d. rw (q, d, walk))
  walk_snoc (a ∷ v) c x y e = let f = walk_first a v x y e in walk_step a (v ++ (c ∷ [])) x f.0 f.1 ∙ walk_snoc v c f.0 y f.2

module _ (p : Word) {δ : Delta} {S : State → State} (O : Supplied (length p) (letter p) δ S) where
  -- ── Every factor is walked ───────────────────────────────────────────────

  pub factor_walk : (i n : ℕ) → i + n ≤ length p → walk δ 0 (part p i n) ≡ some (reach (letter p) δ i n)
  unfolding walk
  factor_walk i zero h = ap {B = Option State} some (sym (reach_0 (letter p) δ i))
  factor_walk i (suc n) h =
      let before = factor_walk i n (omega arith) in
      rw (part_snoc p i n (omega arith))
      (walk_snoc δ (part p i n) (letter p (i + n)) 0 (reach (letter p) δ i n) before ∙ reach_arrow O i n (omega arith))

  -- ── Each letter climbs ───────────────────────────────────────────────────

  pub walk-climbs : (v : Word) (x y : State) → x ≤ length p → walk δ x v ≡ some y → (length v + x ≤ y) × (y ≤ length p)
  unfolding walk
  walk-climbs [] x y h e = let q : x ≡ y = cc in (omega arith, omega arith)
  walk-climbs (c ∷ v) x y h e =
      let f = walk_first δ c v x y e in
      let u = arrow_up O x c f.0 f.1 in
      let r = walk-climbs v f.0 y u.1 f.2 in
      (omega (arith, u.0, r.0), r.1)

  -- ── The only walk of full length ─────────────────────────────────────────

  -- from state x: a walk of as many letters as are left
  full_walk : (v : Word) (x y : State) → walk δ x v ≡ some y → length v + x ≡ length p → v ≡ drop x p
  full_walk [] x y e q = let f : x ≡ length p = omega arith in rw (f, drop-length p)
  full_walk (c ∷ v) x y e q =
      let f = walk_first δ c v x y e in
      let u = O.into x c f.0 f.1 in
      let a = arrow_up O x c f.0 f.1 in
      let b = walk-climbs v f.0 y a.1 f.2 in
      let next : f.0 ≡ suc x = omega (arith, a.0, b.0, b.1) in
      let at : u.z ≡ x = omega (arith, u.to) in
      let r : v ≡ drop (suc x) p = full_walk v (suc x) y (rw next at f.2) (omega arith) in
      rw (drop-cons p x 0 (omega arith), ← r) (ap {B = Word} (λ d. d ∷ v) (rw at at u.letter))

  pub only_walk : (v : Word) (y : State) → walk δ 0 v ≡ some y → length v ≡ length p → v ≡ p
  only_walk v y e q = full_walk v 0 y e (omega arith)
