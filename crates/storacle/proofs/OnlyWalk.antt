-- THE ONLY WALK OF FULL LENGTH. Arrows climb to states, so each letter of a walk climbs by 1 at least, and a walk of m letters climbs by
-- just 1 each time: it is the spine's.
use mathlib.Core.Path.{◌≡◌}
use mathlib.Core.Option.{some}
use mathlib.Core.List.{[], ◌∷◌}
use Prim.Native.Nat.{suc, pred, ◌+◌, ◌≤◌}
use native.Mathlib.Omega.{arith}
use lib.ListN.{length, drop}
use lib.Seq.{drop-cons, drop-length}
use Rattle.words.specs.Words.{Word, letter}
use Rattle.oracle.specs.Arrows.{State, Delta, walk}
use Rattle.oracle.proofs.Walks.{walk_first}
use Rattle.storacle.proofs.Halting.{LeadsFirst}

module _ (p : Word) (δ : Delta) (L : LeadsFirst p δ) where
  pub walk-climbs : (v : Word) (x y : State) → x ≤ length p → walk δ x v ≡ some y → (length v + x ≤ y) × (y ≤ length p)
  unfolding walk
  walk-climbs [] x y h e = let q : x ≡ y = cc in (omega arith, omega arith)
  walk-climbs (c ∷ v) x y h e =
      let f = walk_first δ c v x y e in
      let F = L x c f.0 f.1 in
      let r = walk-climbs v f.0 y F.state f.2 in
      (omega (arith, F.later, r.0), r.1)

  -- from state x: a walk of as many letters as are left
  full_walk : (v : Word) (x y : State) → walk δ x v ≡ some y → length v + x ≡ length p → v ≡ drop x p
  full_walk [] x y e q = let f : x ≡ length p = omega arith in rw (f, drop-length p)
  full_walk (c ∷ v) x y e q =
      let f = walk_first δ c v x y e in
      let F = L x c f.0 f.1 in
      let r = walk-climbs v f.0 y F.state f.2 in
      let next : f.0 ≡ suc x = omega (arith, F.later, r.0, r.1) in
      let own : pred f.0 ≡ x = omega arith in
      let on : letter p x ≡ c = rw own at F.incoming in
      let rest : v ≡ drop (suc x) p = full_walk v (suc x) y (rw next at f.2) (omega arith) in
      rw (drop-cons p x 0 (omega arith), ← rest, on)

  pub only_walk : (v : Word) (y : State) → walk δ 0 v ≡ some y → length v ≡ length p → v ≡ p
  only_walk v y e q = full_walk v 0 y e (omega arith)
