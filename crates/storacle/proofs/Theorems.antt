-- THE THEOREMS on the storacle, for every word, each a sentence about the definitions alone. The proofs are in the other files: arrows are
-- added one by one, each to the first later state (`Stitched`), by them all suffixes are walked (`Suffixes`), each is taken by a factor
-- (`Taken`), and so they are those of the only storacle (`OneStoracle`); a walk as long as the word is the word's (`OnlyWalk`), and they
-- are counted by suffix (`Count`).
use mathlib.Core.Path.{◌≡◌, refl, sym, ◌∙◌}
use mathlib.Core.Option.{some}
use mathlib.Core.List.{[], ◌∷◌, Memᴰ}
use Prim.Native.Nat.{ℕ, suc, ◌+◌, ◌-◌, ◌≤◌, ◌<◌}
use native.Mathlib.Omega.{arith}
use lib.ListN.{length, drop, take-append-drop}
use Rattle.words.specs.Words.{Letter, Word, letter, part, Factor}
use Rattle.words.proofs.Words.{part_snoc}
use Rattle.words.proofs.Occurrences.{stands-part, stands-inside}
use Rattle.oracle.specs.Arrows.{State, Arrow, Delta, walk, OneEach}
use Rattle.oracle.proofs.Targets.{target_member}
use Rattle.oracle.proofs.Walks.{walk-append, walk_snoc}
use Rattle.storacle.specs.StoracleRule.{FirstLater, until_walked, storacle_after, storacle_rule, storacle}
use Rattle.storacle.specs.StoracleRule.{GoesOn, IsStoracle, most_arrows}
use Rattle.storacle.proofs.Stitched.{Stitched, stitched-first, stitched_to, stitched-spine, stitched-one_each}
use Rattle.storacle.proofs.Suffixes.{halt_of, AllWalked, all-walked, rule_walks, until_enough}
use Rattle.storacle.proofs.Taken.{after-taken}
use Rattle.storacle.proofs.OneStoracle.{one-storacle}
use Rattle.storacle.proofs.OnlyWalk as OnlyWalk
use Rattle.storacle.proofs.Count as Count

module _ (p : Word) where
  abbrev m : ℕ
  m = length p

  -- ── 1. One suffix more ───────────────────────────────────────────────────

  -- suffix i + 1 is walked to its end with its arrows
  pub suffix-walked : (i : ℕ) → suc i ≤ m → (halt_of p (storacle_after p (suc i)) (suc i)).up_to ≡ m
  unfolding storacle_after
  suffix-walked i b = (rule_walks p i (all-walked p i (omega arith)).stitched b).walked

  -- and a higher bound adds no more
  pub any_bound : (g i : ℕ) → suc i ≤ m → m ≤ g → until_walked g p (suc i) (storacle_after p i) ≡ storacle_after p (suc i)
  unfolding storacle_after
  any_bound g i b h = until_enough p g m (all-walked p i (omega arith)).stitched (suc i) b (omega arith) (omega arith)

  -- ── 2. The arrows ────────────────────────────────────────────────────────

  all-stitched : AllWalked p (storacle_rule p) (m - 1)
  unfolding storacle_rule
  all-stitched = all-walked p (m - 1) (omega arith)

  pub rule-stitched : Stitched p (storacle_rule p)
  rule-stitched = all-stitched.stitched

  -- each leads to the first later state that has its letter
  pub arrows-first : (a : Arrow) → Memᴰ a (storacle_rule p) → FirstLater p a.source a.on a.to
  arrows-first a = stitched-first rule-stitched

  -- one at most leaves a state on a letter
  pub one_each : OneEach (storacle_rule p)
  one_each = stitched-one_each rule-stitched

  -- the spine is among them
  pub spine-kept : (x : State) → x < m → storacle p x (letter p x) ≡ some (suc x)
  spine-kept = stitched-spine rule-stitched

  -- none that no factor takes
  pub arrow-taken : (x y : State) (c : Letter) → storacle p x c ≡ some y → GoesOn p (storacle p) x c
  unfolding storacle_rule
  arrow-taken x y c e = after-taken p (m - 1) (omega arith) _ (target_member (storacle_rule p) x c y e)

  -- m to m(m+1)/2 of them
  pub arrows_least : m ≤ length (storacle_rule p)
  unfolding storacle_rule
  arrows_least = Count.after_least p (m - 1) (omega arith)

  pub arrows_most : length (storacle_rule p) ≤ most_arrows m
  arrows_most = Count.arrows_most p

  -- ── 3. Walks ─────────────────────────────────────────────────────────────

  part-walked : (i n : ℕ) → i < m → (y : State) × (walk (storacle p) 0 (part p i n) ≡ some y)
  part-walked i n h =
      let r = all-stitched.walked i (omega arith) in
      let w = walk-append (storacle p) (part p i n) (drop n (drop i p)) 0 r.0 (rw (take-append-drop n (drop i p)) r.1) in
      (w.0, w.1)

  pub factor_walked : (v : Word) → Factor v p → (y : State) × (walk (storacle p) 0 v ≡ some y)
  unfolding walk
  factor_walked [] f = (0, refl)
  factor_walked (c ∷ v) f =
      let s = f.0 in
      let inside = stands-inside (c ∷ v) p s (omega arith) f.1 in
      rw (stands-part (c ∷ v) p s f.1) at (part-walked s (length (c ∷ v)) (omega arith))

  -- so where a factor that is walked to x goes on with c, x has an arrow on c
  pub arrow-there : (x : State) (c : Letter) → GoesOn p (storacle p) x c → (y : State) × (storacle p x c ≡ some y)
  arrow-there x c G =
      let s = G.start in
      let n = G.count in
      let inside = G.inside in
      let r = part-walked s (suc n) (omega arith) in
      let longer : walk (storacle p) 0 (part p s (suc n)) ≡ storacle p x (letter p (s + n)) =
      rw (part_snoc p s n inside) (walk_snoc (storacle p) (part p s n) (letter p (s + n)) 0 x G.walked) in
      (r.0, rw G.next at (sym longer ∙ r.1))

  -- so the rule makes a storacle, and a word has no other
  pub rule_makes_it : IsStoracle p (storacle p)
  rule_makes_it = record {
    leads-first = stitched_to rule-stitched;
    exactly = λ x c. (λ r. arrow-taken x r.0 c r.1, arrow-there x c);
  }

  pub no_other : (δ : Delta) → IsStoracle p δ → (x : State) (c : Letter) → δ x c ≡ storacle p x c
  no_other δ S = one-storacle p δ (storacle p) S rule_makes_it

  -- walks climb, to no state above m
  climbs : (v : Word) (y : State) → walk (storacle p) 0 v ≡ some y → (length v + 0 ≤ y) × (y ≤ m)
  climbs v y = OnlyWalk.walk-climbs p (storacle p) (stitched_to rule-stitched) v 0 y (omega arith)

  pub word-walked : walk (storacle p) 0 p ≡ some m
  word-walked =
      let r = all-stitched.walked 0 (omega arith) in
      let up = climbs p r.0 r.1 in
      let end : r.0 ≡ m = omega (arith, up.0, up.1) in
      rw end at r.1

  pub only_walk : (v : Word) (y : State) → walk (storacle p) 0 v ≡ some y → length v ≡ m → v ≡ p
  only_walk = OnlyWalk.only_walk p (storacle p) (stitched_to rule-stitched)

  pub no_longer_walk : (v : Word) (y : State) → walk (storacle p) 0 v ≡ some y → length v ≤ m
  no_longer_walk v y e = let up = climbs v y e in omega (arith, up.0, up.1)
