-- HOW MANY ARROWS. The spine has m. Each suffix gets at most as many as it has letters, m - i for suffix i. These are m + .. + 1 in all,
-- half of m(m+1).
use mathlib.Core.Path.{◌≡◌, refl}
use Prim.Native.Nat.{ℕ, zero, suc, ◌+◌, ◌-◌, ◌*◌, ◌≤◌}
use native.Mathlib.Omega.{arith}
use lib.ListN.{length}
use Rattle.words.specs.Words.{Word}
use Rattle.oracle.proofs.Count.{spine-length}
use Rattle.storacle.specs.StoracleRule.{storacle_after, storacle_rule, most_arrows}
use Rattle.storacle.proofs.Suffixes.{suffix_halts, until_keeps_all, all-walked, rule_walks}

-- k + .. + 1
sum : ℕ → ℕ
sum zero = 0
sum (suc k) = suc k + sum k

twice-sum : (k : ℕ) → sum k + sum k ≡ k * (k + 1)
unfolding sum
twice-sum zero = refl
twice-sum (suc k) = omega (arith, twice-sum k)

sum_less : (k : ℕ) → sum k ≡ k + sum (k - 1)
unfolding sum
sum_less zero = refl
sum_less (suc k) = let e : suc k - 1 ≡ k = omega arith in rw e

module _ (p : Word) where
  abbrev m : ℕ
  m = length p

  after-few : (i : ℕ) → i ≤ m - 1 → length (storacle_after p i) + sum (m - suc i) ≤ sum m
  unfolding storacle_after
  after-few zero b = omega (arith, spine-length p, sum_less m)
  after-few (suc i) b =
      let S = (all-walked p i (omega arith)).stitched in
      let W = rule_walks p i S (omega arith) in
      let H = suffix_halts p S (suc i) (omega arith) in
      let one : (m - suc i) - 1 ≡ m - suc (suc i) = omega arith in
      let less : sum (m - suc i) ≡ (m - suc i) + sum (m - suc (suc i)) = rw one at (sum_less (m - suc i)) in
      omega (arith, after-few i (omega arith), W.few, H.onward, less)

  pub arrows_most : length (storacle_rule p) ≤ most_arrows (length p)
  unfolding storacle_rule most_arrows
  arrows_most = omega (arith, after-few (m - 1) (omega arith), twice-sum m)

  pub after_least : (i : ℕ) → i ≤ m → m ≤ length (storacle_after p i)
  unfolding storacle_after
  after_least zero b = omega (arith, spine-length p)
  after_least (suc i) b =
      omega (arith, after_least i (omega arith), until_keeps_all p m (suc i) (storacle_after p i))
