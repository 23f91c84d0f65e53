-- LAYING CHAINS OUT: what becomes of the chains that the letters left, one state at a time and all together. Nothing here is of interest
-- once the table is filled.
--
--   Fits L n x e            the slots of x hold targets, and these fit before slot e of row 3
--   Moved L L' n x e r l    the targets l of x, newest first, stand in row 3 from r to e, oldest first, and r is where x's start
--   Unchained ..            the same, for the targets that the slots of x hold
--   Laid L m L'             all targets stand in row 3 in the file's order, and row 2 says where each state's start
use Rattle.std.specs.Prelude.{◌≡◌, ◌⊎◌, ◌≢◌, List, reverse, ℕ, suc, ◌+◌, ◌*◌, ◌≤◌, ◌<◌, length}
use Rattle.words.specs.Lists.{at}
use Rattle.oracle.specs.Arrows.{State}
use Rattle.oracle.specs.SuffixRule.{oracle}
use Rattle.oracle.specs.FileOrder.{targets_before}
use Rattle.chains.specs.Chains.{Chain}
use Rattle.chains.specs.Letters.{word_in}

pub record Fits (L : List ℕ) (n : ℕ) (x : State) (e : ℕ) : Type 0 where
  pub size : length L ≡ 6 * n
  pub targets : List State
  pub chain : Chain L n (at L (2 * n + x)) targets
  pub fits : length targets ≤ e

pub record Moved (L L' : List ℕ) (n : ℕ) (x : State) (e r : ℕ) (l : List State) : Type 0 where
  pub size : length L' ≡ length L
  pub place : r + length l ≡ e
  pub start : at L' (2 * n + x) ≡ r
  pub moved : (s : ℕ) → s < length l → at L' (3 * n + (r + s)) ≡ at (reverse l) s
  pub kept : (i : ℕ) → i ≢ 2 * n + x → (i < 3 * n + r) ⊎ (3 * n + e ≤ i) → at L' i ≡ at L i

pub record Unchained (L L' : List ℕ) (n : ℕ) (x : State) (e r : ℕ) : Type 0 where
  pub says : (l : List State) → Chain L n (at L (2 * n + x)) l → Moved L L' n x e r l

pub record Laid (L : List ℕ) (m : ℕ) (L' : List ℕ) : Type 0 where
  pub size : length L' ≡ length L
  pub kept : (i : ℕ) → i < 2 * suc m → at L' i ≡ at L i
  pub starts : (k : State) → k < suc m → at L' (2 * suc m + k) ≡ length (targets_before (oracle (word_in L m)) (word_in L m) k)
  pub targets : (s : ℕ) → s < suc m → at L' (3 * suc m + s) ≡ at (targets_before (oracle (word_in L m)) (word_in L m) (suc m)) s
