-- LAYING ALL CHAINS OUT, from the last state to the first: `Laying` is what holds before each state. The chains of the states still to come
-- are as they were at entry, and their heads too, since what is written lies in row 3 and in row 2 behind them.
use mathlib.Core.Path.{◌≡◌, sym, ◌∙◌}
use mathlib.Core.Logic.{inl, inr}
use mathlib.Core.List.{List, reverse, reverse-reverse}
use Prim.Native.Nat.{ℕ, suc, ◌+◌, ◌*◌, ◌-◌, ◌≤◌, ◌<◌}
use native.Mathlib.Nat.{le_refl}
use native.Mathlib.Numerals.{add-one}
use native.Mathlib.Decide.{dec_lt, ℕ_discrete}
use native.Mathlib.Omega.{arith}
use lib.ListN.{length, length-reverse}
use Rattle.words.specs.Lists.{at}
use Rattle.oracle.specs.Arrows.{State}
use Rattle.oracle.specs.SuffixRule.{oracle}
use Rattle.oracle.specs.FileOrder.{extra_targets, targets_before}
use Rattle.oracle.proofs.FileOrder.{before-length}
use Rattle.chains.specs.Chains.{Chain}
use Rattle.chains.specs.Letters.{word_in, ChainsOf}
use Rattle.chains.proofs.Pushing.{chain-kept}
use Rattle.table.specs.Layout.{Fits, Moved, Unchained, Laid}
use Rattle.table.proofs.ReadBack.{own-targets}

-- ── What holds before each state ───────────────────────────────────────────

-- the extra targets of the states before k, and those of x, over the word in row 0
abbrev before : List ℕ → ℕ → State → List State
before L m k = targets_before (oracle (word_in L m)) (word_in L m) k

abbrev own : List ℕ → ℕ → State → List State
own L m x = extra_targets (oracle (word_in L m)) (word_in L m) x

-- K is the table so far, L the one at entry; the states from x on are laid out, into row 3 from slot e on
pub record Laying (L : List ℕ) (m : ℕ) (K : List ℕ) (x : State) (e : ℕ) : Type 0 where
  pub size : length K ≡ length L
  pub state : x ≤ suc m
  pub place : length (before L m x) ≡ e
  pub inside : e < suc m
  pub kept : (i : ℕ) → i < 2 * suc m + x → at K i ≡ at L i
  pub slots : (i : ℕ) → 4 * suc m ≤ i → at K i ≡ at L i
  pub starts : (k : State) → x ≤ k → k < suc m → at K (2 * suc m + k) ≡ length (before L m k)
  pub targets : (s : ℕ) → e ≤ s → s < suc m → at K (3 * suc m + s) ≡ at (before L m (suc m)) s

-- ── State by state ─────────────────────────────────────────────────────────

module _ {L : List ℕ} {m u : ℕ} (H : ChainsOf L m L u) where
  abbrev n : ℕ
  n = suc m

  module _ {K : List ℕ} {x : State} {e : ℕ} (Y : Laying L m K (suc x) e) where
    room : length (before L m x) + length (own L m x) ≡ e
    room = sym (before-length (oracle (word_in L m)) (word_in L m) x) ∙ Y.place

    its_slots : (j : ℕ) → 0 < j → j ≤ at L (2 * n + x) → (at K (4 * n + j) ≡ at L (4 * n + j)) × (at K (5 * n + j) ≡ at L (5 * n + j))
    its_slots j p h = (Y.slots (4 * n + j) (omega arith), Y.slots (5 * n + j) (omega arith))

    its_chain : Chain K n (at K (2 * n + x)) (reverse (own L m x))
    its_chain = rw (Y.kept (2 * n + x) (omega arith)) (chain-kept its_slots (le_refl _) (H.targets x Y.state))

    lay_fits : Fits K n x e
    lay_fits = record {
      size = Y.size ∙ H.chained.size;
      targets = reverse (own L m x);
      chain = its_chain;
      fits = omega (arith, room, length-reverse (own L m x));
    }

    lay_step : {K' : List ℕ} {r : ℕ} → Unchained K K' n x e r → Laying L m K' x r
    lay_step {K'} {r} U = by (U.says (reverse (own L m x)) its_chain)
      where
        by : Moved K K' n x e r (reverse (own L m x)) → Laying L m K' x r
        by M = record {
          size = M.size ∙ Y.size;
          state = omega (arith, Y.state);
          place = here;
          inside = omega (arith, M.place, Y.inside);
          kept = λ i h. M.kept i (λ q. omega arith) (inl (omega (arith, Y.state))) ∙ Y.kept i (omega arith);
          slots = λ i h. M.kept i (λ q. omega (arith, Y.state)) (inr (omega (arith, Y.inside))) ∙ Y.slots i h;
          starts = λ k h l. start k h l (ℕ_discrete k x);
          targets = λ s h l. target s h l (dec_lt s e);
        }
          where
            many : length (reverse (own L m x)) ≡ length (own L m x)
            many = length-reverse (own L m x)

            here : length (before L m x) ≡ r
            here = omega (arith, room, many, M.place)

            start : (k : State) → x ≤ k → k < n → Dec (k ≡ x) → at K' (2 * n + k) ≡ length (before L m k)
            start k h l (yes q) = rw q (M.start ∙ sym here)
            start k h l (no q) = M.kept (2 * n + k) (λ z. omega arith) (inl (omega arith)) ∙ Y.starts k (omega arith) l

            target : (s : ℕ) → r ≤ s → s < n → Dec (s < e) → at K' (3 * n + s) ≡ at (before L m n) s
            target s h l (no q) = M.kept (3 * n + s) (λ z. omega (arith, Y.state)) (inr (omega arith)) ∙ Y.targets s (omega arith) l
            target s h l (yes q) =
                let i = s - r in
                let t : r + i ≡ s = omega arith in
                let t' : length (before L m x) + i ≡ s = omega (arith, here) in
                let moved = M.moved i (omega (arith, many, room, here)) in
                let its : at K' (3 * n + s) ≡ at (own L m x) i = rw (t, reverse-reverse (own L m x)) at moved in
                its ∙ sym (rw t' at (own-targets (word_in L m) (oracle (word_in L m)) x n Y.state i (omega (arith, room, here))))

  -- in the code's sums
  module _ {K : List ℕ} {x : State} {e : ℕ} (Y : Laying L m K x e) (p : 0 < x) where
    again : Laying L m K (suc (x - 1)) e
    again = let q : x ≡ suc (x - 1) = omega arith in rw q at Y

    -- the targets of the next state fit before those that are laid out
    pub code_fits : Fits K (m + 1) (x - 1) e
    code_fits = rw (add-one m) (lay_fits again)

    -- it is laid out
    pub code_step : {K' : List ℕ} {r : ℕ} → Unchained K K' (m + 1) (x - 1) e r → Laying L m K' (x - 1) r
    code_step U = lay_step again (rw (add-one m) at U)

  -- all states are laid out
  pub lay_end : {K : List ℕ} {x : State} {e : ℕ} → Laying L m K x e → x ≡ 0 → Laid L m K
  unfolding targets_before
  lay_end {K} {x} {e} Y z = record {
    size = Y.size;
    kept = λ i h. Y.kept i (omega arith);
    starts = λ k h. Y.starts k (omega arith) h;
    targets = λ s h. Y.targets s (omega (arith, none)) h;
  }
    where
      none : e ≡ 0
      none = sym Y.place ∙ rw z
