-- WHERE FACTORS LEAD. `reach i n` is the state that the n letters behind the first i are walked to. Every factor is walked, to a state on
-- the chain of its last letter's state; and those states, over all factors that end there, are that chain, none left out. By induction on
-- the letters: `chain-arrow` has an arrow for each, and a factor without its first letter leads to the same state or to its supply.
use mathlib.Core.Path.{◌≡◌, refl, sym, ap, subst, ◌∙◌}
use mathlib.Core.Logic.{inr, ⊎_elim, by_cases}
use mathlib.Core.Option.{Option, none, some, get_or}
use Prim.Native.Nat.{ℕ, zero, suc, ◌+◌, ◌-◌, ◌≤◌, ◌<◌}
use native.Mathlib.Nat.{zero-add, add-zero, add-suc}
use native.Mathlib.Decide.{dec_lt}
use native.Mathlib.Omega.{arith}
use Rattle.words.specs.Words.{Letter}
use Rattle.oracle.specs.Arrows.{State, Delta}
use Rattle.oracle.proofs.Targets.{never}
use Rattle.oracle.proofs.Chain.{On, here, next, Supplied, on_below, on_zero, zero_on, Near, on_near, near_arrow, chain-arrow}

-- 0 where an arrow is missing, which no factor's walk meets
pub reach : (ℕ → Letter) → Delta → ℕ → ℕ → State
reach w δ i zero = 0
reach w δ i (suc n) = get_or (δ (reach w δ i n) (w (i + n))) 0

pub reach_0 : (w : ℕ → Letter) (δ : Delta) (i : ℕ) → reach w δ i 0 ≡ 0
unfolding reach
reach_0 w δ i = refl

pub reach_next : (w : ℕ → Letter) (δ : Delta) (i n : ℕ) {y : State} → δ (reach w δ i n) (w (i + n)) ≡ some y → reach w δ i (suc n) ≡ y
unfolding reach
reach_next w δ i n e = ap (λ o. get_or o 0) e

module _ {m : ℕ} {w : ℕ → Letter} {δ : Delta} {S : State → State} (O : Supplied m w δ S) where
  abbrev to : ℕ → ℕ → State
  to i n = reach w δ i n

  -- ── Every factor is walked ───────────────────────────────────────────────

  one_more : (i n : ℕ) → i + n < m → On S (to i n) (i + n)
      → (δ (to i n) (w (i + n)) ≡ some (to i (suc n))) × On S (to i (suc n)) (suc (i + n))
  one_more i n h r =
      let f = chain-arrow O (w (i + n)) (suc (i + n)) r (O.spine (i + n) h) in
      let e : f.0 ≡ to i (suc n) = sym (reach_next w δ i n f.1) in
      (f.1 ∙ ap {B = Option ℕ} some e, rw e at f.2)

  pub reach_on : (i n : ℕ) → i + n ≤ m → On S (to i n) (i + n)
  unfolding reach
  reach_on i zero h = zero_on O (i + 0) h
  reach_on i (suc n) h = rw (add-suc i n) (one_more i n (omega arith) (reach_on i n (omega arith))).1

  pub reach_arrow : (i n : ℕ) → i + n < m → δ (to i n) (w (i + n)) ≡ some (to i (suc n))
  reach_arrow i n h = (one_more i n h (reach_on i n (omega arith))).0

  pub reach_below : (i n : ℕ) → i + n ≤ m → to i n ≤ i + n
  reach_below i n h = on_below O h (reach_on i n h)

  -- ── On the spine ─────────────────────────────────────────────────────────

  -- once there, always there
  pub stays_on_spine : (i n d : ℕ) → to i n ≡ i + n → i + (n + d) ≤ m → to i (n + d) ≡ i + (n + d)
  stays_on_spine i n zero e h = rw (add-zero n) e
  stays_on_spine i n (suc d) e h =
      let g = stays_on_spine i n d e (omega arith) in
      rw (add-suc n d) (reach_next w δ i (n + d) {y = i + suc (n + d)} (rw (g, add-suc i (n + d)) (O.spine (i + (n + d)) (omega arith))))

  pub reach_spine : (n : ℕ) → n ≤ m → to 0 n ≡ n
  unfolding reach
  reach_spine n h = rw (zero-add n, zero-add n) at (stays_on_spine 0 0 n (omega arith) (omega arith))

  -- ── A factor without its first letters ───────────────────────────────────

  pub reach_near : (i n : ℕ) → i + suc n ≤ m → Near O (to (suc i) n) (to i (suc n))
  unfolding reach
  reach_near i zero h = inr (sym (O.bottom (w (i + 0)) (to i 1) (reach_arrow i 0 (omega arith))))
  reach_near i (suc n) h =
      let near = reach_near i n (omega arith) in
      let step = reach_arrow i (suc n) (omega arith) in
      by (near_arrow O (to i (suc n)) (to (suc i) n) (w (i + suc n)) (to i (suc (suc n))) near step)
    where
      by : (y : State) × (δ (to (suc i) n) (w (i + suc n)) ≡ some y) × Near O y (to i (suc (suc n)))
          → Near O (to (suc i) (suc n)) (to i (suc (suc n)))
      by t = let e : i + suc n ≡ suc i + n = omega arith in rw (reach_next w δ (suc i) n (rw e at t.1)) t.2

  pub reach_chain : (d i n : ℕ) → i + (d + n) ≤ m → On S (to (i + d) n) (to i (d + n))
  reach_chain zero i n h = rw (add-zero i, zero-add n) (here refl)
  reach_chain (suc d) i n h =
      let e : i + suc d ≡ suc i + d = omega arith in
      let f : suc d + n ≡ suc (d + n) = omega arith in
      rw (e, f) (on_near O (reach_near i (d + n) (omega arith)) (reach_chain d (suc i) n (omega arith)))

  pub reach_falls : (d i n : ℕ) → i + (d + n) ≤ m → to (i + d) n ≤ to i (d + n)
  reach_falls d i n h = on_below O (omega (arith, reach_below i (d + n) h)) (reach_chain d i n h)

  -- ── No state of a chain is left out ──────────────────────────────────────

  chain_from : (n i : ℕ) → i + n ≤ m → {y : State} → On S y (to i n) → (d : ℕ) × (k : ℕ) × (d + k ≡ n) × (to (i + d) k ≡ y)
  unfolding reach
  chain_from zero i h {y} r = (0, 0, omega arith, sym (on_zero O refl r))
  chain_from (suc n) i h {y} (here e) = (0, suc n, omega arith, subst (λ (j : ℕ). to j (suc n) ≡ y) (sym (add-zero i)) (sym e))
  chain_from (suc n) i h {y} (next r) =
      let below : On S y (to (suc i) n) = ⊎_elim (λ e. rw e (next r)) (λ e. rw e r) (reach_near i n h) in
      let t = chain_from n (suc i) (omega arith) below in
      let e : i + suc t.0 ≡ suc i + t.0 = omega arith in
      (suc t.0, t.1, omega (arith, t.2), rw e t.3)

  pub chain_reached : (k : State) → k ≤ m → {y : State} → On S y k → (i : ℕ) × (n : ℕ) × (i + n ≡ k) × (to i n ≡ y)
  chain_reached k h {y} r =
      let t = chain_from k 0 (omega arith) {y = y} (rw (reach_spine k h) r) in
      (t.0, t.1, t.2, rw (zero-add t.0) at t.3)

  -- ── The arrow that a suffix lacks ────────────────────────────────────────

  -- B has the arrows that the suffixes before i use. Where suffix i lacks its arrow in B, that arrow leads onto the spine
  pub lacking-leads_to-spine : (B : Delta) (i : ℕ) → ((j n : ℕ) → j < i → j + n < m → B (to j n) (w (j + n)) ≡ some (to j (suc n)))
      → (n : ℕ) → i + n < m → B (to i n) (w (i + n)) ≡ none → to i (suc n) ≡ i + suc n
  lacking-leads_to-spine B i has n h lacks =
      let v = O.into (to i n) (w (i + n)) (to i (suc n)) (reach_arrow i n h) in
      let t = chain_reached v.z (omega (arith, v.inside)) v.on in
      used v.z v.to v.letter v.inside t.0 t.1 t.2 t.3
    where
      -- the same arrow is used by suffix j behind l letters
      used : (z : State) → to i (suc n) ≡ suc z → w (i + n) ≡ w z → z < m → (j l : ℕ) → j + l ≡ z → to j l ≡ to i n
          → to i (suc n) ≡ i + suc n
      used z to-z same inside j l e at = by_cases (dec_lt j i)
          (λ b. never lacks (rw (at, e, ← same) at (has j l b (omega arith))))
          (λ b.
          let arrow : to j (suc l) ≡ to i (suc n) = reach_next w δ j l (rw (at, e, ← same) (reach_arrow i n h)) in
          let d = j - i in
          let ij : i + d ≡ j = omega arith in
          let low = reach_falls d i (suc l) (omega arith) in
          let high = reach_below i (d + suc l) (omega arith) in
          let top : to i (d + suc l) ≡ i + (d + suc l) = omega (arith, rw ij at low) in
          let rest = suc n - (d + suc l) in
          let short = reach_below i (suc n) (omega arith) in
          let all : d + suc l + rest ≡ suc n = omega arith in
          rw all at (stays_on_spine i (d + suc l) rest top (omega arith)))
