-- PUSHING AN ARROW: which entries it changes, and that it puts the new target before the others of its state and leaves every other chain
-- alone.
use mathlib.Core.Path.{◌≡◌, sym, ◌∙◌}
use mathlib.Core.Logic.{◌≢◌}
use mathlib.Core.List.{List, ◌∷◌}
use Prim.Native.Nat.{ℕ, suc, ◌+◌, ◌*◌, ◌≤◌, ◌<◌}
use native.Mathlib.Decide.{ℕ_discrete}
use native.Mathlib.Omega.{arith}
use lib.ListN.{length, set, length-set}
use lib.Seq.{get_or-set_same, get_or-set_other}
use Rattle.words.specs.Lists.{at}
use Rattle.oracle.specs.Arrows.{State}
use Rattle.chains.specs.Chains.{Chain, ends, links, Chained, pushed}

-- a chain of slots up to u is kept where those slots are
pub chain-kept : {L L' : List ℕ} {n u : ℕ}
    → ((j : ℕ) → 0 < j → j ≤ u → (at L' (4 * n + j) ≡ at L (4 * n + j)) × (at L' (5 * n + j) ≡ at L (5 * n + j)))
    → {j : ℕ} {l : List State} → j ≤ u → Chain L n j l → Chain L' n j l
chain-kept same h (ends e) = ends e
chain-kept {L} {L'} {n} same {j} h (links {l = l} p b y g o r) =
    let s = same j p h in
    links {l = l} p b (y ∙ sym s.1) g (rw s.0 o) (rw s.0 (chain-kept same (omega arith) r))

-- x can get an arrow, in slot u + 1
pub record Pushable (L : List ℕ) (n u : ℕ) (x : State) : Type 0 where
  pub chained : Chained L n
  pub slot : suc u < n
  pub heads : (z : State) → z < n → at L (2 * n + z) ≤ u
  pub source : x < n

module _ {L : List ℕ} {n u : ℕ} {x : State} (P : Pushable L n u x) (y : State) where
  abbrev L₁ : List ℕ
  L₁ = set L (5 * n + suc u) y

  abbrev L₂ : List ℕ
  L₂ = set L₁ (4 * n + suc u) (at L (2 * n + x))

  abbrev L' : List ℕ
  L' = pushed L n u x y

  size₂ : length L₂ ≡ 6 * n
  size₂ = length-set L₁ (4 * n + suc u) _ ∙ length-set L (5 * n + suc u) y ∙ P.chained.size

  pub push_size : length L' ≡ 6 * n
  unfolding pushed
  push_size = length-set L₂ (2 * n + x) (suc u) ∙ size₂

  pub push_elsewhere : (i : ℕ) → i ≢ 2 * n + x → i ≢ 4 * n + suc u → i ≢ 5 * n + suc u → at L' i ≡ at L i
  unfolding pushed
  push_elsewhere i f g h =
      get_or-set_other L₂ (2 * n + x) i (suc u) 0 f
      ∙ get_or-set_other L₁ (4 * n + suc u) i (at L (2 * n + x)) 0 g
      ∙ get_or-set_other L (5 * n + suc u) i y 0 h

  -- letters and supplies are as they were
  pub push_low : (i : ℕ) → i < 2 * n → at L' i ≡ at L i
  push_low i h = push_elsewhere i (omega arith) (omega arith) (omega arith)

  push_head : at L' (2 * n + x) ≡ suc u
  unfolding pushed
  push_head = get_or-set_same L₂ (2 * n + x) (suc u) 0 (omega (arith, size₂))

  push_next : at L' (4 * n + suc u) ≡ at L (2 * n + x)
  unfolding pushed
  push_next = get_or-set_other L₂ (2 * n + x) (4 * n + suc u) (suc u) 0 (omega arith)
      ∙ get_or-set_same L₁ (4 * n + suc u) (at L (2 * n + x)) 0 (omega (arith, length-set L (5 * n + suc u) y, P.chained.size))

  push_target : at L' (5 * n + suc u) ≡ y
  unfolding pushed
  push_target = get_or-set_other L₂ (2 * n + x) (5 * n + suc u) (suc u) 0 (omega arith)
      ∙ get_or-set_other L₁ (4 * n + suc u) (5 * n + suc u) (at L (2 * n + x)) 0 (omega arith)
      ∙ get_or-set_same L (5 * n + suc u) y 0 (omega (arith, P.chained.size))

  kept : {j : ℕ} {l : List State} → j ≤ u → Chain L n j l → Chain L' n j l
  kept = chain-kept (λ j p h. (
    push_elsewhere (4 * n + j) (omega arith) (omega arith) (omega arith),
    push_elsewhere (5 * n + j) (omega arith) (omega arith) (omega arith),
  ))

  other_head : (z : State) → z < n → z ≢ x → at L' (2 * n + z) ≡ at L (2 * n + z)
  other_head z h f = push_elsewhere (2 * n + z) (omega arith) (omega arith) (omega arith)

  -- the state's targets, the new one first
  pub push_chain : {l : List State} → y < n → Chain L n (at L (2 * n + x)) l → Chain L' n (at L' (2 * n + x)) (y ∷ l)
  push_chain {l} g C =
      let p : 0 < suc u = omega arith in
      let o : at L' (4 * n + suc u) < suc u = omega (arith, push_next, P.heads x P.source) in
      rw push_head (links {l = l} p P.slot (sym push_target) g o (rw push_next (kept (P.heads x P.source) C)))

  -- any other state's are as they were
  pub other_chain : {l : List State} (z : State) → z < n → z ≢ x → Chain L n (at L (2 * n + z)) l → Chain L' n (at L' (2 * n + z)) l
  other_chain z h f C = rw (other_head z h f) (kept (P.heads z h) C)

  pub push_heads : (z : State) → z < n → at L' (2 * n + z) ≤ suc u
  push_heads z h = by (ℕ_discrete z x)
    where
      by : Dec (z ≡ x) → at L' (2 * n + z) ≤ suc u
      by (yes e) = rw e (omega (arith, push_head))
      by (no e) = omega (arith, other_head z h e, P.heads z h)

  pub push_chained : y < n → Chained L' n
  push_chained g = record { size = push_size; chain = λ z h. by z h (ℕ_discrete z x) }
    where
      by : (z : State) → z < n → Dec (z ≡ x) → (l : List State) × Chain L' n (at L' (2 * n + z)) l
      by z h (yes e) = let r = P.chained.chain x P.source in (y ∷ r.0, rw e (push_chain g r.1))
      by z h (no e) = let r = P.chained.chain z h in (r.0, other_chain z h e r.1)
