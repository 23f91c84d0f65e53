-- WHAT HOLDS OF AN ORACLE, as one record over its arrows δ and its supplies S, and the chain of supplies that everything else runs along.
-- The record says nothing of how arrows are stored or added: the letter-by-letter rule has it, and whatever has it has the suffix rule's
-- arrows. Here S is a function with S 0 = 0; that state 0 has no supply is said where supplies are answers. Laws of a chain go along it.
use mathlib.Core.Path.{◌≡◌, refl, sym, ap, ◌∙◌}
use mathlib.Core.Logic.{◌⊎◌, inl, inr, ⊎_elim, ◌≢◌, by_cases}
use mathlib.Core.Option.{Option, none, some}
use Prim.Native.Nat.{ℕ, zero, suc, ◌-◌, ◌≤◌, ◌<◌}
use native.Mathlib.Decide.{dec_lt}
use native.Mathlib.Omega.{arith}
use Rattle.words.specs.Words.{Letter}
use Rattle.words.proofs.Lists.{none_where}
use Rattle.oracle.specs.Arrows.{State, Delta}

-- y stands on the chain x, S x, S (S x), ..
pub data On (S : State → State) (y : State) : State → Type 0 where
  here : {x : State} → y ≡ x → On S y x
  next : {x : State} → On S y (S x) → On S y x

-- an arrow from x on c into y: y is z + 1, c is the letter between z and z + 1, and x is on z's chain
pub record Into (m : ℕ) (w : ℕ → Letter) (S : State → State) (x : State) (c : Letter) (y : State) : Type 0 where
  pub z : State
  pub to : y ≡ suc z
  pub letter : c ≡ w z
  pub inside : z < m
  pub on : On S x z

-- the arrows δ over the first m letters of w, with supplies S. The last two fields tie them together: an arrow of x on c is
-- answered by one of S x on c, to the same state or to its supply
pub record Supplied (m : ℕ) (w : ℕ → Letter) (δ : Delta) (S : State → State) : Type 0 where
  pub spine : (i : State) → i < m → δ i (w i) ≡ some (suc i)
  pub into : (x : State) (c : Letter) (y : State) → δ x c ≡ some y → Into m w S x c y
  pub base : S 0 ≡ 0
  pub down : (x : State) → x < m → S (suc x) ≤ x
  pub answers : (x : State) (c : Letter) (y : State) → δ x c ≡ some y → (δ (S x) c ≡ some y) ⊎ (δ (S x) c ≡ some (S y))
  pub bottom : (c : Letter) (y : State) → δ 0 c ≡ some y → S y ≡ 0

module _ {m : ℕ} {w : ℕ → Letter} {δ : Delta} {S : State → State} (O : Supplied m w δ S) where
  -- ── Chains fall to 0 ─────────────────────────────────────────────────────

  pub supply_below : (x : State) → x ≤ m → S x ≤ x - 1
  supply_below zero h = omega (arith, O.base)
  supply_below (suc x) h = omega (arith, O.down x h)

  pub on_below : {y x : State} → x ≤ m → On S y x → y ≤ x
  on_below h (here e) = omega arith
  on_below h (next {x = x} r) = omega (arith, supply_below x h, on_below (omega (arith, supply_below x h)) r)

  pub on_zero : {y x : State} → x ≡ 0 → On S y x → y ≡ 0
  on_zero h (here e) = e ∙ h
  on_zero h (next r) = on_zero (ap S h ∙ O.base) r

  -- the first number only bounds the chain
  zero_on_within : (n x : State) → x ≤ n → x ≤ m → On S 0 x
  zero_on_within zero x h b = let e : 0 ≡ x = omega arith in here e
  zero_on_within (suc n) x h b = let d = supply_below x b in next (zero_on_within n (S x) (omega arith) (omega arith))

  pub zero_on : (x : State) → x ≤ m → On S 0 x
  zero_on x b = zero_on_within x x (omega arith) b

  -- an arrow leaves its state upwards
  pub arrow_up : (x : State) (c : Letter) (y : State) → δ x c ≡ some y → (x < y) × (y ≤ m)
  arrow_up x c y e =
      let v = O.into x c y e in
      let b = on_below (omega (arith, v.inside)) v.on in
      (omega (arith, v.to), omega (arith, v.to, v.inside))

  -- ── One step of a chain ──────────────────────────────────────────────────

  abbrev pub Near : State → State → Type 0
  Near y x = (y ≡ x) ⊎ (y ≡ S x)

  pub on_near : {z y x : State} → Near y x → On S z y → On S z x
  on_near (inl e) r = rw e at r
  on_near (inr e) r = next (rw e at r)

  -- what an arrow of x leads to, its neighbour on the chain leads to or to the supply of that
  pub near_arrow : (x y : State) (c : Letter) (x' : State) → Near y x → δ x c ≡ some x' → (y' : State) × (δ y c ≡ some y') × Near y' x'
  near_arrow x y c x' (inl e) d = (x', rw e d, inl refl)
  near_arrow x y c x' (inr e) d = rw e (⊎_elim (λ h. (x', h, inl refl)) (λ h. (S x', h, inr refl)) (O.answers x c x' d))

  -- and so for every state further down the chain
  pub chain-arrow : {y x : State} (c : Letter) (x' : State) → On S y x → δ x c ≡ some x' → (y' : State) × (δ y c ≡ some y') × On S y' x'
  chain-arrow {y} c x' (here e) d = (x', rw e d, here refl)
  chain-arrow {y} c x' (next {x = x} r) d =
      let t = near_arrow x (S x) c x' (inr refl) d in
      let r' = chain-arrow c t.0 r t.1 in
      (r'.0, r'.1, on_near t.2 r'.2)

  -- ── The arrows of state 0 ────────────────────────────────────────────────

  -- on a letter they lead to the first state that has it
  pub zero-first : (z : State) → z < m → ((i : State) → i < z → w i ≢ w z) → δ 0 (w z) ≡ some (suc z)
  zero-first z h new =
      let r = chain-arrow (w z) (suc z) (zero_on z (omega arith)) (O.spine z h) in
      let v = O.into 0 (w z) r.0 r.1 in
      let low = on_below h r.2 in
      by_cases (dec_lt v.z z)
      (λ l. absurd (new v.z l (sym v.letter)))
      (λ l. let e : r.0 ≡ suc z = omega (arith, v.to) in r.1 ∙ ap {B = Option State} some e)

  -- and there is none on a letter that no state has
  pub zero-none : (c : Letter) → ((i : State) → i < m → w i ≢ c) → δ 0 c ≡ none
  zero-none c new = none_where (δ 0 c) (λ y e. let v = O.into 0 c y e in new v.z v.inside (sym v.letter))
