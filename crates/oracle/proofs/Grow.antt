-- ONE LETTER MORE. What 001's figure 4 does along the suffix path, as a relation, and that arrows and supplies changed so have the record
-- again: field by field, an arrow being an old one or one from a source of the climb. Nothing is said here of how arrows are stored, so
-- that the rule's lists and a table's entries are both served.
use mathlib.Core.Path.{◌≡◌, refl, sym, ap, ◌∙◌}
use mathlib.Core.Logic.{◌⊎◌, inl, inr, ⊎_elim, by_cases}
use mathlib.Core.Option.{none, some}
use mathlib.Core.List.{List, [], ◌∷◌, Memᴰ}
use Prim.Native.Nat.{ℕ, suc, ◌≤◌, ◌<◌}
use native.Mathlib.Nat.{le_refl}
use native.Mathlib.Decide.{dec_lt}
use native.Mathlib.Omega.{arith}
use Rattle.words.specs.Words.{Letter}
use Rattle.words.proofs.Lists.{none_where}
use Rattle.oracle.specs.Arrows.{State, Delta}
use Rattle.oracle.proofs.Targets.{never}
use Rattle.oracle.proofs.Chain.{On, here, next, Into, Supplied, supply_below, on_below, arrow_up}

-- ── The climb ──────────────────────────────────────────────────────────────

-- from k on: xs are the states that had no arrow on c, y is the new state's supply
pub data Climb (δ : Delta) (S : State → State) (c : Letter) : State → List State → State → Type 0 where
  stop : {k y : State} → δ k c ≡ some y → Climb δ S c k [] y
  out : {k y : State} → k ≡ 0 → y ≡ 0 → δ k c ≡ none → Climb δ S c k (k ∷ []) y
  go : {k y : State} {xs : List State} → 0 < k → δ k c ≡ none → Climb δ S c (S k) xs y → Climb δ S c k (k ∷ xs) y

module _ {δ : Delta} {S : State → State} {c : Letter} where
  pub source_free : {k y x : State} {xs : List State} → Climb δ S c k xs y → Memᴰ x xs → δ x c ≡ none
  source_free (stop e) m = absurd (elim m [ ])
  source_free (out z y e) (Memᴰ.head q) = rw q e
  source_free (out z y e) (Memᴰ.tail m) = absurd (elim m [ ])
  source_free (go p e r) (Memᴰ.head q) = rw q e
  source_free (go p e r) (Memᴰ.tail m) = source_free r m

  pub source_on : {k y x : State} {xs : List State} → Climb δ S c k xs y → Memᴰ x xs → On S x k
  source_on (stop e) m = absurd (elim m [ ])
  source_on (out z y e) (Memᴰ.head q) = here q
  source_on (out z y e) (Memᴰ.tail m) = absurd (elim m [ ])
  source_on (go p e r) (Memᴰ.head q) = here q
  source_on (go p e r) (Memᴰ.tail m) = next (source_on r m)

  -- the climb starts with a source, or at the arrow that stops it
  starts : {k y : State} {xs : List State} → Climb δ S c k xs y → Memᴰ k xs ⊎ (δ k c ≡ some y)
  starts (stop e) = inr e
  starts (out z y e) = inl (Memᴰ.head refl)
  starts (go p e r) = inl (Memᴰ.head refl)

  -- behind a source comes another, or the arrow that stops the climb
  goes_on : S 0 ≡ 0 → {k y x : State} {xs : List State} → Climb δ S c k xs y → Memᴰ x xs → Memᴰ (S x) xs ⊎ (δ (S x) c ≡ some y)
  goes_on b (stop e) m = absurd (elim m [ ])
  goes_on b (out z y e) (Memᴰ.head q) = inl (Memᴰ.head (ap S (q ∙ z) ∙ b ∙ sym z))
  goes_on b (out z y e) (Memᴰ.tail m) = absurd (elim m [ ])
  goes_on b (go p e r) (Memᴰ.head q) = rw q (⊎_elim (λ m. inl (Memᴰ.tail m)) (λ d. inr d) (starts r))
  goes_on b (go p e r) (Memᴰ.tail m) = ⊎_elim (λ n. inl (Memᴰ.tail n)) (λ d. inr d) (goes_on b r m)

  -- if 0 is a source, the climb ran out
  runs_out : {k y : State} {xs : List State} → Climb δ S c k xs y → Memᴰ 0 xs → y ≡ 0
  runs_out (stop e) m = absurd (elim m [ ])
  runs_out (out z y e) m = y
  runs_out (go p e r) (Memᴰ.head q) = absurd (omega arith)
  runs_out (go p e r) (Memᴰ.tail m) = runs_out r m

  -- the new supply is 0, or where an arrow leads
  lands : {k y : State} {xs : List State} → Climb δ S c k xs y → (y ≡ 0) ⊎ ((x : State) × (δ x c ≡ some y))
  lands (stop {k = k} e) = inr (k, e)
  lands (out z y e) = inl y
  lands (go p e r) = lands r

-- ── What it needs of the states so far ─────────────────────────────────────

-- chains below t are the same under supplies that agree up to t
on_agree : {t : State} (S S' : State → State) → ((x : State) → x ≤ t → S x ≤ x) → ((x : State) → x ≤ t → S' x ≡ S x) → {y x : State}
    → x ≤ t → On S y x → On S' y x
on_agree S S' d a h (here e) = here e
on_agree S S' d a h (next {x = x} r) = next {x = x} (rw (a x h) (on_agree S S' d a (omega (arith, d x h)) r))

module _ {t : State} {w : ℕ → Letter} {δ : Delta} {S : State → State} (O : Supplied t w δ S) where
  -- no arrow leaves the last state
  pub last-free : (c : Letter) → δ t c ≡ none
  last-free c = none_where (δ t c) (λ z e. let u = arrow_up O t c z e in omega (arith, u.0, u.1))

  pub climb-below : {c : Letter} {k y : State} {xs : List State} → Climb δ S c k xs y → y ≤ t
  climb-below {c} {y = y} C = ⊎_elim (λ e. omega arith) (λ r. (arrow_up O r.0 c y r.1).1) (lands C)

-- ── The record again ───────────────────────────────────────────────────────

-- the arrows on w t from the sources to t + 1 are added, nothing else changes, and t + 1 gets the supply y
module _ {t : State} {w : ℕ → Letter} {δ δ' : Delta} {S S' : State → State}
    (O : Supplied t w δ S) {xs : List State} {y : State} (C : Climb δ S (w t) t xs y)
    (old : (x : State) (c : Letter) → (δ' x c ≡ δ x c) ⊎ ((c ≡ w t) × Memᴰ x xs))
    (new : (x : State) → Memᴰ x xs → δ' x (w t) ≡ some (suc t))
    (kept : (x : State) → x ≤ t → S' x ≡ S x) (given : S' (suc t) ≡ y) where
  pub arrow_stays : (x : State) (c : Letter) (z : State) → δ x c ≡ some z → δ' x c ≡ some z
  arrow_stays x c z e = ⊎_elim (λ d. d ∙ e) (λ r. never (source_free C r.1) (rw r.0 at e)) (old x c)

  pub arrow_was : (x : State) (c : Letter) (z : State) → δ' x c ≡ some z → (δ x c ≡ some z) ⊎ ((c ≡ w t) × (z ≡ suc t) × Memᴰ x xs)
  arrow_was x c z e = ⊎_elim (λ d. inl (sym d ∙ e)) (λ r. let n = new x r.1 in inr (r.0, cc r.0, r.1)) (old x c)

  last-source : Memᴰ t xs
  last-source = ⊎_elim (λ m. m) (never (last-free O (w t))) (starts C)

  falls : (x : State) → x ≤ t → S x ≤ x
  falls x h = omega (arith, supply_below O x h)

  grown_spine : (i : State) → i < suc t → δ' i (w i) ≡ some (suc i)
  grown_spine i h = by_cases (dec_lt i t)
      (λ l. arrow_stays i (w i) (suc i) (O.spine i l))
      (λ l. let e : i ≡ t = omega arith in rw e (new t last-source))

  grown_into : (x : State) (c : Letter) (z : State) → δ' x c ≡ some z → Into (suc t) w S' x c z
  grown_into x c z e = ⊎_elim
      (λ d.
      let v = O.into x c z d in
      let on = on_agree S S' falls kept (omega (arith, v.inside)) v.on in
      record { z = v.z; to = v.to; letter = v.letter; inside = omega (arith, v.inside); on = on })
      (λ r.
      let on = on_agree S S' falls kept (le_refl t) (source_on C r.2) in
      record { z = t; to = r.1; letter = r.0; inside = le_refl _; on = on })
      (arrow_was x c z e)

  grown_down : (x : State) → x < suc t → S' (suc x) ≤ x
  grown_down x h = by_cases (dec_lt x t)
      (λ l. omega (arith, kept (suc x) l, O.down x l))
      (λ l. let e : x ≡ t = omega arith in rw e (omega (arith, given, climb-below O C)))

  grown_answers : (x : State) (c : Letter) (z : State) → δ' x c ≡ some z → (δ' (S' x) c ≡ some z) ⊎ (δ' (S' x) c ≡ some (S' z))
  grown_answers x c z e = ⊎_elim
      (λ d.
      let u = arrow_up O x c z d in
      let a = kept x (omega (arith, u.0, u.1)) in
      let b = kept z u.1 in
      ⊎_elim
      (λ q. inl (rw a (arrow_stays (S x) c z q)))
      (λ q. inr (rw (a, b) (arrow_stays (S x) c (S z) q)))
      (O.answers x c z d))
      (λ r.
      let a = kept x (on_below O (le_refl t) (source_on C r.2)) in
      ⊎_elim
      (λ m. inl (rw (a, r.0, r.1) (new (S x) m)))
      (λ q. inr (rw (a, r.0, r.1, given) (arrow_stays (S x) (w t) y q)))
      (goes_on O.base C r.2))
      (arrow_was x c z e)

  grown_bottom : (c : Letter) (z : State) → δ' 0 c ≡ some z → S' z ≡ 0
  grown_bottom c z e = ⊎_elim
      (λ d. kept z (arrow_up O 0 c z d).1 ∙ O.bottom c z d)
      (λ r. rw r.1 (given ∙ runs_out C r.2))
      (arrow_was 0 c z e)

  pub grown : Supplied (suc t) w δ' S'
  grown = record {
    spine = grown_spine;
    into = grown_into;
    base = kept 0 (omega arith) ∙ O.base;
    down = grown_down;
    answers = grown_answers;
    bottom = grown_bottom;
  }
