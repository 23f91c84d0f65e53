-- LETTERS ADDED TO LISTS OF TARGETS, with no table in sight: T x is the list of the targets of x's extra arrows, newest first. One letter
-- more puts its state before the targets of each source; the arrows then have the record again, and each list stays the state's extra
-- arrows from the last to the first.
use mathlib.Core.Path.{◌≡◌, refl, sym, ap, ◌∙◌}
use mathlib.Core.Bool.{Bool, true, false}
use mathlib.Core.Logic.{◌⊎◌, inl, inr, ◌≢◌}
use mathlib.Core.Option.{Option, none, some}
use mathlib.Core.List.{List, [], ◌∷◌, ◌++◌, append-nil, reverse, reverse-cons, Memᴰ}
use Prim.Native.Nat.{ℕ, suc, ◌+◌, ◌-◌, ◌≤◌, ◌<◌}
use native.Mathlib.Nat.{le_refl}
use native.Mathlib.Decide.{dec_lt, ℕ_discrete}
use native.Mathlib.Omega.{arith}
use lib.Dec.{eqb}
use borrow.Author.Tests.{eq-eqb, ne_eqb, eqb-true}
use Rattle.words.specs.Lists.{from, only, first}
use Rattle.words.specs.Words.{Letter}
use Rattle.words.proofs.Lists.{from_snoc, only_yes, only_not, only_append, only_same, first_yes, first_not}
use Rattle.oracle.specs.Arrows.{State, Delta}
use Rattle.oracle.specs.FileOrder.{leads_to}
use Rattle.oracle.proofs.Targets.{never}
use Rattle.oracle.proofs.Chain.{Supplied, arrow_up}
use Rattle.oracle.proofs.Grow.{Climb, source_free, arrow_stays, arrow_was, grown}
use Rattle.chains.specs.Chains.{look_in}
use Rattle.chains.proofs.Looking.{look_far, look_spine, look_chain}

abbrev pub Targets : Type 0
Targets = State → List State

-- the arrows of T over t letters, a y being the letter of state y
abbrev pub arrows_of : (State → Letter) → ℕ → Targets → Delta
arrows_of a t T x c = look_in a t (T x) x c

-- the extra arrows of x that lead up to t, rising
abbrev pub extras_up_to : (State → Letter) → Delta → State → ℕ → List State
extras_up_to a δ x t = only (λ y. leads_to (δ x (a y)) y) (from (suc (suc x)) (t - suc x))

-- x is one of xs and has y as its newest target, or is none of them and has no new one
abbrev pub Gets : Targets → Targets → List State → State → State → Type 0
Gets T T' xs y x = (Memᴰ x xs × (T' x ≡ y ∷ T x)) ⊎ ((Memᴰ x xs → ⊥) × (T' x ≡ T x))

-- ── Tests that agree ───────────────────────────────────────────────────────

leads-true : {o : Option State} {y : State} → o ≡ some y → leads_to o y ≡ true
unfolding leads_to
leads-true {o} {y} e = rw (e, leads_to) (eq-eqb y y refl)

leads-same : (o o' : Option State) (y : State) → (o ≡ some y → o' ≡ some y) → (o' ≡ some y → o ≡ some y) → leads_to o y ≡ leads_to o' y
unfolding leads_to
leads-same o o' y f g = by (leads_to o y) refl (leads_to o' y) refl
  where
    told : (o : Option State) → leads_to o y ≡ true → o ≡ some y
    told none e = let z : ◌≡◌ {A = ℕ} 0 1 = cc in absurd (omega arith)
    told (some z) e = ap {B = Option State} some (eqb-true z y e)

    by : (b : Bool) → leads_to o y ≡ b → (b' : Bool) → leads_to o' y ≡ b' → leads_to o y ≡ leads_to o' y
    by true e true e' = e ∙ sym e'
    by false e false e' = e ∙ sym e'
    by true e false e' = e ∙ sym (leads-true (f (told o e)))
    by false e true e' = leads-true (g (told o' e')) ∙ sym e'

-- ── One letter ─────────────────────────────────────────────────────────────

module _ (a : State → Letter) {t : State} {T T' : Targets} {S : State → State} {xs : List State} {y : State}
    (O : Supplied t (λ i. a (suc i)) (arrows_of a t T) S) (C : Climb (arrows_of a t T) S (a (suc t)) t (t ∷ xs) y)
    (fresh : (x : State) → t ≤ x → T x ≡ []) (low : (x : State) → Memᴰ x xs → x < t)
    (news : (x : State) → Gets T T' xs (suc t) x) where
  abbrev c : Letter
  c = a (suc t)

  abbrev δ : Delta
  δ = arrows_of a t T

  abbrev δ' : Delta
  δ' = arrows_of a (suc t) T'

  fresh' : (x : State) → t ≤ x → T' x ≡ []
  fresh' x h = by (news x)
    where
      by : Gets T T' xs (suc t) x → T' x ≡ []
      by (inl r) = absurd (omega (arith, low x r.0))
      by (inr r) = r.1 ∙ fresh x h

  -- below t, the spine's test is the same, and the chain has at most a new first target
  old_below : (x : State) (d : Letter) → x < t → (δ' x d ≡ δ x d) ⊎ ((d ≡ c) × Memᴰ x (t ∷ xs))
  old_below x d h = by (ℕ_discrete (a (suc x)) d) (news x) (ℕ_discrete c d)
    where
      P : State → Bool
      P y = eqb (a y) d

      by : Dec (a (suc x) ≡ d) → Gets T T' xs (suc t) x → Dec (c ≡ d) → (δ' x d ≡ δ x d) ⊎ ((d ≡ c) × Memᴰ x (t ∷ xs))
      by (yes e) g f = inl (look_spine a (suc t) (T' x) x d (omega arith) e ∙ sym (look_spine a t (T x) x d h e))
      by (no e) (inl r) (yes f) = inr (sym f, Memᴰ.tail r.0)
      by (no e) (inl r) (no f) =
          inl (look_chain a (suc t) (T' x) x d (omega arith) e
          ∙ ap (first P) r.1
          ∙ first_not P (suc t) (T x) (ne_eqb c d f)
          ∙ sym (look_chain a t (T x) x d h e))
      by (no e) (inr r) f = inl (look_chain a (suc t) (T' x) x d (omega arith) e ∙ ap (first P) r.1 ∙ sym (look_chain a t (T x) x d h e))

  old_at : (d : Letter) → (δ' t d ≡ δ t d) ⊎ ((d ≡ c) × Memᴰ t (t ∷ xs))
  unfolding first
  old_at d = by (ℕ_discrete c d)
    where
      by : Dec (c ≡ d) → (δ' t d ≡ δ t d) ⊎ ((d ≡ c) × Memᴰ t (t ∷ xs))
      by (yes f) = inr (sym f, Memᴰ.head refl)
      by (no f) =
          inl (look_chain a (suc t) (T' t) t d (le_refl _) f
          ∙ ap (first (λ y. eqb (a y) d)) (fresh' t (le_refl t))
          ∙ sym (look_far a t (T t) t d (le_refl t)))

  old_arrows : (x : State) (d : Letter) → (δ' x d ≡ δ x d) ⊎ ((d ≡ c) × Memᴰ x (t ∷ xs))
  old_arrows x d = by (dec_lt x t) (ℕ_discrete x t)
    where
      by : Dec (x < t) → Dec (x ≡ t) → (δ' x d ≡ δ x d) ⊎ ((d ≡ c) × Memᴰ x (t ∷ xs))
      by (yes h) e = old_below x d h
      by (no h) (yes e) = rw e (old_at d)
      by (no h) (no e) = inl (look_far a (suc t) (T' x) x d (omega arith) ∙ sym (look_far a t (T x) x d (omega arith)))

  new-arrows : (x : State) → Memᴰ x (t ∷ xs) → δ' x c ≡ some (suc t)
  new-arrows x (Memᴰ.head e) = rw e (look_spine a (suc t) (T' t) t c (le_refl _) refl)
  new-arrows x (Memᴰ.tail m) = by (news x)
    where
      off_spine : a (suc x) ≢ c
      off_spine e = never (source_free C (Memᴰ.tail m)) (look_spine a t (T x) x c (low x m) e)

      by : Gets T T' xs (suc t) x → δ' x c ≡ some (suc t)
      by (inl r) =
          look_chain a (suc t) (T' x) x c (omega (arith, low x m)) off_spine
          ∙ ap (first (λ y. eqb (a y) c)) r.1
          ∙ first_yes (λ y. eqb (a y) c) (suc t) (T x) (eq-eqb c c refl)
      by (inr r) = absurd (r.0 m)

  module _ {S' : State → State} (kept : (x : State) → x ≤ t → S' x ≡ S x) (given : S' (suc t) ≡ y) where
    pub letter-supplied : Supplied (suc t) (λ i. a (suc i)) δ' S'
    letter-supplied = grown O C old_arrows new-arrows kept given

    -- ── The lists stay in order ────────────────────────────────────────────

    -- no test of a state up to t changes
    tests_same : (x z : State) → z ≤ t → leads_to (δ' x (a z)) z ≡ leads_to (δ x (a z)) z
    tests_same x z h =
        leads-same (δ' x (a z)) (δ x (a z)) z
        (λ e. by (arrow_was O C old_arrows new-arrows kept given x (a z) z e))
        (arrow_stays O C old_arrows new-arrows kept given x (a z) z)
      where
        by : {M : Type 0} → (δ x (a z) ≡ some z) ⊎ ((a z ≡ c) × (z ≡ suc t) × M) → δ x (a z) ≡ some z
        by (inl e) = e
        by (inr r) = absurd (omega (arith, r.1))

    -- and t + 1 passes for the sources alone
    passes : (x : State) → Memᴰ x xs → leads_to (δ' x c) (suc t) ≡ true
    passes x m = leads-true (new-arrows x (Memᴰ.tail m))

    fails : (x : State) → x < t → (Memᴰ x xs → ⊥) → leads_to (δ' x c) (suc t) ≡ false
    unfolding leads_to
    fails x h f =
        leads-same (δ' x c) none (suc t)
        (λ e. absurd (by (arrow_was O C old_arrows new-arrows kept given x c (suc t) e)))
        (λ e. never refl e)
      where
        by : (δ x c ≡ some (suc t)) ⊎ ((c ≡ c) × (suc t ≡ suc t) × Memᴰ x (t ∷ xs)) → ⊥
        by (inl e) = let u = arrow_up O x c (suc t) e in omega (arith, u.1)
        by (inr r) = at r.2
          where
            at : Memᴰ x (t ∷ xs) → ⊥
            at (Memᴰ.head e) = omega arith
            at (Memᴰ.tail m) = f m

    -- what leads up to t + 1: what leads up to t, and t + 1 itself if it passes
    split : (x : State) → x < t → extras_up_to a δ' x (suc t) ≡ extras_up_to a δ x t ++ only (λ z. leads_to (δ' x (a z)) z) (suc t ∷ [])
    split x h =
        let P' : State → Bool = λ z. leads_to (δ' x (a z)) z in
        let n : suc t - suc x ≡ suc (t - suc x) = omega arith in
        let l : suc (suc x) + (t - suc x) ≡ suc t = omega arith in
        let old = only_same P' (λ z. leads_to (δ x (a z)) z) (suc (suc x)) (t - suc x) (λ z l b. tests_same x z (omega arith)) in
        rw (n, from_snoc (suc (suc x)) (t - suc x), l, only_append P' (from (suc (suc x)) (t - suc x)) (suc t ∷ []))
        (ap (λ l. l ++ only P' (suc t ∷ [])) old)

    pub letter-in_order : (x : State) → reverse (T x) ≡ extras_up_to a δ x t → reverse (T' x) ≡ extras_up_to a δ' x (suc t)
    unfolding from only
    letter-in_order x e = by (dec_lt x t) (news x)
      where
        P' : State → Bool
        P' z = leads_to (δ' x (a z)) z

        old : List State
        old = extras_up_to a δ x t

        by : Dec (x < t) → Gets T T' xs (suc t) x → reverse (T' x) ≡ extras_up_to a δ' x (suc t)
        by (yes h) (inl r) = ap (λ (l : List State). reverse l) r.1 ∙ reverse-cons (suc t) (T x) ∙ ap (λ l. l ++ (suc t ∷ [])) e
            ∙ sym (split x h ∙ ap (λ l. old ++ l) (only_yes P' (suc t) [] (passes x r.0)))
        by (yes h) (inr r) =
            ap (λ (l : List State). reverse l) r.1 ∙ e
            ∙ sym (split x h ∙ ap (λ l. old ++ l) (only_not P' (suc t) [] (fails x h r.0)) ∙ append-nil old)
        by (no h) g = let n : suc t - suc x ≡ 0 = omega arith in rw (n, fresh' x (omega arith))
