-- FAILURE PATHS WITHOUT A BOUND. Where failure arrows climb and stay below m, m of them are enough for every path. So what becomes of a
-- letter is told by relations that know no bound: it leads somewhere (`Goes`), or no state of the path has it (`Stuck`). Both are tied to
-- `ask` by induction on its bound g, for the states x with m ≤ g + x: each failure arrow takes one from g and adds at least one to x. New
-- arrows change nothing for a letter that went, if none of them is a symbol arrow where a failure arrow was taken (`Extends`).
use mathlib.Core.Path.{◌≡◌, refl, sym, ap, ◌∙◌}
use mathlib.Core.Option.{none, some}
use Prim.Native.Nat.{ℕ, zero, suc, ◌+◌, ◌≤◌, ◌<◌}
use native.Mathlib.Nat.{le_refl}
use native.Mathlib.Omega.{arith}
use Rattle.words.specs.Words.{Letter}
use Rattle.words.proofs.Lists.{option_cases, none_where}
use Rattle.oracle.specs.Arrows.{State, Delta}
use Rattle.oracle.proofs.Targets.{never}
use Rattle.failure.specs.FailureRule.{Fails, Asked, here, further, ask, path_end}
use Rattle.failure.proofs.Halts.{Keeps}

-- the letter c leads from x to y
pub data Goes (δ : Delta) (φ : Fails) (c : Letter) (y : State) : State → Type 0 where
  hit : {x : State} → δ x c ≡ some y → Goes δ φ c y x
  goes_via : {x : State} (z : State) → δ x c ≡ none → φ x ≡ some z → Goes δ φ c y z → Goes δ φ c y x

-- no state of the failure path from x has the letter c, and the path ends in e
pub data Stuck (δ : Delta) (φ : Fails) (c : Letter) (e : State) : State → Type 0 where
  stuck_here : {x : State} → δ x c ≡ none → φ x ≡ none → e ≡ x → Stuck δ φ c e x
  stuck_via : {x : State} (z : State) → δ x c ≡ none → φ x ≡ some z → Stuck δ φ c e z → Stuck δ φ c e x

-- failure arrows climb, and stay below m
abbrev pub Climbing : ℕ → Fails → Type 0
Climbing m φ = (x z : State) → φ x ≡ some z → (x < z) × (z < m)

-- the state that ends the path lacks the letter too, and has no failure arrow
pub stuck-end : {δ : Delta} {φ : Fails} {c : Letter} {e x : State} → Stuck δ φ c e x → (δ e c ≡ none) × (φ e ≡ none)
stuck-end (stuck_here d f q) = (rw q d, rw q f)
stuck-end (stuck_via z d f s) = stuck-end s

-- ── What asking does ───────────────────────────────────────────────────────

module _ (δ : Delta) (φ : Fails) where
  -- a state that has the letter says where it leads
  pub ask-hit : (g : ℕ) (x y : State) (c : Letter) → δ x c ≡ some y → ask δ φ g x c ≡ here x (some y)
  unfolding ask
  ask-hit zero x y c d = rw d
  ask-hit (suc g) x y c d = rw (d, ask)

  -- one that has neither the letter nor a failure arrow says that it leads nowhere
  pub ask-stop : (g : ℕ) (x : State) (c : Letter) → δ x c ≡ none → φ x ≡ none → ask δ φ g x c ≡ here x none
  unfolding ask
  ask-stop zero x c d f = rw d
  ask-stop (suc g) x c d f = rw (d, f, ask)

  -- one that has only a failure arrow hands the letter on
  pub ask_fail : (g : ℕ) (x z : State) (c : Letter) → δ x c ≡ none → φ x ≡ some z → ask δ φ (suc g) x c ≡ further (ask δ φ g z c)
  unfolding ask
  ask_fail g x z c d f = rw (d, f, ask)

module _ (δ : Delta) (φ : Fails) where
  -- a letter takes as many failure arrows as it may, at most
  pub ask-taken : (g : ℕ) (x : State) (c : Letter) → (ask δ φ g x c).taken ≤ g
  unfolding ask
  ask-taken zero x c = le_refl 0
  ask-taken (suc g) x c = option_cases (δ x c)
      (λ d. option_cases (φ x)
      (λ f. rw (ask-stop δ φ (suc g) x c d f) (omega arith))
      (λ z f. rw (ask_fail δ φ g x z c d f) (omega (arith, ask-taken g z c))))
      (λ y d. rw (ask-hit δ φ (suc g) x y c d) (omega arith))

module _ {m : ℕ} {φ : Fails} (C : Climbing m φ) where
  -- no failure arrow leaves a state from m on
  none_above : (x : State) → m ≤ x → φ x ≡ none
  none_above x h = none_where (φ x) (λ z f. omega (arith, C x z f))

  -- a bound that reaches up to m reaches the end of the path
  pub path-ends : (g : ℕ) (x : State) → m ≤ g + x → φ (path_end φ g x) ≡ none
  unfolding path_end
  path-ends zero x h = none_above x (omega arith)
  path-ends (suc g) x h = option_cases (φ x)
      (λ f. rw (f, path_end) f)
      (λ z f. rw (f, path_end) (path-ends g z (omega (arith, C x z f))))

  -- one more does not change it
  path_more : (g : ℕ) (x : State) → m ≤ g + x → path_end φ g x ≡ path_end φ (suc g) x
  unfolding path_end
  path_more zero x h = rw (none_above x (omega arith), path_end)
  path_more (suc g) x h = option_cases (φ x)
      (λ f. rw (f, path_end))
      (λ z f. rw (f, path_end) (path_more g z (omega (arith, C x z f))))

  -- so a failure arrow is a step on the path
  pub path_via : (x z : State) → φ x ≡ some z → path_end φ m x ≡ path_end φ m z
  unfolding path_end
  path_via x z f = path_more m x (omega arith) ∙ rw (f, path_end)

  module _ (δ : Delta) where
    -- nor does it change what becomes of a letter
    ask_more : (g : ℕ) (x : State) (c : Letter) → m ≤ g + x → ask δ φ g x c ≡ ask δ φ (suc g) x c
    unfolding ask
    ask_more zero x c h = option_cases (δ x c) (λ d. rw (d, none_above x (omega arith), ask)) (λ y d. rw (d, ask))
    ask_more (suc g) x c h = option_cases (δ x c)
        (λ d. option_cases (φ x)
        (λ f. ask-stop δ φ (suc g) x c d f ∙ sym (ask-stop δ φ (suc (suc g)) x c d f))
        (λ z f.
        let rest = ask_more g z c (omega (arith, C x z f)) in
        ask_fail δ φ g x z c d f ∙ ap further rest ∙ sym (ask_fail δ φ (suc g) x z c d f)))
        (λ y d. ask-hit δ φ (suc g) x y c d ∙ sym (ask-hit δ φ (suc (suc g)) x y c d))

    -- so a state that has only a failure arrow hands the letter on
    pub ask_via : (x z : State) (c : Letter) → δ x c ≡ none → φ x ≡ some z → ask δ φ m x c ≡ further (ask δ φ m z c)
    ask_via x z c d f = ask_more m x c (omega arith) ∙ ask_fail δ φ m x z c d f

    -- what was asked is so: the letter leads to the state that is named, or the path ends in the state that was asked last
    pub record Says (x : State) (c : Letter) (s : Asked) : Type 0 where
      pub goes : (y : State) → s.to ≡ some y → Goes δ φ c y x
      pub stuck : s.to ≡ none → Stuck δ φ c s.last x

    -- what asking says is so
    pub ask-says : (g : ℕ) (x : State) (c : Letter) → m ≤ g + x → Says x c (ask δ φ g x c)
    unfolding ask
    ask-says zero x c h = record { goes = λ y d. hit d; stuck = λ d. stuck_here d (none_above x (omega arith)) refl }
    ask-says (suc g) x c h = option_cases (δ x c)
        (λ d. option_cases (φ x)
        (λ f. rw (ask-stop δ φ (suc g) x c d f) (record { goes = λ y e. never refl e; stuck = λ e. stuck_here d f refl }))
        (λ z f.
        let r = ask-says g z c (omega (arith, C x z f)) in
        rw (ask_fail δ φ g x z c d f) (record { goes = λ y e. goes_via z d f (r.goes y e); stuck = λ e. stuck_via z d f (r.stuck e) })))
        (λ y d. rw (ask-hit δ φ (suc g) x y c d) (record { goes = λ z e. hit (d ∙ e); stuck = λ e. never e refl }))

    -- where a letter leads is what asking says
    pub goes-ask : {c : Letter} {y : State} (g : ℕ) {x : State} → m ≤ g + x → Goes δ φ c y x → (ask δ φ g x c).to ≡ some y
    goes-ask {c} {y} g h (hit {x = x} d) = rw (ask-hit δ φ g x y c d)
    goes-ask zero h (goes_via {x = x} z d f r) = absurd (omega (arith, C x z f))
    goes-ask {c} (suc g) h (goes_via {x = x} z d f r) = rw (ask_fail δ φ g x z c d f) (goes-ask g (omega (arith, C x z f)) r)

    -- where a letter is stuck is where the path ends, whatever the letter
    pub stuck-path : {c : Letter} {e : State} (g : ℕ) {x : State} → m ≤ g + x → Stuck δ φ c e x → e ≡ path_end φ g x
    unfolding path_end
    stuck-path zero h (stuck_here d f q) = q
    stuck-path zero h (stuck_via {x = x} z d f s) = absurd (omega (arith, C x z f))
    stuck-path (suc g) h (stuck_here d f q) = rw (f, path_end) q
    stuck-path (suc g) h (stuck_via {x = x} z d f s) = rw (f, path_end) (stuck-path g (omega (arith, C x z f)) s)

-- ── New arrows ─────────────────────────────────────────────────────────────

-- every arrow is kept, and no new symbol arrow stands where a failure arrow was taken
pub record Extends (δ : Delta) (φ : Fails) (δ' : Delta) (φ' : Fails) : Type 0 where
  pub symbol : Keeps δ δ'
  pub failing : (x z : State) → φ x ≡ some z → φ' x ≡ some z
  pub lacking : (x : State) (c : Letter) (z : State) → δ x c ≡ none → φ x ≡ some z → δ' x c ≡ none

module _ {δ δ' : Delta} {φ φ' : Fails} (E : Extends δ φ δ' φ') where
  -- a letter that went goes as before
  pub goes_kept : {c : Letter} {y x : State} → Goes δ φ c y x → Goes δ' φ' c y x
  goes_kept {c} {y} (hit {x = x} d) = hit (E.symbol x c y d)
  goes_kept {c} (goes_via {x = x} z d f r) = goes_via z (E.lacking x c z d f) (E.failing x z f) (goes_kept r)

  -- a letter that was stuck goes where it goes from the end of its path
  pub stuck-goes : {c : Letter} {e x y : State} → Stuck δ φ c e x → Goes δ' φ' c y e → Goes δ' φ' c y x
  stuck-goes (stuck_here d f q) r = rw q at r
  stuck-goes {c} {x = x} (stuck_via z d f s) r = goes_via z (E.lacking x c z d f) (E.failing x z f) (stuck-goes s r)
