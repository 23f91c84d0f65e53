-- HOW THE ARROWS GROW. The rule adds them one after the other, each at a state where a failure path ended without its letter (`OneByOne`).
-- So no arrow takes the place of an earlier one, and what holds of the arrows goes by induction over the order: failure arrows climb, one
-- at most leaves a state, and so with symbol arrows on a letter; a symbol arrow carries the letter of the state that it leads to; each
-- suffix has one arrow at most. What letters do, led by both kinds of arrow, then follows from the laws of `Paths`.
use mathlib.Core.Path.{◌≡◌, refl, sym, ◌∙◌}
use mathlib.Core.Logic.{◌⊎◌, inl, inr, ⊎_elim, by_cases}
use mathlib.Core.Option.{none, some}
use mathlib.Core.List.{List, [], ◌∷◌, ◌++◌, Memᴰ}
use Prim.Native.Nat.{ℕ, suc, ◌+◌, ◌≤◌, ◌<◌}
use native.Mathlib.Nat.{le_refl}
use native.Mathlib.Decide.{ℕ_discrete}
use native.Mathlib.Omega.{arith}
use lib.ListN.{length}
use lib.Dec.{eqb}
use borrow.Author.Tests.{eqb-true, eq-eqb}
use Rattle.words.specs.Words.{Letter, Word, letter}
use Rattle.words.proofs.Lists.{test_cases}
use Rattle.oracle.specs.Arrows.{State, Arrow, arrow, Delta, target, spine, OneEach}
use Rattle.oracle.specs.SuffixRule.{extra_arrows, suffix_rule}
use Rattle.oracle.proofs.Targets.{never, target_pass, target_member}
use Rattle.oracle.proofs.FileOrder.{spine_member}
use Rattle.oracle.proofs.SuffixRule.{spine-target}
use Rattle.oracle.proofs.Theorems.{suffix_rule-one_each}
use Rattle.failure.specs.FailureRule.{Failure, failure, Fails, failure_of, OneFailure, leads, path_end}
use Rattle.failure.specs.FailureRule.{FailureArrows, symbols, ask_in, with_failure, with_symbol}
use Rattle.failure.proofs.Halts.{Keeps}
use Rattle.failure.proofs.Paths.{Goes, hit, goes_via, Stuck, stuck_here, stuck_via, Climbing}
use Rattle.failure.proofs.Paths.{ask-says, goes-ask, stuck-path, Extends, goes_kept}

-- ── One arrow more ─────────────────────────────────────────────────────────

-- a new failure arrow leads where it says
pub failure-hit : (F : List Failure) (x z : State) → failure_of (failure x z ∷ F) x ≡ some z
unfolding failure_of
failure-hit F x z = rw (eq-eqb x x refl)

-- it changes nothing but for its own state
pub failure_pass : (F : List Failure) (f : Failure) (x : State) → (failure_of (f ∷ F) x ≡ failure_of F x) ⊎ (x ≡ f.source)
unfolding failure_of
failure_pass F f x = test_cases (eqb f.source x) (λ e. inr (sym (eqb-true f.source x e))) (λ e. inl (rw e))

-- where a state's failure arrow leads, there is such an arrow
pub failure_member : (F : List Failure) (x z : State) → failure_of F x ≡ some z → Memᴰ (failure x z) F
unfolding failure_of
failure_member [] x z e = never {X = Memᴰ (failure x z) []} refl e
failure_member (f ∷ F) x z e = ⊎_elim
    (λ d. Memᴰ.tail (failure_member F x z (sym d ∙ e)))
    (λ (d : x ≡ f.source).
    let t : some z ≡ some f.to = sym e ∙ rw d (failure-hit F f.source f.to) in
    let q : z ≡ f.to = cc in
    Memᴰ.head {x = f} (rw (d, q)))
    (failure_pass F f x)

-- ── One arrow after the other ──────────────────────────────────────────────

-- where the symbol arrows lead, where the failure arrows lead, and where letters lead by both
abbrev pub symbol_to : Word → FailureArrows → Delta
symbol_to p A = target (symbols p A)

abbrev pub failure_to : FailureArrows → Fails
failure_to A = failure_of A.failures

abbrev pub both_to : Word → FailureArrows → Delta
both_to p A = leads (ask_in p A)

-- the arrows are added one after the other, each where the path ended without its letter
pub data OneByOne (p : Word) : FailureArrows → ℕ → Type 0 where
  bare : OneByOne p (record { extra = []; failures = [] }) 0
  skip : {A : FailureArrows} {n : ℕ} → OneByOne p A n → OneByOne p A (suc n)
  by_failure : {A : FailureArrows} {n : ℕ} (x k : ℕ) → OneByOne p A n → x < k → k < length p
      → failure_of A.failures x ≡ none → OneByOne p (with_failure x k A) (suc n)
  by_symbol : {A : FailureArrows} {n : ℕ} (x k : ℕ) → OneByOne p A n → k ≤ x → x ≤ length p → k < length p
      → target (symbols p A) x (letter p k) ≡ none → failure_of A.failures x ≡ none → OneByOne p (with_symbol p x k A) (suc n)

-- the arrows A' extend the arrows A
abbrev pub Grows : Word → FailureArrows → FailureArrows → Type 0
Grows p A A' = Extends (symbol_to p A) (failure_to A) (symbol_to p A') (failure_to A')

-- arrows that stand behind others are one each if all together are
one_each-behind : (A B : List Arrow) → OneEach (A ++ B) → OneEach B
unfolding OneEach
one_each-behind [] B o = o
one_each-behind (a ∷ A) B o = one_each-behind A B o.1

module _ (p : Word) where
  -- a failure arrow where there was none extends the arrows
  pub failure_grows : (A : FailureArrows) (x k : State) → failure_to A x ≡ none → Grows p A (with_failure x k A)
  failure_grows A a k f = record { symbol = λ x c y d. d; failing = failing; lacking = λ x c z d e. d }
    where
      failing : (x z : State) → failure_to A x ≡ some z → failure_to (with_failure a k A) x ≡ some z
      failing x z e = ⊎_elim (λ t. t ∙ e) (λ t. never f (rw t at e)) (failure_pass A.failures (failure a k) x)

  -- so does a symbol arrow where there was none, and no failure arrow either
  pub symbol_grows : (A : FailureArrows) (x k : State) → symbol_to p A x (letter p k) ≡ none → failure_to A x ≡ none
      → Grows p A (with_symbol p x k A)
  symbol_grows A a k d f = record {
    symbol = λ x c y e. ⊎_elim (λ t. t ∙ e) (λ t. never d (rw (t.0, t.1) at e)) (pass x c);
    failing = λ x z e. e;
    lacking = λ x c z e g. ⊎_elim (λ t. t ∙ e) (λ t. never f (rw t.0 at g)) (pass x c);
  }
    where
      pass : (x : State) (c : Letter) → (symbol_to p (with_symbol p a k A) x c ≡ symbol_to p A x c) ⊎ ((x ≡ a) × (c ≡ letter p k))
      pass x c = target_pass (symbols p A) (arrow a (letter p k) (suc k)) x c

  -- ── What holds of the arrows ─────────────────────────────────────────────

  -- failure arrows climb, and stay below m
  pub added-failures-climb : {A : FailureArrows} {n : ℕ} → OneByOne p A n → {f : Failure} → Memᴰ f A.failures
      → (f.source < f.to) × (f.to < length p)
  added-failures-climb bare i = absurd (elim i [ ])
  added-failures-climb (skip G) i = added-failures-climb G i
  added-failures-climb (by_failure x k G h l f) (Memᴰ.head e) = rw e (h, l)
  added-failures-climb (by_failure x k G h l f) (Memᴰ.tail i) = added-failures-climb G i
  added-failures-climb (by_symbol x k G h b l d f) i = added-failures-climb G i

  -- so do those that are found in a state
  pub added-climbs : {A : FailureArrows} {n : ℕ} → OneByOne p A n → Climbing (length p) (failure_of A.failures)
  added-climbs {A} G x z e = added-failures-climb G (failure_member A.failures x z e)

  -- the spine stays
  pub added-spine : {A : FailureArrows} {n : ℕ} → OneByOne p A n → (x : State) → x < length p
      → target (symbols p A) x (letter p x) ≡ some (suc x)
  added-spine bare x h = spine-target p x h
  added-spine (skip G) x h = added-spine G x h
  added-spine (by_failure a k G l b f) x h = added-spine G x h
  added-spine (by_symbol {A = A} a k G l b i d f) x h = (symbol_grows A a k d f).symbol x (letter p x) (suc x) (added-spine G x h)

  -- a symbol arrow carries the letter of the state that it leads to
  pub added-letter : {A : FailureArrows} {n : ℕ} → OneByOne p A n → {a : Arrow} → Memᴰ a (symbols p A)
      → (z : State) × (a.to ≡ suc z) × (z < length p) × (a.on ≡ letter p z)
  added-letter bare {a} i = let r = spine_member p i in (a.source, r.2, r.0, r.1)
  added-letter (skip G) i = added-letter G i
  added-letter (by_failure x k G l b f) i = added-letter G i
  added-letter (by_symbol x k G l b h d f) (Memᴰ.head e) = rw e (k, refl, h, refl)
  added-letter (by_symbol x k G l b h d f) (Memᴰ.tail i) = added-letter G i

  -- extra symbol arrows leave states
  pub added-sources : {A : FailureArrows} {n : ℕ} → OneByOne p A n → {a : Arrow} → Memᴰ a A.extra → a.source ≤ length p
  added-sources bare i = absurd (elim i [ ])
  added-sources (skip G) i = added-sources G i
  added-sources (by_failure x k G l b f) i = added-sources G i
  added-sources (by_symbol x k G l b h d f) (Memᴰ.head e) = rw e b
  added-sources (by_symbol x k G l b h d f) (Memᴰ.tail i) = added-sources G i

  -- and lead to these themselves or to lower ones, as the spine has the letter of the next
  pub added-falls : {A : FailureArrows} {n : ℕ} → OneByOne p A n → {a : Arrow} → Memᴰ a A.extra → a.to ≤ a.source
  added-falls bare i = absurd (elim i [ ])
  added-falls (skip G) i = added-falls G i
  added-falls (by_failure x k G l b f) i = added-falls G i
  added-falls (by_symbol x k G l b h d f) (Memᴰ.head e) =
      by_cases (ℕ_discrete k x) (λ q. never (rw (← q) at d) (added-spine G k h)) (λ q. rw e (omega arith))
  added-falls (by_symbol x k G l b h d f) (Memᴰ.tail i) = added-falls G i

  -- symbol arrows lead to states
  pub added-states : {A : FailureArrows} {n : ℕ} → OneByOne p A n → (x : State) (c : Letter) (y : State)
      → target (symbols p A) x c ≡ some y → y ≤ length p
  added-states {A} G x c y e = let r = added-letter G (target_member (symbols p A) x c y e) in omega (arith, r.1, r.2)

  -- one symbol arrow at most leaves a state on a letter
  pub added-one_each : {A : FailureArrows} {n : ℕ} → OneByOne p A n → OneEach (symbols p A)
  unfolding OneEach suffix_rule
  added-one_each bare = one_each-behind (extra_arrows p) (spine p) (suffix_rule-one_each p)
  added-one_each (skip G) = added-one_each G
  added-one_each (by_failure a k G l b f) = added-one_each G
  added-one_each (by_symbol a k G l b i d f) = (d, added-one_each G)

  -- one failure arrow at most leaves a state
  pub added-one : {A : FailureArrows} {n : ℕ} → OneByOne p A n → OneFailure A.failures
  unfolding OneFailure
  added-one bare = tt
  added-one (skip G) = added-one G
  added-one (by_failure a k G l b f) = (f, added-one G)
  added-one (by_symbol a k G l b i d f) = added-one G

  -- each suffix has one arrow at most
  pub added-count : {A : FailureArrows} {n : ℕ} → OneByOne p A n → length A.extra + length A.failures ≤ n
  added-count bare = le_refl 0
  added-count (skip G) = omega (arith, added-count G)
  added-count (by_failure a k G l b f) = omega (arith, added-count G)
  added-count (by_symbol a k G l b i d f) = omega (arith, added-count G)

  -- ── What letters do ──────────────────────────────────────────────────────

  -- a path from a state ends in a state
  pub stuck-state : {δ : Delta} {φ : Fails} → Climbing (length p) φ → {c : Letter} {e x : State} → x ≤ length p → Stuck δ φ c e x
      → e ≤ length p
  stuck-state C h (stuck_here d f q) = omega arith
  stuck-state C h (stuck_via {x = x} z d f s) = stuck-state C (omega (arith, C x z f)) s

  -- letters go to states
  goes-state : {A : FailureArrows} {n : ℕ} → OneByOne p A n → {c : Letter} {y x : State} → Goes (symbol_to p A) (failure_to A) c y x
      → y ≤ length p
  goes-state G {c} {y} (hit {x = x} d) = added-states G x c y d
  goes-state G (goes_via z d f r) = goes-state G r

  module _ {A : FailureArrows} {n : ℕ} (G : OneByOne p A n) where
    -- where a letter leads, it goes
    pub both_goes : (x : State) (c : Letter) (y : State) → both_to p A x c ≡ some y → Goes (symbol_to p A) (failure_to A) c y x
    unfolding ask_in
    both_goes x c y e = (ask-says (added-climbs G) (symbol_to p A) (length p) x c (omega arith)).goes y e

    -- where it goes, it leads
    pub goes_both : (x : State) (c : Letter) (y : State) → Goes (symbol_to p A) (failure_to A) c y x → both_to p A x c ≡ some y
    unfolding ask_in
    goes_both x c y r = goes-ask (added-climbs G) (symbol_to p A) (length p) (omega arith) r

    -- where it leads nowhere, it is stuck
    pub both_stuck : (x : State) (c : Letter) → both_to p A x c ≡ none
        → Stuck (symbol_to p A) (failure_to A) c (path_end (failure_to A) (length p) x) x
    unfolding ask_in
    both_stuck x c e =
        let s = (ask-says (added-climbs G) (symbol_to p A) (length p) x c (omega arith)).stuck e in
        rw (← stuck-path (added-climbs G) (symbol_to p A) (length p) (omega arith) s) s

    -- letters lead to states
    pub both_state : (x : State) (c : Letter) (y : State) → both_to p A x c ≡ some y → y ≤ length p
    both_state x c y e = goes-state G (both_goes x c y e)

    -- the spine's letters lead along the spine
    pub both_spine : (x : State) → x < length p → both_to p A x (letter p x) ≡ some (suc x)
    both_spine x h = goes_both x (letter p x) (suc x) (hit (added-spine G x h))

  -- letters that lead somewhere lead there with more arrows too
  pub both_kept : {A A' : FailureArrows} {n n' : ℕ} → OneByOne p A n → OneByOne p A' n' → Grows p A A'
      → Keeps (both_to p A) (both_to p A')
  both_kept G G' E x c y e = goes_both G' x c y (goes_kept E (both_goes G x c y e))
