-- LOOKING ALONG A CHAIN: the cases of the lookup as code meets them. `Chasing` is what holds before each slot that is looked at.
use mathlib.Core.Path.{◌≡◌, refl, sym, ap, ◌∙◌}
use mathlib.Core.Logic.{◌≢◌}
use mathlib.Core.Option.{Option, none, some}
use mathlib.Core.Bool.{Bool}
use mathlib.Core.List.{List, [], ◌∷◌, Memᴰ}
use Prim.Native.Nat.{ℕ, suc, ◌+◌, ◌*◌, ◌≤◌, ◌<◌}
use native.Mathlib.Numerals.{add-one}
use native.Mathlib.Omega.{arith}
use lib.Dec.{eqb}
use borrow.Author.Tests.{lt-ltb, le-ltb, eq-eqb, ne_eqb}
use Rattle.words.specs.Lists.{at, first}
use Rattle.words.specs.Words.{Letter}
use Rattle.words.specs.Answers.{arrow_to, supply_of}
use Rattle.words.specs.Answers.{MaybeState}
use Rattle.std.specs.Prelude.{Some, None}
use Rattle.words.proofs.Lists.{first_yes, first_not}
use Rattle.oracle.specs.Arrows.{State}
use Rattle.chains.specs.Chains.{supply_in, Chain, ends, links, Chained, look_in, Looks}

-- slots hold one list of targets
pub chain-one : {L : List ℕ} {n j : ℕ} {l l' : List State} → Chain L n j l → Chain L n j l' → l ≡ l'
chain-one (ends e) (ends e') = refl
chain-one (ends e) (links p h y g o r) = absurd (omega arith)
chain-one (links p h y g o r) (ends e) = absurd (omega arith)
chain-one (links p h y g o r) (links p' h' y' g' o' r') = cc (chain-one r r')

-- and they are slots
pub chain-inside : {L : List ℕ} {n j : ℕ} {l : List State} → 0 < n → Chain L n j l → j < n
chain-inside b (ends e) = omega arith
chain-inside b (links p h y g o r) = h

-- ── Supplies ───────────────────────────────────────────────────────────────

module _ (L : List ℕ) (n : ℕ) (x : State) where
  pub supply-none : x ≡ 0 → None ≡ supply_of (supply_in L n x)
  unfolding supply_in
  supply-none e = rw (eq-eqb x 0 e)

  pub supply-some : x ≢ 0 → Some (record { 0 = at L (n + x) }) ≡ supply_of (supply_in L n x)
  unfolding supply_in
  supply-some e = rw (ne_eqb x 0 e)

-- ── The cases of a lookup ──────────────────────────────────────────────────

module _ (a : State → Letter) (t : ℕ) (l : List State) (x : State) (c : Letter) where
  pub look_far : t ≤ x → look_in a t l x c ≡ none
  unfolding look_in
  look_far h = rw (le-ltb x t h)

  pub look_spine : x < t → a (suc x) ≡ c → look_in a t l x c ≡ some (suc x)
  unfolding look_in
  look_spine h e = rw (lt-ltb x t h, eq-eqb (a (suc x)) c e)

  pub look_chain : x < t → a (suc x) ≢ c → look_in a t l x c ≡ first (λ y. eqb (a y) c) l
  unfolding look_in
  look_chain h e = rw (lt-ltb x t h, ne_eqb (a (suc x)) c e)

-- ── Lookups by letters that agree ──────────────────────────────────────────

pub chain-states : {L : List ℕ} {n j : ℕ} {l : List State} → Chain L n j l → {y : State} → Memᴰ y l → y < n
chain-states (ends e) m = absurd (elim m [ ])
chain-states (links p b y g o r) (Memᴰ.head e) = omega arith
chain-states (links p b y g o r) (Memᴰ.tail m) = chain-states r m

first-same : {A : Type 0} (P Q : A → Bool) (l : List A) → ((y : A) → Memᴰ y l → P y ≡ Q y) → first P l ≡ first Q l
unfolding first
first-same P Q [] h = refl
first-same P Q (y ∷ l) h = rw (h y (Memᴰ.head refl), first-same P Q l (λ z m. h z (Memᴰ.tail m)))

pub look_same : (a b : State → Letter) {n : ℕ} (t : ℕ) (l : List State) (x : State) (c : Letter) → ((y : State) → y < n → a y ≡ b y)
    → suc x < n → ((y : State) → Memᴰ y l → y < n) → look_in a t l x c ≡ look_in b t l x c
unfolding look_in
look_same a b t l x c same h inside =
    let tests = first-same (λ y. eqb (a y) c) (λ y. eqb (b y) c) l (λ y m. ap (λ d. eqb d c) (same y (inside y m))) in
    rw (same (suc x) h, tests)

-- ── Slot by slot ───────────────────────────────────────────────────────────

-- the letter of state y is c
abbrev has : List ℕ → Letter → State → Bool
has L c y = eqb (at L y) c

-- before slot j of x's chain: the spine does not have the letter, and the first target that has it is the first of those from j on
pub record Chasing (L : List ℕ) (n : ℕ) (x : State) (c : Letter) (j : ℕ) : Type 0 where
  pub inside : j < n
  pub off_spine : at L (suc x) ≢ c
  pub rest : List State
  pub chain : Chain L n j rest
  pub same : (l : List State) → Chain L n (at L (2 * n + x)) l → first (has L c) l ≡ first (has L c) rest

-- what is known of a slot that is looked at
pub record Slot (L : List ℕ) (n j : ℕ) : Type 0 where
  pub state : at L (5 * n + j) < n
  pub older : at L (4 * n + j) < j

module _ {L : List ℕ} {n : ℕ} {x : State} {c : Letter} where
  pub looks_zero : {t : ℕ} {r : MaybeState} → x ≡ 0 → Looks L n t 0 c r → Looks L n t x c r
  looks_zero e R = rw e R

  pub looks_spine : {t : ℕ} → x < t → at L (x + 1) ≡ c → Looks L n t x c (Some (record { 0 = x + 1 }))
  looks_spine {t} h e = record { says = λ l C. rw (add-one x) (ap arrow_to (sym (look_spine (at L) t l x c h (rw (add-one x) at e)))) }

  pub chase_start : Chained L n → x < n → at L (x + 1) ≢ c → Chasing L n x c (at L (2 * n + x))
  chase_start R b f =
      let r = R.chain x b in
      record {
        inside = chain-inside (omega arith) r.1;
        off_spine = rw (add-one x) at f;
        rest = r.0;
        chain = r.1;
        same = λ l C. ap (first (has L c)) (chain-one C r.1);
      }

  -- what is first among the targets from j on is the arrow
  chased : {j t : ℕ} {y : Option State} → x < t → (R : Chasing L n x c j) → first (has L c) R.rest ≡ y → Looks L n t x c (arrow_to y)
  chased {t = t} h R e = record { says = λ l C. ap arrow_to (sym (look_chain (at L) t l x c h R.off_spine ∙ R.same l C ∙ e)) }

  pub chase_end : {j t : ℕ} → x < t → Chasing L n x c j → j ≡ 0 → Looks L n t x c None
  unfolding first
  chase_end {j} h R z = chased h R (by R.chain)
    where
      by : {r : List State} → Chain L n j r → first (has L c) r ≡ none
      by (ends e) = refl
      by (links p h y g o r) = absurd (omega arith)

  module _ {j : ℕ} (R : Chasing L n x c j) (f : j ≢ 0) where
    pub chase_slot : Slot L n j
    chase_slot = by R.chain
      where
        by : {r : List State} → Chain L n j r → Slot L n j
        by (ends e) = absurd (f e)
        by (links p h y g o r) = record { state = omega arith; older = o }

    pub chase_hit : {t : ℕ} → x < t → at L (at L (5 * n + j)) ≡ c → Looks L n t x c (Some (record { 0 = at L (5 * n + j) }))
    chase_hit h e = chased h R (by R.chain)
      where
        by : {r : List State} → Chain L n j r → first (has L c) r ≡ some (at L (5 * n + j))
        by (ends z) = absurd (f z)
        by (links {y = y} {l = r} p h q g o C) = rw (← q) (first_yes (has L c) y r (eq-eqb (at L y) c (rw (← q) at e)))

    pub chase_next : at L (at L (5 * n + j)) ≢ c → Chasing L n x c (at L (4 * n + j))
    chase_next e = by R.chain R.same
      where
        by : {r : List State} → Chain L n j r → ((l : List State) → Chain L n (at L (2 * n + x)) l → first (has L c) l ≡ first (has L c) r)
            → Chasing L n x c (at L (4 * n + j))
        by (ends z) s = absurd (f z)
        by (links {y = y} {l = r} p h q g o C) s = record {
          inside = omega (arith, o);
          off_spine = R.off_spine;
          rest = r;
          chain = C;
          same = λ l D. s l D ∙ first_not (has L c) y r (ne_eqb (at L y) c (rw (← q) at e));
        }
