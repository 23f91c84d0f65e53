-- CLIMBING: a climb that can start can go on, and what the code's answers say of the next step.
use mathlib.Core.Path.{◌≡◌, refl, sym, ap, ◌∙◌}
use mathlib.Core.Logic.{◌≢◌}
use mathlib.Core.List.{List}
use Prim.Native.Nat.{ℕ, suc, ◌+◌, ◌*◌, ◌-◌, ◌%◌, ◌≤◌, ◌<◌}
use native.Mathlib.Nat.{le_refl, mod-eq_of_lt}
use native.Mathlib.Numerals.{add-one}
use native.Mathlib.Decide.{ℕ_discrete}
use native.Mathlib.Omega.{arith}
use lib.ListN.{length, set}
use Rattle.words.specs.Lists.{at}
use Rattle.words.specs.Words.{Letter}
use Rattle.words.specs.Answers.{arrow_to, supply_of}
use Rattle.words.specs.declared.State.{State as Stated}
use Rattle.words.specs.Answers.{MaybeState}
use Rattle.std.specs.Prelude.{Some, None}
use Rattle.oracle.specs.Arrows.{State}
use Rattle.oracle.specs.SuffixPath.{SuffixPath, ended, falls}
use Rattle.oracle.proofs.LetterRule.{path_agree}
use Rattle.chains.specs.Chains.{supply_in, Chain, look_in, Looks, pushed}
use Rattle.chains.specs.Letters.{Ready, Climbing, Climbs, finds, runs_out, goes_on, Resting, ClimbSays}
use Rattle.chains.specs.Letters.{Begun, Added, first-letter, later_letter}
use Rattle.std.proofs.Common.{ControlFlow, Break, Continue}
use Rattle.chains.proofs.Looking.{chain-one, supply-none, supply-some, chain-states, look_same}
use Rattle.chains.proofs.Pushing.{Pushable, push_low, other_chain, push_heads, push_chained}

-- ── What an answer says of a supply ────────────────────────────────────────

module _ (L : List ℕ) (n : ℕ) (x : State) (r : MaybeState) (says : r ≡ supply_of (supply_in L n x)) where
  pub supply-told : (s : Stated) → r ≡ Some s → (x ≢ 0) × (s.0 ≡ at L (n + x))
  supply-told s e = by (ℕ_discrete x 0)
    where
      by : Dec (x ≡ 0) → (x ≢ 0) × (s.0 ≡ at L (n + x))
      by (yes z) = let q : ◌≡◌ {A = ℕ} 0 1 = cc (supply-none L n x z) in absurd (omega arith)
      by (no z) = (z, cc (supply-some L n x z))

  pub supply-untold : r ≡ None → x ≡ 0
  supply-untold e = by (ℕ_discrete x 0)
    where
      by : Dec (x ≡ 0) → x ≡ 0
      by (yes z) = z
      by (no z) = let q : ◌≡◌ {A = ℕ} 0 1 = cc (supply-some L n x z) in absurd (omega arith)

-- ── The next step ──────────────────────────────────────────────────────────

module _ {L : List ℕ} {n t u : ℕ} {k : State} (R : Ready L n t u k) where
  pub ready_push : Pushable L n u k
  ready_push = record {
    chained = R.chained;
    slot = omega (arith, R.free, R.inside);
    heads = R.heads;
    source = omega (arith, R.below, R.inside);
  }

  -- the supply row is not touched
  supplies-kept : (x : State) → x < n → at (pushed L n u k (suc t)) (n + x) ≡ at L (n + x)
  supplies-kept x h = push_low ready_push (suc t) (n + x) (omega arith)

  pub ready-next : k ≢ 0 → Ready (pushed L n u k (suc t)) n t (suc u) (at L (n + k))
  ready-next f = by R.path R.suffix R.free
    where
      L' : List ℕ
      L' = pushed L n u k (suc t)

      low : at L (n + k) ≤ k - 1
      low = R.down k (omega (arith, R.below))

      by : (l : List State) → SuffixPath (λ x. at L (n + x)) k l → u + suc (length l) ≤ t → Ready L' n t (suc u) (at L (n + k))
      by l (ended e) h = absurd (f e)
      by l (falls {y = y} {l = r} p e s) h = record {
        chained = push_chained ready_push (suc t) R.inside;
        inside = R.inside;
        below = omega (arith, low, R.below);
        down = λ x b. rw (supplies-kept x (omega (arith, R.inside))) (R.down x b);
        heads = push_heads ready_push (suc t);
        path = r;
        suffix = path_agree {t = t} (λ x. at L (n + x)) (λ x. at L' (n + x)) (λ x b. omega (arith, R.down x b))
            (λ x b. supplies-kept x (omega (arith, R.inside))) (omega (arith, low, R.below)) (rw e at s);
        free = omega arith;
      }

  -- and so is the arrow of state 0
  pub zero-kept : {c : Letter} {r : MaybeState} → k ≢ 0 → Looks L n t 0 c r → Looks (pushed L n u k (suc t)) n t 0 c r
  zero-kept {c} {r} f Z = record { says = λ l C. by l C (R.chained.chain 0 (omega (arith, R.inside))) }
    where
      L' : List ℕ
      L' = pushed L n u k (suc t)

      letters-kept : (y : State) → y < n → at L y ≡ at L' y
      letters-kept y h = sym (push_low ready_push (suc t) y (omega arith))

      by : (l : List State) → Chain L' n (at L' (2 * n + 0)) l → (l' : List State) × Chain L n (at L (2 * n + 0)) l'
          → r ≡ arrow_to (look_in (at L') t l 0 c)
      by l C (l', D) =
          let q : l ≡ l' = chain-one C (other_chain ready_push (suc t) 0 (omega (arith, R.inside)) (λ z. f (sym z)) D) in
          let same = look_same (at L) (at L') t l' 0 c letters-kept (omega (arith, R.inside)) (λ y i. chain-states D i) in
          Z.says l' D ∙ ap arrow_to (same ∙ ap (λ v. look_in (at L') t v 0 c) (sym q))

-- ── In the code's sums ─────────────────────────────────────────────────────

-- k got an arrow to t + 1, and r tells its supply
module _ {n t : ℕ} {c : Letter} {z : MaybeState} {L L₁ : List ℕ} {u : ℕ} {k : State} (K : Climbing n t c z L u k)
    (e : L₁ ≡ pushed L n u k (t + 1)) {r : MaybeState} (says : r ≡ supply_of (supply_in L n k)) where
  pub climb-out : r ≡ None → Climbs n t c L u k L₁ (u + 1) 0
  climb-out q = runs_out (supply-untold L n k r says q) refl K.missing (rw (add-one t) at e) (add-one u)

  module _ {s : Stated} (q : r ≡ Some s) where
    of_k : (k ≢ 0) × (s.0 ≡ at L (n + k))
    of_k = supply-told L n k r says s q

    pub ready_again : Ready L₁ n t (u + 1) s.0
    ready_again = rw (e, of_k.1, add-one t, add-one u) (ready-next K.ready of_k.0)

    pub zero_again : Looks L₁ n t 0 c z
    zero_again = rw (e, add-one t) (zero-kept K.ready of_k.0 K.zero)

    onward : {L' : List ℕ} {u' : ℕ} {y : State} → Climbs n t c L₁ (u + 1) s.0 L' u' y → Climbs n t c L u k L' u' y
    onward C =
        let p : 0 < k = omega (arith, of_k.0) in
        goes_on p K.missing (rw (e, of_k.1, add-one t, add-one u) at C)

    pub climb-found : {l : MaybeState} → Looks L₁ n t s.0 c l → {y : Stated} → l ≡ Some y → Climbs n t c L u k L₁ (u + 1) y.0
    climb-found h i = onward (finds (rw i at h) refl refl)

    -- the supply is smaller, and where it has no arrow the climb can rest there
    pub climb_rests : {l : MaybeState} → Looks L₁ n t s.0 c l → l ≡ None → (s.0 < k) × Resting n t c z L u k L₁ (u + 1) s.0
    climb_rests h i = (
      omega (arith, of_k.0, of_k.1, K.ready.down k (omega (arith, K.ready.below))),
      record { there = record { ready = ready_again; zero = zero_again; missing = rw i at h }; onward = onward },
    )

-- ── A climb in parts ───────────────────────────────────────────────────────

pub rest_on : {n t : ℕ} {c : Letter} {z : MaybeState} {L L₁ L₂ : List ℕ} {u u₁ u₂ : ℕ} {k k₁ k₂ : State} → Resting n t c z L u k L₁ u₁ k₁
    → Resting n t c z L₁ u₁ k₁ L₂ u₂ k₂ → Resting n t c z L u k L₂ u₂ k₂
rest_on R S = record { there = S.there; onward = λ C. R.onward (S.onward C) }

-- what a climb from a rest says, it says from where it came to rest
pub says_on : {n t : ℕ} {c : Letter} {z : MaybeState} {L L₁ : List ℕ} {u u₁ : ℕ} {k k₁ : State} → (k₁ < k) × Resting n t c z L u k L₁ u₁ k₁
    → (L' : List ℕ) (u' : ℕ) (r : ControlFlow Stated Stated) → ClimbSays n t c z L₁ u₁ k₁ L' u' r → ClimbSays n t c z L u k L' u' r
says_on R L' u' (Break y) C = R.1.onward C
says_on R L' u' (Continue k') S = (omega (arith, R.0, S.0), rest_on R.1 S.1)

-- ── One letter ─────────────────────────────────────────────────────────────

module _ {L : List ℕ} {n t u : ℕ} (B : Begun L n t u) where
  -- a letter's climb starts at the supply of the last state
  pub begun-ready : {k : State} → (t ≢ 0) × (k ≡ at L (n + t)) → Ready L n t u k
  begun-ready told = rw told.1 (by B.path B.suffix B.free)
    where
      low : at L (n + t) ≤ t - 1
      low = B.down t (le_refl t)

      by : (l : List State) → SuffixPath (λ x. at L (n + x)) t l → u + length l ≤ t → Ready L n t u (at L (n + t))
      by l (ended e) h = absurd (told.0 e)
      by l (falls {l = r} p e s) h = record {
        chained = B.chained;
        inside = B.inside;
        below = omega (arith, low);
        down = B.down;
        heads = B.heads;
        path = r;
        suffix = rw e at s;
        free = omega arith;
      }

  -- its letter is the one in row 0
  letter_in_row : at L (t + 1) % 256 ≡ at L (suc t)
  letter_in_row = rw (add-one t) (mod-eq_of_lt B.letter)

  pub begun-zero : {z : MaybeState} → Looks L n t 0 (at L (t + 1)) z → Looks L n t 0 (at L (t + 1) % 256) z
  begun-zero Z = rw letter_in_row (rw (add-one t) at Z)

  -- r tells the supply of the last state
  module _ {r : MaybeState} (says : r ≡ supply_of (supply_in L n t)) where
    pub added-first : r ≡ None → Added n t L u L u
    added-first q = first-letter (supply-untold L n t r says q) refl refl

    module _ {k : Stated} (q : r ≡ Some k) where
      of_t : (t ≢ 0) × (k.0 ≡ at L (n + t))
      of_t = supply-told L n t r says k q

      pub start-ready : Ready L n t u k.0
      start-ready = begun-ready of_t

      pub letter-added : {L₁ : List ℕ} {u' : ℕ} {y : State} → Climbs n t (at L (t + 1) % 256) L u k.0 L₁ u' y
          → Added n t L u (set L₁ (n + (t + 1)) y) u'
      letter-added {L₁} {y = y} C =
          let p : 0 < t = omega (arith, of_t.0) in
          later_letter L₁ y p (rw (letter_in_row, of_t.1) at C) (rw (add-one t))

      -- it has an arrow: no climb
      pub added_at_once : {l : MaybeState} → Looks L n t k.0 (at L (t + 1) % 256) l → {y : Stated} → l ≡ Some y
          → Added n t L u (set L (n + (t + 1)) y.0) u
      added_at_once h i = letter-added (finds (rw i at h) refl refl)

      -- it has none
      pub rest-start : {z l : MaybeState} → Looks L n t 0 (at L (t + 1)) z → Looks L n t k.0 (at L (t + 1) % 256) l → l ≡ None
          → Resting n t (at L (t + 1) % 256) z L u k.0 L u k.0
      rest-start Z h i = record { there = record { ready = start-ready; zero = begun-zero Z; missing = rw i at h }; onward = λ C. C }
