-- WHAT A CLIMB OF THE CODE COMES TO: the climb of figure 4 over the targets that the table holds, with the new state put before the targets
-- of each source, and all other entries as they were.
use mathlib.Core.Path.{◌≡◌, refl, sym, ap, ◌∙◌}
use mathlib.Core.Bool.{cond}
use mathlib.Core.Logic.{inl, inr, ◌≢◌}
use mathlib.Core.List.{List, [], ◌∷◌, Memᴰ}
use Prim.Native.Nat.{ℕ, zero, suc, ◌+◌, ◌*◌, ◌≤◌, ◌<◌}
use native.Mathlib.Nat.{le_refl, zero-add}
use native.Mathlib.Decide.{ℕ_discrete}
use native.Mathlib.Omega.{arith}
use lib.ListN.{length}
use lib.Dec.{eqb}
use borrow.Author.Tests.{eq-eqb, ne_eqb}
use Rattle.words.specs.Lists.{at}
use Rattle.words.specs.Words.{Letter}
use Rattle.words.specs.Answers.{arrow_to}
use Rattle.words.specs.Answers.{MaybeState}
use Rattle.words.proofs.Answers.{arrow-told, arrow-untold}
use Rattle.oracle.specs.Arrows.{State, Delta}
use Rattle.oracle.proofs.Grow.{Climb, stop, out, go}
use Rattle.chains.specs.Chains.{Chain, Chained, look_in, Looks, pushed}
use Rattle.chains.specs.Letters.{Ready, Climbs, finds, runs_out, goes_on}
use Rattle.chains.proofs.Looking.{chain-states, look_same}
use Rattle.chains.proofs.Pushing.{Pushable, push_size, push_elsewhere, push_low, push_chain, other_chain, push_heads}
use Rattle.chains.proofs.Climbing.{ready_push, ready-next}
use Rattle.chains.proofs.Model.{Targets, arrows_of, Gets}

-- ── Targets ────────────────────────────────────────────────────────────────

-- y put before the targets of k
pub put : Targets → State → State → Targets
put T k y x = cond (eqb x k) (y ∷ T x) (T x)

put-here : (T : Targets) (k y : State) → put T k y k ≡ y ∷ T k
unfolding put
put-here T k y = rw (eq-eqb k k refl)

put_other : (T : Targets) (k y x : State) → x ≢ k → put T k y x ≡ T x
unfolding put
put_other T k y x f = rw (ne_eqb x k f)

-- how many targets the states before k have
unfoldable pub total : Targets → ℕ → ℕ
total T zero = 0
total T (suc k) = total T k + length (T k)

pub total-same : (T T' : Targets) (n : ℕ) → ((x : State) → x < n → T' x ≡ T x) → total T' n ≡ total T n
unfolding total
total-same T T' zero h = refl
total-same T T' (suc n) h = rw (h n (le_refl _), total-same T T' n (λ x l. h x (omega arith)))

total-put : (T : Targets) (k y : State) (n : ℕ) → k < n → total (put T k y) n ≡ suc (total T n)
unfolding total
total-put T k y zero h = absurd (omega arith)
total-put T k y (suc n) h = by (ℕ_discrete n k) (total-put T k y n)
  where
    by : Dec (n ≡ k) → (k < n → total (put T k y) n ≡ suc (total T n))
        → total (put T k y) n + length (put T k y n) ≡ suc (total T n + length (T n))
    by (yes e) rec =
        let s = total-same T (put T k y) n (λ x l. put_other T k y x (omega arith)) in
        let l : length (put T k y n) ≡ suc (length (T n)) = rw e (ap length (put-here T k y)) in
        omega arith
    by (no e) rec = omega (arith, rec (omega arith), ap length (put_other T k y n e))

-- ── A table that holds targets ─────────────────────────────────────────────

pub record Held (L : List ℕ) (n u : ℕ) (T : Targets) : Type 0 where
  pub size : length L ≡ 6 * n
  pub heads : (x : State) → x < n → at L (2 * n + x) ≤ u
  pub chain : (x : State) → x < n → Chain L n (at L (2 * n + x)) (T x)

pub held-chained : {L : List ℕ} {n u : ℕ} {T : Targets} → Held L n u T → Chained L n
held-chained {T = T} H = record { size = H.size; chain = λ x h. (T x, H.chain x h) }

push_held : {L : List ℕ} {n u : ℕ} {T : Targets} {k : State} → Held L n u T → Pushable L n u k → (y : State) → y < n
    → Held (pushed L n u k y) n (suc u) (put T k y)
push_held {L} {n} {u} {T} {k} H P y g = record { size = push_size P y; heads = push_heads P y; chain = λ x h. by x h (ℕ_discrete x k) }
  where
    by : (x : State) → x < n → Dec (x ≡ k) → Chain (pushed L n u k y) n (at (pushed L n u k y) (2 * n + x)) (put T k y x)
    by x h (yes e) = rw (e, put-here T k y) (push_chain P y g (H.chain k P.source))
    by x h (no e) = rw (put_other T k y x e) (other_chain P y x h e (H.chain x h))

-- ── Climbs ─────────────────────────────────────────────────────────────────

-- two automata and supplies that agree up to k have the same climb from k
climb_agree : {δ δ' : Delta} {S S' : State → State} {c : Letter} {k y : State} {xs : List State}
    → ((x : State) → x ≤ k → δ' x c ≡ δ x c) → ((x : State) → x ≤ k → S' x ≡ S x) → ((x : State) → x ≤ k → S x ≤ x) → Climb δ' S' c k xs y
    → Climb δ S c k xs y
climb_agree {k = k} a b d (stop e) = stop (sym (a k (le_refl k)) ∙ e)
climb_agree {k = k} a b d (out z q e) = out z q (sym (a k (le_refl k)) ∙ e)
climb_agree {δ} {δ'} {S} {S'} {c} {k = k} a b d (go p e r) =
    let l = d k (le_refl k) in
    let q = b k (le_refl k) in
    let rest = climb_agree {δ = δ} {S = S} (λ x h. a x (omega arith)) (λ x h. b x (omega arith)) (λ x h. d x (omega arith)) r in
    go p (sym (a k (le_refl k)) ∙ e) (rw q at rest)

pub record ComesTo (a : State → Letter) (n t : ℕ) (c : Letter) (L : List ℕ) (u : ℕ) (T : Targets) (k : State)
    (L' : List ℕ) (u' : ℕ) (y : State) : Type 0 where
  pub xs : List State
  pub T' : Targets
  pub climb : Climb (arrows_of a t T) (λ x. at L (n + x)) c k xs y
  pub news : (x : State) → Gets T T' xs (suc t) x
  pub low : (x : State) → Memᴰ x xs → x ≤ k
  pub held : Held L' n u' T'
  pub used : u' ≡ length xs + u
  pub kept : (i : ℕ) → i < 2 * n → at L' i ≡ at L i
  pub unlaid : (i : ℕ) → i < n → at L' (3 * n + i) ≡ at L (3 * n + i)
  pub counts : total T' n + u ≡ total T n + u'

-- ── One push ───────────────────────────────────────────────────────────────

module _ {L : List ℕ} {n t u : ℕ} {T : Targets} {k : State} (R : Ready L n t u k) (H : Held L n u T) where
  abbrev L₁ : List ℕ
  L₁ = pushed L n u k (suc t)

  abbrev T₁ : Targets
  T₁ = put T k (suc t)

  held₁ : Held L₁ n (suc u) T₁
  held₁ = push_held H (ready_push R) (suc t) R.inside

  kept₁ : (i : ℕ) → i < 2 * n → at L₁ i ≡ at L i
  kept₁ i h = push_low (ready_push R) (suc t) i h

  unlaid₁ : (i : ℕ) → i < n → at L₁ (3 * n + i) ≡ at L (3 * n + i)
  unlaid₁ i h = let P = ready_push R in push_elsewhere P (suc t) (3 * n + i) (omega (arith, P.source)) (omega arith) (omega arith)

  counts₁ : total T₁ n ≡ suc (total T n)
  counts₁ = total-put T k (suc t) n (ready_push R).source

  out_of : (x : State) → x ≢ k → Memᴰ x (k ∷ []) → ⊥
  out_of x f (Memᴰ.head e) = f e
  out_of x f (Memᴰ.tail m) = elim m [ ]

  news₁ : (x : State) → Gets T T₁ (k ∷ []) (suc t) x
  news₁ x = by (ℕ_discrete x k)
    where
      by : Dec (x ≡ k) → Gets T T₁ (k ∷ []) (suc t) x
      by (yes e) = inl (Memᴰ.head e, rw e (put-here T k (suc t)))
      by (no e) = inr (out_of x e, put_other T k (suc t) x e)

-- ── All of them ────────────────────────────────────────────────────────────

-- the lookup of the code is that of the targets held
pub look_held : (a : State → Letter) {L : List ℕ} {n u : ℕ} (t : ℕ) (c : Letter) {T : Targets} {k : State} → Held L n u T
    → ((y : State) → y < n → at L y ≡ a y) → suc k < n
    → look_in (at L) t (T k) k c ≡ arrows_of a t T k c
look_held a {L} t c {T = T} {k = k} H same b = look_same (at L) a t (T k) k c same b (λ y m. chain-states (H.chain k (omega arith)) m)

module _ (a : State → Letter) {n t : ℕ} {c : Letter} where
  -- what the code finds is the arrow
  arrow-held : {L : List ℕ} {u : ℕ} {T : Targets} {k : State} → Ready L n t u k → Held L n u T → ((z : State) → z < n → at L z ≡ a z)
      → {r : MaybeState} → Looks L n t k c r → r ≡ arrow_to (arrows_of a t T k c)
  arrow-held {T = T} {k = k} R H same s =
      s.says (T k) (H.chain k (ready_push R).source)
      ∙ ap arrow_to (look_held a t c H same (omega (arith, R.below, R.inside)))

  pub comes_to : {L L' : List ℕ} {u u' : ℕ} {T : Targets} {k y : State} → Climbs n t c L u k L' u' y → Ready L n t u k → Held L n u T
      → ((z : State) → z < n → at L z ≡ a z) → ComesTo a n t c L u T k L' u' y
  comes_to {L} {u = u} {T = T} {k = k} {y = y} (finds s e q) R H same = rw (e, q) (record {
    xs = [];
    T' = T;
    climb = stop (arrow-told _ _ (record { 0 = y }) (arrow-held R H same s) refl);
    news = λ x. inr (λ m. elim m [ ], refl);
    low = λ x m. absurd (elim m [ ]);
    held = H;
    used = sym (zero-add u);
    kept = λ i h. refl;
    unlaid = λ i h. refl;
    counts = refl;
  })
  comes_to {L} {u = u} {T = T} {k = k} {y = y} (runs_out z q s e f) R H same = rw (e, f) (record {
    xs = k ∷ [];
    T' = put T k (suc t);
    climb = out z q (arrow-untold _ _ (arrow-held R H same s) refl);
    news = news₁ R H;
    low = λ x m. one x m;
    held = held₁ R H;
    used = omega arith;
    kept = kept₁ R H;
    unlaid = unlaid₁ R H;
    counts = omega (arith, counts₁ R H);
  })
    where
      one : (x : State) → Memᴰ x (k ∷ []) → x ≤ k
      one x (Memᴰ.head e) = omega arith
      one x (Memᴰ.tail m) = absurd (elim m [ ])
  comes_to {L} {L'} {u} {u'} {T} {k} {y} (goes_on p s r) R H same =
      join (comes_to r (ready-next R (λ z. omega arith)) (held₁ R H) (λ z h. kept₁ R H z (omega arith) ∙ same z h))
    where
      S : State → State
      S x = at L (n + x)

      below : S k < k
      below = omega (arith, R.down k (omega (arith, R.below)))

      join : ComesTo a n t c (pushed L n u k (suc t)) (suc u) (put T k (suc t)) (S k) L' u' y → ComesTo a n t c L u T k L' u' y
      join I = record {
        xs = k ∷ I.xs;
        T' = I.T';
        climb = go p (arrow-untold _ _ (arrow-held R H same s) refl) inner;
        news = λ x. news x (ℕ_discrete x k) (I.news x);
        low = low;
        held = I.held;
        used = omega (arith, I.used);
        kept = λ i h. I.kept i h ∙ kept₁ R H i h;
        unlaid = λ i h. I.unlaid i h ∙ unlaid₁ R H i h;
        counts = omega (arith, I.counts, counts₁ R H);
      }
        where
          not_k : Memᴰ k I.xs → ⊥
          not_k m = omega (arith, I.low k m, below)

          low : (x : State) → Memᴰ x (k ∷ I.xs) → x ≤ k
          low x (Memᴰ.head e) = omega arith
          low x (Memᴰ.tail m) = omega (arith, I.low x m, below)

          cons : {x : State} → x ≢ k → Memᴰ x (k ∷ I.xs) → Memᴰ x I.xs
          cons f (Memᴰ.head e) = absurd (f e)
          cons f (Memᴰ.tail m) = m

          news : (x : State) → Dec (x ≡ k) → Gets (put T k (suc t)) I.T' I.xs (suc t) x → Gets T I.T' (k ∷ I.xs) (suc t) x
          news x (yes e) (inl g) = absurd (not_k (rw e at g.0))
          news x (yes e) (inr g) = inl (Memᴰ.head e, g.1 ∙ rw e (put-here T k (suc t)))
          news x (no e) (inl g) = inl (Memᴰ.tail g.0, g.1 ∙ ap {B = List State} (λ l. suc t ∷ l) (put_other T k (suc t) x e))
          news x (no e) (inr g) = inr (λ m. g.0 (cons e m), g.1 ∙ put_other T k (suc t) x e)

          inner : Climb (arrows_of a t T) S c (S k) I.xs y
          inner = climb_agree (λ x h. ap (λ l. look_in a t l x c) (put_other T k (suc t) x (omega (arith, below))))
              (λ x h. kept₁ R H (n + x) (omega (arith, below, R.below, R.inside)))
              (λ x h. omega (arith, R.down x (omega (arith, below, R.below)))) I.climb
