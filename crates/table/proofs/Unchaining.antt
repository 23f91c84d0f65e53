-- UNCHAINING the targets of one state: slot by slot they go from rows 4 and 5 into row 3, each before those that went already, so that the
-- newest stands last. `Unchaining` is what holds before each slot: the table's slots are as they were, and so is all that lies outside the
-- targets moved.
use mathlib.Core.Path.{◌≡◌, refl, sym, ap, ◌∙◌}
use mathlib.Core.Logic.{◌⊎◌, inl, inr, ◌≢◌}
use mathlib.Core.List.{List, [], ◌∷◌, reverse, reverse_aux}
use Prim.Native.Nat.{ℕ, zero, suc, ◌+◌, ◌*◌, ◌-◌, ◌≤◌, ◌<◌}
use native.Mathlib.Nat.{le_refl, add-zero}
use native.Mathlib.Omega.{arith}
use lib.ListN.{length, set, length-set, length-reverse}
use lib.Seq.{get_or-set_same, get_or-set_other}
use Rattle.words.specs.Lists.{at}
use Rattle.oracle.specs.Arrows.{State}
use Rattle.chains.specs.Chains.{Chain, ends, links}
use Rattle.chains.proofs.Looking.{chain-one, chain-inside}
use Rattle.table.specs.Layout.{Fits, Moved, Unchained}

-- ── What holds before each slot ────────────────────────────────────────────

-- K is the table so far, L the one at entry; the slots from j on hold the targets `rest`, and the targets `gone` stand in row 3 from slot s
-- on
pub record Unchaining (L : List ℕ) (n : ℕ) (x : State) (e : ℕ) (K : List ℕ) (s j : ℕ) : Type 0 where
  pub few : e < n
  pub inside : j < n
  pub low : s ≤ e
  pub rest : List State
  pub gone : List State
  pub size : length K ≡ 6 * n
  pub chain : Chain L n j rest
  pub fits : length rest ≤ s
  pub place : s + length gone ≡ e
  pub whole : (l : List State) → Chain L n (at L (2 * n + x)) l → reverse l ≡ reverse_aux rest gone
  pub moved : (i : ℕ) → i < length gone → at K (3 * n + (s + i)) ≡ at gone i
  pub kept : (i : ℕ) → (i < 3 * n + s) ⊎ (3 * n + e ≤ i) → at K i ≡ at L i

-- what is known of a slot whose target goes next
pub record Next (K : List ℕ) (n s j : ℕ) : Type 0 where
  pub older : at K (4 * n + j) < j
  pub room : 0 < s

-- ── Slot by slot ───────────────────────────────────────────────────────────

module _ {L : List ℕ} {n : ℕ} {x : State} {e : ℕ} where
  -- nothing is moved
  pub unchain_start : e < n → Fits L n x e → Unchaining L n x e L e (at L (2 * n + x))
  unchain_start b F = record {
    few = b;
    inside = chain-inside (omega arith) F.chain;
    low = le_refl e;
    rest = F.targets;
    gone = [];
    size = F.size;
    chain = F.chain;
    fits = F.fits;
    place = add-zero e;
    whole = λ l C. ap (λ (t : List State). reverse t) (chain-one C F.chain);
    moved = λ i h. absurd (omega arith);
    kept = λ i h. refl;
  }

  module _ {K : List ℕ} {s j : ℕ} (U : Unchaining L n x e K s j) where
    slots_kept : (i : ℕ) → 4 * n ≤ i → at K i ≡ at L i
    slots_kept i h = U.kept i (inr (omega (arith, U.few)))

    -- the next slot is an older one, and there is room for a target
    pub unchain_next : j ≢ 0 → Next K n s j
    unchain_next f = by U.chain U.fits
      where
        by : {r : List State} → Chain L n j r → length r ≤ s → Next K n s j
        by (ends z) h = absurd (f z)
        by (links p i y g o C) h = record { older = rw (slots_kept (4 * n + j) (omega arith)) o; room = omega arith }

    -- its target goes before the others
    pub unchain_step : j ≢ 0 → Unchaining L n x e (set K (3 * n + (s - 1)) (at K (5 * n + j))) (s - 1) (at K (4 * n + j))
    unchain_step f = by U.chain U.fits U.whole
      where
        y : State
        y = at K (5 * n + j)

        K' : List ℕ
        K' = set K (3 * n + (s - 1)) y

        by : {r : List State} → Chain L n j r → length r ≤ s
            → ((l : List State) → Chain L n (at L (2 * n + x)) l → reverse l ≡ reverse_aux r U.gone)
            → Unchaining L n x e K' (s - 1) (at K (4 * n + j))
        by (ends z) h w = absurd (f z)
        by (links {l = r} p i q g o C) h w = record {
          few = U.few;
          inside = omega (arith, o, slots_kept (4 * n + j) (omega arith));
          low = omega (arith, U.low);
          rest = r;
          gone = y ∷ U.gone;
          size = simp length-set U.size;
          chain = rw (slots_kept (4 * n + j) (omega arith)) C;
          fits = omega arith;
          place = omega (arith, U.place);
          whole = λ l D. rw (slots_kept (5 * n + j) (omega arith), ← q) (w l D);
          moved = moved;
          kept = kept;
        }
          where
            moved : (i : ℕ) → i < suc (length U.gone) → at K' (3 * n + (s - 1 + i)) ≡ at (y ∷ U.gone) i
            moved zero l = rw (add-zero (s - 1)) (get_or-set_same K (3 * n + (s - 1)) y 0 (omega (arith, U.size, U.low)))
            moved (suc i) l =
                let t : s - 1 + suc i ≡ s + i = omega arith in
                rw t (get_or-set_other K (3 * n + (s - 1)) (3 * n + (s + i)) y 0 (λ z. omega arith) ∙ U.moved i (omega arith))

            kept : (i : ℕ) → (i < 3 * n + (s - 1)) ⊎ (3 * n + e ≤ i) → at K' i ≡ at L i
            kept i (inl l) = get_or-set_other K (3 * n + (s - 1)) i y 0 (λ z. omega arith) ∙ U.kept i (inl (omega arith))
            kept i (inr l) = get_or-set_other K (3 * n + (s - 1)) i y 0 (λ z. omega (arith, U.low)) ∙ U.kept i (inr l)

    -- no slot is left: row 2 gets the start
    pub unchain_end : length L ≡ 6 * n → x < n → j ≡ 0 → Unchained L (set K (2 * n + x) s) n x e s
    unchain_end size h z = record { says = λ l C. by l U.chain (U.whole l C) }
      where
        other : (i : ℕ) → i ≢ 2 * n + x → at (set K (2 * n + x) s) i ≡ at K i
        other i f = get_or-set_other K (2 * n + x) i s 0 f

        by : (l : List State) {r : List State} → Chain L n j r → reverse l ≡ reverse_aux r U.gone
            → Moved L (set K (2 * n + x) s) n x e s l
        by l (links p i q g o C) w = absurd (omega arith)
        by l (ends q) w = record {
          size = simp length-set U.size ∙ sym size;
          place = omega (arith, U.place, many);
          start = get_or-set_same K (2 * n + x) s 0 (omega (arith, U.size));
          moved = λ i k. rw w (other (3 * n + (s + i)) (λ d. omega arith) ∙ U.moved i (omega (arith, many)));
          kept = λ i f k. other i f ∙ U.kept i k;
        }
          where
            many : length l ≡ length U.gone
            many = sym (length-reverse l) ∙ ap length w
