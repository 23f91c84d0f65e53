-- PUTTING THE ARROWS OF ONE STATE into its entries, from its last extra arrow to its first, then the spine's: what is put later takes the
-- place of what stood there, so an entry has the arrow that the reading rule finds first. `Putting` is what holds before each slot.
use mathlib.Core.Path.{◌≡◌, refl, sym, ap, ◌∙◌}
use mathlib.Core.Logic.{◌⊎◌, inl, inr, ◌≢◌}
use mathlib.Core.Bool.{cond}
use mathlib.Core.Option.{none, some}
use mathlib.Core.List.{List}
use Prim.Native.Nat.{ℕ, ◌+◌, ◌*◌, ◌-◌, ◌≤◌, ◌<◌}
use native.Mathlib.Nat.{le_refl}
use native.Mathlib.Decide.{ℕ_discrete}
use native.Mathlib.Omega.{arith}
use lib.ListN.{length, set, length-set}
use lib.Dec.{eqb}
use borrow.Author.Tests.{eq-eqb, ne_eqb}
use Rattle.std.proofs.Common.{IsOk, Ok}
use Rattle.words.specs.Lists.{at}
use Rattle.words.specs.Words.{Letter}
use Rattle.oracle.specs.Arrows.{State}
use Rattle.table.specs.Table.{read_arrow}
use Rattle.table.specs.Formed.{Formed}
use Rattle.table.proofs.Formed.{first_of, arrow-far, arrow-spine, arrow-slots, slots-inside, slot-hit, slot_next, slot_end_lem}
use Rattle.prepared.specs.Prepared.{told}
use Rattle.prepared.proofs.Told.{told-some}
use Rattle.prepared.proofs.Parting.{entry_new, entry-letter, entry-state}
use Rattle.prepared.specs.Filling.{Apart, Told, OthersKept, Outcome, Put, PutState}

-- ── One arrow ──────────────────────────────────────────────────────────────

-- its letter has a column: it is put
pub put-there : {L C : List ℕ} {k : ℕ} {D : List ℕ} {x y : State} → Apart C k (length D) → at L y < 256 → x < k → at C (at L y) ≢ 0
    → y ≢ 65535 → Put L C k D x y (set D (at C (at L y) + x) y) (Ok tt)
put-there {L} {C} {k} {D} {x} {y} A byte low own small = record {
  size = length-set D _ y;
  others = λ z l f c b. entry-state D A byte low own y c z b l f;
  over = λ _ c b. by c b (ℕ_discrete c (at L y));
}
  where
    by : (c : Letter) → c < 256 → Dec (c ≡ at L y)
        → told (at (set D (at C (at L y) + x) y) (at C c + x)) ≡ cond (eqb (at L y) c) (some y) (told (at D (at C c + x)))
    by c b (yes q) = rw (q, eq-eqb (at L y) (at L y) refl) (ap told (entry_new D A byte low own y) ∙ told-some y small)
    by c b (no q) = rw (ne_eqb (at L y) c (λ r. q (sym r))) (ap told (entry-letter D A byte low own y c b q))

-- ── Slot by slot ───────────────────────────────────────────────────────────

-- where the slots of x start and end
abbrev pub slot_start : List ℕ → ℕ → State → ℕ
slot_start L m x = at L (2 * (m + 1) + x)

abbrev pub slot_end : List ℕ → ℕ → State → ℕ
slot_end L m x = at L (2 * (m + 1) + x + 1)

-- the slots of x from s on are put
pub record Putting (L : List ℕ) (m : ℕ) (C : List ℕ) (k : ℕ) (D₀ : List ℕ) (x : State) (D : List ℕ) (s : ℕ) : Type 0 where
  pub size : length D ≡ length D₀
  pub others : OthersKept C k D₀ x D
  pub low : s ≤ slot_end L m x
  pub place : (slot_start L m x ≤ s) ⊎ (s ≡ slot_end L m x)
  pub row : Told C D₀ x (λ _. none) → Told C D x (λ c. first_of L c (3 * (m + 1) + s) (slot_end L m x - s))

module _ {L : List ℕ} {m : ℕ} {C : List ℕ} {k : ℕ} {D₀ : List ℕ} {x : State} where
  -- no arrow leaves the last state
  pub put_last : m ≤ x → PutState L m C k D₀ x D₀ (Ok tt)
  put_last h = record {
    size = refl;
    others = λ y l f c b. refl;
    arrows = λ _ R c b. R c b ∙ sym (arrow-far L m x c h);
  }

  -- no slot is put
  pub put-start : Putting L m C k D₀ x D₀ (slot_end L m x)
  put-start = record {
    size = refl;
    others = λ y h f c l. refl;
    low = le_refl _;
    place = inr refl;
    row = λ R c l. R c l ∙ sym (slot_end_lem L c (3 * (m + 1)) (slot_end L m x) (slot_end L m x) (le_refl _));
  }

  module _ {D : List ℕ} {s : ℕ} (P : Putting L m C k D₀ x D s) {y : State} {D' : List ℕ} {r : Outcome} (Q : Put L C k D x y D' r) where
    others_too : OthersKept C k D₀ x D'
    others_too z h f c l = Q.others z h f c l ∙ P.others z h f c l

    -- one slot more is put
    pub put_step : IsOk r → {t : ℕ} → s ≡ t + 1 → slot_start L m x < s → 3 * (m + 1) + t < length L → y ≡ at L (3 * (m + 1) + t)
        → Putting L m C k D₀ x D' t
    put_step e {t} one more inside its = record {
      size = Q.size ∙ P.size;
      others = others_too;
      low = omega (arith, P.low);
      place = inl (omega arith);
      row = λ R c b. Q.over e c b ∙ by R c b (ℕ_discrete (at L y) c);
    }
      where
        before : t < slot_end L m x
        before = omega (arith, P.low)

        by : Told C D₀ x (λ _. none) → (c : Letter) → c < 256 → Dec (at L y ≡ c)
            → cond (eqb (at L y) c) (some y) (told (at D (at C c + x))) ≡ first_of L c (3 * (m + 1) + t) (slot_end L m x - t)
        by R c b (yes q) =
            rw (eq-eqb (at L y) c q, its) (sym (slot-hit L c (3 * (m + 1)) t (slot_end L m x) before inside (rw its at q)))
        by R c b (no f) =
            let next = slot_next L c (3 * (m + 1)) t (slot_end L m x) before inside (rw its at f) in
            rw (ne_eqb (at L y) c f) ((rw one at (P.row R c b)) ∙ sym next)

    -- all slots are put, and so is the spine's arrow
    pub put-end : s ≤ slot_start L m x → x < m → y ≡ x + 1 → PutState L m C k D₀ x D' r
    put-end done h spine = record {
      size = Q.size ∙ P.size;
      others = others_too;
      arrows = λ e R c b. Q.over e c b ∙ by R c b (ℕ_discrete (at L y) c);
    }
      where
        start : ℕ
        start = slot_start L m x

        end : ℕ
        end = slot_end L m x

        all_slots : (c : Letter) → (start ≤ s) ⊎ (s ≡ end)
            → first_of L c (3 * (m + 1) + s) (end - s) ≡ first_of L c (3 * (m + 1) + start) (end - start)
        all_slots c (inl l) = let q : s ≡ start = omega arith in rw q
        all_slots c (inr e) =
            slot_end_lem L c (3 * (m + 1)) s end (omega arith)
            ∙ sym (slot_end_lem L c (3 * (m + 1)) start end (omega arith))

        by : Told C D₀ x (λ _. none) → (c : Letter) → c < 256 → Dec (at L y ≡ c)
            → cond (eqb (at L y) c) (some y) (told (at D (at C c + x))) ≡ read_arrow m L x c
        by R c b (yes q) = rw (eq-eqb (at L y) c q, spine) (sym (arrow-spine L m x c h (rw spine at q)))
        by R c b (no f) =
            rw (ne_eqb (at L y) c f)
            (P.row R c b ∙ all_slots c P.place ∙ sym (arrow-slots L m x c h (rw spine at f)))

-- the slots are those of row 3
pub slots-low : {L : List ℕ} {m : ℕ} {C : List ℕ} {k : ℕ} {D₀ : List ℕ} {x : State} {D : List ℕ} {s : ℕ} → Formed L m → x < m
    → Putting L m C k D₀ x D s → s ≤ m + 1
slots-low {x = x} F h P = omega (arith, slots-inside F x h, P.low)
