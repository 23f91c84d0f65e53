-- ENTRIES that tell arrows: an arrow of formed rows leads to a state of m letters, so its target is not taken for the entry that tells
-- none. A column is filled from its start on, state by state; the first entries of all columns tell the arrows of state 0.
use mathlib.Core.Path.{◌≡◌, refl, sym, ap, ◌∙◌}
use mathlib.Core.Logic.{by_cases}
use mathlib.Core.Bool.{Bool, true, false}
use mathlib.Core.Option.{some}
use mathlib.Core.List.{List}
use Prim.Native.Nat.{ℕ, ◌+◌, ◌*◌, ◌≤◌, ◌<◌}
use native.Mathlib.Nat.{add-zero}
use native.Mathlib.Decide.{dec_le, dec_lt}
use native.Mathlib.Omega.{arith}
use lib.ListN.{length}
use Rattle.words.specs.Lists.{at}
use Rattle.words.specs.Words.{Letter}
use Rattle.oracle.specs.Arrows.{State, Delta}
use Rattle.oracle.proofs.Targets.{never}
use Rattle.prepared.specs.Prepared.{told, FewStates}
use Rattle.prepared.proofs.Told.{told-some, tells-some}
use Rattle.compact.specs.Compact.{in_set, how_many, read_compact}
use Rattle.compact.specs.CompactFormed.{CompactFormed}
use Rattle.compact.proofs.ReadBack.{beyond_bytes}
use Rattle.compact.proofs.Looking.{look_far, look_none, look_inside, look_some}
use Rattle.compact_search.specs.Preparing.{FirstTargets, FirstEntries}

-- ── One entry ──────────────────────────────────────────────────────────────

module _ {Z L : List ℕ} {m : ℕ} (F : CompactFormed Z L m) (x : State) (c : Letter) where
  pub target-inside : {y : State} → read_compact m Z L x c ≡ some y → y ≤ m
  target-inside {y} e = by_cases (dec_lt c 256)
      (λ b. by_cases (dec_le m x) (λ h. never (look_far F x c b h) e) (λ h. by b (omega arith) (in_set Z x c) refl))
      (λ b. never (beyond_bytes m Z L x c (omega arith)) e)
    where
      by : c < 256 → x < m → (member : Bool) → in_set Z x c ≡ member → y ≤ m
      by b h false q = never (look_none F x c b h q) e
      by b h true q =
          let place = at L (4 * (m + 1) + 4 * x) + how_many (in_set Z x) c in
          let same = sym (look_some F x c b h q refl) ∙ e in
          let leads : at L (8 * (m + 1) + place) ≡ y = cc in
          omega (arith, leads, F.targets place (look_inside F x c b h q))

  -- the target of an arrow
  pub target-tells : {y : State} → read_compact m Z L x c ≡ some y → told y ≡ read_compact m Z L x c
  target-tells {y} e = told-some y (λ q. omega (arith, target-inside e, F.small)) ∙ sym e

-- ── A column of them ───────────────────────────────────────────────────────

-- of n entries, the first i tell their arrows
pub record Telling (δ : Delta) (c : Letter) (n : ℕ) (F : List ℕ) (i : ℕ) : Type 0 where
  pub size : length F ≡ n
  pub tells : (x : State) → x < i → told (at F x) ≡ δ x c

-- ── The first ones ─────────────────────────────────────────────────────────

-- of all columns, copied: they tell the arrows of state 0
pub copied_first : {Z L C D F : List ℕ} {m rows : ℕ} → CompactFormed Z L m → FewStates (read_compact m Z L) C D rows
    → 0 < rows → FirstEntries C D F 256 → FirstTargets (read_compact m Z L) m F
copied_first {Z} {L} {C} {D} {F} {m} W R h K = record {
  size = K.size;
  arrows = tells;
  states = λ c b f. target-inside W 0 c (tells-some (tells c b) f);
}
  where
    tells : (c : Letter) → c < 256 → told (at F c) ≡ read_compact m Z L 0 c
    tells c b = ap told (K.same c b ∙ ap (at D) (sym (add-zero (at C c)))) ∙ R.arrows 0 h c b
