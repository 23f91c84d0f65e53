-- AS FEW AS THE RULE'S ARROWS: the arrows by number are all different, and each is among those that the suffix rule adds or has from the
-- start. So their targets fit into two rows.
use mathlib.Core.Path.{◌≡◌, refl, ap, ◌∙◌}
use mathlib.Core.Option.{Option, none, some}
use mathlib.Core.List.{List, [], ◌∷◌, ◌++◌, Memᴰ}
use Prim.Native.Nat.{ℕ, zero, suc, ◌+◌, ◌-◌, ◌*◌, ◌/◌, ◌%◌, ◌≤◌, ◌<◌}
use native.Mathlib.Omega.{arith}
use lib.ListN.{length, length-append}
use Rattle.words.specs.Words.{Word}
use Rattle.words.proofs.Distinct.{Distinct, empty, more, distinct_length}
use Rattle.oracle.specs.Arrows.{State, Arrow, arrow, Delta}
use Rattle.oracle.specs.SuffixRule.{suffix_rule, oracle}
use Rattle.oracle.proofs.Targets.{target_member}
use Rattle.oracle.proofs.Theorems.{arrows-between}
use Rattle.compact.specs.Compact.{arrow_at, as_list, targets_up_to}

-- an arrow before others, if there is one
with_arrow_lem : ℕ → Option State → List Arrow → List Arrow
with_arrow_lem g none A = A
with_arrow_lem g (some y) A = arrow (g / 256) (g % 256) y ∷ A

module _ (δ : Delta) where
  arrows_up_to : ℕ → List Arrow
  arrows_up_to zero = []
  arrows_up_to (suc g) = with_arrow_lem g (arrow_at δ g) (arrows_up_to g)

  as_many : (g : ℕ) → length (arrows_up_to g) ≡ length (targets_up_to δ g)
  unfolding arrows_up_to targets_up_to with_arrow_lem
  as_many zero = refl
  as_many (suc g) = by (arrow_at δ g) (as_many g)
    where
      by : (o : Option State) → length (arrows_up_to g) ≡ length (targets_up_to δ g)
          → length (with_arrow_lem g o (arrows_up_to g)) ≡ length (targets_up_to δ g ++ as_list o)
      by none e = e ∙ unfold as_list in omega (arith, length-append (targets_up_to δ g) [])
      by (some y) e = unfold as_list in omega (arith, e, length-append (targets_up_to δ g) (y ∷ []))

  -- each is one of δ, and its number is below g
  pub record Below (g : ℕ) (a : Arrow) : Type 0 where
    pub number : 256 * a.source + a.on < g
    pub leads : δ a.source a.on ≡ some a.to

  arrow-below : (g : ℕ) {a : Arrow} → Memᴰ a (arrows_up_to g) → Below g a
  unfolding arrows_up_to with_arrow_lem
  arrow-below zero m = absurd (elim m [ ])
  arrow-below (suc g) {a} m = by (arrow_at δ g) refl m (arrow-below g)
    where
      later : Below g a → Below (suc g) a
      later B = record { number = omega (arith, B.number); leads = B.leads }

      by : (o : Option State) → arrow_at δ g ≡ o → Memᴰ a (with_arrow_lem g o (arrows_up_to g))
          → (Memᴰ a (arrows_up_to g) → Below g a) → Below (suc g) a
      by none e i before = later (before i)
      by (some y) e (Memᴰ.head q) before = rw q (record { number = omega arith; leads = e })
      by (some y) e (Memᴰ.tail i) before = later (before i)

  different : (g : ℕ) → Distinct (arrows_up_to g)
  unfolding arrows_up_to with_arrow_lem
  different zero = empty
  different (suc g) = by (arrow_at δ g) (different g)
    where
      by : (o : Option State) → Distinct (arrows_up_to g) → Distinct (with_arrow_lem g o (arrows_up_to g))
      by none before = before
      by (some y) before = more {a = arrow (g / 256) (g % 256) y}
          (λ b i e. absurd (omega (arith, (arrow-below g i).number, ap (λ (a : Arrow). 256 * a.source + a.on) e)))
          before

-- at most 2m - 1
pub targets-few : (p : Word) (g : ℕ) → length (targets_up_to (oracle p) g) ≤ length p + (length p - 1)
targets-few p g =
    omega (arith, as_many (oracle p) g, distinct_length (different (oracle p) g) (suffix_rule p) ruled, (arrows-between p).1)
  where
    ruled : (a : Arrow) → Memᴰ a (arrows_up_to (oracle p) g) → Memᴰ a (suffix_rule p)
    ruled a m = target_member (suffix_rule p) a.source a.on a.to (arrow-below (oracle p) g m).leads
