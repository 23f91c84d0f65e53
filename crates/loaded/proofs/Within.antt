-- A FILE SHOWS THE SAME UNDER A LOWER LIMIT, up to its letters, unless it declares a length between the two: the fields before that length
-- know no limit, and the one test that does says the same of it. What is longer than a limit is refused under it.
use mathlib.Core.Path.{◌≡◌, refl}
use mathlib.Core.Bool.{Bool, true, false, cond}
use mathlib.Core.Logic.{◌⊎◌}
use mathlib.Core.List.{List}
use Prim.Native.Nat.{ℕ, ◌≤◌, ◌<◌}
use native.Mathlib.Omega.{arith}
use lib.Dec.{eqb}
use borrow.Author.Tests.{eqb-true, eq-eqb, le-leb, lt-leb}
use Rattle.words.specs.Words.{Place}
use Rattle.words.specs.Limits.{longest_word, least_saved}
use Rattle.words.proofs.Limits.{limits_allow}
use Rattle.std.specs.Prelude.{Result, Ok, Err}
use Rattle.answers.specs.declared.Fault.{Fault}
use Rattle.number.specs.declared.Number.{Number}
use Rattle.number.specs.Number.{number_at}
use Rattle.saved.specs.File.{edition}
use Rattle.loaded.specs.Load.{taking, field, stop, front_within, front_at}
use Rattle.loaded.specs.Cases.{Reads}

-- two ways to go on that agree on the number read
field-same : {A : Type 0} (s : List ℕ) (i : Place) (off on on' : ℕ → ℕ → A) → ((v : ℕ) (j : Place) → Reads s i v j → on v j ≡ on' v j)
    → field s i off on ≡ field s i off on'
field-same s i off on on' same = by (number_at s i) refl
  where
    by : (x : Result Number Fault) → number_at s i ≡ x → taking x off on ≡ taking x off on'
    by (Ok n) e = same n.value n.next.at e
    by (Err f) e = refl

test_same : {A : Type 0} (b : Bool) {x x' : A} (y : A) → (b ≡ true → x ≡ x') → cond b x y ≡ cond b x' y
test_same true y same = same refl
test_same false y same = refl

module _ (low : ℕ) (rises : low ≤ longest_word) (s : List ℕ) (o : Place) where
  pub front_unmoved : ((i : Place) (m : ℕ) (j : Place) → Reads s o edition i → Reads s i m j → (m ≤ low) ⊎ (longest_word < m))
      → front_within low s o ≡ front_at s o
  unfolding front_within
  front_unmoved agree =
      field-same s o stop _ _ (λ e i h. test_same (eqb e edition) (stop 7 o) (λ t.
      field-same s i stop _ _ (λ m j k. rw (limits_allow low longest_word m rises (agree i m j (rw (eqb-true e edition t) at h) k)))))

pub front-refused : (low : ℕ) → least_saved ≤ low → (s : List ℕ) (o : Place) {i : Place} {m : ℕ} {j : Place}
    → Reads s o edition i → Reads s i m j → low < m → front_within low s o ≡ stop 8 i
unfolding front_within
front-refused low least s o {m = m} h k longer =
    rw (h, eq-eqb edition edition refl, k, le-leb least_saved m (omega (arith, least, longer)), lt-leb m low longer)
