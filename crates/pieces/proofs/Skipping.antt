-- LETTERS THAT ARE SKIPPED: none of those from `at` up to the first c behind it is c.
use mathlib.Core.Path.{◌≡◌, ap, ◌∙◌}
use mathlib.Core.Logic.{◌≢◌}
use mathlib.Core.Bool.{Bool, not}
use mathlib.Core.List.{List}
use Prim.Native.Nat.{ℕ, ◌+◌, ◌-◌, ◌≤◌, ◌<◌}
use native.Mathlib.Omega.{arith}
use lib.Dec.{eqb}
use lib.ListN.{length, drop, length-drop}
use lib.Seq.{get_or-drop}
use borrow.Author.Tests.{eqb-false}
use Rattle.std.specs.Prelude.{Option}
use Rattle.std.specs.List.{position, position_or_len}
use Rattle.std.specs.Option.{unwrap_or}
use Rattle.std.proofs.lemmas.List.Sums.{prefix_len-le-length, fails_before_first}
use Rattle.words.specs.Words.{Word, Letter, Place, letter}

first_or_all : (p : ℕ → Bool) (l : List ℕ) → unwrap_or (position p l) (length l) ≡ position_or_len p l
first_or_all p l = grind (arith, prefix_len-le-length {X = ℕ})

pub none-skipped : (v : Word) (at : Place) (c : Letter) → at ≤ length v → {r : Option ℕ} → r ≡ position (λ b. eqb b c) (drop at v)
    → {n : ℕ} → n ≡ unwrap_or r (length (drop at v))
    → (at ≤ at + n) × (at + n ≤ length v) × ((i : ℕ) → at ≤ i → i < at + n → letter v i ≢ c)
none-skipped v at c h {r} found {n} told = (omega arith, omega (arith, inside, length-drop at v), other)
  where
    is_c : Letter → Bool
    is_c b = eqb b c

    count : n ≡ position_or_len is_c (drop at v)
    count = told ∙ ap (λ (o : Option ℕ). unwrap_or o (length (drop at v))) found ∙ first_or_all is_c (drop at v)

    inside : n ≤ length (drop at v)
    inside = omega (arith, count, prefix_len-le-length (λ b. not (is_c b)) (drop at v))

    other : (i : ℕ) → at ≤ i → i < at + n → letter v i ≢ c
    other i low high e =
        let here : at + (i - at) ≡ i = omega arith in
        let not_c = fails_before_first is_c (drop at v) (i - at) 0 (omega (arith, count)) in
        eqb-false (letter (drop at v) (i - at)) c not_c (get_or-drop at v (i - at) 0 ∙ ap (letter v) here ∙ e)
