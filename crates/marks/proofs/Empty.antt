-- What the test for the empty word tells of its length.
use mathlib.Core.Path.{◌≡◌, sym, ◌∙◌}
use Rattle.std.specs.Prelude.{◌≢◌}
use mathlib.Core.Bool.{Bool, true, false}
use Prim.Native.Nat.{ℕ, ◌≤◌, ◌<◌}
use native.Mathlib.Omega.{arith}
use lib.Dec.{eqb}
use borrow.Author.Tests.{eqb-true, eqb-false}

pub no_letter : {m : ℕ} {empty : Bool} → empty ≡ eqb m 0 → empty ≡ true → m < 1
no_letter {m} told e = omega (arith, eqb-true m 0 (sym told ∙ e))

pub some_letter : {m : ℕ} {empty : Bool} → empty ≡ eqb m 0 → empty ≡ false → 1 ≤ m
some_letter {m} told e = let h : m ≢ 0 = eqb-false m 0 (sym told ∙ e) in omega arith
