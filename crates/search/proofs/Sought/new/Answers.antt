-- ``search::Sought::new`` meets its contract: the last entry of the row of borders is the word's own.
use mathlib.Core.Path.{◌≡◌, ap, ◌∙◌}
use mathlib.Core.List.{List}
use Prim.Native.Nat.{ℕ, ◌-◌, ◌≤◌}
use native.Mathlib.Omega.{arith}
use lib.ListN.{length, replicate}
use Rattle.words.specs.Lists.{at}
use Rattle.words.specs.Words.{Word}
use Rattle.border.specs.Borders.{longest_border, borders}
use Rattle.border.proofs.Theorems.{border_shorter}
use Rattle.border.proofs.Filling.{borders-length, borders-last}
use Rattle.backward.proofs.AfterFind.{after_is}
use Rattle.search.proofs.Sought.new.Goals as goal

module _ (w : Word) {row : List ℕ} (filled : row ≡ borders w) where
  last-told : 1 ≤ length w → at row (length w - 1) ≡ longest_border w
  last-told h = ap (λ (l : List ℕ). at l (length w - 1)) filled ∙ borders-last w h

  zeros-told : {z : List ℕ} → z ≡ replicate (length row) 0 → z ≡ replicate (length w) 0
  zeros-told e = rw (ap length filled ∙ borders-length w) at e

pub overflow_cast-longest : goal.overflow_cast-longest
overflow_cast-longest c =
    omega (arith, c.type_inv.row (length c.args.word.now - 1))

pub overflow_sub-result : goal.overflow_sub-result
overflow_sub-result c =
    let word = c.args.word.now in
    omega (arith, last-told word c.fill.ensures c.requires.0, border_shorter word)

pub invariant_of-result-clause-moves : goal.invariant_of-result-clause-moves
invariant_of-result-clause-moves c =
    let word = c.args.word.now in
    omega (arith, last-told word c.fill.ensures c.requires.0, after_is word c.requires.0)

pub returns-clause-row : goal.returns-clause-row
returns-clause-row c = zeros-told c.args.word.now c.fill.ensures (c.fill-2.ensures.after (λ y e. e))
