-- `loaded::compare_arrows` meets its contract: what `Comparing` says holds before each arrow, and each way out is what `arrows_at` shows.
use mathlib.Core.Path.{refl, sym, ◌∙◌}
use native.Mathlib.Omega.{arith}
use mathlib.Core.Bool.{Bool, true, false, not, ◌&&◌, and-false}
use lib.Dec.{eqb}
use borrow.Author.Tests.{eqb-true, eq-eqb, ne_eqb}
use Rattle.loaded.proofs.compare_arrows.Goals.{then-shown-own, else-shown-own}
use Rattle.std.proofs.Common.{◌≡◌}
use Rattle.std.proofs.lemmas.Result.{err_from_is_err_and}
use Rattle.loaded.proofs.Comparing.{compare_start, compare_next, shows-refused, shows_too_many, shows_other}
use Rattle.loaded.proofs.Comparing.{shows-missing, shows-behind}
use Rattle.loaded.proofs.compare_arrows.Goals as goal

pub loop-slot-init : goal.loop-slot-init
loop-slot-init c =
    compare_start _ _ _ _ c.args.indexed.now.tabled.least

pub returns-in_err-shown : goal.returns-in_err-shown
returns-in_err-shown c =
    let p = err_from_is_err_and c.from_residual.result c.from_residual.ensures.1 in
    rw (p.1, p.2) (shows-refused c.loop-slot.invariant (omega arith) c.in_err-shown.ensures)

pub returns-then-total-slot : goal.returns-then-total-slot
returns-then-total-slot c =
    rw c.at.ensures (shows_too_many c.loop-slot.invariant (omega arith) c.in_ok-shown.ensures (omega arith))

not_true : (b : Bool) → not b ≡ true → b ≡ false
not_true true e = sym e
not_true false e = refl

not_false : (b : Bool) → not b ≡ false → b ≡ true
not_false true e = refl
not_false false e = sym e

pub returns-then-other : goal.returns-then-other
returns-then-other c =
    let up = eqb c.in_ok-shown.shown.up c.next_step-own.result.up in
    let over = eqb c.in_ok-shown.shown.over c.next_step-own.result.over in
    let other = elim c.if-shown-own.branch as (λ b. up && over ≡ false) [
      | then-shown-own w ↦ rw (ne_eqb _ _ w.if-shown-own.true)
      | else-shown-own w ↦ rw (not_true over (sym w.other-is ∙ c.if-other.true), and-false up)
    ] in
    rw c.at-then-other.ensures
    (shows_other c.loop-slot.invariant (omega arith) c.in_ok-shown.ensures c.next_step-own.ensures other)

pub loop-slot-preserved : goal.loop-slot-preserved
loop-slot-preserved c =
    let up = eqb c.in_ok-shown.shown.up c.next_step-own.result.up in
    let over = eqb c.in_ok-shown.shown.over c.next_step-own.result.over in
    let same = elim c.if-shown-own.branch as (λ b. up && over ≡ true) [
      | then-shown-own w ↦ absurd (w.if-shown-own.true (eqb-true _ _ (not_false up (sym w.other-is ∙ c.if-other.false))))
      | else-shown-own w ↦ rw (eq-eqb _ _ w.if-shown-own.false) (not_false over (sym w.other-is ∙ c.if-other.false))
    ] in
    compare_next c.loop-slot.invariant (omega arith) c.in_ok-shown.ensures c.next_step-own.ensures same

pub returns-then-missing : goal.returns-then-missing
returns-then-missing c =
    rw c.at-then-missing.ensures (shows-missing c.loop-slot.invariant (omega arith) (omega arith))

pub returns : goal.returns
returns c =
    shows-behind c.loop-slot.invariant (omega arith) (omega arith)
