-- `failure_search::read_window` meets its contract: before each letter `LetterRead` holds of the one behind it. The measure is how many
-- letters are left.
use mathlib.Core.Path.{ap}
use Prim.Native.Nat.{◌+◌, ◌-◌}
use native.Mathlib.Omega.{arith}
use Rattle.words.specs.Lists.{at}
use Rattle.failure_table.specs.declared.Answered.{Answered}
use Rattle.failure_search.proofs.States.{few-taken, next-state}
use Rattle.failure_search.proofs.Readings.{all_to_read, none_to_read, letter_read}
use Rattle.failure_search.proofs.read_window.Goals as goal

pub loop-leads-init : goal.loop-leads-init
loop-leads-init c =
    let t = c.args.table.now in
    let told = c.requires.told in
    let few = few-taken _ _ t.formed.small _ _ in (
      letter_read all_to_read (omega (arith, c.requires.inside.0)) few told.leads (omega (arith, told.taken)),
      next-state t.formed 0 _ told.leads,
    )

pub overflow_add-failures : goal.overflow_add-failures
overflow_add-failures c =
    let small = c.args.table.now.formed.small in
    let taken = ap (λ (a : Answered). a.taken) c.ask-a.ensures in
    let letter = at c.args.text.now (c.args.s.0 + (c.loop-leads.left - 1)) in
    let few = few-taken c.args.table.now.m c.args.table.now.entries.now small c.in-Some.x.0 letter in
    omega (arith, c.loop-leads.invariant.0.few, c.loop-leads.invariant.0.within, taken)

pub loop-leads-preserved : goal.loop-leads-preserved
loop-leads-preserved c =
    let t = c.args.table.now in
    let still = c.loop-leads.invariant.0.goes _ c.in-Some.is in
    let leads = ap (λ (a : Answered). a.leads) c.ask-a.ensures in
    let taken = ap (λ (a : Answered). c.loop-leads.failures + a.taken) c.ask-a.ensures in
    (letter_read still c.if-left-eq0.false (few-taken _ _ t.formed.small _ _) leads taken, next-state t.formed _ _ leads)

pub returns-then-left-eq0 : goal.returns-then-left-eq0
returns-then-left-eq0 c =
    none_to_read (c.loop-leads.invariant.0.goes _ c.in-Some.is) c.if-left-eq0.true
