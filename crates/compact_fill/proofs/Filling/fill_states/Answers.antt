-- `compact_fill::Filling::fill_states` meets its contract: before state x the states below it are filled.
use native.Mathlib.Omega.{arith}
use borrow.Author.Rules.{rules}
use Rattle.compact_fill.proofs.Marking.{nothing-marked}
use Rattle.compact_fill.proofs.States.{nothing-filled, state-asked, state-told, all_told}
use Rattle.compact_fill.proofs.Held.{rows_on}
use Rattle.compact_fill.proofs.Filling.fill_states.Goals as goal

pub loop-x-init : goal.loop-x-init
loop-x-init c =
    (search rules, nothing-marked c.requires.empty, nothing-filled c.requires.zeros)

pub fill_state-before-requires : goal.fill_state-before-requires
fill_state-before-requires c =
    let I = c.loop-x.invariant in
    rw I.0.letters (state-asked I.2 c.args.self.now.first_form c.loop-x-test.true I.1)

pub loop-x-preserved : goal.loop-x-preserved
loop-x-preserved c =
    let I = c.loop-x.invariant in
    let told = state-told I.2 c.args.self.now.first_form c.loop-x-test.true I.1 (rw I.0.letters at c.fill_state-before.ensures.filled) in
    (rows_on I.0 c.fill_state-before.ensures.same, told.0, told.1)

pub returns-clause-sets : goal.returns-clause-sets
returns-clause-sets c =
    let I = c.loop-x.invariant in
    (all_told I.2 c.args.self.now.first_form (omega (arith, c.loop-x.auto.x-end, c.loop-x-test.false)) I.1).1

pub returns-clause-states : goal.returns-clause-states
returns-clause-states c =
    let I = c.loop-x.invariant in
    (all_told I.2 c.args.self.now.first_form (omega (arith, c.loop-x.auto.x-end, c.loop-x-test.false)) I.1).2
