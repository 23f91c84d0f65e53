-- `compact_fill::Filling::mark_state` meets its contract: before arrow j the first j are marked.
use mathlib.Core.Path.{ap, ◌∙◌}
use native.Mathlib.Omega.{arith}
use borrow.Author.Rules.{rules}
use Rattle.compact_fill.specs.Filling.{letter_into}
use Rattle.compact_fill.specs.Held.{word_of}
use Rattle.compact_fill.proofs.OutArrows.{out-leads}
use Rattle.compact_fill.proofs.Marking.{marked-none, marked-one, state-marked}
use Rattle.compact_fill.proofs.Held.{entries_on, same_word, target_on}
use Rattle.compact_fill.proofs.Filling.mark_state.Goals as goal

pub loop-j-init : goal.loop-j-init
loop-j-init c = (search rules, marked-none)

pub letter_into-requires : goal.letter_into-requires
letter_into-requires c =
    let s = c.loop-j.invariant.0 in
    let to = target_on (same_word s) c.args.x.0 c.loop-j.j c.arrow_target-y.ensures in
    let o = out-leads c.args.self.now.first_form c.args.x.0 c.requires c.loop-j.j
    (omega (arith, c.loop-j-test.true, c.arrow_count-j-end.ensures)) in
    (omega (arith, o.up, to), omega (arith, o.inside, to, s.rows.letters))

pub loop-j-preserved : goal.loop-j-preserved
loop-j-preserved c =
    let s = c.loop-j.invariant.0 in
    let to = target_on (same_word s) c.args.x.0 c.loop-j.j c.arrow_target-y.ensures in
    let its_letter = rw (same_word s) at c.letter_into.ensures ∙ ap (letter_into (word_of c.args.self.now)) to in (
      entries_on s c.mark.ensures.same,
      marked-one c.loop-j.invariant.1 its_letter (c.args.self.now.first_form.bytes _) c.mark.ensures.bit,
    )

pub returns-clause-set : goal.returns-clause-set
returns-clause-set c =
    state-marked c.args.self.now.first_form c.args.x.0 c.requires c.loop-j.invariant.1
    (omega (arith, c.loop-j.auto.j-end, c.loop-j-test.false, c.arrow_count-j-end.ensures))
