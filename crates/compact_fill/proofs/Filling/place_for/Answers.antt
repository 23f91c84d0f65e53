-- `compact_fill::Filling::place_for` meets its contract: behind the start of the letter's word, and behind the ones of that below its bit
-- (`place-counted`).
use mathlib.Core.Path.{◌∙◌}
use native.Mathlib.Omega.{arith}
use Rattle.table.proofs.Theorems.{oracle-over}
use Rattle.compact_fill.specs.Held.{word_of}
use Rattle.compact_fill.proofs.Putting.{place_inside, place-counted}
use Rattle.compact_fill.proofs.Filling.place_for.Goals as goal

pub letter_into-c-requires : goal.letter_into-c-requires
letter_into-c-requires c =
    let v = (oracle-over (word_of c.args.self.now)).into _ _ _ c.requires.leads.1 in
    (omega (arith, v.1), omega (arith, v.1, v.2, c.args.self.now.first_form.long))

pub returns : goal.returns
returns c =
    let F = c.args.self.now.first_form in
    let x = c.args.x.0 in
    let h = c.requires.leads.0 in
    let counted = c.place.ensures
    ∙ place-counted F x h c.args.self.now.sets.now c.requires.told.0 c.requires.told.1 (F.bytes _)
    c.letter_into-c.ensures in
    (omega (arith, counted, place_inside F x h c.args.y.0 c.requires.leads.1), counted)
