-- `compact_fill::fill` meets its contract: the first form stands in cleared entries, and finishing leaves the compact rows of the same
-- word.
use mathlib.Core.Path.{refl}
use native.Mathlib.Omega.{arith}
use Rattle.compact_fill.proofs.Beginning.{finish_asked, finish_told}
use Rattle.compact_fill.proofs.fill.Goals as goal

pub finish-requires : goal.finish-requires
finish-requires c =
    let word = c.args.word.now in
    let asked = finish_asked (word) refl c.requires.0
    (λ i. omega (arith, c.type_inv.word i)) c.requires.2 (c.fill.ensures.after (λ y e. e)) c.fill-2.ensures c.args.sets.now c.requires.1 in
    record { first_form = asked.0; zeros = asked.1 }

pub returns : goal.returns
returns c =
    let word = c.args.word.now in
    finish_told (word) refl c.requires.0 (λ i. omega (arith, c.type_inv.word i))
    c.requires.2 (c.fill.ensures.after (λ y e. e)) c.fill-2.ensures c.finish.ensures
