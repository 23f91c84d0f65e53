-- `compact_fill::fill_mirror` meets its contract: the first form stands in cleared entries, and finishing leaves the compact rows of the
-- same word; a mirror's letters are bytes too.
use native.Mathlib.Omega.{arith}
use lib.ListN.{length-reverse}
use Rattle.words.specs.Words.{mirror}
use Rattle.compact_fill.proofs.Beginning.{mirror-bytes, finish_asked, finish_told}
use Rattle.compact_fill.proofs.fill_mirror.Goals as goal

pub finish-requires : goal.finish-requires
finish-requires c =
    let word = c.args.word.now in
    let bytes = mirror-bytes word (λ i. omega (arith, c.type_inv.word i)) in
    let asked = finish_asked (mirror word)
    (length-reverse word) c.requires.0 bytes c.requires.2
    (c.fill.ensures.after (λ y e. e)) c.fill_mirror.ensures c.args.sets.now c.requires.1 in
    record { first_form = asked.0; zeros = asked.1 }

pub returns : goal.returns
returns c =
    let word = c.args.word.now in
    let bytes = mirror-bytes word (λ i. omega (arith, c.type_inv.word i)) in
    finish_told (mirror word) (length-reverse word) c.requires.0 bytes
    c.requires.2 (c.fill.ensures.after (λ y e. e)) c.fill_mirror.ensures c.finish.ensures
