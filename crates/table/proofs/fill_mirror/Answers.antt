-- `table::fill_mirror` meets its contract, as `fill` does: a mirror's letters are bytes too.
use mathlib.Core.Path.{ap, ◌∙◌}
use native.Mathlib.Omega.{arith}
use lib.ListN.{length-reverse}
use Rattle.table.specs.Table.{table_of}
use Rattle.table.proofs.Filling.{word_blank, word_put_lem}
use Rattle.table.proofs.Copying.{mirror-small}
use Rattle.table.proofs.fill_mirror.Goals as goal

pub finish-requires : goal.finish-requires
finish-requires c =
    let w = c.args.word.now in
    let small = mirror-small w (λ i. omega (arith, c.type_inv.word i)) in
    let put = c.put_mirror.ensures in
    record {
      m_bound = c.requires.0;
      blank = word_blank c.requires.1 (c.fill.ensures.after (λ y e. e)) put (length-reverse w) small;
    }

pub returns : goal.returns
returns c =
    let same_size = length-reverse c.args.word.now in
    let put = c.put_mirror.ensures in
    c.finish.ensures ∙ ap table_of (word_put_lem c.requires.1 (c.fill.ensures.after (λ y e. e)) put same_size)
