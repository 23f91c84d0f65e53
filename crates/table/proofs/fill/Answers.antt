-- `table::fill` meets its contract: with the word in a cleared table letters can be added (`word_blank`), and the word that stands there is
-- the one written (`word_put_lem`).
use mathlib.Core.Path.{refl, ap, ◌∙◌}
use native.Mathlib.Omega.{arith}
use Rattle.table.specs.Table.{table_of}
use Rattle.table.proofs.Filling.{word_blank, word_put_lem}
use Rattle.table.proofs.fill.Goals as goal

pub finish-requires : goal.finish-requires
finish-requires c =
    let put = c.widen.ensures in
    let blank = word_blank c.requires.1 (c.fill.ensures.after (λ y e. e)) put refl in
    record {
      m_bound = c.requires.0;
      blank = blank (λ i h. omega (arith, c.type_inv.word i));
    }

pub returns : goal.returns
returns c =
    c.finish.ensures ∙ ap table_of (word_put_lem c.requires.1 (c.fill.ensures.after (λ y e. e)) c.widen.ensures refl)
