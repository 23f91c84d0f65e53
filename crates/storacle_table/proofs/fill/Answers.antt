-- `storacle_table::fill` meets its contract: the word is put into a cleared table (`word-ready`), then the columns and the spine, and what
-- `finish` leaves is the table of the word that stands there, which is this one.
use mathlib.Core.Path.{refl, ap, ◌∙◌}
use Rattle.storacle_table.specs.StoracleTable.{storacle_table}
use Rattle.storacle_table.proofs.Filling.{after-word, after-own, blank-word, blank-ready, spine-after, word-there, word-ready}
use Rattle.storacle_table.proofs.fill.Goals as goal

pub put_columns-requires : goal.put_columns-requires
put_columns-requires c =
    word-ready c.requires.2 (c.fill.ensures.after (λ y e. e)) c.widen.ensures refl c.requires.1

pub put_spine-requires : goal.put_spine-requires
put_spine-requires c =
    let ready = word-ready c.requires.2 (c.fill.ensures.after (λ y e. e)) c.widen.ensures refl c.requires.1 in
    blank-ready ready.0 c.put_columns.ensures

pub finish-requires : goal.finish-requires
finish-requires c =
    let ready = word-ready c.requires.2 (c.fill.ensures.after (λ y e. e)) c.widen.ensures refl c.requires.1 in
    let blank = blank-ready ready.0 c.put_columns.ensures in
    after-own (spine-after blank.0 c.requires.0 c.put_spine.ensures)

pub returns : goal.returns
returns c =
    let size = c.requires.2 in
    let cleared = (c.fill.ensures.after (λ y e. e)) in
    let put = c.widen.ensures in
    let ready = word-ready size cleared put refl c.requires.1 in
    let blank = blank-ready ready.0 c.put_columns.ensures in
    let spine-word = after-word (spine-after blank.0 c.requires.0 c.put_spine.ensures) in
    let blank-there = blank-word ready.0 c.put_columns.ensures in
    c.finish.ensures ∙ ap storacle_table (spine-word ∙ blank-there ∙ word-there size cleared put refl)
