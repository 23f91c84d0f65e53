-- `salvage::salvage` meets its contract: each return is a case of `salvage_says`. Behind the tests the room's part is lent and filled with
-- the table of `.FIT`'s mirror, and lent again to the listing, which lists the text's rides.
use mathlib.Core.Path.{refl, sym}
use native.Mathlib.Omega.{arith}
use lib.Seq.{length-take-le}
use Rattle.words.proofs.Limits.{text_limit}
use Rattle.salvage.specs.Cases.{on_long_text, on_short_room}
use Rattle.salvage.proofs.SalvageSays.{dot_fit-spelled, mirror-filled, dot_fit_room_lem, given, lent-table, lent-size, says-listed}
use Rattle.salvage.proofs.salvage.Goals as goal

pub returns-then-text-gt-TEXT_LIMIT : goal.returns-then-text-gt-TEXT_LIMIT
returns-then-text-gt-TEXT_LIMIT c = sym (given _ _ _ _ (on_long_text (omega (arith, text_limit, c.if-text-gt-TEXT_LIMIT.true))))

pub returns-then-tables-need : goal.returns-then-tables-need
returns-then-tables-need c =
    let short = c.if-text-gt-TEXT_LIMIT.false in
    sym (given _ _ _ _ (on_short_room (omega (arith, text_limit, short)) (omega (arith, dot_fit_room_lem, c.if-tables-need.true))))

pub slice_bounds-fill_mirror-end-3 : goal.slice_bounds-fill_mirror-end-3
slice_bounds-fill_mirror-end-3 c =
    sym (length-take-le 30 c.args.tables.now c.if-tables-need.false)

pub fill_mirror-requires : goal.fill_mirror-requires
fill_mirror-requires c =
    (omega arith, length-take-le 30 c.args.tables.now c.if-tables-need.false)

pub slice_bounds-list_parts-end-3 : goal.slice_bounds-list_parts-end-3
slice_bounds-list_parts-end-3 c =
    let tables = c.args.tables.now in
    lent-size tables (mirror-filled c.fill_mirror.ensures)

pub list_parts-count-requires : goal.list_parts-count-requires
list_parts-count-requires c =
    let table = mirror-filled c.fill_mirror.ensures in
    let tables = c.args.tables.now in
    record {
      word_value = (dot_fit-spelled, lent-table tables table);
      text_len_bound = (omega (arith, text_limit, c.if-text-gt-TEXT_LIMIT.false), refl);
    }

pub returns : goal.returns
returns c =
    let listed = c.list_parts-count.ensures in
    let table = mirror-filled c.fill_mirror.ensures in
    says-listed _ _ _ _ table listed.0 listed.1 (omega (arith, text_limit, c.if-text-gt-TEXT_LIMIT.false)) c.if-tables-need.false
