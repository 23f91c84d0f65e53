-- `storacle_entries::storacle_build` meets its contract: each way out is a case of `StoracleBuildCase`, and for each `given` says what is
-- to be answered. The room fits a machine's number, as m is within a limit of few letters.
use mathlib.Core.Path.{sym}
use Rattle.marks.proofs.Empty.{no_letter, some_letter}
use native.Mathlib.Omega.{arith}
use lib.Seq.{length-take-le}
use Rattle.words.proofs.Limits.{storacle_limit}
use Rattle.storacle_entries.specs.Cases.{StoracleBuildCase}
use Rattle.storacle_entries.proofs.BuildSays.{given, says-filled, room_fits}
use Rattle.storacle_entries.proofs.storacle_build.Goals as goal

pub returns-then-is_empty : goal.returns-then-is_empty
returns-then-is_empty c = sym (given _ _ (StoracleBuildCase.on_empty_word (no_letter c.is_empty.ensures c.if-is_empty.true)))

pub returns-then-limit-m : goal.returns-then-limit-m
returns-then-limit-m c =
    let least = some_letter c.is_empty.ensures c.if-is_empty.false in
    sym (given _ _ (StoracleBuildCase.on_long_word least (omega (arith, storacle_limit, c.if-limit-m.true))))

pub overflow_mul-room : goal.overflow_mul-room
overflow_mul-room c = omega (arith, room_fits c.if-limit-m.false (omega arith))

pub returns-then-tables-room : goal.returns-then-tables-room
returns-then-tables-room c =
    let least = some_letter c.is_empty.ensures c.if-is_empty.false in
    sym (given _ _ (StoracleBuildCase.on_short_room least
    (omega (arith, storacle_limit, c.if-limit-m.false)) c.if-tables-room.true))

pub slice_bounds-fill-end-2 : goal.slice_bounds-fill-end-2
slice_bounds-fill-end-2 c = sym (length-take-le _ _ c.if-tables-room.false)

pub fill-requires : goal.fill-requires
fill-requires c =
    let least = some_letter c.is_empty.ensures c.if-is_empty.false in
    (least, omega (arith, c.if-limit-m.false), length-take-le _ _ c.if-tables-room.false)

pub returns : goal.returns
returns c =
    let least = some_letter c.is_empty.ensures c.if-is_empty.false in
    says-filled _ _ c.fill.ensures least (omega (arith, storacle_limit, c.if-limit-m.false)) c.if-tables-room.false
