-- `saved::Indexed::write_file` meets its contract: what `PuttingSteps` says holds before each slot. The measure is how many slots are left.
use native.Mathlib.Omega.{arith}
use Rattle.saved.proofs.Slots.{own-few}
use Rattle.saved.proofs.Putting.{room_up, room-over, steps_next}
use Rattle.saved.proofs.Putting.{room-edition, room-size, room-letters, room-count, steps-start, file-put}
use Rattle.saved.proofs.Indexed.write_file.Goals as goal

pub write-size-requires : goal.write-size-requires
write-size-requires c =
    room-edition c.args.self.now.word.now c.args.out.now c.requires

pub write-letters-requires : goal.write-letters-requires
write-letters-requires c =
    room-size _ _ c.requires c.write-size.ensures

pub overflow_add-end : goal.overflow_add-end
overflow_add-end c =
    omega (arith, room-letters _ _ c.requires c.write-size.ensures c.write-letters.ensures)

pub slice_bounds-room-end : goal.slice_bounds-room-end
slice_bounds-room-end c =
    room-letters _ _ c.requires c.write-size.ensures c.write-letters.ensures

pub overflow_cast-count : goal.overflow_cast-count
overflow_cast-count c =
    omega (arith, c.arrow_count-count.ensures, own-few c.args.self.now.word.now)

pub write-at-requires : goal.write-at-requires
write-at-requires c =
    room-count _ _ c.requires c.write-size.ensures c.write-letters.ensures
    c.copy.ensures c.arrow_count-count.ensures

pub loop-slot-init : goal.loop-slot-init
loop-slot-init c =
    steps-start _ _ c.requires c.write-size.ensures c.write-letters.ensures
    c.copy.ensures c.arrow_count-count.ensures c.write-at.ensures c.args.self.now.tabled.least

pub write-middle-requires : goal.write-middle-requires
write-middle-requires c =
    room_up c.loop-slot.invariant c.next_step-leap.ensures

pub write-at-requires-in-loop-slot : goal.write-at-requires-in-loop-slot
write-at-requires-in-loop-slot c =
    room-over c.loop-slot.invariant c.next_step-leap.ensures c.write-middle.ensures

pub loop-slot-preserved : goal.loop-slot-preserved
loop-slot-preserved c =
    steps_next c.loop-slot.invariant c.next_step-leap.ensures c.write-middle.ensures c.write-at-in-loop-slot.ensures

pub returns : goal.returns
returns c =
    file-put _ _ c.requires c.write-size.ensures c.write-letters.ensures
    c.copy.ensures c.arrow_count-count.ensures c.write-at.ensures c.loop-slot.invariant
    (omega (arith, c.arrow_count-count.ensures))
