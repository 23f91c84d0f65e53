-- `saved::Indexed::file_size` meets its contract: what `Sizing` says holds before each slot. The measure is how many slots are left.
use native.Mathlib.Omega.{arith}
use Rattle.saved.proofs.Sizing.{size-start, size_fits, size_step, size-end}
use Rattle.saved.proofs.Slots.{own-few}
use Rattle.saved.proofs.Indexed.file_size.Goals as goal

pub overflow_cast-count : goal.overflow_cast-count
overflow_cast-count c =
    omega (arith, c.arrow_count-count.ensures, own-few c.args.self.now.word.now)

pub loop-slot-init : goal.loop-slot-init
loop-slot-init c =
    size-start c.args.self.now.tabled.least c.width-edition_width.ensures.0 c.width-m_width.ensures.0
    c.arrow_count-count.ensures c.width-count_width.ensures.0

pub overflow_add-size-in-loop-slot-2 : goal.overflow_add-size-in-loop-slot-2
overflow_add-size-in-loop-slot-2 c =
    omega (arith, size_fits c.loop-slot.invariant c.args.self.now.tabled)

pub loop-slot-preserved : goal.loop-slot-preserved
loop-slot-preserved c =
    size_step c.loop-slot.invariant c.next_step-leap.ensures c.width.ensures.0 c.width-in-loop-slot.ensures.0

pub returns : goal.returns
returns c =
    size-end c.loop-slot.invariant (omega (arith, c.arrow_count-count.ensures))
