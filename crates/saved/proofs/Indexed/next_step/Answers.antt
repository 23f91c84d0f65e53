-- `saved::Indexed::next_step` meets its contract: the state that is reached can be gone on from. The measure is how many states are left.
use native.Mathlib.Omega.{arith}
use Rattle.saved.proofs.Slots.{own-few, tabled_size, stand_next, target-climbs, leapt}
use Rattle.saved.proofs.Indexed.next_step.Goals as goal

pub bounds-table-n : goal.bounds-table-n
bounds-table-n c =
    omega (arith, tabled_size c.args.self.now.tabled, c.loop-x.invariant.1.inside)

pub loop-x-preserved : goal.loop-x-preserved
loop-x-preserved c =
    (omega arith, stand_next c.args.self.now.tabled c.loop-x.invariant.1 c.requires.0 c.loop-x-test.true)

pub bounds-table-n-2 : goal.bounds-table-n-2
bounds-table-n-2 c =
    omega (arith, tabled_size c.args.self.now.tabled, own-few c.args.self.now.word.now)

pub overflow_sub-result-2 : goal.overflow_sub-result-2
overflow_sub-result-2 c =
    omega (arith, target-climbs c.args.self.now.tabled c.loop-x.invariant.1 c.requires.0 c.loop-x-test.false)

pub overflow_sub-result-3 : goal.overflow_sub-result-3
overflow_sub-result-3 c =
    omega (arith, target-climbs c.args.self.now.tabled c.loop-x.invariant.1 c.requires.0 c.loop-x-test.false)

pub returns : goal.returns
returns c =
    leapt c.args.self.now.tabled c.loop-x.invariant.1 c.requires.0 c.loop-x-test.false
