use Prim.Native.Nat.{◌-◌, ◌≤◌}
use lib.ListN.{length}
use Rattle.saved.specs.Stepping.{Standing}
use Rattle.saved.proofs.Indexed.next_step.Given as goal

abbrev pub invariant-loop-x : goal.invariant-loop-x
invariant-loop-x l = (l.before ≤ l.x) × Standing l.self.word.now l.x l.slot

abbrev pub decreases-loop-x : goal.decreases-loop-x
decreases-loop-x l = length l.self.word.now - l.x
