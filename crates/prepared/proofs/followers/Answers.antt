-- `prepared::followers` meets its contract: before each letter `Following` holds.
use Prim.Native.Nat.{◌<◌}
use native.Mathlib.Omega.{arith}
use Rattle.prepared.proofs.Marking.{following_none, following_last, following_step}
use Rattle.prepared.proofs.followers.Goals.{then-x-table, else-x-table}
use Rattle.prepared.proofs.followers.Goals as goal

pub loop-c-preserved-in_default : goal.loop-c-preserved-in_default
loop-c-preserved-in_default c =
    let byte : c.loop-c.c < 256 = omega (arith, c.loop-c-test.true, c.requires.size) in
    following_none c.requires byte c.loop-c.invariant c.in_default.is

pub loop-c-preserved : goal.loop-c-preserved
loop-c-preserved c =
    let byte : c.loop-c.c < 256 = omega (arith, c.loop-c-test.true, c.requires.size) in
    elim c.if-x-table.branch [
      | then-x-table w ↦ rw w.flags-is (following_step c.requires byte c.loop-c.invariant c.in-Some.is w.mark_state.ensures)
      | else-x-table w ↦ rw w.flags-is (following_last c.requires byte c.loop-c.invariant c.in-Some.is w.if-x-table.false)
    ]
