use Prim.Native.Nat.{◌≤◌}
use Rattle.prepared.specs.Filling.{Apart}
use Rattle.prepared.proofs.lay_out.Given as goal

abbrev pub invariant-loop-letter : goal.invariant-loop-letter
invariant-loop-letter l = Apart l.column l.rows l.next × (l.next ≤ 16384)
