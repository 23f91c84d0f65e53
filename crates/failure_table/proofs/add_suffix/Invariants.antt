use mathlib.Core.Path.{◌≡◌}
use Prim.Native.Nat.{◌-◌}
use Rattle.failure_table.specs.Building.{word_in}
use Rattle.failure_table.proofs.Suffixes.{Walking}
use Rattle.failure_table.proofs.add_suffix.Given as goal

abbrev pub invariant-loop-k : goal.invariant-loop-k
invariant-loop-k l = (l.table ≡ l.initial.table) × (Walking (word_in l.initial.table l.m) l.i l.k l.x.0)

abbrev pub decreases-loop-k : goal.decreases-loop-k
decreases-loop-k l = l.m - l.k
