use mathlib.Core.Logic.{◌≢◌}
use Prim.Native.Nat.{ℕ, ◌<◌}
use Rattle.words.specs.Lists.{at}
use Rattle.storacle_table.proofs.first_alike.Given as goal

abbrev pub invariant-loop-z : goal.invariant-loop-z
invariant-loop-z l = (l.x < l.z) × ((j : ℕ) → l.x < j → j < l.z → at l.table j ≢ at l.table l.y)
