use Rattle.std.proofs.Common.{◌≡◌, ◌<◌, ℕ, ◌↔◌, IsTrue}
use Rattle.words.specs.Lists.{at}
use Rattle.failure_table.proofs.same_row.Given as goal

abbrev pub invariant-loop-i : goal.invariant-loop-i
invariant-loop-i l = IsTrue l.same ↔ ((k : ℕ) → k < l.i → at l.a k ≡ at l.b k)
