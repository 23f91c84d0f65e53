-- `compact_search::rows_for` meets its contract: there are no more columns than entries.
use Prim.Native.Nat.{◌+◌}
use native.Mathlib.Omega.{arith}
use Rattle.std.proofs.lemmas.Nat.{le-div}
use Rattle.compact.specs.Compact.{in_set}
use Rattle.compact.proofs.Counting.{count_most}
use Rattle.compact_search.proofs.rows_for.Goals as goal

pub returns-clause-some : goal.returns-clause-some
returns-clause-some c =
    let few = count_most (in_set c.args.arrows.now.sets.now 0) 256 in
    let one = le-div 1 1024 (c.rank-columns.result + 1) (omega arith) (omega (arith, c.rank-columns.ensures, few)) in
    omega (arith, c.min.ensures, one)
