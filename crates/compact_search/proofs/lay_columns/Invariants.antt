use mathlib.Core.Path.{◌≡◌}
use Prim.Native.Nat.{◌+◌, ◌*◌}
use Rattle.compact.specs.Compact.{in_set, how_many}
use Rattle.compact.specs.Asked.{arrow_of}
use Rattle.compact_search.proofs.Laying.{Laying}
use Rattle.compact_search.proofs.lay_columns.Given as goal

abbrev pub invariant-loop-i : goal.invariant-loop-i
invariant-loop-i l =
    Laying (arrow_of l.arrows) l.rows l.column l.dense l.next l.i
    × (l.next ≡ l.rows * (how_many (in_set l.arrows.sets.now 0) l.i + 1))
