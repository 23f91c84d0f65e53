use mathlib.Core.Path.{◌≡◌}
use Prim.Native.Nat.{◌≤◌}
use Rattle.std.specs.Prelude.{Some}
use Rattle.words.specs.declared.State.{State as Stated}
use Rattle.failure_table.specs.Asked.{ask_of}
use Rattle.failure_search.proofs.Readings.{LetterRead}
use Rattle.failure_search.proofs.read_window.Given as goal

abbrev pub invariant-loop-leads : goal.invariant-loop-leads
invariant-loop-leads l =
    LetterRead (ask_of l.table) l.text l.start l.table.m l.left l.leads l.failures
    × ((y : Stated) → l.leads ≡ Some y → y.0 ≤ l.table.m)

abbrev pub decreases-loop-leads : goal.decreases-loop-leads
decreases-loop-leads l = l.left
