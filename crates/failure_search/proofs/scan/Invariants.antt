use Prim.Native.Nat.{◌-◌}
use lib.ListN.{length}
use Rattle.failure_table.specs.Asked.{ask_of}
use Rattle.failure_search.specs.Memory.{Remembers}
use Rattle.failure_search.proofs.SoFar.{SoFar}
use Rattle.failure_search.proofs.scan.Given as goal

abbrev pub invariant-window : goal.invariant-window
invariant-window l =
    SoFar (ask_of l.table) l.sought.word.now l.text l.initial.finds l.finds l.s.0 l.count l.letters l.failures
    × Remembers (ask_of l.table) l.told

abbrev pub decreases-window : goal.decreases-window
decreases-window l = length l.text - l.s.0
