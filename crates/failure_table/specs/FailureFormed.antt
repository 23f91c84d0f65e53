-- What a lookup asks of a table so that it needs no test of its own: the entries are enough, m is small, slots stay within their rows and
-- lead to older ones, targets are states, and failure arrows climb and stay below m.
--
--   FailureFormed L m  L has room for the table of m letters, and the numbers that a lookup follows stay inside
use Rattle.std.specs.Prelude.{◌≢◌, List, ℕ, ◌+◌, ◌*◌, ◌≤◌, ◌<◌, length}
use Rattle.words.specs.Lists.{at}
use Rattle.oracle.specs.Arrows.{State}
use Rattle.failure_table.specs.FailureTable.{failure_room}

pub record FailureFormed (L : List ℕ) (m : ℕ) : Type 0 where
  pub enough : failure_room m ≤ length L
  pub small : m < 65535
  pub firsts : (x : State) → x ≤ m → at L (2 * (m + 1) + x) ≤ m
  pub nexts : (s : ℕ) → 0 < s → s ≤ m → at L (3 * (m + 1) + s) < s
  pub targets : (s : ℕ) → s ≤ m → at L (4 * (m + 1) + s) ≤ m
  pub climbs : (x : State) → x ≤ m → at L (m + 1 + x) ≢ 0 → (x < at L (m + 1 + x)) × (at L (m + 1 + x) < m)
