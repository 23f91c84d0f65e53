-- What a lookup asks of a table so that it needs no test of its own: m is small, the entries are enough, the starts of row 2 stay within
-- row 3, and the targets of row 3 are states.
--
--   Formed L m    L has room for the table of m letters, and the numbers that a lookup follows stay inside
use Rattle.std.specs.Prelude.{List, ℕ, ◌+◌, ◌*◌, ◌≤◌, ◌<◌, length}
use Rattle.words.specs.Lists.{at}
use Rattle.oracle.specs.Arrows.{State}
use Rattle.table.specs.Table.{room}

pub record Formed (L : List ℕ) (m : ℕ) : Type 0 where
  pub enough : room m ≤ length L
  pub small : m < 65535
  pub starts : (x : State) → x ≤ m → at L (2 * (m + 1) + x) ≤ m + 1
  pub targets : (s : ℕ) → s ≤ m → at L (3 * (m + 1) + s) ≤ m
