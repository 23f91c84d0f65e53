-- `failure_table::along_spine` meets its contract: both parts are within the word, and what they share is along the spine.
use Rattle.std.proofs.Common.{◌-◌, ◌≤◌}
use Rattle.std.proofs.Math.Nat.{min-le_left, min-le_right}
use native.Mathlib.Omega.{arith}
use Rattle.failure_table.proofs.Sharing.{along_shared}
use Rattle.failure_table.proofs.along_spine.Goals as goal

pub returns : goal.returns
returns c =
    let m = c.args.m in
    let most : c.min-most.result ≤ m - c.args.x = rw c.min-most.ensures (min-le_left (m - c.args.x) (m - 1 - c.args.k)) in
    let inside : c.min-most.result ≤ m - 1 - c.args.k = rw c.min-most.ensures (min-le_right (m - c.args.x) (m - 1 - c.args.k)) in
    along_shared _ _ _ _ c.min-most.result (omega (arith, most, c.requires.1)) (omega (arith, inside, c.requires.2)) c.shared.ensures
