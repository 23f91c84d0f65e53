-- `chains::add_letter` meets its contract: where the last state's supply has no arrow, `Resting` holds before each part of the walk. The
-- measure is the state where it rests.
use mathlib.Core.Path.{sym, ◌∙◌}
use native.Mathlib.Omega.{arith}
use lib.ListN.{length-set}
use Rattle.chains.proofs.Climbing.{added-first, start-ready, begun-zero, added_at_once, letter-added, rest-start, rest_on}
use Rattle.chains.proofs.add_letter.Goals as goal

-- ── Before the walk ────────────────────────────────────────────────────────
pub returns-in_default : goal.returns-in_default
returns-in_default c =
    let B = c.requires.begun.0 in
    added-first B c.supply_at-supply.ensures c.in_default.is

pub look-found-requires : goal.look-found-requires
look-found-requires c =
    let B = c.requires.begun.0 in
    let R = start-ready B c.supply_at-supply.ensures c.in-Some.is in
    record {
      n_bound = (c.requires.n_bound, omega (arith, R.inside), R.below);
      chained = (R.chained, begun-zero B c.requires.begun.1);
    }

pub returns-in-Some-found : goal.returns-in-Some-found
returns-in-Some-found c =
    let B = c.requires.begun.0 in
    added_at_once B c.supply_at-supply.ensures c.in-Some.is c.look-found.ensures c.in-Some-found.is

-- ── The walk ───────────────────────────────────────────────────────────────
pub loop-s-init : goal.loop-s-init
loop-s-init c =
    let pre = c.requires.begun in
    rest-start pre.0 c.supply_at-supply.ensures c.in-Some.is pre.1
    c.look-found.ensures c.in_default-found.is

pub climb-climbed-requires : goal.climb-climbed-requires
climb-climbed-requires c =
    record {
      n_bound = c.requires.n_bound;
      climbing = c.loop-s.invariant.there;
    }

pub bounds-table-n-in-Break : goal.bounds-table-n-in-Break
bounds-table-n-in-Break c =
    let R = c.loop-s.invariant.there.ready in
    omega (arith, c.climb-climbed.auto.table, R.chained.size, R.inside)

pub shape_of-table-in-Break : goal.shape_of-table-in-Break
shape_of-table-in-Break c =
    let size = c.loop-s.invariant.there.ready.chained.size in
    simp length-set (c.climb-climbed.auto.table ∙ size ∙ sym c.requires.begun.0.chained.size)

pub returns-in-Break : goal.returns-in-Break
returns-in-Break c =
    let B = c.requires.begun.0 in
    letter-added B c.supply_at-supply.ensures c.in-Some.is
    (c.loop-s.invariant.onward (rw c.in-Break.is at c.climb-climbed.ensures))

pub loop-s-smaller : goal.loop-s-smaller
loop-s-smaller c =
    (rw c.in-Continue.is at c.climb-climbed.ensures).0

pub loop-s-preserved : goal.loop-s-preserved
loop-s-preserved c =
    let rested = rw c.in-Continue.is at c.climb-climbed.ensures in
    rest_on c.loop-s.invariant rested.1
