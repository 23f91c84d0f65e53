-- `chains::climb` meets its contract. Behind the push the walk is at a smaller state, k's supply, and what holds there holds from k on:
-- `climb-found`, `climb_rests`, and `says_on` for what the call below answers.
use native.Mathlib.Omega.{arith}
use Rattle.chains.proofs.Climbing.{ready_again, zero_again, climb-out, climb-found, climb_rests, says_on}
use Rattle.chains.proofs.+climb.Goals as goal

-- the suffix path ends at k
pub returns-in_default : goal.returns-in_default
returns-in_default t c = climb-out c.requires.climbing c.push.ensures c.supply_at-next.ensures c.in_default.is

pub look-found-requires : goal.look-found-requires
look-found-requires t c =
    let K = c.requires.climbing in
    let R = ready_again K c.push.ensures c.supply_at-next.ensures c.in-Some.is in
    let Z = zero_again K c.push.ensures c.supply_at-next.ensures c.in-Some.is in
    record { n_bound = (c.requires.n_bound, omega (arith, R.inside), R.below); chained = (R.chained, Z) }

-- the supply has no arrow: the walk rests there ..
pub returns-then-left-le1 : goal.returns-then-left-le1
returns-then-left-le1 t c =
    climb_rests c.requires.climbing c.push.ensures c.supply_at-next.ensures c.in-Some.is c.look-found.ensures c.in_default-found.is

-- .. or goes on
pub climb-requires : goal.climb-requires
climb-requires t c =
    let R =
    climb_rests c.requires.climbing c.push.ensures c.supply_at-next.ensures c.in-Some.is c.look-found.ensures c.in_default-found.is in
    (omega (arith, c.decreases, R.0), (c.requires.n_bound, R.1.there))

pub returns-in_default-found : goal.returns-in_default-found
returns-in_default-found t c =
    let R =
    climb_rests c.requires.climbing c.push.ensures c.supply_at-next.ensures c.in-Some.is c.look-found.ensures c.in_default-found.is in
    says_on R _ _ c.climb.result.walk c.climb.ensures

-- it has one
pub returns : goal.returns
returns t c = climb-found c.requires.climbing c.push.ensures c.supply_at-next.ensures c.in-Some.is c.look-found.ensures c.in-Some-found.is
