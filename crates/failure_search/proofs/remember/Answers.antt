-- `failure_search::remember` meets its contract: a table's letter takes fewer than 2^16 failure arrows.
use mathlib.Core.Path.{ap}
use native.Mathlib.Omega.{arith}
use Rattle.failure_table.specs.declared.Answered.{Answered}
use Rattle.failure_search.proofs.States.{few-taken}
use Rattle.failure_search.proofs.remember.Goals as goal

pub overflow_cast-told : goal.overflow_cast-told
overflow_cast-told c =
    let table = c.args.table.now in
    omega (arith, few-taken table.m table.entries.now table.formed.small 0 c.args.c.0, ap (λ (a : Answered). a.taken) c.ask-a.ensures)
