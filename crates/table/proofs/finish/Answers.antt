-- `table::finish` meets its contract: what the three calls leave is the table, row by row (`finished`).
use native.Mathlib.Omega.{arith}
use Rattle.table.proofs.Finishing.{chains_own, finished}
use Rattle.table.proofs.finish.Goals as goal

pub lay_out-requires : goal.lay_out-requires
lay_out-requires c =
    record {
      m_bound = c.requires.m_bound;
      chains_of = chains_own c.requires.blank c.add_letters-used.ensures;
    }

pub returns : goal.returns
returns c =
    let laid = c.lay_out.ensures in
    finished c.requires.blank c.add_letters-used.ensures laid (c.fill.ensures.after (λ y e. e)) (omega arith)
