-- `storacle_table::cell` meets its contract: row and cell fit (`row_fits`), and are those of the definition.
use borrow.Author.Rules.{rules}
use Rattle.storacle_table.specs.StoracleTable.{cell_of}
use Rattle.storacle_table.proofs.cell.Goals as goal

pub returns : goal.returns
unfolding cell_of
returns c = search rules
