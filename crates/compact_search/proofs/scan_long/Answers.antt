-- `compact_search::scan_long` meets its contract: the arrays are empty as they are made.
use Rattle.prepared.proofs.Made.{zeros-made}
use Rattle.compact_search.proofs.Laying.{untold-made}
use Rattle.compact_search.proofs.scan_long.Goals as goal

pub new-ready-requires : goal.new-ready-requires
new-ready-requires c = (zeros-made 256, untold-made 1024)
