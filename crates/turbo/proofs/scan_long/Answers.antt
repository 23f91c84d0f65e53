-- `turbo::scan_long` meets its contract: the arrays are empty as they are made, and what is prepared in them is what the windows ask for.
use Rattle.prepared.proofs.Made.{zeros-made, empty-made}
use Rattle.turbo.proofs.scan_long.Goals as goal

pub prepare_columns-columns-requires : goal.prepare_columns-columns-requires
prepare_columns-columns-requires c = record { zeros = (zeros-made 256, empty-made) }
