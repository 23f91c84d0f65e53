-- `editions::compare_open` meets its contract: the check stands behind what it is the check of, within the file.
use Rattle.editions.proofs.Coding.{check-inside}
use Rattle.editions.proofs.compare_open.Goals as goal

pub read_check-requires : goal.read_check-requires
read_check-requires c = check-inside _ _ _ _ c.in_ok-end.ensures c.requires
