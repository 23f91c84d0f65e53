-- `rides::data_size` meets its contract: the number of four bytes, low byte first, is the definition.
use native.Mathlib.Omega.{arith}
use Rattle.rides.specs.Rides.{data_size}
use Rattle.rides.proofs.data_size.Goals as goal

pub returns : goal.returns
unfolding data_size
returns c = omega (arith, c.from_le_bytes.ensures)
