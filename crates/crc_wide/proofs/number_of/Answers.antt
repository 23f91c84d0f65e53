-- `crc_wide::number_of` meets its contract: the bits of the number are those of the bytes.
use native.Mathlib.Omega.{arith}
use Rattle.crc_wide.proofs.Ahead.{digits_of-six}
use Rattle.crc_wide.proofs.number_of.Goals as goal

pub returns : goal.returns
returns c =
    let six = c.args.six.now in
    let fits = c.fits-six in (
      digits_of-six six _ c.told-six c.fits-six (omega arith),
      omega (arith, fits 0, fits 1, fits 2, fits 3, fits 4, fits 5),
    )
