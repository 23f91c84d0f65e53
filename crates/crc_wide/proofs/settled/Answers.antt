-- `crc_wide::settled` meets its contract, call by call.
use mathlib.Core.Path.{◌≡◌}
use native.Mathlib.Omega.{arith}
use Rattle.crc.specs.Check.{shifts}
use Rattle.crc_wide.proofs.Ahead.{settled_small, settled_by}
use Rattle.crc_wide.proofs.settled.Goals as goal

pub overflow_cast-result : goal.overflow_cast-result
overflow_cast-result c =
    let by = settled_by c.args.acc in
    let all : c.half_byte-4.result ≡ shifts 64 c.args.acc = cc in
    omega (arith, all, settled_small c.args.acc c.ranges.acc.fits)

pub returns : goal.returns
returns c = let by = settled_by c.args.acc in cc
