-- `crc::half_byte` meets its contract, by the table's rule.
use mathlib.Core.Path.{ap, ◌∙◌}
use Prim.Native.Nat.{◌/◌}
use lib.Bits.{bit_xor}
use Rattle.crc.proofs.Table.{four}
use Rattle.crc.proofs.half_byte.Goals as goal

pub returns : goal.returns
returns c = ap (bit_xor (c.args.r / 16)) c.from.ensures ∙ four _
