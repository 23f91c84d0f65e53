-- `crc_wide::take_byte` meets its contract: it is `taken_byte`, word for word.
use mathlib.Core.Path.{ap}
use Prim.Native.Nat.{◌*◌, ◌^◌}
use lib.Bits.{bit_xor}
use Rattle.crc_wide.specs.Wide.{taken_byte, fold8, past}
use Rattle.crc_wide.proofs.take_byte.Goals as goal

pub returns : goal.returns
unfolding taken_byte fold8
returns c = ap (λ b. bit_xor (past 8 fold8 c.args.acc) (b * 2 ^ 56)) c.from.ensures
