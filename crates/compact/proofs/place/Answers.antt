-- `compact::place` meets its contract: the word's start, and behind that the ones below the bit.
use Prim.Native.Nat.{◌+◌, ◌*◌, ◌/◌, ◌%◌}
use native.Mathlib.Omega.{arith}
use Rattle.words.specs.Lists.{at}
use Rattle.compact.specs.Compact.{arrow_number, bit_at}
use Rattle.compact.proofs.Counting.{count_most}
use Rattle.compact.proofs.place.Goals as goal

pub overflow_add-result : goal.overflow_add-result
overflow_add-result c =
    let number = arrow_number c.args.x.0 c.args.c.0 in
    let most = count_most (bit_at (at c.args.sets.now (number / 64))) (number % 64) in
    omega (arith, c.type_inv.table (4 * (c.args.m + 1) + number / 64), c.low_ones-below.ensures, most)

-- written out, so that a program which counts otherwise is refused here first
pub returns : goal.returns
returns c = omega (arith, c.low_ones-below.ensures)
