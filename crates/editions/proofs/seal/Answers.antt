-- `editions::seal` meets its contract: three stores, and the check between them.
use mathlib.Core.Path.{◌≡◌}
use Prim.Native.Nat.{◌/◌, ◌%◌}
use native.Mathlib.Omega.{arith}
use Rattle.editions.proofs.Coding.{seal_stores}
use Rattle.editions.proofs.seal.Goals as goal

pub returns : goal.returns
returns c =
    let high : c.check.result / 256 % 256 ≡ c.check.result / 256 = omega arith in
    rw (c.to_le_bytes.ensures, high)
    (seal_stores c.args.out.now c.args.size c.check.result c.requires.0 c.requires.1 c.check.ensures)
