-- `crc_wide::by_bytes` meets its contract: the register, settled and fed with what is ahead, stays what it is.
use mathlib.Core.Path.{refl, sym, ap, ◌∙◌}
use Prim.Native.Nat.{◌+◌}
use lib.ListN.{drop}
use native.Mathlib.Omega.{arith}
use Rattle.crc.specs.Check.{shifts, fed, bits_of}
use Rattle.crc.proofs.Fed.{none_ahead}
use Rattle.crc_wide.proofs.Ahead.{byte_taken}
use Rattle.crc_wide.proofs.by_bytes.Goals as goal

pub loop-b-init : goal.loop-b-init
loop-b-init c = refl

pub loop-b-preserved : goal.loop-b-preserved
loop-b-preserved c =
    let bytes = c.args.bytes.now in
    let i = c.loop-b.b-index in
    ap (λ x. fed (shifts 64 x) (bits_of (drop (i + 1) bytes))) c.take_byte-acc.ensures
    ∙ byte_taken c.loop-b.acc bytes i (omega arith) (c.type_inv.bytes i).fits
    ∙ c.loop-b.invariant

pub returns : goal.returns
returns c =
    let at-loop = c.loop-b in sym (none_ahead (shifts 64 at-loop.acc) _ at-loop.b-index (omega arith)) ∙ at-loop.invariant
