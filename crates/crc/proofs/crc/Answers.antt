-- `crc::crc` meets its contract: the register, fed with the bits still ahead, gives the check of all.
use mathlib.Core.Path.{◌≡◌, refl, sym, ap, ◌∙◌}
use Prim.Native.Nat.{◌+◌}
use native.Mathlib.Omega.{arith}
use lib.Bits.{bit_xor}
use lib.ListN.{drop}
use Rattle.words.specs.Lists.{at}
use Rattle.crc.specs.Check.{shifts, fed, bits_of, check}
use Rattle.crc.proofs.Fed.{byte_ahead, none_ahead}
use Rattle.crc.proofs.Theorems.{check-small}
use Rattle.crc.proofs.crc.Goals as goal

pub loop-b-init : goal.loop-b-init
unfolding check
loop-b-init c = refl

pub loop-b-preserved : goal.loop-b-preserved
loop-b-preserved c =
    let bytes = c.args.bytes.now in
    let i = c.loop-b.b-index in
    let fed-on : c.half_byte-r.result ≡ shifts 4 (shifts 4 (bit_xor c.loop-b.r (at bytes i))) = cc in
    ap (λ x. fed x (bits_of (drop (i + 1) bytes))) fed-on
    ∙ sym (byte_ahead c.loop-b.r bytes i (omega arith) (c.type_inv.bytes i).fits)
    ∙ c.loop-b.invariant

pub overflow_cast-result : goal.overflow_cast-result
overflow_cast-result c =
    let at-loop = c.loop-b in
    let bytes = c.args.bytes.now in
    let all = sym (none_ahead at-loop.r bytes at-loop.b-index (omega arith)) ∙ at-loop.invariant in
    omega (arith, all, check-small bytes)

pub returns : goal.returns
returns c =
    let at-loop = c.loop-b in sym (none_ahead at-loop.r _ at-loop.b-index (omega arith)) ∙ at-loop.invariant
