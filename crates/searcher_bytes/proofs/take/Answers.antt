-- `searcher_bytes::take` meets its contract: each return is a case of `take_bytes_says`. What taking hands back with an answer is sound, so
-- it can be packed.
use mathlib.Core.Path.{sym, ◌∙◌}
use native.Mathlib.Omega.{arith}
use lib.Seq.{length-take-le}
use Rattle.searcher_bytes.proofs.Packing.{searcher_bytes_lem}
use Rattle.searcher_bytes.proofs.Packable.{packable}
use Rattle.searcher_bytes.proofs.TakeBytesSays.{says-few, says-refused, says-packed, done_sound}
use Rattle.searcher_bytes.proofs.take.Goals as goal

pub returns-then-bytes-lt-SEARCHER : goal.returns-then-bytes-lt-SEARCHER
returns-then-bytes-lt-SEARCHER c = sym (says-few _ _ _ (omega (arith, searcher_bytes_lem, c.if-bytes-lt-SEARCHER.true)))

pub unpack-requires : goal.unpack-requires
unpack-requires c = length-take-le 134 c.args.bytes.now c.if-bytes-lt-SEARCHER.false ∙ sym searcher_bytes_lem

pub pack-requires-clause-out_len : goal.pack-requires-clause-out_len
pack-requires-clause-out_len c = length-take-le 134 c.args.bytes.now c.if-bytes-lt-SEARCHER.false ∙ sym searcher_bytes_lem

pub pack-requires-clause-size_bound : goal.pack-requires-clause-size_bound
pack-requires-clause-size_bound c =
    let told = c.is_done-done.ensures in
    packable (done_sound _ _ _ c.take-taken.result c.take-taken.ensures cc)

pub returns-then-done : goal.returns-then-done
returns-then-done c =
    let told = c.is_done-done.ensures in
    says-packed _ _ _ (omega (arith, searcher_bytes_lem, c.if-bytes-lt-SEARCHER.false)) c.unpack.ensures
    c.take-taken.result c.take-taken.ensures (cc)
    c.pack.ensures

pub returns-else-done : goal.returns-else-done
returns-else-done c =
    let told = c.is_done-done.ensures in
    says-refused _ _ _ (omega (arith, searcher_bytes_lem, c.if-bytes-lt-SEARCHER.false)) c.unpack.ensures
    c.take-taken.result c.take-taken.ensures (cc)
