-- `searcher_bytes::unpack` meets its contract: two rows are copied, and six bytes are read, which the length that is asked for has.
use mathlib.Core.Path.{sym}
use native.Mathlib.Omega.{arith}
use lib.Seq.{length-take-le}
use Rattle.searcher_bytes.proofs.Packing.{searcher_bytes_lem, unpacked-parts}
use Rattle.searcher_bytes.proofs.unpack.Goals as goal

pub slice_bounds-copy-end : goal.slice_bounds-copy-end
slice_bounds-copy-end c =
    sym (length-take-le 64 c.args.bytes.now (omega (arith, searcher_bytes_lem, c.requires)))

pub copy-requires : goal.copy-requires
copy-requires c =
    sym (length-take-le 64 c.args.bytes.now (omega (arith, searcher_bytes_lem, c.requires)))

pub slice_bounds-widen-end : goal.slice_bounds-widen-end
slice_bounds-widen-end c = omega (arith, searcher_bytes_lem, c.requires)

pub bounds-bytes : goal.bounds-bytes
bounds-bytes c =
    omega (arith, searcher_bytes_lem, c.requires)

pub bounds-bytes-2 : goal.bounds-bytes-2
bounds-bytes-2 c =
    omega (arith, searcher_bytes_lem, c.requires)

pub bounds-bytes-3 : goal.bounds-bytes-3
bounds-bytes-3 c =
    omega (arith, searcher_bytes_lem, c.requires)

pub bounds-bytes-4 : goal.bounds-bytes-4
bounds-bytes-4 c =
    omega (arith, searcher_bytes_lem, c.requires)

pub bounds-bytes-128 : goal.bounds-bytes-128
bounds-bytes-128 c =
    omega (arith, searcher_bytes_lem, c.requires)

pub bounds-bytes-5 : goal.bounds-bytes-5
bounds-bytes-5 c =
    omega (arith, searcher_bytes_lem, c.requires)

pub returns : goal.returns
returns c =
    unpacked-parts _ c.copy.ensures c.widen.ensures c.from.ensures c.from-2.ensures c.from_le_bytes-taken.ensures
