-- `searcher_bytes::open` meets its contract: each return is a case of `open_bytes_says`, and the tests on the way there are the case's
-- premises. Behind them a stream is opened, and its searcher packed.
use mathlib.Core.Path.{sym, ◌∙◌}
use mathlib.Core.List.{[]}
use Prim.Native.Nat.{◌≤◌}
use native.Mathlib.Omega.{arith}
use lib.ListN.{length}
use lib.Seq.{length-take-le}
use Rattle.std.proofs.lemmas.Bool.Decides.{nat_tests}
use Rattle.words.specs.Limits.{longest_streamed}
use Rattle.words.proofs.Limits.{streamed_limit}
use Rattle.searcher_bytes.proofs.Packing.{searcher_bytes_lem}
use Rattle.searcher_bytes.proofs.Packable.{packable}
use Rattle.searcher_bytes.proofs.OpenBytesSays.{says-empty, says-long, says-short, says-packed, sound_opened}
use Rattle.searcher_bytes.proofs.open.Goals as goal

pub returns-then-is_empty : goal.returns-then-is_empty
returns-then-is_empty c = sym (says-empty _ _ (grind (arith, nat_tests)))

pub returns-then-word-gt-STREAMED_LIMIT : goal.returns-then-word-gt-STREAMED_LIMIT
returns-then-word-gt-STREAMED_LIMIT c =
    sym (says-long _ _ (grind (arith, nat_tests)) (omega (arith, streamed_limit, c.if-word-gt-STREAMED_LIMIT.true)))

pub returns-then-bytes-lt-SEARCHER : goal.returns-then-bytes-lt-SEARCHER
returns-then-bytes-lt-SEARCHER c =
    sym (says-short _ _ (grind (arith, nat_tests)) (omega (arith, streamed_limit, c.if-word-gt-STREAMED_LIMIT.false))
    (omega (arith, searcher_bytes_lem, c.if-bytes-lt-SEARCHER.true)))

pub pack-requires-clause-out_len : goal.pack-requires-clause-out_len
pack-requires-clause-out_len c = length-take-le 134 c.args.bytes.now c.if-bytes-lt-SEARCHER.false ∙ sym searcher_bytes_lem

pub pack-requires-clause-size_bound : goal.pack-requires-clause-size_bound
pack-requires-clause-size_bound c =
    let few : length c.args.word.now ≤ longest_streamed = omega (arith, streamed_limit, c.if-word-gt-STREAMED_LIMIT.false) in
    packable (sound_opened c.args.word.now [] (grind (arith, nat_tests)) few c.open-opened.result c.open-opened.ensures)

pub returns : goal.returns
returns c =
    says-packed _ _ (grind (arith, nat_tests)) (omega (arith, streamed_limit, c.if-word-gt-STREAMED_LIMIT.false))
    c.if-bytes-lt-SEARCHER.false
    c.open-opened.result c.open-opened.ensures c.pack.ensures
