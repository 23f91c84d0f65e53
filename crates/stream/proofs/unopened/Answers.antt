-- `stream::unopened` meets its contract: what it hands out is blank, rows of zeros.
use mathlib.Core.Path.{◌≡◌}
use lib.ListN.{replicate}
use Rattle.words.proofs.Limits.{streamed_limit}
use Rattle.stream.specs.declared.Searcher.{Searcher}
use Rattle.stream.specs.Opening.{blank}
use Rattle.stream.proofs.unopened.Goals as goal

zeros-blank : ◌≡◌ {A = Searcher} (record { word = replicate 64 0; borders = replicate 64 0; size = 0; keep = 0; taken = 0 }) blank
unfolding blank
zeros-blank = rw streamed_limit

pub returns : goal.returns
returns c = rw zeros-blank
