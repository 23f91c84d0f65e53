-- `compact::has_arrow` meets its contract, by what a bit of a word is.
use borrow.Author.Rules.{rules}
use Rattle.compact.specs.Compact.{bit_at}
use Rattle.compact.proofs.has_arrow.Goals as goal

pub returns : goal.returns
unfolding bit_at
returns c = search rules
