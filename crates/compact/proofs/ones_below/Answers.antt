-- `compact::ones_below` meets its contract: none of the word, all of it, or the bits below c.
use Rattle.compact.proofs.Counting.{all_ones}
use Rattle.compact.proofs.Ranking.{none_below, all-below}
use Rattle.compact.proofs.ones_below.Goals as goal

pub returns-then-c-i : goal.returns-then-c-i
returns-then-c-i c = none_below c.if-c-i.true

pub returns-then-i-c : goal.returns-then-i-c
returns-then-i-c c =
    all-below c.if-i-c.true (all_ones c.args.word 64 c.ranges.word.fits)
