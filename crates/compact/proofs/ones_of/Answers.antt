-- `compact::ones_of` meets its contract: no bit in common with one less tells of none or a single one (`few_ones`).
use mathlib.Core.Path.{sym, ap, ◌∙◌}
use lib.Bits.{bit_and}
use Rattle.compact.proofs.Counting.{few_ones}
use Rattle.compact.proofs.ones_of.Goals as goal

pub returns-then-word-saturating_sub-eq0 : goal.returns-then-word-saturating_sub-eq0
returns-then-word-saturating_sub-eq0 c =
    c.from.ensures
    ∙ few_ones c.args.word (ap (bit_and c.args.word) (sym c.saturating_sub.ensures) ∙ c.if-word-saturating_sub-eq0.true)
