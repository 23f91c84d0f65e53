-- `compact::low_ones` meets its contract: what the mask leaves are the first bits, and their ones are counted (`remained_ones`).
use mathlib.Core.Path.{◌∙◌}
use Rattle.compact.proofs.Counting.{remained_ones}
use Rattle.compact.proofs.low_ones.Goals as goal

pub returns : goal.returns
returns c = c.ones_of.ensures ∙ remained_ones c.args.word c.args.bits c.requires
