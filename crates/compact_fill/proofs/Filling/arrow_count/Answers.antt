-- `compact_fill::Filling::arrow_count` meets its contract: the extra arrows between two starts, and the spine's (`count-there`).
use native.Mathlib.Omega.{arith}
use Rattle.compact_fill.proofs.OutArrows.{count-there}
use Rattle.compact_fill.proofs.Filling.arrow_count.Goals as goal

pub overflow_sub-result : goal.overflow_sub-result
overflow_sub-result c =
    omega (arith, count-there c.args.self.now.first_form c.args.x.0 c.requires)

pub returns : goal.returns
returns c =
    omega (arith, count-there c.args.self.now.first_form c.args.x.0 c.requires)
