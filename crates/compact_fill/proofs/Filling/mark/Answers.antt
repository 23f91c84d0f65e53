-- `compact_fill::Filling::mark` meets its contract: the law of one bit (`bit_set`).
use native.Mathlib.Omega.{arith}
use Rattle.compact.specs.Compact.{arrow_number}
use Rattle.compact_fill.proofs.Marking.{bit_set}
use Rattle.compact_fill.proofs.Filling.mark.Goals as goal

pub returns-clause-bit : goal.returns-clause-bit
returns-clause-bit c =
    bit_set c.args.self.now.sets.now (arrow_number c.args.x.0 c.args.c.0) (omega (arith, c.requires, c.args.self.now.words))
