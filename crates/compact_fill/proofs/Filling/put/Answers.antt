-- `compact_fill::Filling::put` meets its contract: the write is behind rows 0 to 3.
use native.Mathlib.Omega.{arith}
use Rattle.compact_fill.proofs.Held.{first_written}
use Rattle.compact_fill.proofs.Filling.put.Goals as goal

pub invariant_of-self : goal.invariant_of-self
invariant_of-self c = record {
  first_form = first_written c.args.self.now.first_form c.args.y.0 (omega arith);
  words = c.args.self.now.words;
}
