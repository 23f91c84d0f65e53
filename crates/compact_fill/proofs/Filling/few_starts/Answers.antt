-- `compact_fill::Filling::few_starts` meets its contract: before word i the words before it have their starts, behind rows 0 to 3.
use native.Mathlib.Omega.{arith}
use Rattle.compact_fill.proofs.Held.{first_written}
use Rattle.compact_fill.proofs.Filling.few_starts.Goals as goal

pub invariant_of-self : goal.invariant_of-self
invariant_of-self c = record {
  first_form = first_written c.loop-i.self.first_form _ (omega arith);
  words = c.loop-i.self.words;
}
