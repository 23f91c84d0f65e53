-- `prepared::Prepared::new` meets its contract: the first entries of the columns are the arrows of state 0.
use native.Mathlib.Nat.{add-zero}
use Rattle.prepared.proofs.Prepared.new.Goals as goal

pub firsts-requires : goal.firsts-requires
firsts-requires c =
    record { by_index = λ i b. rw (add-zero _) at (c.args.columns.told.inside 0 c.requires i b) }
