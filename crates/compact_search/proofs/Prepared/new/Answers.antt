-- `compact_search::Prepared::new` meets its contract: the first entries of the columns that are laid out are the arrows of state 0.
use native.Mathlib.Nat.{add-zero}
use Rattle.compact_search.proofs.Entries.{copied_first}
use Rattle.compact_search.proofs.Prepared.new.Goals as goal

pub fill_first-requires : goal.fill_first-requires
fill_first-requires c =
    record { by_index = λ i b. rw (add-zero _) at (c.lay_columns.ensures.inside 0 c.rows_for-rows.ensures.some i b) }

pub invariant_of-result : goal.invariant_of-result
invariant_of-result c = record {
  firsts = copied_first c.args.arrows.now.formed c.lay_columns.ensures c.rows_for-rows.ensures.some c.fill_first.ensures;
}
