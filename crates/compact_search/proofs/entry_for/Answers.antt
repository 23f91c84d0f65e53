-- `compact_search::entry_for` meets its contract: what the lookup answers is told by its target, or by the entry that tells none.
use Rattle.words.proofs.Answers.{arrow-told}
use Rattle.compact_search.proofs.Entries.{target-tells}
use Rattle.compact_search.proofs.entry_for.Goals as goal

pub returns : goal.returns
returns c =
    target-tells c.args.arrows.now.formed _ _ (arrow-told _ _ _ c.lookup.ensures c.in-Some.is)
