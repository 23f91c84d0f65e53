-- `stream::Searcher::has_rows` meets its contract: both comparisons are those of the definition.
use mathlib.Core.Path.{sym, ◌∙◌}
use Rattle.stream.proofs.Testing.{rows-tested}
use Rattle.stream.proofs.Searcher.has_rows.Goals as goal

pub returns-then-eq : goal.returns-then-eq
returns-then-eq c =
    rw (rows-tested c.args.self.now c.fresh-made.ensures, sym c.eq.ensures ∙ c.if-eq.true) c.eq-then-eq.ensures

pub returns-else-eq : goal.returns-else-eq
returns-else-eq c =
    rw (rows-tested c.args.self.now c.fresh-made.ensures, sym c.eq.ensures ∙ c.if-eq.false) c.if-eq.false
