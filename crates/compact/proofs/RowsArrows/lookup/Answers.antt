-- The lookup in compact rows meets its contract: each way out is one of the cases of `Looking`.
use mathlib.Core.Path.{sym, ap, ◌∙◌}
use native.Mathlib.Omega.{arith}
use Rattle.words.specs.Answers.{arrow_to}
use Rattle.compact.proofs.Looking.{look_far, look_none}
use Rattle.compact.proofs.RowsArrows.lookup.Goals as goal

pub returns-then-from-self : goal.returns-then-from-self
returns-then-from-self c =
    sym (ap arrow_to (look_far c.args.self.now.formed c.args.x.0 c.args.c.0 (omega arith) c.if-from-self.true))

pub returns : goal.returns
returns c =
    let absent = sym c.has_arrow.ensures ∙ c.if-has_arrow.false in
    sym (ap arrow_to (look_none c.args.self.now.formed c.args.x.0 c.args.c.0 (omega arith) c.if-from-self.false absent))
