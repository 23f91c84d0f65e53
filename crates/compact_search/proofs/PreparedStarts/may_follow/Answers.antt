-- What may follow in compact rows meets its contract: the state's set tells.
use mathlib.Core.Path.{sym, ◌∙◌}
use native.Mathlib.Omega.{arith}
use Rattle.compact.proofs.ReadBack.{reads_none}
use Rattle.compact_search.proofs.Entries.{target-inside}
use Rattle.compact_search.proofs.PreparedStarts.may_follow.Goals as goal

pub returns : goal.returns
returns c = λ e.
    let state = target-inside c.args.self.now.columns.arrows.now.formed 0 c.args._c.0 c.requires in
    reads_none _ _ _ c.args.x.0 c.args.d.0 state (omega arith) (sym c.has_arrow.ensures ∙ e)
