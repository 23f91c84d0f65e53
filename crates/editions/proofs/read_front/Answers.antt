-- `editions::read_front` meets its contract: behind the number of edition 2 the file is read on; else it is read as edition 1.
use mathlib.Core.Path.{sym, ◌∙◌}
use Rattle.editions.proofs.Coding.{checked-front, other_front}
use Rattle.editions.proofs.read_front.Goals as goal

pub returns-then-is_checked : goal.returns-then-is_checked
returns-then-is_checked c =
    c.read_letters.ensures ∙ checked-front _ _ (sym c.is_checked.ensures ∙ c.if-is_checked.true)

pub returns : goal.returns
returns c =
    c.read_front.ensures ∙ other_front _ _ (sym c.is_checked.ensures ∙ c.if-is_checked.false)
