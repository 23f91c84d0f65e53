-- `searcher_bytes::is_done` meets its contract, case by case.
use mathlib.Core.Path.{◌∙◌}
use Rattle.searcher_bytes.proofs.Answers.{done-is_ok}
use Rattle.searcher_bytes.proofs.is_done.Goals as goal

pub returns : goal.returns
returns c = c.is_ok.ensures.value ∙ done-is_ok c.args.answer.now
