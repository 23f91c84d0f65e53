-- `two_lists::number_alone` meets its contract: the part that is filled is as long as what fits (`filled-zeros`).
use Rattle.two_lists.proofs.Alone.{filled-zeros}
use Rattle.two_lists.proofs.number_alone.Goals as goal

pub returns : goal.returns
returns c =
    let entry = c.args.numbers.now in
    rw (c.fill.ensures.after (λ y e. e)) (filled-zeros _ entry c.min-end.ensures)
