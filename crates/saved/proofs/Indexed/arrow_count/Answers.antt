-- `saved::Indexed::arrow_count` meets its contract: the entry that it reads is the number of steps.
use native.Mathlib.Omega.{arith}
use Rattle.saved.proofs.Slots.{tabled_size, count_at}
use Rattle.saved.proofs.Indexed.arrow_count.Goals as goal

pub bounds-self-m : goal.bounds-self-m
bounds-self-m c =
    omega (arith, tabled_size c.args.self.now.tabled)

pub returns : goal.returns
returns c =
    count_at c.args.self.now.tabled
