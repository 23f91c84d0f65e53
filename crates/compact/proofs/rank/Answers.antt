-- `compact::rank` meets its contract: the four words together count the letters below c (`rank_told`), and none has more than 64.
use native.Mathlib.Omega.{arith}
use Rattle.compact.proofs.Ranking.{few-below, rank_told}
use Rattle.compact.proofs.rank.Goals as goal

pub overflow_add-result : goal.overflow_add-result
overflow_add-result c =
    omega (arith, few-below c.ones_below.ensures, few-below c.ones_below-2.ensures)

pub overflow_add-result-2 : goal.overflow_add-result-2
overflow_add-result-2 c =
    omega (arith, few-below c.ones_below.ensures, few-below c.ones_below-2.ensures, few-below c.ones_below-3.ensures)

pub overflow_add-result-3 : goal.overflow_add-result-3
overflow_add-result-3 c =
    omega (
      arith,
      few-below c.ones_below.ensures,
      few-below c.ones_below-2.ensures,
      few-below c.ones_below-3.ensures,
      few-below c.ones_below-4.ensures,
    )

pub returns : goal.returns
returns c =
    rank_told c.args.sets.now c.args.x.0 c.args.c c.requires.1
    c.ones_below.ensures c.ones_below-2.ensures c.ones_below-3.ensures c.ones_below-4.ensures
