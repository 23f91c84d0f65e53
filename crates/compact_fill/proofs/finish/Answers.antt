-- `compact_fill::finish` meets its contract: once the rows that were the first form's alone are cleared, the compact rows stand there.
use mathlib.Core.Path.{refl}
use Prim.Native.Nat.{◌+◌, ◌*◌, ◌-◌}
use native.Mathlib.Omega.{arith}
use Rattle.compact_fill.proofs.Finishing.{sets-done, table_done}
use Rattle.compact_fill.proofs.finish.Goals as goal

pub returns : goal.returns
returns c =
    let F = c.requires.first_form in
    let rows = 2 * (c.args.m + 1) in (
      sets-done F c.fill_rows.ensures.sets,
      table_done F c.fill_rows.ensures.rows {a = rows} {k = 2 * rows - rows} refl (omega arith) (c.fill-2.ensures.after (λ y e. e)),
    )
