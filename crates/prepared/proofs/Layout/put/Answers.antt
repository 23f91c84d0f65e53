-- `prepared::Layout::put` meets its contract: where the letter has a column, the arrow is put in it.
use native.Mathlib.Omega.{arith}
use Rattle.prepared.proofs.Putting.{put-there}
use Rattle.prepared.proofs.Layout.put.Goals as goal

pub returns : goal.returns
returns c =
    put-there (rw c.told-dense c.args.self.now.apart) (omega (arith, c.if-d-gt255.false)) c.requires.0 c.if-start-none.false
    (λ q. omega (arith, c.requires.1, c.args.table.now.formed.small))
