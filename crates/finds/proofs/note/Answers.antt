-- `finds::note` meets its contract: where the list is full nothing is written (`noted_past`), else the find stands behind the others
-- (`noted_inside`).
use mathlib.Core.Path.{refl}
use native.Mathlib.Omega.{arith}
use Rattle.finds.proofs.Filling.{noted_inside, noted_past}
use Rattle.finds.proofs.note.Goals as goal

pub returns-then-finds-count : goal.returns-then-finds-count
returns-then-finds-count c = (refl, λ l f e q. noted_past l f c.args.s.0 e q (omega (arith, c.if-finds-count.true)))

pub returns : goal.returns
returns c = (refl, λ l f e q. noted_inside l f c.args.s.0 e q c.if-finds-count.false)
