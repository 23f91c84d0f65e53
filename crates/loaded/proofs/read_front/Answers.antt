-- `loaded::read_front` meets its contract: each way out is what `front_at` shows once the edition is read.
use mathlib.Core.Path.{sym}
use borrow.Author.Tests.{eq-eqb, ne_eqb}
use Rattle.saved.proofs.Spelled.{edition-number}
use Rattle.loaded.specs.Load.{front_within}
use Rattle.loaded.proofs.read_front.Goals as goal

pub returns-then-edition-ne-EDITION : goal.returns-then-edition-ne-EDITION
unfolding front_within
returns-then-edition-ne-EDITION c =
    rw c.at.ensures (simp (sym c.in_ok-edition.ensures, edition-number, ne_eqb _ _ c.if-edition-ne-EDITION.true))

pub returns : goal.returns
unfolding front_within
returns c =
    simp (sym c.in_ok-edition.ensures, edition-number, eq-eqb _ _ c.if-edition-ne-EDITION.false) c.read_letters.ensures
