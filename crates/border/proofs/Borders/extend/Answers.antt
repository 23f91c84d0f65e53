-- `border::Borders::extend` meets its contract: all borders are known.
use mathlib.Core.Path.{ap, ◌∙◌}
use Prim.Native.Nat.{ℕ, ◌<◌}
use native.Mathlib.Omega.{arith}
use mathlib.Core.Path.{◌≡◌}
use mathlib.Core.List.{List}
use lib.ListN.{length}
use Rattle.words.specs.Words.{Word}
use Rattle.border.specs.Borders.{borders, Known}
use Rattle.border.proofs.Filling.{borders-length, borders-known}
use Rattle.border.proofs.Borders.extend.Goals as goal

known_up_to : (w : Word) (row : List ℕ) → row ≡ borders w → (n : ℕ) → n < length w → Known w row n
known_up_to w row e n h = record { entry = λ j l. rw e ((borders-known w).entry j (omega arith)) }

pub extend-requires-clause-start_in_bounds : goal.extend-requires-clause-start_in_bounds
extend-requires-clause-start_in_bounds c =
    let own = c.args.self.now in
    (c.requires, omega (arith, c.requires, ap length own.all ∙ borders-length own.word.now))

pub extend-requires-clause-known : goal.extend-requires-clause-known
extend-requires-clause-known c =
    let own = c.args.self.now in
    known_up_to own.word.now own.row.now own.all c.args.start c.requires
