-- `border::Borders::longest` meets its contract: the last entry of the borders is the word's own.
use mathlib.Core.Path.{ap, ◌∙◌}
use mathlib.Core.List.{List}
use Prim.Native.Nat.{ℕ, ◌-◌}
use native.Mathlib.Omega.{arith}
use lib.ListN.{length}
use Rattle.words.specs.Lists.{at}
use Rattle.border.proofs.Filling.{borders-length, borders-last}
use Rattle.border.proofs.Borders.longest.Goals as goal

pub bounds-self-self : goal.bounds-self-self
bounds-self-self c =
    let own = c.args.self.now in
    omega (arith, own.nonempty, ap length own.all ∙ borders-length own.word.now)

pub returns : goal.returns
returns c =
    let own = c.args.self.now in
    let last = ap (λ (row : List ℕ). at row (length own.word.now - 1)) own.all in
    c.from.ensures ∙ last ∙ borders-last own.word.now own.nonempty
