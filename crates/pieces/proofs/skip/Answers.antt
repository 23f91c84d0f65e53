-- `pieces::skip` meets its contract: what `position` says of the letters from `at` on.
use mathlib.Core.Path.{◌≡◌, ap, ◌∙◌}
use mathlib.Core.Bool.{Bool}
use Prim.Native.Nat.{ℕ, ◌-◌}
use native.Mathlib.Omega.{arith}
use lib.Dec.{eqb}
use lib.ListN.{length, drop, length-drop}
use lib.Seq.{take_all}
use borrow.Author.Rules.{rules}
use borrow.Author.Tests.{tests}
use Rattle.std.specs.List.{position}
use Rattle.std.specs.Option.{unwrap_or}
use Rattle.std.proofs.lemmas.Iterator.{YieldsList-from_slice}
use Rattle.std.proofs.lemmas.Iterator.Search.{position_from_yields_List}
use Rattle.pieces.proofs.Skipping.{none-skipped}
use Rattle.pieces.proofs.skip.Goals as goal

pub returns : goal.returns
returns c =
    let v = c.args.piece.now in
    let at = c.args.at in
    let is_c : ℕ → Bool = λ b. eqb b c.args.c.0 in
    let ahead = take_all (length v - at) (drop at v) (omega (arith, length-drop at v)) in
    let found : c.position.result ≡ position is_c (drop at v) =
    position_from_yields_List is_c _ _ c.position.result c.position.ensures.ran (YieldsList-from_slice _ (c.iter.ensures.rest ∙ ahead))
    (λ x b q k. search (rules, tests)) in
    none-skipped v at c.args.c.0 c.requires found (c.unwrap_or.ensures ∙ ap (λ l. unwrap_or c.position.result (length l)) ahead)
