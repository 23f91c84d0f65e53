-- `crc_wide::by_sixes` meets its contract: the register, settled and fed with what is ahead, gives the check of all.
use mathlib.Core.Path.{refl, sym, ap, ◌∙◌}
use mathlib.Core.List.{List, []}
use Prim.Native.Nat.{ℕ, ◌+◌}
use native.Mathlib.Omega.{arith}
use lib.ListN.{drop, drop_of_length-le}
use Rattle.std.specs.List.{concat}
use Rattle.std.proofs.lemmas.List.{at_drop_more}
use Rattle.crc.specs.Check.{shifted, shifts, fed, bits_of, check}
use Rattle.crc_wide.proofs.Ahead.{six_taken}
use Rattle.crc_wide.proofs.by_sixes.Goals as goal

pub loop-six-init : goal.loop-six-init
unfolding check shifts shifted
loop-six-init c = refl

pub loop-six-preserved : goal.loop-six-preserved
loop-six-preserved c =
    let sixes = c.args.sixes.now in
    let acc = c.loop-six.acc in
    let i = c.loop-six.six-index in
    let rest = concat (drop (i + 1) sixes) in
    let ahead : List (List ℕ) → ℕ = λ l. fed (shifts 64 acc) (bits_of (concat l)) in
    ap (λ x. fed (shifts 64 x) (bits_of rest)) c.take_six-acc.ensures
    ∙ six_taken acc _ _ rest c.number_of.ensures.0 c.number_of.ensures.1
    ∙ sym (at_drop_more ahead sixes i [] (omega arith))
    ∙ c.loop-six.invariant

pub returns : goal.returns
unfolding fed bits_of
returns c =
    let at-loop = c.loop-six in
    let sixes = c.args.sixes.now in
    ap (λ l. fed (shifts 64 at-loop.acc) (bits_of (concat l))) (sym (drop_of_length-le sixes {i = at-loop.six-index} (omega arith)))
    ∙ at-loop.invariant
