-- `search::read_window` meets its contract: `StillToRead` says that what the rest of the window answers is the answer for all of it. The
-- measure is how many letters are left.
use native.Mathlib.Omega.{arith}
use Prim.Native.Nat.{◌+◌, ◌-◌}
use Rattle.words.proofs.Answers.{arrow-told, arrow-untold}
use Rattle.words.proofs.Words.{part_at}
use Rattle.search.proofs.Readings.{all_to_read, none_to_read, letter-fails, letter-goes}
use Rattle.search.proofs.read_window.Goals as goal

pub loop-left-init : goal.loop-left-init
loop-left-init g c = all_to_read

pub loop-left-preserved : goal.loop-left-preserved
loop-left-preserved g c =
    let R = c.loop-left.invariant in
    let t = c.args.text.now in
    let s = c.args.s.0 in
    let in_text = part_at t s (s + c.args.k - s) (c.loop-left.left - 1) (omega (arith, R.within, c.if-left-eq0.false)) in
    letter-goes R (λ z. omega (arith, c.if-left-eq0.false)) (rw in_text at (arrow-told _ _ _ c.lookup.ensures c.in-Some.is))

pub returns-then-left-eq0 : goal.returns-then-left-eq0
returns-then-left-eq0 g c = none_to_read c.loop-left.invariant (omega (arith, c.if-left-eq0.true))

pub returns-in_default : goal.returns-in_default
returns-in_default g c =
    let R = c.loop-left.invariant in
    let t = c.args.text.now in
    let s = c.args.s.0 in
    let in_text = part_at t s (s + c.args.k - s) (c.loop-left.left - 1) (omega (arith, R.within, c.if-left-eq0.false)) in
    letter-fails R (λ z. omega (arith, c.if-left-eq0.false)) (rw in_text at (arrow-untold _ _ c.lookup.ensures c.in_default.is))
