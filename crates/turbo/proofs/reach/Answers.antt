-- Half the word and more is kept exactly if what is missing is no more than what is kept, which needs no sum.
use mathlib.Core.Path.{◌≡◌}
use mathlib.Core.Bool.{cond}
use Prim.Native.Nat.{ℕ, ◌-◌, ◌*◌, ◌≤◌, ◌<◌}
use native.Mathlib.Omega.{arith}
use lib.Dec.{leb}
use borrow.Author.Tests.{le-leb, lt-leb}
use Rattle.turbo.proofs.reach.Goals as goal

module _ (m h n e : ℕ) where
  half-kept : m - h ≤ h → n ≡ cond (leb m (2 * h)) n e
  half-kept l = rw (le-leb m (2 * h) (omega arith))

  less-kept : h < m - h → e ≡ cond (leb m (2 * h)) n e
  less-kept l = rw (lt-leb m (2 * h) (omega arith))

pub returns-then-m-keep : goal.returns-then-m-keep
returns-then-m-keep c = half-kept c.args.m c.args.keep _ _ (omega (arith, c.if-m-keep.true))

pub returns : goal.returns
returns c = less-kept c.args.m c.args.keep _ _ (omega (arith, c.if-m-keep.false))
