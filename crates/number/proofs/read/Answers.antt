-- `number::read` meets its contract: what `Reading` says holds before each byte, and a byte that is refused, that ends the number or that
-- the file lacks gives the answer. The measure is what is left of the file.
use mathlib.Core.Path.{sym, ◌∙◌}
use native.Mathlib.Omega.{arith}
use Rattle.number.proofs.Reading.{read-start, read-end, read-refused, read-last, read_fits, read_next}
use Rattle.number.proofs.read.Goals as goal

pub loop-at-init : goal.loop-at-init
loop-at-init c = read-start _ _

pub returns-then-refuses : goal.returns-then-refuses
returns-then-refuses c =
    rw c.at.ensures (read-refused c.loop-at.invariant c.loop-at-test.true (sym c.refuses.ensures ∙ c.if-refuses.true))

pub overflow_mul-value : goal.overflow_mul-value
overflow_mul-value c =
    let passed = sym c.refuses.ensures ∙ c.if-refuses.false in
    omega (arith, read_fits c.loop-at.invariant c.loop-at-test.true passed)

pub overflow_add-value : goal.overflow_add-value
overflow_add-value c =
    let passed = sym c.refuses.ensures ∙ c.if-refuses.false in
    omega (arith, read_fits c.loop-at.invariant c.loop-at-test.true passed)

pub returns-then-b-lt128 : goal.returns-then-b-lt128
returns-then-b-lt128 c =
    let passed = sym c.refuses.ensures ∙ c.if-refuses.false in
    read-last c.loop-at.invariant c.loop-at-test.true passed c.if-b-lt128.true

pub overflow_mul-unit : goal.overflow_mul-unit
overflow_mul-unit c =
    let passed = sym c.refuses.ensures ∙ c.if-refuses.false in
    omega (arith, (read_next c.loop-at.invariant c.loop-at-test.true passed c.if-b-lt128.false).0)

pub loop-at-preserved : goal.loop-at-preserved
loop-at-preserved c =
    let passed = sym c.refuses.ensures ∙ c.if-refuses.false in
    (read_next c.loop-at.invariant c.loop-at-test.true passed c.if-b-lt128.false).1

pub returns : goal.returns
returns c = rw c.at-2.ensures (read-end c.loop-at.invariant c.loop-at-test.false)
