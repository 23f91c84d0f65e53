-- `salvage::list_finds` meets its contract: before each find `Upto` holds.
use native.Mathlib.Omega.{arith}
use Rattle.words.proofs.Limits.{texts_fit}
use Rattle.salvage.proofs.OnePart.{upto_start, upto_few, upto_next, upto_end}
use Rattle.salvage.proofs.list_finds.Goals as goal

pub loop-find-init : goal.loop-find-init
loop-find-init c = upto_start

pub overflow_add-q : goal.overflow_add-q
overflow_add-q c =
    omega (arith, texts_fit, c.requires.0.four c.loop-find.find-index c.loop-find-test.true, c.requires.1)

pub list_find-listed-requires : goal.list_find-listed-requires
list_find-listed-requires c =
    let fits = c.requires.0.four c.loop-find.find-index c.loop-find-test.true in
    (fits, c.requires.1, omega (arith, upto_few c.loop-find.invariant, c.requires.2))

pub loop-find-preserved : goal.loop-find-preserved
loop-find-preserved c =
    let kept = c.list_find-listed.auto in
    let found = c.list_find-listed.ensures in
    upto_next c.loop-find.invariant c.loop-find-test.true kept.starts kept.kinds found.0 found.1

pub shape_of-starts : goal.shape_of-starts
shape_of-starts c = c.loop-find.invariant.sizes.0

pub shape_of-kinds : goal.shape_of-kinds
shape_of-kinds c = c.loop-find.invariant.sizes.1

pub returns : goal.returns
returns c = upto_end c.loop-find.invariant c.loop-find-test.false
