-- `turbo::forward` meets its contract: the laws of Going, one for each way through the loop. The measure is how many letters are left.
use mathlib.Core.Path.{sym}
use native.Mathlib.Omega.{arith}
use lib.Seq.{length-take-le}
use Rattle.words.proofs.Limits.{texts_fit}
use Rattle.turbo.proofs.Going.{going_start, going_stops, going_more}
use Rattle.turbo.proofs.Going.{going_short, going_skip, going_inside, going_find}
use Rattle.turbo.proofs.forward.Goals as goal

pub loop-at-init : goal.loop-at-init
loop-at-init c =
    let kept = c.requires.kept_in_bounds in
    let found = c.requires.found_le_c in
    (c.longest-border.ensures, going_start found.1 kept.0 kept.1 found.0)

pub reach-requires : goal.reach-requires
reach-requires c = c.loop-at.invariant.1.short

pub bounds-text-at : goal.bounds-text-at
bounds-text-at c =
    going_more c.loop-at.invariant.1 c.requires.found_le_c.2 c.reach.ensures c.loop-at-test.true

pub slice_bounds-skip-end : goal.slice_bounds-skip-end
slice_bounds-skip-end c =
    sym (length-take-le _ _ c.requires.found_le_c.2)

pub bounds-borders-0 : goal.bounds-borders-0
bounds-borders-0 c =
    omega (arith, c.loop-at.invariant.1.short)

pub skip-at-requires : goal.skip-at-requires
skip-at-requires c =
    omega (arith, c.if-at-end.true, length-take-le c.args.end c.args.text.now c.requires.found_le_c.2)

pub loop-at-preserved-then-at-end : goal.loop-at-preserved-then-at-end
loop-at-preserved-then-at-end c =
    let fits = c.requires.found_le_c.2 in
    let known = c.loop-at.invariant in
    let one = going_short known.1 fits c.reach.ensures c.loop-at-test.true c.extend-long.ensures in
    let none = c.if-long-eq0.true in
    (known.0, going_skip (rw none at (one (omega (arith, none, known.1.short)))) fits c.skip-at.ensures)

pub loop-at-smaller-else-at-end : goal.loop-at-smaller-else-at-end
loop-at-smaller-else-at-end c =
    omega (arith, going_more c.loop-at.invariant.1 c.requires.found_le_c.2 c.reach.ensures c.loop-at-test.true)

pub loop-at-preserved-else-at-end : goal.loop-at-preserved-else-at-end
loop-at-preserved-else-at-end c =
    let known = c.loop-at.invariant in
    let fits = c.requires.found_le_c.2 in
    let one = going_short known.1 fits c.reach.ensures c.loop-at-test.true c.extend-long.ensures in
    let none = c.if-long-eq0.true in
    (known.0, rw none at (one (omega (arith, none, known.1.short))))

pub loop-at-smaller-then-long-m : goal.loop-at-smaller-then-long-m
loop-at-smaller-then-long-m c =
    omega (arith, going_more c.loop-at.invariant.1 c.requires.found_le_c.2 c.reach.ensures c.loop-at-test.true)

pub loop-at-preserved-then-long-m : goal.loop-at-preserved-then-long-m
loop-at-preserved-then-long-m c =
    let known = c.loop-at.invariant in
    let fits = c.requires.found_le_c.2 in
    let one = going_short known.1 fits c.reach.ensures c.loop-at-test.true c.extend-long.ensures in
    (known.0, one c.if-long-m.true)

pub overflow_sub-s : goal.overflow_sub-s
overflow_sub-s c =
    going_inside c.loop-at.invariant.1 c.requires.found_le_c.2 c.reach.ensures c.loop-at-test.true
    c.extend-long.ensures c.if-long-m.false

pub overflow_cast-s : goal.overflow_cast-s
overflow_cast-s c =
    let more = going_more c.loop-at.invariant.1 c.requires.found_le_c.2 c.reach.ensures c.loop-at-test.true in
    omega (arith, more, c.requires.found_le_c.3, texts_fit)

pub note-count-requires : goal.note-count-requires
note-count-requires c =
    let going = c.loop-at.invariant.1 in
    omega (arith, going.few, going.inside, c.requires.found_le_c.3, texts_fit)

pub loop-at-smaller : goal.loop-at-smaller
loop-at-smaller c =
    omega (arith, going_more c.loop-at.invariant.1 c.requires.found_le_c.2 c.reach.ensures c.loop-at-test.true)

pub loop-at-preserved : goal.loop-at-preserved
loop-at-preserved c =
    let known = c.loop-at.invariant in
    let noted = c.note-count.ensures in
    let fits = c.requires.found_le_c.2 in (
      known.0,
      going_find known.1 fits c.reach.ensures c.loop-at-test.true c.extend-long.ensures c.if-long-m.false
          known.0 noted.0 c.note-count.auto.finds noted.1,
    )

pub overflow_cast-result : goal.overflow_cast-result
overflow_cast-result c =
    omega (arith, c.loop-at.invariant.1.inside, c.requires.found_le_c.3, texts_fit)

pub shape_of-finds : goal.shape_of-finds
shape_of-finds c = c.loop-at.invariant.1.same_size

pub returns : goal.returns
returns c =
    going_stops c.loop-at.invariant.1 c.requires.found_le_c.2 c.reach.ensures c.loop-at-test.false
