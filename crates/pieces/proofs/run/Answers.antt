-- `pieces::run` meets its contract: the laws of Running, one for each way through the loop. The measure is how many letters are left.
use native.Mathlib.Omega.{arith}
use Rattle.words.proofs.Limits.{texts_fit}
use Rattle.pieces.proofs.Running.{running_start, running_keep_short}
use Rattle.pieces.proofs.Running.{running_short, running_skip, running_inside, running_find}
use Rattle.pieces.proofs.run.Goals as goal

pub loop-at-init : goal.loop-at-init
loop-at-init c = (c.longest-border.ensures, running_start _ _ c.requires.held_short _)

pub extend-end-requires : goal.extend-end-requires
extend-end-requires c = running_keep_short c.loop-at.invariant.1 c.requires.held_short

pub loop-at-preserved-then-end-eq0 : goal.loop-at-preserved-then-end-eq0
loop-at-preserved-then-end-eq0 c =
    let known = c.loop-at.invariant in (
      known.0,
      running_skip known.1 c.requires.held_short c.loop-at-test.true c.extend-end.ensures c.if-end-eq0.true
          c.skip-at.ensures,
    )

pub loop-at-preserved-then-end-m : goal.loop-at-preserved-then-end-m
loop-at-preserved-then-end-m c =
    let known = c.loop-at.invariant in (
      known.0,
      running_short known.1 c.requires.held_short c.loop-at-test.true c.extend-end.ensures c.if-end-m.true,
    )

pub overflow_add-s : goal.overflow_add-s
overflow_add-s c =
    omega (arith, c.loop-at-test.true, c.requires.held_le_before.1, texts_fit)

pub overflow_sub-s : goal.overflow_sub-s
overflow_sub-s c =
    let short = c.requires.held_short in
    let fits = running_inside c.loop-at.invariant.1 short c.loop-at-test.true c.extend-end.ensures c.if-end-m.false in
    omega (arith, fits, c.requires.held_le_before.0)

pub overflow_cast-s : goal.overflow_cast-s
overflow_cast-s c =
    omega (arith, c.loop-at-test.true, c.requires.held_le_before.1, texts_fit)

pub note-count-requires : goal.note-count-requires
note-count-requires c =
    omega (arith, c.loop-at.invariant.1.few, c.loop-at-test.true, c.requires.held_le_before.1, texts_fit)

pub loop-at-preserved : goal.loop-at-preserved
loop-at-preserved c =
    let noted = c.note-count.ensures in
    let known = c.loop-at.invariant in (
      known.0,
      running_find known.1 c.requires.held_short c.loop-at-test.true c.extend-end.ensures c.if-end-m.false
          c.requires.held_le_before.0 known.0 noted.0 noted.1,
    )
