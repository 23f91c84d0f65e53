-- `search::windows` meets its contract: before each window `SoFar` holds, that is, what is counted and listed is what the steps up to there
-- count and list. The measure is how much of the text lies behind the window's start.
use native.Mathlib.Omega.{arith}
use Rattle.backward.proofs.AfterFind.{after_moves, after_most}
use Rattle.search.proofs.SoFar.{so_far_start, so_far_length, so_far_end, so-far-find, so_far_miss}
use Rattle.search.proofs.SoFar.{letters_fit, find-fits, fails-inside}
use Rattle.search.proofs.windows.Goals as goal

pub window-init : goal.window-init
window-init g c = so_far_start

-- ── A find ─────────────────────────────────────────────────────────────────
pub overflow_add-letters : goal.overflow_add-letters
overflow_add-letters g c =
    let told = c.in_default.is in
    let fits = find-fits c.window.invariant c.window-test.true _ c.read_window.ensures told in
    omega (arith, fits c.args.sought.now.short c.requires)

pub overflow_add-on : goal.overflow_add-on
overflow_add-on g c =
    omega (arith, after_most c.args.sought.now.word.now c.args.sought.now.nonempty)

pub overflow_cast-on-in_default : goal.overflow_cast-on-in_default
overflow_cast-on-in_default g c =
    omega (arith, after_most c.args.sought.now.word.now c.args.sought.now.nonempty, c.args.sought.now.moves)

pub window-smaller-in_default : goal.window-smaller-in_default
window-smaller-in_default g c =
    omega (arith, after_moves c.args.sought.now.word.now, c.args.sought.now.moves, c.args.sought.now.nonempty)

pub window-preserved-in_default : goal.window-preserved-in_default
window-preserved-in_default g c =
    so-far-find c.window.invariant c.window-test.true _ c.read_window.ensures c.in_default.is
    c.args.sought.now.nonempty c.args.sought.now.moves c.note-count.ensures.0 c.note-count.ensures.1

-- ── A letter without an arrow ──────────────────────────────────────────────
pub overflow_add-past : goal.overflow_add-past
overflow_add-past g c =
    let read = c.read_window.ensures in
    let inside = fails-inside c.window.invariant c.window-test.true _ read _ c.in-Some.is in
    omega (arith, c.requires)

pub overflow_sub-letters : goal.overflow_sub-letters
overflow_sub-letters g c =
    let read = c.read_window.ensures in
    let inside = fails-inside c.window.invariant c.window-test.true _ read _ c.in-Some.is in
    omega arith

pub overflow_add-letters-in-window-2 : goal.overflow_add-letters-in-window-2
overflow_add-letters-in-window-2 g c =
    let read = c.read_window.ensures in
    let missed = so_far_miss c.window.invariant c.window-test.true _ read _ c.in-Some.is in
    omega (arith, letters_fit missed c.args.sought.now.short c.requires)

pub window-smaller : goal.window-smaller
window-smaller g c =
    let read = c.read_window.ensures in
    let inside = fails-inside c.window.invariant c.window-test.true _ read _ c.in-Some.is in
    omega (arith, c.args.sought.now.nonempty)

pub window-preserved : goal.window-preserved
window-preserved g c =
    so_far_miss c.window.invariant c.window-test.true _ c.read_window.ensures _ c.in-Some.is

pub shape_of-finds : goal.shape_of-finds
shape_of-finds g c = so_far_length c.window.invariant

pub returns-clause-tally : goal.returns-clause-tally
returns-clause-tally g c = (so_far_end c.window.invariant c.window-test.false).0

pub returns-clause-finds : goal.returns-clause-finds
returns-clause-finds g c = (so_far_end c.window.invariant c.window-test.false).1
