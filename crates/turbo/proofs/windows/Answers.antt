-- `turbo::windows` meets its contract: before each window `SoFar` holds, that is, what is counted and listed is what the steps up to there
-- count and list. The measure is how much of the text lies behind c.
use native.Mathlib.Omega.{arith}
use Rattle.words.proofs.Limits.{texts_fit}
use Rattle.turbo.proofs.SoFar.{so_far_start, so_far_length, so_far_fits, so_far_letters, so_far_end}
use Rattle.turbo.proofs.SoFar.{so_far_longer, begin_fits, stop-fits, so_far_window}
use Rattle.turbo.proofs.windows.Goals as goal

pub window-init : goal.window-init
window-init c =
    so_far_start c.args.borders.now.nonempty

pub overflow_sub-c : goal.overflow_sub-c
overflow_sub-c c =
    so_far_fits c.window.invariant c.args.borders.now.nonempty

pub overflow_sub-end : goal.overflow_sub-end
overflow_sub-end c =
    so_far_fits c.window.invariant c.args.borders.now.nonempty

pub read_back-begin-requires : goal.read_back-begin-requires
read_back-begin-requires c =
    let within = c.window-test.true in
    let longer = so_far_longer c.window.invariant c.args.borders.now.nonempty within in
    (omega (arith, longer), within, c.requires)

pub forward-stop-requires : goal.forward-stop-requires
forward-stop-requires c =
    let within = c.window-test.true in
    let so_far = c.window.invariant in
    let fits = begin_fits so_far c.args.borders.now.nonempty within c.read_back-begin.ensures in
    record {
      kept_in_bounds = (fits.0, fits.1);
      found_le_c = (omega (arith, so_far.few, fits.2), omega (arith, fits.3, within), within, c.requires);
    }

pub overflow_sub-letters : goal.overflow_sub-letters
overflow_sub-letters c =
    (stop-fits c.window.invariant c.args.borders.now.nonempty c.window-test.true c.read_back-begin.ensures
    c.forward-stop.ensures).0

-- the letters, with those of the window, are at most 2n
pub overflow_add-letters : goal.overflow_add-letters
overflow_add-letters c =
    let some-letter = c.args.borders.now.nonempty in
    let then = so_far_window c.window.invariant some-letter c.window-test.true c.read_back-begin.ensures
    c.forward-stop.ensures in
    omega (arith, so_far_letters then some-letter, c.requires, texts_fit)

pub overflow_add-letters-in-window : goal.overflow_add-letters-in-window
overflow_add-letters-in-window c =
    let some-letter = c.args.borders.now.nonempty in
    let then = so_far_window c.window.invariant some-letter c.window-test.true c.read_back-begin.ensures
    c.forward-stop.ensures in
    omega (arith, so_far_letters then some-letter, c.requires, texts_fit)

pub window-smaller : goal.window-smaller
window-smaller c =
    let so_far = c.window.invariant in
    let some-letter = c.args.borders.now.nonempty in
    let within = c.window-test.true in
    let fits = stop-fits so_far some-letter within c.read_back-begin.ensures c.forward-stop.ensures in
    omega (arith, so_far_longer so_far some-letter within, fits.1, fits.2)

pub window-preserved : goal.window-preserved
window-preserved c =
    so_far_window c.window.invariant c.args.borders.now.nonempty c.window-test.true c.read_back-begin.ensures c.forward-stop.ensures

pub shape_of-finds : goal.shape_of-finds
shape_of-finds c = so_far_length c.window.invariant

pub returns : goal.returns
returns c = so_far_end c.window.invariant c.window-test.false
