-- `search::windows_prepared` meets its contract: before each window `SoFar` holds, as in `windows`, whether it is then read with the
-- entries or with lookups. The measure is how much of the text lies behind the window's start.
use mathlib.Core.Path.{◌≡◌, ◌∙◌}
use native.Mathlib.Omega.{arith}
use lib.ListN.{length}
use Rattle.words.proofs.Answers.{arrow-told, arrow-untold}
use Rattle.backward.specs.Steps.{read_down}
use Rattle.backward.proofs.AfterFind.{after_moves, after_most}
use Rattle.search.specs.Answers.{reading_of}
use Rattle.search.proofs.SoFar.{so_far_start, so_far_end, so-far-find, so_far_miss}
use Rattle.search.proofs.SoFar.{letters_fit, find-fits, fails-inside}
use Rattle.search.proofs.Starting.{last_misses, next_misses, rest-says}
use Rattle.search.proofs.windows_prepared.Goals as goal
use Rattle.search.proofs.windows_prepared.Goals.{Joined-asked, then-asked, else-asked}

-- ── The rest is read ───────────────────────────────────────────────────────

-- where both ways of reading it meet, either answers for the window
window-says : (g : _) (c : Joined-asked g) → c.if-asked.read
    ≡ reading_of
    (read_down (g.A.Arrows.arrow c.args.columns.now.arrows.now) c.args.text.now c.window.start (length c.args.sought.now.word.now) 0)
window-says g c =
    rest-says c.args.sought.now.word.now c.args.text.now c.window.start _ c.requires.in_bounds.0
    (rw c.requires.agree at (arrow-told _ _ _ c.first.ensures.arrow c.in-Some.is))
    (elim c.if-asked.branch [
      | then-asked w ↦ w.read-is ∙ w.read_on-read.ensures
      | else-asked w ↦ w.read-is ∙ w.read_window-read.ensures
    ])

pub window-init : goal.window-init
window-init g c = so_far_start

-- ── The last letter has no arrow ───────────────────────────────────────────
pub overflow_add-letters : goal.overflow_add-letters
overflow_add-letters g c =
    let none-there = rw c.requires.agree at (arrow-untold _ _ c.first.ensures.arrow c.in_default.is) in
    let missed = last_misses _ _ _ _ c.requires.in_bounds.0 c.window.invariant c.window-test.true none-there in
    omega (arith, letters_fit missed c.args.sought.now.short c.requires.in_bounds.1)

pub window-preserved-in_default : goal.window-preserved-in_default
window-preserved-in_default g c =
    let none-there = rw c.requires.agree at (arrow-untold _ _ c.first.ensures.arrow c.in_default.is) in
    last_misses _ _ _ _ c.requires.in_bounds.0 c.window.invariant c.window-test.true none-there

-- ── The one before it has none ─────────────────────────────────────────────
pub overflow_add-letters-then-not-follows : goal.overflow_add-letters-then-not-follows
overflow_add-letters-then-not-follows g c =
    let arrow = rw c.requires.agree at (arrow-told _ _ _ c.first.ensures.arrow c.in-Some.is) in
    let none-there = rw c.requires.agree at (c.may_follow-follows.ensures c.if-not-follows.true) in
    let missed = next_misses _ _ _ _ c.requires.in_bounds.0 c.window.invariant c.window-test.true arrow none-there in
    omega (arith, letters_fit missed c.args.sought.now.short c.requires.in_bounds.1)

pub window-preserved-then-not-follows : goal.window-preserved-then-not-follows
window-preserved-then-not-follows g c =
    let arrow = rw c.requires.agree at (arrow-told _ _ _ c.first.ensures.arrow c.in-Some.is) in
    let none-there = rw c.requires.agree at (c.may_follow-follows.ensures c.if-not-follows.true) in
    next_misses _ _ _ _ c.requires.in_bounds.0 c.window.invariant c.window-test.true arrow none-there

-- ── It is a find ───────────────────────────────────────────────────────────
pub overflow_add-letters-in_default-read : goal.overflow_add-letters-in_default-read
overflow_add-letters-in_default-read g c =
    let says = window-says g (goal.at.overflow_add-letters-in_default-read g c).Joined-asked in
    let fits = find-fits c.window.invariant c.window-test.true _ says c.in_default-read.is in
    omega (arith, fits c.args.sought.now.short c.requires.in_bounds.1)

pub overflow_add-start-in_default-read : goal.overflow_add-start-in_default-read
overflow_add-start-in_default-read g c =
    let most = after_most c.args.sought.now.word.now (omega (arith, c.requires.in_bounds.0)) in
    omega (arith, most, c.window-test.true, c.args.sought.now.moves)

pub window-smaller-in_default-read : goal.window-smaller-in_default-read
window-smaller-in_default-read g c =
    omega (arith, after_moves c.args.sought.now.word.now, c.window-test.true, c.args.sought.now.moves, c.requires.in_bounds.0)

pub window-preserved-in_default-read : goal.window-preserved-in_default-read
window-preserved-in_default-read g c =
    let says = window-says g (goal.at.window-preserved-in_default-read g c).Joined-asked in
    so-far-find c.window.invariant c.window-test.true _ says c.in_default-read.is
    (omega (arith, c.requires.in_bounds.0)) c.args.sought.now.moves c.note-count.ensures.0 c.note-count.ensures.1

-- ── It is none ─────────────────────────────────────────────────────────────
pub overflow_sub-deep : goal.overflow_sub-deep
overflow_sub-deep g c =
    let says = window-says g (goal.at.overflow_sub-deep g c).Joined-asked in
    let inside = fails-inside c.window.invariant c.window-test.true _ says _ c.in-Some-read.is in
    omega arith

pub overflow_add-letters-in-window : goal.overflow_add-letters-in-window
overflow_add-letters-in-window g c =
    let says = window-says g (goal.at.overflow_add-letters-in-window g c).Joined-asked in
    let missed = so_far_miss c.window.invariant c.window-test.true _ says _ c.in-Some-read.is in
    omega (arith, letters_fit missed c.args.sought.now.short c.requires.in_bounds.1)

pub window-smaller : goal.window-smaller
window-smaller g c =
    let says = window-says g (goal.at.window-smaller g c).Joined-asked in
    let inside = fails-inside c.window.invariant c.window-test.true _ says _ c.in-Some-read.is in
    omega (arith, c.window-test.true, c.requires.in_bounds.0)

pub window-preserved : goal.window-preserved
window-preserved g c =
    let says = window-says g (goal.at.window-preserved g c).Joined-asked in
    so_far_miss c.window.invariant c.window-test.true _ says _ c.in-Some-read.is

pub returns-clause-tally : goal.returns-clause-tally
returns-clause-tally g c = (so_far_end c.window.invariant c.window-test.false).0

pub returns-clause-finds : goal.returns-clause-finds
returns-clause-finds g c = (so_far_end c.window.invariant c.window-test.false).1
