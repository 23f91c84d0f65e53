-- `failure_search::scan` meets its contract: before each window `SoFar` holds, that is, what is counted and listed is what the steps up to
-- there count and list, over the table that was asked from the start. The measure is how much of the text lies behind the window's start.
use mathlib.Core.Path.{◌≡◌, ap, ◌∙◌}
use Prim.Native.Nat.{ℕ, ◌≤◌}
use native.Mathlib.Omega.{arith}
use lib.ListN.{length}
use Rattle.backward.proofs.AfterFind.{after_moves, after_most}
use Rattle.failure.specs.FailureSteps.{read_both}
use Rattle.failure_table.specs.Asked.{ask_of}
use Rattle.words.specs.Words.{Word}
use Rattle.failure_table.specs.declared.FailureTable.{FailureTable}
use Rattle.failure_search.specs.declared.CountedRead.{CountedRead}
use Rattle.failure_search.specs.Tallies.{counted_read_of}
use Rattle.failure_search.proofs.States.{few-taken}
use Rattle.failure_search.proofs.Readings.{compared}
use Rattle.failure_search.proofs.Memory.{remembers_nothing}
use Rattle.failure_search.proofs.SoFar.{so_far_start, so_far_end, so-far-find, so_far_unlike, so_far_miss}
use Rattle.failure_search.proofs.SoFar.{letters_fit, window_taken, whole-fits, fails-inside}
use Rattle.failure_search.proofs.scan.Goals as goal
use Rattle.failure_search.proofs.scan.Goals.{Joined-eq, then-eq, else-eq}

-- the table's word is as long as the one that is sought, so this is the window's answer
window_says : (table : FailureTable) {n : ℕ} → table.m ≡ n → (t : Word) (s : ℕ) {r : CountedRead}
    → r ≡ counted_read_of (read_both (ask_of table) t s table.m 0)
    → r ≡ counted_read_of (read_both (ask_of table) t s n 0)
window_says table long t s e = e ∙ ap (λ (k : ℕ). counted_read_of (read_both (ask_of table) t s k 0)) long

pub window-init : goal.window-init
window-init c = (so_far_start, remembers_nothing _)

pub overflow_add-failures : goal.overflow_add-failures
overflow_add-failures c =
    let t = c.args.table.now in
    let says = window_says t c.requires.0 _ _ c.read_window-read.ensures in
    let fits = window_taken c.window.invariant.0 c.window-test.true _ says c.args.sought.now.short c.requires.1 in
    omega (arith, fits (few-taken _ _ t.formed.small))

-- ── All letters are read ───────────────────────────────────────────────────
pub overflow_add-letters : goal.overflow_add-letters
overflow_add-letters c =
    let says = window_says c.args.table.now c.requires.0 _ _ c.read_window-read.ensures in
    let fits = whole-fits c.window.invariant.0 c.window-test.true _ says c.in_default.is in
    omega (arith, fits c.args.sought.now.short c.requires.1)

-- the window moves, and not past its end
moves : (c : Joined-eq) → (1 ≤ c.if-eq.step) × (c.if-eq.step ≤ length c.args.sought.now.word.now)
moves c =
    let w = c.args.sought.now.word.now in
    elim c.if-eq.branch [
      | then-eq v ↦
          let moves = c.args.sought.now.moves in
          (omega (arith, after_moves w, v.step-is), omega (arith, after_most w c.args.sought.now.nonempty, v.step-is))
      | else-eq v ↦ (omega (arith, v.step-is), omega (arith, v.step-is, c.args.sought.now.nonempty))
    ]

pub overflow_add-s-in_default : goal.overflow_add-s-in_default
overflow_add-s-in_default c =
    omega (arith, moves (goal.at.overflow_add-s-in_default c).Joined-eq, c.window-test.true, c.requires.1)

pub overflow_cast-s-in_default : goal.overflow_cast-s-in_default
overflow_cast-s-in_default c =
    omega (arith, moves (goal.at.overflow_cast-s-in_default c).Joined-eq, c.window-test.true, c.requires.1)

pub window-smaller-in_default : goal.window-smaller-in_default
window-smaller-in_default c =
    omega (arith, moves (goal.at.window-smaller-in_default c).Joined-eq, c.window-test.true)

pub window-preserved-in_default : goal.window-preserved-in_default
window-preserved-in_default c =
    let inv = c.window.invariant.0 in
    let says = window_says c.args.table.now c.requires.0 _ _ c.read_window-read.ensures in
    let some-letter = c.args.sought.now.nonempty in (
      elim c.if-eq.branch [
        | then-eq v ↦
            let there = compared _ _ c.window.s.0 c.eq.ensures v.if-eq.true in
            let noted = v.note-count.ensures in
            let moves = v.step-is ∙ c.args.sought.now.moves in
            let counted = v.count-is ∙ noted.0 in
            rw v.finds-is (so-far-find inv c.window-test.true _ says c.in_default.is there some-letter moves counted noted.1)
        | else-eq v ↦
            let unlike = compared _ _ c.window.s.0 c.eq.ensures v.if-eq.false in
            rw (v.finds-is, v.count-is, v.step-is) (so_far_unlike inv c.window-test.true _ says c.in_default.is unlike some-letter)
      ],
      c.ask_first-first.ensures.told,
    )

-- ── A letter leads nowhere ─────────────────────────────────────────────────
pub overflow_sub-letters : goal.overflow_sub-letters
overflow_sub-letters c =
    let says = window_says c.args.table.now c.requires.0 _ _ c.read_window-read.ensures in
    let inside = fails-inside c.window.invariant.0 c.window-test.true _ says _ c.in-Some.is in
    omega arith

pub overflow_add-letters-in-window : goal.overflow_add-letters-in-window
overflow_add-letters-in-window c =
    let says = window_says c.args.table.now c.requires.0 _ _ c.read_window-read.ensures in
    let missed = so_far_miss c.window.invariant.0 c.window-test.true _ says _ c.in-Some.is in
    omega (arith, letters_fit missed c.args.sought.now.short c.requires.1)

pub overflow_add-s-in-window : goal.overflow_add-s-in-window
overflow_add-s-in-window c =
    let says = window_says c.args.table.now c.requires.0 _ _ c.read_window-read.ensures in
    let inside = fails-inside c.window.invariant.0 c.window-test.true _ says _ c.in-Some.is in
    omega (arith, c.requires.1)

pub window-smaller : goal.window-smaller
window-smaller c =
    let says = window_says c.args.table.now c.requires.0 _ _ c.read_window-read.ensures in
    let inside = fails-inside c.window.invariant.0 c.window-test.true _ says _ c.in-Some.is in
    omega (arith, c.args.sought.now.nonempty)

pub window-preserved : goal.window-preserved
window-preserved c =
    let says = window_says c.args.table.now c.requires.0 _ _ c.read_window-read.ensures in
    (so_far_miss c.window.invariant.0 c.window-test.true _ says _ c.in-Some.is, c.ask_first-first.ensures.told)

pub returns-clause-tally : goal.returns-clause-tally
returns-clause-tally c = (so_far_end c.window.invariant.0 c.window-test.false).0

pub returns-clause-finds : goal.returns-clause-finds
returns-clause-finds c = (so_far_end c.window.invariant.0 c.window-test.false).1
