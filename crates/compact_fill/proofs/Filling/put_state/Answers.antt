-- `compact_fill::Filling::put_state` meets its contract: before arrow j the first j have their targets in place, and the first form and the
-- starts are as they were.
use native.Mathlib.Omega.{arith}
use Rattle.compact_fill.proofs.OutArrows.{out-leads}
use Rattle.compact_fill.proofs.Putting.{putting_step, first-kept, starts-kept, putting-end}
use Rattle.compact_fill.proofs.Held.{sets_on, still_word, target_on}
use Rattle.compact_fill.proofs.Filling.put_state.Goals as goal

pub place_for-requires-clause-leads : goal.place_for-requires-clause-leads
place_for-requires-clause-leads c =
    let F = c.args.self.now.first_form in
    let x = c.args.x.0 in
    let h = c.requires.0 in
    let s = c.loop-j.invariant.0 in
    let own = still_word s.rows (first-kept F x h c.loop-j.invariant.1) in
    let to = target_on own x c.loop-j.j c.arrow_target-y.ensures in
    let o = out-leads F x h c.loop-j.j (omega (arith, c.loop-j-test.true, c.arrow_count-j-end.ensures)) in
    (omega (arith, h, s.rows.letters), rw (own, to) o.leads)

pub place_for-requires-clause-told : goal.place_for-requires-clause-told
place_for-requires-clause-told c =
    let F = c.args.self.now.first_form in
    let x = c.args.x.0 in
    let h = c.requires.0 in
    let s = c.loop-j.invariant.0 in
    let P = c.loop-j.invariant.1 in
    rw (still_word s.rows (first-kept F x h P), s.rows.letters, s.kept) (c.requires.1, starts-kept F x h c.requires.2 P)

pub loop-j-preserved : goal.loop-j-preserved
loop-j-preserved c =
    let F = c.args.self.now.first_form in
    let x = c.args.x.0 in
    let h = c.requires.0 in
    let s = c.loop-j.invariant.0 in
    let P = c.loop-j.invariant.1 in
    let own = still_word s.rows (first-kept F x h P) in
    let to = target_on own x c.loop-j.j c.arrow_target-y.ensures in
    let place = rw own at c.place_for.ensures.1 in (
      sets_on s c.put.ensures.same,
      rw (c.put.ensures.target, s.rows.letters) (putting_step F x h P
          (omega (arith, c.loop-j-test.true, c.arrow_count-j-end.ensures)) to place),
    )

pub returns-clause-targets : goal.returns-clause-targets
returns-clause-targets c =
    putting-end c.args.self.now.first_form c.args.x.0 c.requires.0 c.loop-j.invariant.1
    (omega (arith, c.loop-j.auto.j-end, c.loop-j-test.false, c.arrow_count-j-end.ensures))
