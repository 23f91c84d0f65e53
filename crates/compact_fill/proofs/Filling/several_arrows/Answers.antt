-- `compact_fill::Filling::several_arrows` meets its contract: once the set is marked its words are those of the arrows, and once they have
-- their starts the targets go behind these (`with_state`).
use native.Mathlib.Omega.{arith}
use Rattle.compact_fill.proofs.Marking.{own-words}
use Rattle.compact_fill.proofs.Putting.{started, targets-told}
use Rattle.compact_fill.proofs.Held.{rows_on, same_word, still_word, starts_on}
use Rattle.compact_fill.proofs.Filling.several_arrows.Goals as goal

pub start_state-next-requires : goal.start_state-next-requires
start_state-next-requires c =
    let s = c.mark_state.ensures.same in
    let own = own-words c.requires.2 c.mark_state.ensures.set c.requires.1 in
    rw (same_word s) (omega (arith, c.requires.0, s.rows.letters), own, c.requires.3)

pub put_state-requires : goal.put_state-requires
put_state-requires c =
    let s = c.mark_state.ensures.same in
    let t = c.start_state-next.ensures.same in
    let S = starts_on s c.start_state-next.ensures.starts in
    let both = rows_on s.rows t.rows in
    let own = own-words c.requires.2 c.mark_state.ensures.set c.requires.1 in
    rw (still_word both (started c.args.self.now.first_form c.requires.0 S), both.letters, t.kept) (c.requires.0, own, S.starts)

pub returns-clause-filled : goal.returns-clause-filled
returns-clause-filled c =
    let s = c.mark_state.ensures.same in
    let t = c.start_state-next.ensures.same in
    let u = c.put_state.ensures.same in
    let S = starts_on s c.start_state-next.ensures.starts in
    let both = rows_on s.rows t.rows in (
      rw (same_word s) at c.start_state-next.ensures.next,
      rw (u.kept, t.kept) c.mark_state.ensures.set,
      targets-told c.args.self.now.first_form c.requires.0 S (rw both.letters at c.put_state.ensures.targets),
    )
