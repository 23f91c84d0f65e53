-- `compact_fill::Filling::lone_arrow` meets its contract: one bit is the set (`lone_marked`), and the target is the state's first
-- (`lone_state`).
use native.Mathlib.Omega.{arith}
use Rattle.compact_fill.proofs.Marking.{lone_marked}
use Rattle.compact_fill.proofs.Putting.{few-before, lone_inside, lone_next, lone_word, lone_state}
use Rattle.compact_fill.proofs.Held.{rows_on, same_word, starts_on}
use Rattle.compact_fill.proofs.Filling.lone_arrow.Goals as goal

pub few_starts-requires-clause-state : goal.few_starts-requires-clause-state
few_starts-requires-clause-state c =
    let m = c.mark.ensures.same.rows.letters in
    (omega (arith, c.requires.0, m), omega (arith, few-before c.args.self.now.first_form c.requires.0 c.requires.2, m))

pub few_starts-requires-clause-by_index : goal.few_starts-requires-clause-by_index
few_starts-requires-clause-by_index c =
    rw (same_word c.mark.ensures.same)
    (lone_word c.args.self.now.first_form c.requires.0 c.requires.2 c.requires.1 c.letter_into-c.ensures)

pub put-requires : goal.put-requires
put-requires c =
    let m = (rows_on c.mark.ensures.same.rows c.few_starts.ensures.same.rows).letters in
    omega (arith, m, lone_inside c.args.self.now.first_form c.requires.0 c.requires.2 c.requires.1)

pub overflow_add-result : goal.overflow_add-result
overflow_add-result c =
    let F = c.args.self.now.first_form in
    omega (arith, few-before F c.requires.0 c.requires.2, F.few)

pub returns-clause-filled : goal.returns-clause-filled
returns-clause-filled c =
    let F = c.args.self.now.first_form in
    let h = c.requires.0 in
    let counted = c.requires.2 in
    let alone = c.requires.1 in
    let s = c.mark.ensures.same in
    let t = c.few_starts.ensures.same in (
      lone_next F h counted alone,
      rw (c.put.ensures.same.kept, t.kept) (lone_marked F _ h alone c.letter_into-c.ensures c.mark.ensures.bit),
      rw (c.put.ensures.target, (rows_on s.rows t.rows).letters) (lone_state F h counted alone (starts_on s c.few_starts.ensures.starts)),
    )
