-- `compact_fill::Filling::two_arrows` meets its contract: two bits are the set (`pair_marked`), and each target is behind the other where
-- its letter is (`pair_state`).
use native.Mathlib.Omega.{arith}
use Rattle.compact_fill.proofs.OutArrows.{out-leads}
use Rattle.compact_fill.proofs.Marking.{pair_marked}
use Rattle.compact_fill.proofs.Starts.{test_added}
use Rattle.compact_fill.proofs.Putting.{few-before, letter_of, spine-inside, other_inside, pair_next, pair_word, pair_state}
use Rattle.compact_fill.proofs.Held.{rows_on, entries_on, same_word, starts_on}
use Rattle.compact_fill.proofs.Filling.two_arrows.Goals as goal

pub letter_into-to_z-requires : goal.letter_into-to_z-requires
letter_into-to_z-requires c =
    let to = c.arrow_target-z.ensures in
    let o = out-leads c.args.self.now.first_form c.args.x.0 c.requires.0 1 (omega (arith, c.requires.1)) in
    (omega (arith, to, o.up), omega (arith, to, o.inside))

pub few_starts-requires-clause-state : goal.few_starts-requires-clause-state
few_starts-requires-clause-state c =
    let m = (entries_on c.mark.ensures.same c.mark-2.ensures.same).rows.letters in
    (omega (arith, c.requires.0, m), omega (arith, few-before c.args.self.now.first_form c.requires.0 c.requires.2, m))

pub few_starts-requires-clause-by_index : goal.few_starts-requires-clause-by_index
few_starts-requires-clause-by_index c =
    let F = c.args.self.now.first_form in
    let h = c.requires.0 in
    let counted = c.requires.2 in
    rw (same_word (entries_on c.mark.ensures.same c.mark-2.ensures.same))
    (pair_word F h counted c.requires.1 c.letter_into-to_y.ensures
    (letter_of F h counted c.arrow_target-z.ensures c.letter_into-to_z.ensures))

pub overflow_add-before : goal.overflow_add-before
overflow_add-before c =
    let F = c.args.self.now.first_form in
    let h = c.requires.0 in
    let counted = c.requires.2 in
    omega (
      arith,
      F.few,
      spine-inside F h counted c.requires.1 c.letter_into-to_y.ensures
          (letter_of F h counted c.arrow_target-z.ensures c.letter_into-to_z.ensures) (test_added c.args.before _ c.from.ensures),
    )

pub put-requires : goal.put-requires
put-requires c =
    let F = c.args.self.now.first_form in
    let h = c.requires.0 in
    let counted = c.requires.2 in
    let m = (rows_on (entries_on c.mark.ensures.same c.mark-2.ensures.same).rows c.few_starts.ensures.same.rows).letters in
    omega (
      arith,
      m,
      spine-inside F h counted c.requires.1 c.letter_into-to_y.ensures
          (letter_of F h counted c.arrow_target-z.ensures c.letter_into-to_z.ensures) (test_added c.args.before _ c.from.ensures),
    )

pub overflow_add-before-2 : goal.overflow_add-before-2
overflow_add-before-2 c =
    let F = c.args.self.now.first_form in
    let h = c.requires.0 in
    let counted = c.requires.2 in
    omega (
      arith,
      F.few,
      other_inside F h counted c.requires.1 c.letter_into-to_y.ensures
          (letter_of F h counted c.arrow_target-z.ensures c.letter_into-to_z.ensures) (test_added c.args.before _ c.from-2.ensures),
    )

pub put-requires-2 : goal.put-requires-2
put-requires-2 c =
    let F = c.args.self.now.first_form in
    let h = c.requires.0 in
    let counted = c.requires.2 in
    let m = (rows_on (entries_on c.mark.ensures.same c.mark-2.ensures.same).rows c.few_starts.ensures.same.rows).letters in
    omega (
      arith,
      m,
      c.put.ensures.same.rows.letters,
      other_inside F h counted c.requires.1 c.letter_into-to_y.ensures
          (letter_of F h counted c.arrow_target-z.ensures c.letter_into-to_z.ensures) (test_added c.args.before _ c.from-2.ensures),
    )

pub overflow_add-result : goal.overflow_add-result
overflow_add-result c =
    let F = c.args.self.now.first_form in
    omega (arith, few-before F c.requires.0 c.requires.2, F.few)

pub returns-clause-filled : goal.returns-clause-filled
returns-clause-filled c =
    let F = c.args.self.now.first_form in
    let h = c.requires.0 in
    let counted = c.requires.2 in
    let both = c.requires.1 in
    let to = c.arrow_target-z.ensures in
    let to-spine = c.letter_into-to_y.ensures in
    let to-other = letter_of F h counted to c.letter_into-to_z.ensures in
    let s = entries_on c.mark.ensures.same c.mark-2.ensures.same in
    let t = c.few_starts.ensures.same in
    let u = c.put.ensures.same in
    let m = (rows_on s.rows t.rows).letters in (
      pair_next F h counted both,
      rw (c.put-2.ensures.same.kept, u.kept, t.kept)
          (pair_marked F _ h both to-spine to-other c.mark.ensures.bit c.mark-2.ensures.bit),
      rw (c.put-2.ensures.target, c.put.ensures.target, u.rows.letters, m)
          (pair_state F h counted both (starts_on s c.few_starts.ensures.starts) to-spine to-other
          (test_added c.args.before _ c.from.ensures) (test_added c.args.before _ c.from-2.ensures) to),
    )
