-- `compact_fill::Filling::arrow_target` meets its contract: the spine's arrow, or the one in its slot (`slot-there`).
use native.Mathlib.Omega.{arith}
use Rattle.compact_fill.proofs.OutArrows.{starts-there, starts_fit, slot-there}
use Rattle.compact_fill.proofs.Filling.arrow_target.Goals as goal

pub overflow_add-result-4 : goal.overflow_add-result-4
overflow_add-result-4 c =
    let F = c.args.self.now.first_form in
    let x = c.args.x.0 in
    omega (arith, starts-there F x (omega arith), starts_fit F x c.requires.0, F.few)

pub offset_bounds-self-self-2 : goal.offset_bounds-self-self-2
offset_bounds-self-self-2 c =
    let F = c.args.self.now.first_form in
    let x = c.args.x.0 in
    omega (arith, starts-there F x (omega arith), starts_fit F x c.requires.0, F.few)

pub bounds-self-self-2 : goal.bounds-self-self-2
bounds-self-self-2 c =
    let F = c.args.self.now.first_form in
    let x = c.args.x.0 in
    omega (arith, starts-there F x (omega arith), starts_fit F x c.requires.0, F.size)

pub returns : goal.returns
returns c =
    slot-there c.args.self.now.first_form c.args.x.0 c.requires.0 c.args.j (λ z. omega (arith, c.if-j-eq0.false))
    c.requires.1
