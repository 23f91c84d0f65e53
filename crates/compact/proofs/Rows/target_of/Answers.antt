-- `compact::Rows::target_of` meets its contract: what is counted is the target's place, within its rows (`look_found`).
use native.Mathlib.Omega.{arith}
use Rattle.compact.proofs.Looking.{look_found}
use Rattle.compact.proofs.Rows.target_of.Goals as goal

pub overflow_add-result-2 : goal.overflow_add-result-2
overflow_add-result-2 c =
    let F = c.args.self.now.formed in
    let found = look_found F c.args.x.0 c.args.c.0 (omega arith) c.requires.0 c.requires.1 c.place-nth.ensures in
    omega (arith, found.0, F.small)

pub offset_bounds-self-self : goal.offset_bounds-self-self
offset_bounds-self-self c =
    let F = c.args.self.now.formed in
    let found = look_found F c.args.x.0 c.args.c.0 (omega arith) c.requires.0 c.requires.1 c.place-nth.ensures in
    omega (arith, found.0, F.small)

pub bounds-self-self : goal.bounds-self-self
bounds-self-self c =
    let F = c.args.self.now.formed in
    let found = look_found F c.args.x.0 c.args.c.0 (omega arith) c.requires.0 c.requires.1 c.place-nth.ensures in
    omega (arith, found.0, F.enough)

pub returns : goal.returns
returns c =
    (look_found c.args.self.now.formed c.args.x.0 c.args.c.0 (omega arith) c.requires.0 c.requires.1 c.place-nth.ensures).1
