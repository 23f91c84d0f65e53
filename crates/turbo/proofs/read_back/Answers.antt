-- `turbo::read_back` meets its contract: how the window was read, with the entries or with lookups, says where the reading forward begins.
use native.Mathlib.Omega.{arith}
use Rattle.words.proofs.Limits.{texts_fit}
use Rattle.turbo.proofs.Begins.{begins_whole, failed-before, begins-failed}
use Rattle.turbo.proofs.read_back.Goals as goal

-- what is told of all states is told of fewer
pub invariant_of-asked_of : goal.invariant_of-asked_of
invariant_of-asked_of c =
    let all = c.args.columns.now.told in
    let fewer = c.asked_rows.ensures in
    record {
      told = record {
        size = all.size;
        few = omega (arith, all.few, fewer);
        inside = λ x l. all.inside x (omega (arith, l, fewer));
        arrows = λ x l. all.arrows x (omega (arith, l, fewer));
      };
    }

pub read_on-requires : goal.read_on-requires
read_on-requires c =
    (omega (arith, c.requires.0, c.requires.1), omega (arith, c.requires.2, texts_fit), omega arith)

pub returns-in_default : goal.returns-in_default
returns-in_default c = begins_whole _ _ c.requires.0 _ c.read_on.ensures c.in_default.is

pub overflow_add-result : goal.overflow_add-result
overflow_add-result c =
    let past = failed-before _ _ c.requires.0 0 c.read_on.ensures c.in-Some.is in
    omega (arith, past, c.requires.1, c.requires.2, texts_fit)

pub overflow_sub-result : goal.overflow_sub-result
overflow_sub-result c =
    omega (arith, failed-before _ _ c.requires.0 0 c.read_on.ensures c.in-Some.is)

pub returns : goal.returns
returns c = begins-failed _ _ c.requires.0 _ c.read_on.ensures c.in-Some.is
