-- `chains::add_letters` meets its contract: before each letter the table is `Grown` and `firsts` has the first state of each letter. The
-- measure is how many letters are left.
use mathlib.Core.Path.{sym, ◌∙◌}
use native.Mathlib.Omega.{arith}
use Rattle.words.specs.Lists.{at}
use Rattle.chains.proofs.Firsts.{firsts-start, code-zero, code-next}
use Rattle.chains.proofs.Grown.{grown_start, code-begun, code-letter, code-end}
use Rattle.chains.proofs.add_letters.Goals as goal

pub loop-t-init : goal.loop-t-init
loop-t-init c = (grown_start c.requires.blank, firsts-start (at c.args.table.now))

pub bounds-table-t : goal.bounds-table-t
bounds-table-t c =
    omega (arith, c.loop-t.invariant.0.held.size, c.requires.blank.size)

pub bounds-firsts-c : goal.bounds-firsts-c
bounds-firsts-c c = omega (arith, c.loop-t.invariant.1.size)

pub add_letter-used-requires : goal.add_letter-used-requires
add_letter-used-requires c =
    let K = c.requires.blank in
    let G = c.loop-t.invariant.0 in
    let more = c.loop-t-test.true in
    let zero = code-zero K G more c.loop-t.invariant.1 in
    record {
      n_bound = omega (arith, c.requires.m_bound);
      begun = (code-begun K G more, zero);
    }

pub loop-t-preserved : goal.loop-t-preserved
loop-t-preserved c =
    let K = c.requires.blank in
    let G = c.loop-t.invariant.0 in
    let more = c.loop-t-test.true in
    (code-letter K G more c.add_letter-used.ensures, code-next K G more c.loop-t.invariant.1 c.or.ensures)

pub shape_of-table : goal.shape_of-table
shape_of-table c =
    c.loop-t.invariant.0.held.size ∙ sym c.requires.blank.size

pub returns : goal.returns
returns c =
    code-end c.requires.blank c.loop-t.invariant.0 c.loop-t-test.false
