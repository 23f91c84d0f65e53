-- `failure_table::add_suffix` meets its contract: before each letter the table is as it was, and `Walking` holds; it holds too after the
-- letters that are along the spine. The four ways out of the walk are those of `Suffixes`. The measure is how many letters are left.
use mathlib.Core.Path.{ap, ◌∙◌}
use lib.ListN.{length}
use Rattle.failure_table.proofs.Suffixes.{stage_formed, stage_size, stage_slots, last-state}
use Rattle.failure_table.proofs.Suffixes.{walking_along, walking_goes, walking_lacks, walking_done, walking_spine}
use Rattle.failure_table.proofs.add_suffix.Goals as goal

pub returns-then-from-k : goal.returns-then-from-k
returns-then-from-k c =
    let same = c.loop-k.invariant.0 in
    rw same (walking_spine c.requires.0 c.loop-k.invariant.1 c.loop-k-test.true c.if-from-k.true c.requires.1)

pub invariant_of-read : goal.invariant_of-read
invariant_of-read c = record { formed = rw c.loop-k.invariant.0 (stage_formed c.requires.0) }

pub add_arrow-requires : goal.add_arrow-requires
add_arrow-requires c =
    let S = c.requires.0 in
    let same = c.loop-k.invariant.0 in
    let along = rw same at c.along_spine-run.ensures in
    let says = rw same at c.ask-s.ensures in
    let state = last-state S (walking_along S c.loop-k.invariant.1 along) along.inside _ says c.in_default.is in
    (S.small, state, along.inside, stage_slots S, ap length same ∙ stage_size S)

pub returns-in_default : goal.returns-in_default
returns-in_default c =
    let S = c.requires.0 in
    let same = c.loop-k.invariant.0 in
    let along = rw same at c.along_spine-run.ensures in
    let says = rw same at c.ask-s.ensures in
    let written = rw same at c.add_arrow.ensures.1 in
    walking_lacks S (walking_along S c.loop-k.invariant.1 along) along.inside _ says c.in_default.is _ _
    c.requires.1 c.add_arrow.ensures.0 written

pub loop-k-preserved : goal.loop-k-preserved
loop-k-preserved c =
    let S = c.requires.0 in
    let same = c.loop-k.invariant.0 in
    let along = rw same at c.along_spine-run.ensures in
    let says = rw same at c.ask-s.ensures in
    (same, walking_goes S (walking_along S c.loop-k.invariant.1 along) along.inside _ says _ c.in-Some.is)

pub returns : goal.returns
returns c =
    rw c.loop-k.invariant.0 (walking_done c.requires.0 c.loop-k.invariant.1 c.loop-k-test.false c.requires.1)
