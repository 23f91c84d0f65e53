-- `loaded::read_letters` meets its contract: each way out is what `letters_at` shows once the number of letters is read.
use mathlib.Core.Path.{sym, ◌∙◌}
use Rattle.words.proofs.Limits.{least_saved_lem, word_limit}
use Rattle.number.proofs.Theorems.{number_at-inside}
use Rattle.loaded.proofs.Fronts.{le_told, shows_other_size, shows-cut, shows-letters}
use Rattle.loaded.proofs.read_letters.Goals as goal

pub returns-then-not-contains : goal.returns-then-not-contains
returns-then-not-contains c =
    let told = simp (c.new.ensures.start, c.new.ensures.end, c.new.ensures.exhausted, le_told) at c.contains.ensures.value in
    let other = sym told ∙ c.if-not-contains.true in
    rw c.at.ensures (shows_other_size _ _ (sym c.in_ok-value.ensures) (rw (least_saved_lem, word_limit) other))

pub overflow_sub-cut : goal.overflow_sub-cut
overflow_sub-cut c = (number_at-inside c.args.file.now c.args.c.at (sym c.in_ok-value.ensures)).1

pub returns-then-cut : goal.returns-then-cut
returns-then-cut c =
    let told = simp (c.new.ensures.start, c.new.ensures.end, c.new.ensures.exhausted, le_told) at c.contains.ensures.value in
    let sized = sym told ∙ c.if-not-contains.false in
    rw c.at-then-cut.ensures (shows-cut _ _ (sym c.in_ok-value.ensures) (rw (least_saved_lem, word_limit) sized) c.if-cut.true)

pub returns : goal.returns
returns c =
    let told = simp (c.new.ensures.start, c.new.ensures.end, c.new.ensures.exhausted, le_told) at c.contains.ensures.value in
    let sized = sym told ∙ c.if-not-contains.false in
    shows-letters _ _ (sym c.in_ok-value.ensures) (rw (least_saved_lem, word_limit) sized) c.if-cut.false
