-- THE THEOREMS on the Turbo search, for every word with a letter and every text, each a sentence about the definitions alone. They are
-- those of `Windows`, with the arrows of the oracle of the mirrored word.
use mathlib.Core.Path.{◌≡◌, sym, ◌∙◌}
use mathlib.Core.Bool.{true}
use mathlib.Core.Logic.{by_cases}
use Prim.Native.Nat.{suc, ◌*◌, ◌≤◌, ◌<◌}
use native.Mathlib.Decide.{dec_lt}
use native.Mathlib.Omega.{arith}
use lib.ListN.{length}
use Rattle.words.specs.Lists.{Rising}
use Rattle.words.specs.Words.{Word, Place, mirror, occurrences}
use Rattle.words.proofs.Occurrences.{occurrences_rise}
use Rattle.border.specs.Borders.{longest_border}
use Rattle.oracle.specs.SuffixRule.{oracle}
use Rattle.backward.specs.Steps.{nothing, backward}
use Rattle.backward.proofs.Theorems.{oracle_walker, search-lists-occurrences}
use Rattle.turbo_steps.specs.Turbo.{kept_at, ends_at, turbo}
use Rattle.turbo_steps.proofs.Between.{short_ends_not, whole-keeps}
use Rattle.turbo_steps.proofs.Windows.{steps-letters, steps-short, steps-list}

module _ (w t : Word) (some-letter : 1 ≤ length w) where
  pub turbo-lists-occurrences : (turbo w t).starts ≡ occurrences w t
  unfolding turbo
  turbo-lists-occurrences = steps-list (oracle_walker w t) t some-letter

  -- each start is listed once, in rising order
  pub turbo_rises : Rising 0 (turbo w t).starts
  turbo_rises = rw turbo-lists-occurrences (occurrences_rise w t)

  -- the list is that of the backward search
  pub turbo_lists_as_backward : (turbo w t).starts ≡ (backward w t).starts
  turbo_lists_as_backward = turbo-lists-occurrences ∙ sym (search-lists-occurrences w t)

  -- the letters read, backward and forward, are at most 2n
  pub turbo_letters_most : (turbo w t).letters ≤ 2 * length t
  unfolding turbo
  turbo_letters_most = steps-letters (oracle (mirror w)) w t some-letter

  -- after a find h is the longest border
  pub turbo-after_find : (low c : Place) → low ≤ c → c < length t → ends_at w t low (suc c) ≡ true
      → kept_at w t low (suc c) ≡ longest_border w
  turbo-after_find low c below more e = by_cases (dec_lt _ (length w))
      (λ less. absurd (short_ends_not w t some-letter below more less e))
      (λ all. whole-keeps w t some-letter below more (omega arith))

-- a text shorter than the word is not read at all
pub turbo-short : (w t : Word) → length t < length w → turbo w t ≡ nothing
unfolding turbo
turbo-short w t h = steps-short (oracle (mirror w)) w t h
