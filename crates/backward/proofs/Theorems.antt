-- THE THEOREMS on the backward search, for every word and every text, each a sentence about the definitions alone. They are those of
-- `Windows` and `Reading`, which hold of every automaton that walks as the oracle of the mirrored word does.
use mathlib.Core.Path.{◌≡◌, sym, ◌∙◌}
use mathlib.Core.Bool.{true}
use mathlib.Core.Logic.{◌↔◌}
use mathlib.Core.Option.{none, some}
use mathlib.Core.List.{Memᴰ}
use Prim.Native.Nat.{◌+◌, ◌-◌, ◌*◌, ◌≤◌, ◌<◌}
use native.Mathlib.Omega.{arith}
use lib.ListN.{length, length-reverse}
use Rattle.words.specs.Lists.{Rising}
use Rattle.words.specs.Words.{Word, Place, mirror, stands, occurrences}
use Rattle.words.proofs.Occurrences.{occurrence_stands, standing_occurs, occurrences_rise}
use Rattle.oracle.specs.SuffixRule.{oracle}
use Rattle.oracle.proofs.Walks.{factor_walk}
use Rattle.oracle.proofs.Theorems.{oracle-supplied, only_walk}
use Rattle.backward.specs.Steps.{read_window, nothing, backward}
use Rattle.backward.proofs.Reading.{failed-place, whole-letters}
use Rattle.backward.proofs.Windows.{Walker, failed_loses_none, steps_letters_most, steps-short, steps-list}

module _ (w t : Word) where
  -- the oracle of the mirrored word is all that the search asks for
  pub oracle_walker : Walker w (oracle (mirror w))
  oracle_walker = record {
    parts = record { part-walked = λ a n h. (_, factor_walk (mirror w) (oracle-supplied (mirror w)) a n (rw (length-reverse w) h)) };
    no_other = λ v y e n. only_walk (mirror w) v y e (n ∙ sym (length-reverse w));
  }

  -- ── The list ─────────────────────────────────────────────────────────────

  pub search-lists-occurrences : (backward w t).starts ≡ occurrences w t
  unfolding backward
  search-lists-occurrences = steps-list oracle_walker t

  -- each start is listed once, in rising order
  pub search_rises : Rising 0 (backward w t).starts
  search_rises = rw search-lists-occurrences (occurrences_rise w t)

  -- and a place is listed exactly if the word stands there within the text
  pub search-lists : (s : Place) → Memᴰ s (backward w t).starts ↔ ((s + length w ≤ length t) × (stands w t s ≡ true))
  search-lists s = rw search-lists-occurrences (λ i. occurrence_stands w t s i, λ r. standing_occurs w t s r.0 r.1)

  -- ── One window ───────────────────────────────────────────────────────────

  -- a window that fails at f loses no occurrence: none starts from its start up to f
  pub window_loses_none : (s f : Place) → s + length w ≤ length t → (read_window (oracle (mirror w)) w t s).failed ≡ some f
      → (j : Place) → s ≤ j → j ≤ f → stands w t j ≡ true → ⊥
  window_loses_none s f h e = failed_loses_none oracle_walker t s h f e

  -- it reads the letters from f to its end, f's own counted
  pub window_letters : (s f : Place) → (read_window (oracle (mirror w)) w t s).failed ≡ some f
      → (read_window (oracle (mirror w)) w t s).letters ≡ s + length w - f
  window_letters s f e = let r = failed-place (oracle (mirror w)) t s (length w) 0 f e in omega (arith, r.counted)

  -- and all of its letters if none fails
  pub find-letters : (s : Place) → (read_window (oracle (mirror w)) w t s).failed ≡ none
      → (read_window (oracle (mirror w)) w t s).letters ≡ length w
  find-letters s e = whole-letters (oracle (mirror w)) t s (length w) 0 e

  -- ── The letters read ─────────────────────────────────────────────────────

  pub search_letters_most : length w ≤ length t → (backward w t).letters ≤ length w * (length t - length w + 1)
  unfolding backward
  search_letters_most h = steps_letters_most (oracle (mirror w)) w t h

  -- a text shorter than the word is not read at all
  pub search-short : length t < length w → backward w t ≡ nothing
  unfolding backward
  search-short h = steps-short (oracle (mirror w)) w t h
