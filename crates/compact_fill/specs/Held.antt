-- ROWS THAT ARE FILLED, as code holds them.
--
--   word_of f            the word whose first form stands in the entries
--   arrows_of f          the arrows of its oracle
--   SameRows f g         f and g are filled at the same places, for as many letters
--   SameEntries f g      and have the same entries
--   SameSets f g         or the same words
--   FillsState f x g next
--                        g is f with all of state x, and `next` is where the targets of the next state start
use Rattle.std.specs.Prelude.{◌≡◌, ℕ}
use Rattle.words.specs.Words.{Word}
use Rattle.oracle.specs.Arrows.{State, Delta}
use Rattle.oracle.specs.SuffixRule.{oracle}
use Rattle.chains.specs.Letters.{word_in}
use Rattle.compact_fill.specs.declared.Filling.{Filling}
use Rattle.compact_fill.specs.Filling.{FilledState}

abbrev pub word_of : Filling → Word
word_of f = word_in f.entries.now f.m

abbrev pub arrows_of : Filling → Delta
arrows_of f = oracle (word_of f)

pub record SameRows (f g : Filling) : Type 0 where
  pub sets : g.sets.ghost_name ≡ f.sets.ghost_name
  pub entries : g.entries.ghost_name ≡ f.entries.ghost_name
  pub letters : g.m ≡ f.m

pub record SameEntries (f g : Filling) : Type 0 where
  pub rows : SameRows f g
  pub kept : g.entries.now ≡ f.entries.now

pub record SameSets (f g : Filling) : Type 0 where
  pub rows : SameRows f g
  pub kept : g.sets.now ≡ f.sets.now

abbrev pub FillsState : Filling → State → Filling → ℕ → Type 0
FillsState f x g next = FilledState (arrows_of f) f.m x f.sets.now f.entries.now g.sets.now g.entries.now next
