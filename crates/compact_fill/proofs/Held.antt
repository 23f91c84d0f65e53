-- ROWS AS CODE HOLDS THEM: what one step leaves as it was, the next one finds.
use mathlib.Core.Path.{◌≡◌, ap, ◌∙◌}
use mathlib.Core.List.{List}
use Prim.Native.Nat.{ℕ, ◌+◌, ◌*◌, ◌≤◌}
use native.Mathlib.Omega.{arith}
use lib.ListN.{set, length-set}
use lib.Seq.{get_or-set_other}
use Rattle.words.specs.Lists.{at}
use Rattle.words.specs.Words.{Word}
use Rattle.oracle.specs.Arrows.{State}
use Rattle.chains.specs.Letters.{word_in}
use Rattle.compact_fill.specs.declared.Filling.{Filling}
use Rattle.compact_fill.specs.Filling.{out_targets, FirstForm, WithStarts}
use Rattle.compact_fill.specs.Held.{word_of, arrows_of, SameRows, SameEntries, SameSets}
use Rattle.compact_fill.proofs.OutArrows.{own-word, first-own, first_stays}

-- a write behind rows 0 to 3 keeps the first form
pub first_written : {L : List ℕ} {m : ℕ} → FirstForm (word_in L m) L m → {i : ℕ} (v : ℕ) → 4 * (m + 1) ≤ i
    → FirstForm (word_in (set L i v) m) (set L i v) m
first_written {L} F {i} v h = first-own (first_stays F (length-set L i v) (λ k l. get_or-set_other L i k v 0 (λ q. omega arith)))

module _ {f g h : Filling} where
  pub rows_on : SameRows f g → SameRows g h → SameRows f h
  rows_on s t = record { sets = t.sets ∙ s.sets; entries = t.entries ∙ s.entries; letters = t.letters ∙ s.letters }

  pub entries_on : SameEntries f g → SameEntries g h → SameEntries f h
  entries_on s t = record { rows = rows_on s.rows t.rows; kept = t.kept ∙ s.kept }

  pub sets_on : SameSets f g → SameSets g h → SameSets f h
  sets_on s t = record { rows = rows_on s.rows t.rows; kept = t.kept ∙ s.kept }

module _ {f g : Filling} where
  -- the same entries hold the same word, and other ones that hold its first form as well
  pub same_word : SameEntries f g → word_of g ≡ word_of f
  same_word s = rw (s.kept, s.rows.letters)

  pub still_word : SameRows f g → FirstForm (word_of f) g.entries.now f.m → word_of g ≡ word_of f
  still_word s F = rw s.letters (own-word F)

  -- starts that are written into the same entries
  pub starts_on : {x : State} {L : List ℕ} → SameEntries f g → WithStarts (arrows_of g) g.m x g.entries.now L
      → WithStarts (arrows_of f) f.m x f.entries.now L
  starts_on s W = rw (s.kept, s.rows.letters) at W

-- a target of the same word
pub target_on : {p q : Word} → q ≡ p → (x : State) (j : ℕ) {y : State} → y ≡ at (out_targets q x) j → y ≡ at (out_targets p x) j
target_on same x j e = e ∙ ap (λ (p : Word). at (out_targets p x) j) same
