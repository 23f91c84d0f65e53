-- THE TEST BY CODE: the searcher of its word, made anew, tells of both rows whether they are the ones that a searcher has.
use mathlib.Core.Path.{◌≡◌, refl, sym, ap, ap₂, ◌∙◌}
use mathlib.Core.Bool.{◌&&◌}
use mathlib.Core.List.{List, [], ◌∷◌}
use Prim.Native.Nat.{ℕ}
use lib.Dec.{eqb}
use lib.Pointwise.{pointwise}
use Rattle.std.proofs.lemmas.Bool.Decides.{nat_tests}
use Rattle.words.specs.Words.{same}
use Rattle.words.proofs.Limits.{streamed_limit, text_limit}
use Rattle.border.specs.Borders.{borders}
use Rattle.stream.specs.declared.Searcher.{Searcher}
use Rattle.stream.specs.Searchers.{row_of, searcher_of, word_of}
use Rattle.stream.proofs.History.{holds-word, holds-borders}

-- its tests of numbers
pub ruleset size_tests = (nat_tests, streamed_limit, text_limit)

-- the library's `==` of slices
pointwise-same : (u v : List ℕ) → pointwise eqb u v ≡ same u v
unfolding same
pointwise-same [] [] = refl
pointwise-same [] (d ∷ v) = refl
pointwise-same (c ∷ u) [] = refl
pointwise-same (c ∷ u) (d ∷ v) = ap (λ b. eqb c d && b) (pointwise-same u v)

pub rows-tested : (s : Searcher) {o : Searcher} → o ≡ searcher_of (word_of s) []
    → same s.word (row_of (word_of s)) && same s.borders (row_of (borders (word_of s)))
    ≡ pointwise eqb s.word o.word && pointwise eqb s.borders o.borders
rows-tested s {o} anew =
    let own = ap (λ (x : Searcher). x.word) anew ∙ holds-word (word_of s) [] in
    let its = ap (λ (x : Searcher). x.borders) anew ∙ holds-borders (word_of s) [] in
    sym (ap₂ ◌&&◌
    (pointwise-same s.word o.word ∙ ap (same s.word) own)
    (pointwise-same s.borders o.borders ∙ ap (same s.borders) its))
