-- THE NUMBERS that each entry over words may refuse with: those that 01's table has for it, and nothing but the number. By its cases.
use mathlib.Core.Path.{◌≡◌, refl}
use mathlib.Core.Bool.{true}
use mathlib.Core.List.{List, [], ◌∷◌}
use Prim.Native.Nat.{ℕ}
use Rattle.words.specs.Words.{Word, Place}
use Rattle.answers.specs.Answers.{refuses_only, one_of}
use Rattle.marks.specs.Build
use Rattle.marks.specs.Build.{build_says}
use Rattle.marks.specs.Search
use Rattle.marks.specs.Search.{search_says}
use Rattle.marks.specs.Cases.{BuildCase, SearchCase}
use Rattle.marks.proofs.BuildSays.{build_is}
use Rattle.marks.proofs.SearchSays.{search_is}

pub build_numbers : (word : Word) (T : List ℕ) → refuses_only (1 ∷ 2 ∷ 3 ∷ []) (build_says word T).answer ≡ true
unfolding one_of
build_numbers word T = by ((build_is word T _).0 refl)
  where
    by : {o : Build.Outcome} → BuildCase word T o → refuses_only (1 ∷ 2 ∷ 3 ∷ []) o.answer ≡ true
    by (BuildCase.on_empty_word h) = refl
    by (BuildCase.on_long_word h l) = refl
    by (BuildCase.on_short_room h l s) = refl
    by (BuildCase.accepted h l s) = refl

pub search-numbers : (word text : Word) (T : List ℕ) (F : List Place)
    → refuses_only (1 ∷ 2 ∷ 4 ∷ 3 ∷ []) (search_says word text T F).answer ≡ true
unfolding one_of
search-numbers word text T F = by ((search_is word text T F _).0 refl)
  where
    by : {o : Search.Outcome} → SearchCase word text T F o → refuses_only (1 ∷ 2 ∷ 4 ∷ 3 ∷ []) o.answer ≡ true
    by (SearchCase.on_empty_word h) = refl
    by (SearchCase.on_long_word h l) = refl
    by (SearchCase.on_long_text h l k) = refl
    by (SearchCase.on_short_room h l k s) = refl
    by (SearchCase.accepted h l k s) = refl
