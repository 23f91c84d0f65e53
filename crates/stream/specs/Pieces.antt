-- A TEXT IN PIECES, taken one after the other.
--
--   joined l           the text that the pieces make
--   InTurn s l f e     taken in turn from the searcher s on, whatever lists are lent, the pieces l find f together and leave the
--                      searcher e: each is taken with the searcher that the one before it left, says how many of f end in it, and lists
--                      those, as many as fit
--
-- 02, 'Uploads in pieces'.
use Rattle.std.specs.Prelude.{◌≡◌, List, [], ◌∷◌, ◌++◌, length}
use Rattle.words.specs.Words.{Word, Place}
use Rattle.finds.specs.Finds.{filled}
use Rattle.answers.specs.Answers.{done}
use Rattle.stream.specs.declared.Searcher.{Searcher}
use Rattle.stream.specs.Taking.{outcome, take_says}

unfoldable pub joined : List Word → Word
joined [] = []
joined (v ∷ l) = v ++ joined l

pub data InTurn : Searcher → List Word → List Place → Searcher → Type 0 where
  none : {s : Searcher} → InTurn s [] [] s
  next : {s s' e : Searcher} {v : Word} {l : List Word} (f : List Place) {g : List Place}
      → ((F : List Place) → take_says s v F ≡ outcome (done (length f)) s' (filled f F)) → InTurn s' l g e → InTurn s (v ∷ l) (f ++ g) e
