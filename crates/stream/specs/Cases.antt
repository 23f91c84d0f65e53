-- THE CASES OF BOTH ENTRIES: one constructor for each line of the table, in its order, with what has to hold for it and the whole outcome
-- that it has. The theorems show that an entry's outcome is o exactly when a case with the outcome o applies.
--
--   OpenCase w o       opening a stream: 1, 2
--   TakeCase s v F o   taking a piece with the list F: 16, 4
--
-- 02, 'Uploads in pieces'; demand 1.
use Rattle.std.specs.Prelude.{List, [], ◌+◌, ◌≤◌, ◌<◌, length}
use Rattle.words.specs.Limits.{longest_streamed, longest_text}
use Rattle.words.specs.Words.{Word, Place}
use Rattle.finds.specs.Finds.{filled}
use Rattle.answers.specs.Answers.{done, refused, empty_word, long_word, long_text, unmade}
use Rattle.stream.specs.declared.Searcher.{Searcher}
use Rattle.stream.specs.Searchers.{searcher_of, after, finds, Made}
use Rattle.stream.specs.Opening
use Rattle.stream.specs.Opening.{blank}
use Rattle.stream.specs.Taking

pub data OpenCase (w : Word) : Opening.Outcome → Type 0 where
  on_empty_word : length w < 1 → OpenCase w (Opening.outcome (refused empty_word) blank)
  on_long_word : 1 ≤ length w → longest_streamed < length w → OpenCase w (Opening.outcome (refused long_word) blank)
  accepted : 1 ≤ length w → length w ≤ longest_streamed → OpenCase w (Opening.outcome (done (length w)) (searcher_of w []))

pub data TakeCase (s : Searcher) (v : Word) (F : List Place) : Taking.Outcome → Type 0 where
  not_made : (Made s → ⊥) → TakeCase s v F (Taking.outcome (refused unmade) s F)
  on_long_text : Made s → longest_text < s.taken + length v → TakeCase s v F (Taking.outcome (refused long_text) s F)
  accepted : Made s → s.taken + length v ≤ longest_text
      → TakeCase s v F (Taking.outcome (done (length (finds s v))) (after s v) (filled (finds s v) F))
