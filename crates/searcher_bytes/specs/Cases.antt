-- THE CASES OF BOTH ENTRIES OVER LENT BYTES: one constructor for each line of the table, in its order, with what has to hold for it and the
-- whole outcome that it has. The theorems show that an entry's outcome is o exactly when a case with the outcome o applies.
--
--   OpenCase w B o     opening into the bytes B: 1, 2, 3
--   LeftIn B s         opening and taking can leave the bytes B: the first of them are those of s, which can be made
--   TakeCase B v F o   taking a piece with the list F: 16, 4
--
-- 02, 'Uploads in pieces'; demand 1.
use Rattle.std.specs.Prelude.{◌≡◌, List, [], ◌++◌, ℕ, ◌+◌, ◌≤◌, ◌<◌, length, take, drop}
use Rattle.words.specs.Limits.{longest_streamed, longest_text}
use Rattle.words.specs.Words.{Word, Place}
use Rattle.finds.specs.Finds.{filled}
use Rattle.answers.specs.Answers.{done, refused, empty_word, long_word, short_room, long_text, unmade}
use Rattle.stream.specs.declared.Searcher.{Searcher}
use Rattle.stream.specs.Searchers.{searcher_of, after, finds, Made}
use Rattle.searcher_bytes.specs.Packing.{searcher_bytes, packed}
use Rattle.searcher_bytes.specs.OpenBytes
use Rattle.searcher_bytes.specs.TakeBytes

pub data OpenCase (w : Word) (B : List ℕ) : OpenBytes.Outcome → Type 0 where
  on_empty_word : length w < 1 → OpenCase w B (OpenBytes.outcome (refused empty_word) B)
  on_long_word : 1 ≤ length w → longest_streamed < length w → OpenCase w B (OpenBytes.outcome (refused long_word) B)
  on_short_room : 1 ≤ length w → length w ≤ longest_streamed → length B < searcher_bytes
      → OpenCase w B (OpenBytes.outcome (refused short_room) B)
  accepted : 1 ≤ length w → length w ≤ longest_streamed → searcher_bytes ≤ length B
      → OpenCase w B (OpenBytes.outcome (done (length w)) (packed (searcher_of w []) ++ drop searcher_bytes B))

pub record LeftIn (B : List ℕ) (s : Searcher) : Type 0 where
  pub made : Made s
  pub first : take searcher_bytes B ≡ packed s

pub data TakeCase (B : List ℕ) (v : Word) (F : List Place) : TakeBytes.Outcome → Type 0 where
  not_left : ((s : Searcher) → LeftIn B s → ⊥) → TakeCase B v F (TakeBytes.outcome (refused unmade) B F)
  on_long_text : {s : Searcher} → LeftIn B s → longest_text < s.taken + length v
      → TakeCase B v F (TakeBytes.outcome (refused long_text) B F)
  accepted : {s : Searcher} → LeftIn B s → s.taken + length v ≤ longest_text
      → TakeCase B v F (TakeBytes.outcome (done (length (finds s v))) (packed (after s v) ++ drop searcher_bytes B) (filled (finds s v) F))
