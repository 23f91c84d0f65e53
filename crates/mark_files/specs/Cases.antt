-- THE CASES OF THE ENTRIES OVER FILES: 01's table in its order, one constructor for each line, with what the word, the bytes and the rooms
-- have to be for it and the whole outcome that it has: the answer and every lent buffer. The theorems show that an entry's outcome is o
-- exactly when a case with the outcome o applies.
--
--   SaveCase e word T O o              save in the edition e with the tables T and the output O: 1, 2, 17, 3, 12
--   LoadCase file R T o                load into the word room R: up to the letters 5 to 8, then 3, behind them 5, 6, 9 to 11 and 13; all
--                                      but 3 with the place of the file where they show
--   SearchFileCase file text R T F o   search with a file: 4, then as loading
--   AfterRefusal R T R' T'             what a refusal may leave of the rooms R and T that were lent with a file
--
-- What a file's bytes have to be for 5 to 11 and 13, and the place of each, is said by `editions/EitherCases` and `loaded/Cases`. 01, 'When
-- the library says no'; demand 1.
use Rattle.std.specs.Prelude.{◌⊎◌, List, ◌++◌, ℕ, ◌+◌, ◌≤◌, ◌<◌, length, take, drop, replicate}
use Rattle.words.specs.Words.{Word, Place, part, mirror, occurrences}
use Rattle.words.specs.Limits.{least_saved, longest_word, longest_text}
use Rattle.table.specs.Table.{room, table_of}
use Rattle.finds.specs.Finds.{filled}
use Rattle.loaded.specs.Load.{letters, stop, right, wrong}
use Rattle.editions.specs.Editions.{Edition, spell_in}
use Rattle.editions.specs.EitherCases.{FrontEither, VerdictEither}
use Rattle.answers.specs.Answers.{done, refused, refused_at, empty_word, long_word, short_word, short_room, long_text, short_output}
use Rattle.marks.specs.Search.{found}
use Rattle.mark_files.specs.Save
use Rattle.mark_files.specs.Load
use Rattle.mark_files.specs.SearchFile

-- ── Saving ─────────────────────────────────────────────────────────────────

module _ (e : Edition) (word : Word) where
  abbrev m : ℕ
  m = length word

  abbrev size : ℕ
  size = length (spell_in e word)

  pub data SaveCase (T O : List ℕ) : Save.Outcome → Type 0 where
    on_empty_word : m < 1 → SaveCase T O (Save.outcome (refused empty_word) T O)
    on_long_word : 1 ≤ m → longest_word < m → SaveCase T O (Save.outcome (refused long_word) T O)
    on_short_word : 1 ≤ m → m ≤ longest_word → m < least_saved → SaveCase T O (Save.outcome (refused short_word) T O)
    on_short_room : least_saved ≤ m → m ≤ longest_word → length T < room m → SaveCase T O (Save.outcome (refused short_room) T O)
    on_short_output : least_saved ≤ m → m ≤ longest_word → room m ≤ length T → length O < size
        → SaveCase T O (Save.outcome (refused short_output) (replicate (room m) 0 ++ drop (room m) T) O)
    accepted : least_saved ≤ m → m ≤ longest_word → room m ≤ length T → size ≤ length O
        → SaveCase T O (Save.outcome (done size) (table_of word ++ drop (room m) T) (spell_in e word ++ drop size O))

-- ── Loading, and searching with a file ─────────────────────────────────────

-- m letters are declared and stand at place i, where the file shows any
pub data LoadCase (file R T : List ℕ) : Load.Outcome → Type 0 where
  head_refused : {n : ℕ} {p : Place} → FrontEither file 0 (stop n p) → LoadCase file R T (Load.outcome (refused_at n p) R T)
  on_short_room : {m : ℕ} {i : Place} → FrontEither file 0 (letters m i) → (length R < m) ⊎ (length T < room m)
      → LoadCase file R T (Load.outcome (refused short_room) R T)
  on_arrows_refused : {m : ℕ} {i : Place} {n : ℕ} {p : Place} → FrontEither file 0 (letters m i) → m ≤ length R → room m ≤ length T
      → VerdictEither file (i + m) (part file i m) (wrong n p)
      → LoadCase file R T (Load.outcome (refused_at n p) (replicate m 0 ++ drop m R) (replicate (room m) 0 ++ drop (room m) T))
  accepted : {m : ℕ} {i : Place} → FrontEither file 0 (letters m i) → m ≤ length R → room m ≤ length T
      → VerdictEither file (i + m) (part file i m) right
      → LoadCase file R T (Load.outcome (done m) (part file i m ++ drop m R) (table_of (part file i m) ++ drop (room m) T))

-- R and T are lent, loading leaves R' and T' of them, and with m letters accepted the file's word is the first m of R'
pub data SearchFileCase (file : List ℕ) (text : Word) (R T : List ℕ) (F : List Place) : SearchFile.Outcome → Type 0 where
  on_long_text : longest_text < length text → SearchFileCase file text R T F (SearchFile.outcome (refused long_text) R T F)
  on_short_room : {R' T' : List ℕ} → length text ≤ longest_text → LoadCase file R T (Load.outcome (refused short_room) R' T')
      → SearchFileCase file text R T F (SearchFile.outcome (refused short_room) R' T' F)
  file_refused : {n : ℕ} {p : Place} {R' T' : List ℕ} → length text ≤ longest_text → LoadCase file R T (Load.outcome (refused_at n p) R' T')
      → SearchFileCase file text R T F (SearchFile.outcome (refused_at n p) R' T' F)
  accepted : {m : ℕ} {R' T' : List ℕ} → length text ≤ longest_text → LoadCase file R T (Load.outcome (done m) R' T')
      → SearchFileCase file text R T F (SearchFile.outcome (done (found (mirror (take m R')) text)) R' T'
      (filled (occurrences (mirror (take m R')) text) F))

-- before the rooms were found large enough, nothing is changed; after it, the first m letters' part of both is zero
pub data AfterRefusal (R T : List ℕ) : List ℕ → List ℕ → Type 0 where
  unchanged : AfterRefusal R T R T
  zeroed : {m : ℕ} → m ≤ length R → room m ≤ length T
      → AfterRefusal R T (replicate m 0 ++ drop m R) (replicate (room m) 0 ++ drop (room m) T)
