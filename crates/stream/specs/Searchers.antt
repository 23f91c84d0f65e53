-- SEARCHERS: what one holds, what a piece makes of it and finds, and which ones there are.
--
--   row_of l         l in a row as long as the longest word of a stream, zeros behind it
--   searcher_of w t  the searcher of w that has taken the text t
--   word_of s        the word of a searcher
--   heard_by s v     what it knows of the text once it has heard the piece v: the letters that it keeps, and v
--   after s v        the searcher after the piece
--   finds s v        the starts of the finds that end in the piece, counted from the stream's first byte
--   Made s           s was opened, and then fed one byte after another
--   makeable s       a test for that
--
-- 02, 'Uploads in pieces'.
use Rattle.std.specs.Prelude.{Bool, ◌&&◌, List, [], ◌∷◌, ◌++◌, map, ℕ, ◌+◌, ◌-◌, ◌≤◌, ◌<◌, length, take, replicate, leb, ltb}
use Rattle.words.specs.Limits.{longest_streamed, longest_text}
use Rattle.words.specs.Words.{Word, Letter, Place, same, occurrences}
use Rattle.border.specs.Borders.{borders}
use Rattle.number.specs.Number.{Bytes}
use Rattle.pieces.specs.Kept.{kept, heard}
use Rattle.stream.specs.declared.Searcher.{Searcher}

abbrev pub row_of : List ℕ → List ℕ
row_of l = l ++ replicate (longest_streamed - length l) 0

unfoldable pub searcher_of : Word → Word → Searcher
searcher_of w t = record { word = row_of w; borders = row_of (borders w); size = length w; keep = kept w t; taken = length t }

abbrev pub word_of : Searcher → Word
word_of s = take s.size s.word

abbrev pub heard_by : Searcher → Word → Word
heard_by s v = heard (word_of s) s.keep v

unfoldable pub after : Searcher → Word → Searcher
after s v = record {
  word = s.word;
  borders = s.borders;
  size = s.size;
  keep = kept (word_of s) (heard_by s v);
  taken = s.taken + length v;
}

unfoldable pub finds : Searcher → Word → List Place
finds s v = map (λ q. s.taken - s.keep + q) (occurrences (word_of s) (heard_by s v))

pub data Made : Searcher → Type 0 where
  by_opening : (w : Word) → Bytes w → 1 ≤ length w → length w ≤ longest_streamed → Made (searcher_of w [])
  by_feeding : {s : Searcher} → Made s → (c : Letter) → c < 256 → s.taken < longest_text → Made (after s (c ∷ []))

unfoldable pub makeable : Searcher → Bool
makeable s =
    leb 1 s.size
    && (leb s.size longest_streamed
    && (ltb s.keep s.size
    && (leb s.keep s.taken
    && (leb s.taken longest_text
    && (same s.word (row_of (word_of s)) && same s.borders (row_of (borders (word_of s))))))))
