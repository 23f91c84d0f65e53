-- THE BYTES OF A SEARCHER, which may be kept and sent anywhere: its two rows, and behind them the word's length, the letters kept and the
-- bytes taken, the low byte first. There are as many strings of so many bytes as searchers of bytes: `unpacked` takes back `packed`.
--
--   searcher_bytes  how many there are
--   low_first k n   the last k digits of n to the base 256, the lowest first
--   packed s        the bytes of s
--   unpacked b      the searcher that has the bytes b
--
-- 02, 'Uploads in pieces'.
use Rattle.std.specs.Prelude.{List, [], ◌∷◌, ◌++◌, ℕ, zero, suc, ◌+◌, ◌*◌, ◌/◌, ◌%◌}
use Rattle.words.specs.Lists.{at}
use Rattle.words.specs.Limits.{longest_streamed}
use Rattle.words.specs.Words.{part}
use Rattle.stream.specs.declared.Searcher.{Searcher}

unfoldable pub searcher_bytes : ℕ
searcher_bytes = 2 * longest_streamed + 6

abbrev pub low_first : ℕ → ℕ → List ℕ
low_first zero n = []
low_first (suc k) n = (n % 256) ∷ low_first k (n / 256)

unfoldable pub packed : Searcher → List ℕ
packed s = s.word ++ (s.borders ++ (s.size ∷ s.keep ∷ low_first 4 s.taken))

unfoldable pub unpacked : List ℕ → Searcher
unpacked b =
    let end = 2 * longest_streamed in
    record {
      word = part b 0 longest_streamed;
      borders = part b longest_streamed longest_streamed;
      size = at b end;
      keep = at b (end + 1);
      taken = at b (end + 2) + 256 * (at b (end + 3) + 256 * (at b (end + 4) + 256 * at b (end + 5)));
    }
