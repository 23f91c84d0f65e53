-- The numbers that a later edition may change. Proofs rest on laws about these names, and not on their values.
--
--   longest_word     the greatest number of letters of a word
--   longest_text     the greatest number of letters of a text
--   longest_streamed the greatest number of letters of a word that a stream is opened for
--   longest_storacle the greatest number of letters of a word that a storacle is built for
--   most_marks       the greatest number of marks of a set
--   least_saved      the least number of letters of a word that is saved
--   greatest_file    so many bytes are always room enough for a file
--
-- 01, 'What the base holds' and 'The file on disk'; 02, 'Uploads in pieces', 'Storacle', 'Sets of marks' and
-- 'One-letter marks'.
use Rattle.std.specs.Prelude.{ℕ, ◌+◌, ◌*◌}

unfoldable pub longest_word : ℕ
longest_word = 4096

unfoldable pub longest_text : ℕ
longest_text = 16777216

unfoldable pub longest_streamed : ℕ
longest_streamed = 64

unfoldable pub longest_storacle : ℕ
longest_storacle = 128

unfoldable pub most_marks : ℕ
most_marks = 16

unfoldable pub least_saved : ℕ
least_saved = 2

unfoldable pub greatest_file : ℕ
greatest_file = 5 * longest_word + 1
