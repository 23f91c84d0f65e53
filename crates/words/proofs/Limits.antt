-- Laws of the limits: all that proofs use of their values. First the code's constants, then what holds between the names, then on which
-- lengths two limits agree.
use mathlib.Core.Path.{◌≡◌, refl, sym, ◌∙◌}
use mathlib.Core.Logic.{◌⊎◌, inl, inr}
use Prim.Native.Nat.{ℕ, ◌+◌, ◌*◌, ◌≤◌, ◌<◌}
use native.Mathlib.Omega.{arith}
use lib.Dec.{leb, ltb}
use borrow.Author.Tests.{le-leb, lt-leb, lt-ltb, le-ltb}
use Rattle.words.specs.Limits.{longest_word, longest_text, longest_streamed, longest_storacle, most_marks, least_saved, greatest_file}

-- ── The code's constants ───────────────────────────────────────────────────

-- WORD_LIMIT
pub word_limit : longest_word ≡ 4096
unfolding longest_word
word_limit = refl

-- TEXT_LIMIT
pub text_limit : longest_text ≡ 16777216
unfolding longest_text
text_limit = refl

-- STREAMED_LIMIT
pub streamed_limit : longest_streamed ≡ 64
unfolding longest_streamed
streamed_limit = refl

-- STORACLE_LIMIT
pub storacle_limit : longest_storacle ≡ 128
unfolding longest_storacle
storacle_limit = refl

-- MARKS_LIMIT
pub marks_limit : most_marks ≡ 16
unfolding most_marks
marks_limit = refl

-- LEAST_SAVED
pub least_saved_lem : least_saved ≡ 2
unfolding least_saved
least_saved_lem = refl

-- ── Between the names ──────────────────────────────────────────────────────

-- states and entries stay far below 16 bits
pub words_fit : longest_word < 10000
unfolding longest_word
words_fit = omega arith

-- places in a text stay far below 32 bits
pub texts_fit : longest_text < 1000000000
unfolding longest_text
texts_fit = omega arith

-- a word that is saved has letters
pub saved-some : 1 ≤ least_saved
unfolding least_saved
saved-some = omega arith

-- some word is saved
pub least_below_longest : least_saved ≤ longest_word
unfolding least_saved longest_word
least_below_longest = omega arith

-- five bytes a letter and one more are room enough
pub file-room : 5 * longest_word + 1 ≤ greatest_file
unfolding greatest_file
file-room = omega arith

pub greatest_file_lem : greatest_file ≡ 20481
unfolding longest_word greatest_file
greatest_file_lem = refl

-- ── Two limits ─────────────────────────────────────────────────────────────

-- they agree on what is within the lower one or above the higher one
module _ (low high m : ℕ) (rises : low ≤ high) where
  pub limits_agree : (m ≤ low) ⊎ (high < m) → ltb low m ≡ ltb high m
  limits_agree (inl h) = le-ltb low m h ∙ sym (le-ltb high m (omega (arith, h, rises)))
  limits_agree (inr h) = lt-ltb low m (omega (arith, h, rises)) ∙ sym (lt-ltb high m h)

  pub limits_allow : (m ≤ low) ⊎ (high < m) → leb m low ≡ leb m high
  limits_allow (inl h) = le-leb m low h ∙ sym (le-leb m high (omega (arith, h, rises)))
  limits_allow (inr h) = lt-leb m low (omega (arith, h, rises)) ∙ sym (lt-leb m high h)
