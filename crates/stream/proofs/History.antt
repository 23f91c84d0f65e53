-- THE SEARCHER OF A WORD THAT HAS TAKEN A TEXT: taking a piece makes of it the one that has taken both, and finds what the text lacked; for
-- only what is kept matters.
use mathlib.Core.Path.{◌≡◌, refl}
use mathlib.Core.List.{◌++◌}
use Prim.Native.Nat.{◌≤◌}
use lib.ListN.{length, length-append}
use Rattle.words.specs.Words.{Word, occurrences}
use Rattle.border.specs.Borders.{borders}
use Rattle.pieces.specs.Kept.{kept}
use Rattle.pieces.proofs.OnlyKept.{kept-goes_on, finds_go_on}
use Rattle.stream.specs.declared.Searcher.{Searcher}
use Rattle.stream.specs.Searchers.{row_of, searcher_of, word_of, after, finds}
use Rattle.stream.proofs.Rows.{row_read}

-- ── What it holds ──────────────────────────────────────────────────────────

module _ (w t : Word) where
  pub holds-word : (searcher_of w t).word ≡ row_of w
  unfolding searcher_of
  holds-word = refl

  pub holds-borders : (searcher_of w t).borders ≡ row_of (borders w)
  unfolding searcher_of
  holds-borders = refl

  pub holds-size : (searcher_of w t).size ≡ length w
  unfolding searcher_of
  holds-size = refl

  pub holds_kept : (searcher_of w t).keep ≡ kept w t
  unfolding searcher_of
  holds_kept = refl

  pub holds-taken : (searcher_of w t).taken ≡ length t
  unfolding searcher_of
  holds-taken = refl

  -- what holds all this is it
  pub is_searcher : {s : Searcher} → s.word ≡ row_of w → s.borders ≡ row_of (borders w) → s.size ≡ length w → s.keep ≡ kept w t
      → s.taken ≡ length t → s ≡ searcher_of w t
  unfolding searcher_of
  is_searcher a b c d e = λ i. record { word = a i; borders = b i; size = c i; keep = d i; taken = e i }

  pub its_word : word_of (searcher_of w t) ≡ w
  unfolding searcher_of
  its_word = row_read w

-- ── What a piece makes of it ───────────────────────────────────────────────

module _ (w t v : Word) (some-letter : 1 ≤ length w) where
  pub after_is : after (searcher_of w t) v ≡ searcher_of w (t ++ v)
  unfolding after searcher_of
  after_is = rw (row_read w, kept-goes_on w t v some-letter, length-append t v)

  pub finds_are : occurrences w (t ++ v) ≡ occurrences w t ++ finds (searcher_of w t) v
  unfolding finds searcher_of
  finds_are = rw (row_read w) (finds_go_on w t v some-letter)
