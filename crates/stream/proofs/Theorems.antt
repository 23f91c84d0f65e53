-- THE THEOREMS ON STREAMS: what taking a piece says with the searcher of a word that has taken a text; so, cut anywhere, a text's finds are
-- those of the whole; what taking makes can be taken again; a piece, then another, is both at once.
use mathlib.Core.Path.{◌≡◌, sym, ap, ◌∙◌}
use mathlib.Core.Bool.{false}
use mathlib.Core.List.{List, [], ◌∷◌, ◌++◌, append_assoc, append-nil}
use Prim.Native.Nat.{◌+◌, ◌≤◌, ◌<◌}
use native.Mathlib.Omega.{arith}
use lib.ListN.{length, length-append}
use Rattle.words.specs.Limits.{longest_streamed, longest_text}
use Rattle.words.specs.Words.{Word, Place, occurrences}
use Rattle.words.proofs.Lists.{same-behind}
use Rattle.words.proofs.Occurrences.{since-start, since-past}
use Rattle.finds.specs.Finds.{filled}
use Rattle.number.specs.Number.{Bytes}
use Rattle.answers.specs.Answers.{done, refused, long_text}
use Rattle.stream.specs.declared.Searcher.{Searcher}
use Rattle.stream.specs.Searchers.{searcher_of, after, finds, Made, makeable}
use Rattle.stream.specs.Opening.{blank}
use Rattle.stream.specs.Taking.{outcome, take_says}
use Rattle.stream.specs.Pieces.{joined, InTurn, none, next}
use Rattle.stream.proofs.History.{holds-taken, after_is, finds_are}
use Rattle.stream.proofs.Sound.{Sound, unsound, sound_after}
use Rattle.stream.proofs.Reached.{Took, took_more, made-took, took-made, took_sound, searcher_sound}
use Rattle.stream.proofs.TakeSays.{says-long_text, says-taken}

-- ── A piece ────────────────────────────────────────────────────────────────

-- the word w has taken the text t
module _ (w t : Word) (some-letter : 1 ≤ length w) (few : length w ≤ longest_streamed) (v : Word) (F : List Place) where
  -- a piece that fits is taken, and its finds are those that the text lacked
  pub piece_taken : length (t ++ v) ≤ longest_text → (f : List Place) → occurrences w (t ++ v) ≡ occurrences w t ++ f
      → take_says (searcher_of w t) v F ≡ outcome (done (length f)) (searcher_of w (t ++ v)) (filled f F)
  piece_taken fits f e =
      let sound = searcher_sound w t some-letter few (omega (arith, length-append t v)) in
      let found : finds (searcher_of w t) v ≡ f = same-behind (occurrences w t) _ f (sym (finds_are w t v some-letter) ∙ e) in
      says-taken (searcher_of w t) v F sound (omega (arith, holds-taken w t, length-append t v))
      ∙ rw (found, after_is w t v some-letter)

  -- one that does not is refused
  pub piece_refused : length t ≤ longest_text → longest_text < length (t ++ v)
      → take_says (searcher_of w t) v F ≡ outcome (refused long_text) (searcher_of w t) F
  piece_refused inside past =
      let sound = searcher_sound w t some-letter few inside in
      says-long_text (searcher_of w t) v F sound (omega (arith, holds-taken w t, length-append t v))

-- ── Cut anywhere ───────────────────────────────────────────────────────────

module _ (w : Word) (some-letter : 1 ≤ length w) (few : length w ≤ longest_streamed) where
  rest : (t : Word) → List Word → List Place
  rest t [] = []
  rest t (v ∷ l) = finds (searcher_of w t) v ++ rest (t ++ v) l

  rest-finds : (l : List Word) (t : Word) → occurrences w t ++ rest t l ≡ occurrences w (t ++ joined l)
  unfolding rest joined
  rest-finds [] t = append-nil (occurrences w t) ∙ ap (occurrences w) (sym (append-nil t))
  rest-finds (v ∷ l) t =
      sym (append_assoc (occurrences w t) (finds (searcher_of w t) v) (rest (t ++ v) l))
      ∙ ap (λ (f : List Place). f ++ rest (t ++ v) l) (sym (finds_are w t v some-letter))
      ∙ rest-finds l (t ++ v)
      ∙ ap (occurrences w) (append_assoc t v (joined l))

  in_turn : (l : List Word) (t : Word) → length (t ++ joined l) ≤ longest_text
      → InTurn (searcher_of w t) l (rest t l) (searcher_of w (t ++ joined l))
  unfolding rest joined
  in_turn [] t fits = rw (append-nil t) none
  in_turn (v ∷ l) t fits =
      let inside : length (t ++ v) ≤ longest_text =
      omega (arith, length-append t (v ++ joined l), length-append v (joined l), length-append t v) in
      let later = in_turn l (t ++ v) (rw (append_assoc t v (joined l)) fits) in
      next (finds (searcher_of w t) v) (λ F. piece_taken w t some-letter few v F inside _ (finds_are w t v some-letter))
      (rw (append_assoc t v (joined l)) at later)

  none_yet : occurrences w [] ≡ []
  none_yet = sym (since-start w []) ∙ since-past w [] 0 (omega arith)

  pub cut_anywhere : (l : List Word) → length (joined l) ≤ longest_text
      → InTurn (searcher_of w []) l (occurrences w (joined l)) (searcher_of w (joined l))
  cut_anywhere l fits =
      let all : rest [] l ≡ occurrences w (joined l) = ap (λ (f : List Place). f ++ rest [] l) (sym none_yet) ∙ rest-finds l [] in
      rw all at (in_turn l [] fits)

-- ── What taking makes ──────────────────────────────────────────────────────

-- it can be taken again
pub made_again : {s : Searcher} (v : Word) → Made s → Bytes v → s.taken + length v ≤ longest_text → Made (after s v)
made_again v made bytes fits = took-made (took_more v bytes fits (made-took made))

-- a blank cannot
pub blank-unmade : makeable blank ≡ false
unfolding blank
blank-unmade = unsound _ (λ S. omega (arith, S.some-letter))

-- ── A piece, then another ──────────────────────────────────────────────────

module _ (w t a b : Word) (some-letter : 1 ≤ length w) where
  abbrev s : Searcher
  s = searcher_of w t

  after_two : after (after s a) b ≡ after s (a ++ b)
  after_two =
      ap (λ (x : Searcher). after x b) (after_is w t a some-letter)
      ∙ after_is w (t ++ a) b some-letter
      ∙ ap (searcher_of w) (append_assoc t a b)
      ∙ sym (after_is w t (a ++ b) some-letter)

  finds_two : finds s a ++ finds (after s a) b ≡ finds s (a ++ b)
  finds_two =
      ap (λ (x : Searcher). finds s a ++ finds x b) (after_is w t a some-letter)
      ∙ same-behind (occurrences w t) _ _
      (sym (append_assoc (occurrences w t) (finds s a) (finds (searcher_of w (t ++ a)) b))
      ∙ ap (λ (l : List Place). l ++ finds (searcher_of w (t ++ a)) b) (sym (finds_are w t a some-letter))
      ∙ sym (finds_are w (t ++ a) b some-letter)
      ∙ ap (occurrences w) (append_assoc t a b)
      ∙ finds_are w t (a ++ b) some-letter)

module _ {s : Searcher} (a b : Word) (made : Made s) where
  K : Took s
  K = made-took made

  after_both : after (after s a) b ≡ after s (a ++ b)
  after_both = rw K.is (after_two K.word K.text a b K.some-letter)

  finds_both : finds s a ++ finds (after s a) b ≡ finds s (a ++ b)
  finds_both = rw K.is (finds_two K.word K.text a b K.some-letter)

  -- taken in turn, and at once, they come to the same
  module _ (fits : s.taken + length (a ++ b) ≤ longest_text) where
    sound : Sound s
    sound = took_sound K

    first_fits : s.taken + length a ≤ longest_text
    first_fits = omega (arith, length-append a b)

    second_fits : (after s a).taken + length b ≤ longest_text
    unfolding after
    second_fits = omega (arith, length-append a b)

    pub both_in_turn : InTurn s (a ∷ b ∷ []) (finds s (a ++ b)) (after s (a ++ b))
    both_in_turn =
        rw (append-nil (finds (after s a) b), finds_both, after_both) at (next (finds s a) (λ F. says-taken s a F sound first_fits)
        (next (finds (after s a) b) (λ F. says-taken (after s a) b F (sound_after sound a first_fits) second_fits) none))

    pub both_at_once : InTurn s ((a ++ b) ∷ []) (finds s (a ++ b)) (after s (a ++ b))
    both_at_once =
        rw (append-nil (finds s (a ++ b))) at (next (finds s (a ++ b)) (λ F. says-taken s (a ++ b) F sound fits) none)
