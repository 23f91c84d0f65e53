-- WHICH SEARCHERS THERE ARE. Those that were opened and fed are those of a word that has taken a text: by induction on the bytes, one way
-- and the other. These pass the test; and what passes it has taken a text that can be named, a letter that the word lacks and then the
-- letters that are kept.
use mathlib.Core.Path.{◌≡◌, refl, sym, ap, ◌∙◌}
use mathlib.Core.Logic.{◌≢◌}
use mathlib.Core.List.{Memᴰ, [], ◌∷◌, ◌++◌, append_assoc, append-nil}
use Prim.Native.Nat.{ℕ, zero, suc, ◌+◌, ◌-◌, ◌≤◌, ◌<◌}
use native.Mathlib.Decide.{dec_lt}
use native.Mathlib.Omega.{arith}
use lib.ListN.{length, take, replicate, length-append, get_or-append}
use lib.Seq.{get_or-append-add}
use Rattle.words.specs.Lists.{at}
use Rattle.words.specs.Limits.{longest_streamed, longest_text}
use Rattle.words.specs.Words.{Word, Letter, part}
use Rattle.words.proofs.Limits.{streamed_limit}
use Rattle.words.proofs.Lists.{entry_in}
use Rattle.words.proofs.Distinct.{lacking}
use Rattle.border.specs.Borders.{borders}
use Rattle.number.specs.Number.{Bytes}
use Rattle.pieces.specs.Kept.{kept}
use Rattle.pieces.proofs.Kept.{kept_shorter, kept-within}
use Rattle.pieces.proofs.Reaching.{reaching, reaching-length, reaching-keeps}
use Rattle.stream.specs.declared.Searcher.{Searcher}
use Rattle.stream.specs.Searchers.{row_of, searcher_of, word_of, after, Made, by_opening, by_feeding}
use Rattle.stream.proofs.History.{is_searcher, its_word, after_is, holds-word, holds-borders, holds-size, holds_kept, holds-taken}
use Rattle.stream.proofs.Sound.{Sound, word-length}

-- ── Bytes ──────────────────────────────────────────────────────────────────

bytes-append : (u v : Word) → Bytes u → Bytes v → Bytes (u ++ v)
bytes-append u v a b i = by (dec_lt i (length u))
  where
    by : Dec (i < length u) → at (u ++ v) i < 256
    by (yes h) = rw (get_or-append u v 0 i h) (a i)
    by (no h) =
        let e : i ≡ length u + (i - length u) = omega arith in
        rw (e, get_or-append-add u v (i - length u) 0) (b (i - length u))

bytes_one : (c : Letter) → c < 256 → Bytes (c ∷ [])
bytes_one c h zero = h
bytes_one c h (suc i) = omega arith

pub bytes_take : (n : ℕ) (u : Word) → Bytes u → Bytes (take n u)
bytes_take zero u b i = omega arith
bytes_take (suc n) [] b i = omega arith
bytes_take (suc n) (c ∷ u) b zero = b 0
bytes_take (suc n) (c ∷ u) b (suc i) = bytes_take n u (λ j. b (suc j)) i

bytes-replicate : (n : ℕ) (c : Letter) → c < 256 → Bytes (replicate n c)
bytes-replicate zero c h i = omega arith
bytes-replicate (suc n) c h zero = h
bytes-replicate (suc n) c h (suc i) = bytes-replicate n c h i

-- ── Opened and fed ─────────────────────────────────────────────────────────

-- s is the searcher of a word that has taken a text
pub record Took (s : Searcher) : Type 0 where
  pub word : Word
  pub text : Word
  pub word_bytes : Bytes word
  pub text-bytes : Bytes text
  pub some-letter : 1 ≤ length word
  pub few : length word ≤ longest_streamed
  pub inside : length text ≤ longest_text
  pub is : s ≡ searcher_of word text

taken_is : {s : Searcher} (K : Took s) → s.taken ≡ length K.text
taken_is K = ap (λ (x : Searcher). x.taken) K.is ∙ holds-taken K.word K.text

-- a piece is taken
pub took_more : {s : Searcher} (v : Word) → Bytes v → s.taken + length v ≤ longest_text → Took s → Took (after s v)
took_more {s} v bytes fits K = record {
  word = K.word;
  text = K.text ++ v;
  word_bytes = K.word_bytes;
  text-bytes = bytes-append K.text v K.text-bytes bytes;
  some-letter = K.some-letter;
  few = K.few;
  inside = omega (arith, length-append K.text v, taken_is K);
  is = ap (λ (x : Searcher). after x v) K.is ∙ after_is K.word K.text v K.some-letter;
}

pub made-took : {s : Searcher} → Made s → Took s
made-took (by_opening w bytes some few) = record {
  word = w;
  text = [];
  word_bytes = bytes;
  text-bytes = λ i. omega arith;
  some-letter = some;
  few = few;
  inside = omega arith;
  is = refl;
}
made-took (by_feeding made c byte more) = took_more (c ∷ []) (bytes_one c byte) (omega arith) (made-took made)

-- one byte after another
feed_all : (w : Word) → 1 ≤ length w → (v u : Word) → Bytes v → length u + length v ≤ longest_text → Made (searcher_of w u)
    → Made (searcher_of w (u ++ v))
feed_all w some [] u bytes fits made = rw (append-nil u) made
feed_all w some (c ∷ v) u bytes fits made =
    let more : (searcher_of w u).taken < longest_text = omega (arith, holds-taken w u) in
    let one = rw (after_is w u (c ∷ []) some) at (by_feeding made c (bytes 0) more) in
    let rest = feed_all w some v (u ++ (c ∷ [])) (λ i. bytes (suc i)) (omega (arith, length-append u (c ∷ []))) one in
    rw (append_assoc u (c ∷ []) v) at rest

pub took-made : {s : Searcher} → Took s → Made s
took-made K =
    rw K.is (feed_all K.word K.some-letter K.text [] K.text-bytes (omega (arith, K.inside))
    (by_opening K.word K.word_bytes K.some-letter K.few))

-- ── The test ───────────────────────────────────────────────────────────────

pub searcher_sound : (w t : Word) → 1 ≤ length w → length w ≤ longest_streamed → length t ≤ longest_text → Sound (searcher_of w t)
searcher_sound w t some few inside = record {
  some-letter = rw (holds-size w t) some;
  few = rw (holds-size w t) few;
  short = omega (arith, holds-size w t, holds_kept w t, kept_shorter w t some);
  no_more = omega (arith, holds-taken w t, holds_kept w t, kept-within w t some);
  inside = rw (holds-taken w t) inside;
  own = holds-word w t ∙ ap row_of (sym (its_word w t));
  its = holds-borders w t ∙ ap (λ (u : Word). row_of (borders u)) (sym (its_word w t));
}

pub took_sound : {s : Searcher} → Took s → Sound s
took_sound K = rw K.is (searcher_sound K.word K.text K.some-letter K.few K.inside)

module _ (s : Searcher) (bytes : Bytes s.word) (S : Sound s) where
  abbrev w : Word
  w = word_of s

  own-bytes : Bytes w
  own-bytes = bytes_take s.size s.word bytes

  short : s.keep < length w
  short = omega (arith, word-length S, S.short)

  other : (x : ℕ) × (x < 256) × (Memᴰ x w → ⊥)
  other = lacking 256 w (omega (arith, word-length S, S.few, streamed_limit))

  lacks : (i : ℕ) → i < length w → at w i ≢ other.0
  lacks i l e = other.2 (rw e at (entry_in w i 0 l))

  abbrev text : Word
  text = reaching w other.0 lacks s.taken s.keep short S.no_more

  text-length : length text ≡ s.taken
  text-length = reaching-length w other.0 lacks s.taken s.keep short S.no_more

  text-keeps : kept w text ≡ s.keep
  text-keeps = reaching-keeps w other.0 lacks s.taken s.keep short S.no_more

  text-bytes : Bytes text
  text-bytes =
      bytes-append (replicate (s.taken - s.keep) other.0) (part w 0 s.keep)
      (bytes-replicate (s.taken - s.keep) other.0 other.1)
      (bytes_take s.keep w own-bytes)

  pub sound_took : Took s
  sound_took = record {
    word = w;
    text = text;
    word_bytes = own-bytes;
    text-bytes = text-bytes;
    some-letter = omega (arith, short);
    few = rw (word-length S) S.few;
    inside = rw text-length S.inside;
    is = is_searcher w text S.own S.its (sym (word-length S)) (sym text-keeps) (sym text-length);
  }
