-- WHAT THE TEST SAYS, part by part: a searcher passes exactly if it is sound. So code that answers false has found a part that fails. What
-- this tells of its rows, how many finds a piece may have, and that it leaves the searcher sound.
use mathlib.Core.Path.{◌≡◌, ap, ◌∙◌}
use mathlib.Core.Bool.{true, false, not-eq-not}
use mathlib.Core.List.{List}
use Prim.Native.Nat.{ℕ, ◌+◌, ◌-◌, ◌≤◌, ◌<◌}
use native.Mathlib.Omega.{arith}
use lib.ListN.{length, take, length-take, length-append, length-map}
use lib.Seq.{take_at, length-take-le}
use lib.Dec.{leb, ltb}
use borrow.Author.Tests.{leb-true, ltb-true, le-leb, lt-ltb}
use Rattle.words.specs.Limits.{longest_streamed, longest_text}
use Rattle.words.specs.Words.{Word, part, same, occurrences}
use Rattle.words.proofs.Limits.{streamed_limit}
use Rattle.words.proofs.Lists.{and_true}
use Rattle.words.proofs.Words.{same_true, same_refl, part_length}
use Rattle.words.proofs.Occurrences.{occurrences-few}
use Rattle.border.specs.Borders.{borders}
use Rattle.border.proofs.Filling.{borders-length}
use Rattle.pieces.proofs.Kept.{kept_shorter, kept-within}
use Rattle.stream.specs.declared.Searcher.{Searcher}
use Rattle.stream.specs.Searchers.{row_of, word_of, heard_by, after, finds, makeable}
use Rattle.stream.proofs.Rows.{row-length}

pub record Sound (s : Searcher) : Type 0 where
  pub some-letter : 1 ≤ s.size
  pub few : s.size ≤ longest_streamed
  pub short : s.keep < s.size
  pub no_more : s.keep ≤ s.taken
  pub inside : s.taken ≤ longest_text
  pub own : s.word ≡ row_of (word_of s)
  pub its : s.borders ≡ row_of (borders (word_of s))

-- ── The test ───────────────────────────────────────────────────────────────

pub same-eq : (u v : List ℕ) → u ≡ v → same u v ≡ true
same-eq u v e = rw e (same_refl v)

pub makeable_sound : (s : Searcher) → makeable s ≡ true → Sound s
unfolding makeable
makeable_sound s e =
    let a = and_true {a = leb 1 s.size} e in
    let b = and_true {a = leb s.size longest_streamed} a.1 in
    let c = and_true {a = ltb s.keep s.size} b.1 in
    let d = and_true {a = leb s.keep s.taken} c.1 in
    let f = and_true {a = leb s.taken longest_text} d.1 in
    let g = and_true {a = same s.word (row_of (word_of s))} f.1 in
    record {
      some-letter = leb-true _ _ a.0;
      few = leb-true _ _ b.0;
      short = ltb-true _ _ c.0;
      no_more = leb-true _ _ d.0;
      inside = leb-true _ _ f.0;
      own = same_true _ _ g.0;
      its = same_true _ _ g.1;
    }

pub few_letters : (s : Searcher) → makeable s ≡ true → s.size ≤ 64
few_letters s e = omega (arith, (makeable_sound s e).few, streamed_limit)

pub sound_makeable : (s : Searcher) → Sound s → makeable s ≡ true
unfolding makeable
sound_makeable s S =
    rw (
      le-leb _ _ S.some-letter,
      le-leb _ _ S.few,
      lt-ltb _ _ S.short,
      le-leb _ _ S.no_more,
      le-leb _ _ S.inside,
      same-eq _ _ S.own,
      same-eq _ _ S.its,
    )

pub unsound : (s : Searcher) → (Sound s → ⊥) → makeable s ≡ false
unsound s f = (not-eq-not {b = false}).0 (λ e. f (makeable_sound s e))

-- ── Its rows ───────────────────────────────────────────────────────────────

module _ {s : Searcher} (S : Sound s) where
  pub word_row : length s.word ≡ 64
  word_row = ap length S.own ∙ row-length (word_of s) (omega (arith, length-take s.size s.word, S.few))

  pub word-length : length (word_of s) ≡ s.size
  word-length = length-take-le s.size s.word (omega (arith, word_row, S.few, streamed_limit))

  pub borders-row : length s.borders ≡ 64
  borders-row = ap length S.its ∙ row-length (borders (word_of s)) (omega (arith, borders-length (word_of s), word-length, S.few))

  -- its first entries are the borders of its word
  pub own-borders : take s.size s.borders ≡ borders (word_of s)
  own-borders = ap (take s.size) S.its ∙ take_at (borders (word_of s)) _ s.size (borders-length (word_of s) ∙ word-length)

-- ── After a piece ──────────────────────────────────────────────────────────

-- each byte of it ends one find at most: fewer letters than the word has are heard before it
pub finds-few : {s : Searcher} → Sound s → (v : Word) → length (finds s v) ≤ length v
unfolding finds
finds-few {s} S v =
    let w = word_of s in
    let number = length-map (occurrences w (heard_by s v)) (λ q. s.taken - s.keep + q) in
    let front : length (part w 0 s.keep) ≡ s.keep = part_length w 0 s.keep (omega (arith, word-length S, S.short)) in
    omega (arith, number, occurrences-few w (heard_by s v), length-append (part w 0 s.keep) v, front, word-length S, S.short)

-- it is sound again
pub sound_after : {s : Searcher} → Sound s → (v : Word) → s.taken + length v ≤ longest_text → Sound (after s v)
unfolding after
sound_after {s} S v fits = record {
  some-letter = S.some-letter;
  few = S.few;
  short = omega (arith, kept_shorter w (heard_by s v) some-letter, word-length S);
  no_more = omega (arith, kept-within w (heard_by s v) some-letter, length-append (part w 0 s.keep) v, front, S.no_more);
  inside = fits;
  own = S.own;
  its = S.its;
}
  where
    w : Word
    w = word_of s

    some-letter : 1 ≤ length w
    some-letter = omega (arith, word-length S, S.some-letter)

    front : length (part w 0 s.keep) ≡ s.keep
    front = part_length w 0 s.keep (omega (arith, word-length S, S.short))
