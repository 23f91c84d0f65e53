-- A sound searcher can be packed: its numbers and its borders are bytes.
use mathlib.Core.Path.{◌≡◌, ap, ◌∙◌}
use mathlib.Core.List.{List}
use Prim.Native.Nat.{ℕ, suc, ◌-◌, ◌≤◌, ◌<◌}
use native.Mathlib.Decide.{dec_lt}
use native.Mathlib.Omega.{arith}
use lib.ListN.{length, get_or-eq_default}
use Rattle.words.specs.Lists.{at}
use Rattle.words.specs.Limits.{longest_streamed}
use Rattle.words.specs.Words.{Word}
use Rattle.words.proofs.Limits.{streamed_limit, texts_fit}
use Rattle.words.proofs.Loops.{padded}
use Rattle.border.specs.Borders.{borders}
use Rattle.border.proofs.Beginnings.{beginning_shorter}
use Rattle.border.proofs.Filling.{borders-length, borders-known}
use Rattle.stream.specs.declared.Searcher.{Searcher}
use Rattle.stream.specs.Searchers.{word_of}
use Rattle.stream.proofs.Sound.{Sound, word_row, borders-row, word-length}
use Rattle.searcher_bytes.specs.Packing.{searcher_bytes, packed, unpacked}
use Rattle.searcher_bytes.proofs.Packing.{packed-length, packed_back}

border_small : (w : Word) (i : ℕ) → at (borders w) i ≤ length w
border_small w i = by (dec_lt i (length w))
  where
    by : Dec (i < length w) → at (borders w) i ≤ length w
    by (yes h) = omega (arith, (borders-known w).entry i h, beginning_shorter w (suc i) h)
    by (no h) = omega (arith, get_or-eq_default (borders w) 0 {n = i} (omega (arith, borders-length w)))

module _ {s : Searcher} (S : Sound s) where
  pub packable : (s.size < 256) × (s.keep < 256) × ((i : ℕ) → at s.borders i < 256)
  packable = (
    omega (arith, S.few, streamed_limit),
    omega (arith, S.short, S.few, streamed_limit),
    λ i. omega (arith, small i, word-length S, S.few, streamed_limit),
  )
    where
      small : (i : ℕ) → at s.borders i ≤ length (word_of s)
      small i =
          let its = borders (word_of s) in
          let entry = ap (λ (l : List ℕ). at l i) S.its ∙ padded its (longest_streamed - length its) i in
          omega (arith, entry, border_small (word_of s) i)

  pub taken-small : s.taken < 4294967296
  taken-small = omega (arith, S.inside, texts_fit)

  pub sound_length : length (packed s) ≡ searcher_bytes
  sound_length = packed-length s (word_row S) (borders-row S)

  pub sound_back : unpacked (packed s) ≡ s
  sound_back = packed_back s (word_row S) (borders-row S) taken-small
