-- WHAT A WORD'S FILE GOES ON WITH, where it begins with the bytes of the file s up to a field: with the word's own next field. The word
-- that s shows is one of bytes within the limits, so it has a file, which begins so.
use mathlib.Core.Path.{◌≡◌, refl, sym, ap, ◌∙◌}
use mathlib.Core.List.{List, ◌++◌, append_assoc}
use Prim.Native.Nat.{ℕ, ◌+◌, ◌≤◌, ◌<◌}
use native.Mathlib.Decide.{dec_lt}
use native.Mathlib.Omega.{arith}
use lib.ListN.{length, drop, get_or-eq_default}
use Rattle.words.specs.Lists.{at}
use Rattle.words.specs.Words.{Word, Place}
use Rattle.words.specs.Limits.{longest_word}
use Rattle.words.proofs.Words.{part_at}
use Rattle.number.specs.Number.{Bytes, greatest, spell_number}
use Rattle.saved.specs.File.{Step, spell_steps, own_steps, spell, Savable, Saved}
use Rattle.faults.specs.Faults.{CountAt, ArrowsAt}
use Rattle.faults.specs.Beginnings.{Begins}
use Rattle.faults.proofs.Through.{Through, up_to_count, steps-append, small, ReadBefore, through-arrows, begins_with}
use Rattle.faults.proofs.Spelled.{arrows_of, spell-parts, arrows_begin}

-- a word's file that begins with the first q bytes of s
module _ {s : List ℕ} {q : Place} (B : Begins s q) where
  abbrev pub its : Word
  its = B.saved.word

  pub its_most : length its ≤ longest_word
  its_most = B.saved.savable.most

  pub its_file : (p : Place) {x : List ℕ} → Through s p x → p ≤ q → spell its ≡ x ++ drop p B.file
  its_file p t h = sym B.saved.file ∙ begins_with t h B

module _ (s : List ℕ) (bytes : Bytes s) where
  -- ── The word that the file shows ─────────────────────────────────────────

  shown-bytes : {w : Word} {p : Place} → CountAt s w p → Bytes w
  shown-bytes {w} C j = by (dec_lt j (length w))
    where
      i : Place
      i = C.letters_place

      by : Dec (j < length w) → at w j < 256
      by (yes h) =
          let e : at w j ≡ at s (i + j) = ap (λ (v : Word). at v j) C.letters ∙ part_at s i (length w) j h in
          rw e (bytes (i + j))
      by (no h) = rw (get_or-eq_default w 0 {n = j} (omega arith)) (omega arith)

  pub shown-savable : {w : Word} {p : Place} → CountAt s w p → Savable w
  shown-savable C = record { bytes = shown-bytes C; least = C.least; most = C.most }

  pub shown-saved : {w : Word} {p : Place} → CountAt s w p → Saved (spell w)
  shown-saved {w} C = record { word = w; savable = shown-savable C; file = refl }

  -- ── A word's file that begins so ─────────────────────────────────────────

  module _ {w : Word} {d : ℕ} {l : List Step} {i : Place} (A : ArrowsAt s w d l i) where
    abbrev pub read : ReadBefore s bytes w d l i
    read = through-arrows s bytes A

    pub counted : CountAt s w read.declared.place
    counted = read.declared.count_at

    count_small : read.n ≤ greatest
    count_small = small s bytes read.declared.place read.declared.count_read

    abbrev pub bytes_read : List ℕ
    bytes_read = (up_to_count w ++ spell_number read.n) ++ spell_steps read.r

    -- a file that begins with the arrows that were read, and y, is the word's, which has as many as are declared, and l are y
    pub goes_on : (v : Word) → length v ≤ longest_word → (y : List ℕ) → spell v ≡ bytes_read ++ y
        → (v ≡ w) × (read.n ≡ length (own_steps w)) × (spell_steps l ≡ y)
    goes_on v most y e = arrows_begin v most w read.n read.r l counted.most count_small read.own y e

    -- and the word's file does begin so, if as many are declared as it has
    pub begins_so : read.n ≡ length (own_steps w) → spell w ≡ bytes_read ++ spell_steps l
    begins_so e =
        let N = spell_number read.n in
        let steps : spell_steps (own_steps w) ≡ spell_steps read.r ++ spell_steps l =
        ap spell_steps read.own
        ∙ steps-append read.r l in
        let arrows : arrows_of w ≡ N ++ (spell_steps read.r ++ spell_steps l) =
        ap (λ (k : ℕ). spell_number k ++ spell_steps (own_steps w)) (sym e)
        ∙ ap (λ y. N ++ y) steps in
        spell-parts w counted.most
        ∙ ap (λ y. up_to_count w ++ y) arrows
        ∙ sym (append_assoc (up_to_count w) N (spell_steps read.r ++ spell_steps l))
        ∙ sym (append_assoc (up_to_count w ++ N) (spell_steps read.r) (spell_steps l))
