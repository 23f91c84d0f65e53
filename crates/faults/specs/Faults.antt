-- WHERE A FILE IS BROKEN, for a reader of edition 1: the place of each fault as 02 words it, and where the field at fault ends. A field is
-- found by reading those before it, and is at fault by its own numbers; no room is asked for.
--
--   LengthAt s p        the number of letters is the field that starts at p
--   CountAt s w p       the file shows the word w, and the number of its arrows is the field that starts at p
--   ArrowsAt s w d l p  d of the declared arrows are to be read from p on; those before p are the word's own, and l are its own that are
--                       left
--   NumberPlace s p     a number is to be read at p
--   FaultAt s r p q     such a reader refuses the file with r: the fault shows at p, and the field at fault ends before q
--
-- 02, 'Where in the file is it broken?'.
use Rattle.std.specs.Prelude.{◌≡◌, List, [], ◌∷◌, ℕ, suc, ◌+◌, ◌-◌, ◌≤◌, ◌<◌, length}
use Rattle.words.specs.Words.{Word, Place, part}
use Rattle.words.specs.Limits.{least_saved, longest_word}
use Rattle.number.specs.Exactly.{CutOff, BadByte}
use Rattle.saved.specs.File.{edition, Step, own_steps}
use Rattle.loaded.specs.Cases.{Reads, BadLength}

-- ── Where the fields stand ─────────────────────────────────────────────────

abbrev pub LengthAt : List ℕ → Place → Type 0
LengthAt s p = Reads s 0 edition p

-- the letters stand between the number of them and the number of arrows
pub record CountAt (s : List ℕ) (w : Word) (p : Place) : Type 0 where
  pub length_place : Place
  pub letters_place : Place
  pub length_at : LengthAt s length_place
  pub length_read : Reads s length_place (length w) letters_place
  pub least : least_saved ≤ length w
  pub most : length w ≤ longest_word
  pub letters : w ≡ part s letters_place (length w)
  pub place : p ≡ letters_place + length w
  pub inside : p ≤ length s

pub data ArrowsAt (s : List ℕ) (w : Word) : ℕ → List Step → Place → Type 0 where
  none_read : {c : Place} {n : ℕ} {p : Place} → CountAt s w c → Reads s c n p → n ≤ length w - 1 → ArrowsAt s w n (own_steps w) p
  one-read : {d : ℕ} {t : Step} {l : List Step} {i j p : Place} → ArrowsAt s w (suc d) (t ∷ l) i
      → Reads s i t.up j → Reads s j t.over p → ArrowsAt s w d l p

pub data NumberPlace (s : List ℕ) : Place → Type 0 where
  on_edition_at : NumberPlace s 0
  length_at : {p : Place} → LengthAt s p → NumberPlace s p
  count_at : {w : Word} {p : Place} → CountAt s w p → NumberPlace s p
  first-at : {w : Word} {d : ℕ} {l : List Step} {p : Place} → ArrowsAt s w (suc d) l p → NumberPlace s p
  second_at : {w : Word} {d : ℕ} {l : List Step} {i : Place} {a : ℕ} {p : Place} → ArrowsAt s w (suc d) l i → Reads s i a p
      → NumberPlace s p

-- ── Where each fault shows ─────────────────────────────────────────────────

pub data FaultAt (s : List ℕ) : ℕ → Place → Place → Type 0 where
  -- '(the file's length for 5)'
  number_cut : {i : Place} → NumberPlace s i → CutOff s i → FaultAt s 5 (length s) (length s)
  letters_cut : {i : Place} {m : ℕ} {j : Place} → LengthAt s i → Reads s i m j → least_saved ≤ m → m ≤ longest_word → length s < j + m
      → FaultAt s 5 (length s) (length s)
  -- 'or of that byte for 5 and 6'
  byte_refused : {i p : Place} → NumberPlace s i → BadByte s i p → FaultAt s 6 p (p + 1)
  -- 'the offset of the faulty field's first byte'
  other_edition : {e : ℕ} {q : Place} → Reads s 0 e q → (e ≡ edition → ⊥) → FaultAt s 7 0 q
  bad_length : {p : Place} {m : ℕ} {q : Place} → LengthAt s p → Reads s p m q → BadLength m → FaultAt s 8 p q
  bad_count : {w : Word} {p : Place} {n : ℕ} {q : Place} → CountAt s w p → Reads s p n q → length w - 1 < n → FaultAt s 9 p q
  -- '(an arrow's two numbers are one field)'
  other_arrow : {w : Word} {d : ℕ} {t : Step} {l : List Step} {p : Place} {a : ℕ} {j : Place} {b : ℕ} {q : Place}
      → ArrowsAt s w (suc d) (t ∷ l) p → Reads s p a j → Reads s j b q → (a ≡ t.up → b ≡ t.over → ⊥) → FaultAt s 10 p q
  no_arrow_left : {w : Word} {d : ℕ} {p : Place} {a : ℕ} {j : Place} {b : ℕ} {q : Place}
      → ArrowsAt s w (suc d) [] p → Reads s p a j → Reads s j b q → FaultAt s 10 p q
  -- 'for 10 with missing arrows and for 11 it's the first byte after the arrows'
  arrows_missing : {w : Word} {t : Step} {l : List Step} {p : Place} → ArrowsAt s w 0 (t ∷ l) p → FaultAt s 10 p p
  bytes_left : {w : Word} {p : Place} → ArrowsAt s w 0 [] p → p < length s → FaultAt s 11 p (p + 1)
