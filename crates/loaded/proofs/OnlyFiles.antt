-- What is read as a file is the file of the word that it shows: each number that was read stood there in its one spelling. And a file that
-- is accepted is followed by nothing.
use mathlib.Core.Path.{◌≡◌, refl, sym, ap, ◌∙◌}
use mathlib.Core.List.{List, ◌++◌, append_assoc, append-nil}
use Prim.Native.Nat.{ℕ, suc, ◌+◌, ◌≤◌, ◌<◌}
use native.Mathlib.Decide.{dec_lt}
use native.Mathlib.Omega.{arith}
use lib.ListN.{length, drop, take-append-drop, drop_of_length-le, get_or-eq_default}
use lib.Seq.{drop-drop}
use Rattle.words.specs.Lists.{at}
use Rattle.words.specs.Words.{Word, Place, part}
use Rattle.words.proofs.Words.{part_length, part_at}
use Rattle.number.specs.Number.{Bytes, spell_number}
use Rattle.number.proofs.Theorems.{number_at_stood}
use Rattle.saved.specs.File.{Step, spell_steps, own_steps, body, spell, Savable}
use Rattle.loaded.specs.Load.{letters, behind, right}
use Rattle.loaded.specs.Accepts.{ShownAt, Accepts, FileOf}
use Rattle.loaded.specs.Cases.{Reads, FrontCaseAt, letters-there, ArrowsCase, arrow_agrees, all_agree}
use Rattle.loaded.specs.Cases.{EndingCase, count_fits, VerdictCase, all_read}
use Rattle.loaded.proofs.Cases.{front_case, ending_case, case_ending, verdict_case}

-- the arrows of a word as its file has them
abbrev arrows_of : Word → List ℕ
arrows_of w = spell_number (length (own_steps w)) ++ spell_steps (own_steps w)

module _ (s : List ℕ) (bytes : Bytes s) where
  -- what is read stood there, before what stands behind it
  stood : (i : Place) {v j : ℕ} (x r : List ℕ) → Reads s i v j → drop j s ≡ x ++ r → drop i s ≡ (spell_number v ++ x) ++ r
  stood i {v} x r h e = (number_at_stood s i bytes h).spelled ∙ rw e (sym (append_assoc (spell_number v) x r))

  arrows_stood : {i : Place} {n : ℕ} {l : List Step} {p : Place} → ArrowsCase s i n l (behind p)
      → (n ≡ length l) × (drop i s ≡ spell_steps l ++ drop p s)
  unfolding spell_steps
  arrows_stood all_agree = (refl, refl)
  arrows_stood {i} {p = p} (arrow_agrees {j = j} {t = t} {l = l} h g c) =
      let r = arrows_stood c in
      (ap suc r.0, stood i (spell_number t.over ++ spell_steps l) (drop p s) h (stood j (spell_steps l) (drop p s) g r.1))

  ending_stood : {i : Place} {w : Word} {p : Place} → EndingCase s i w (behind p) → drop i s ≡ arrows_of w ++ drop p s
  ending_stood {i} {w} {p} (count_fits h few c) =
      let r = arrows_stood c in
      stood i (spell_steps (own_steps w)) (drop p s) (rw r.0 at h) r.1

  -- the letters are bytes too
  letters-bytes : (i m : ℕ) → i + m ≤ length s → Bytes (part s i m)
  letters-bytes i m h j = by (dec_lt j m)
    where
      by : Dec (j < m) → at (part s i m) j < 256
      by (yes l) = rw (part_at s i m j l) (bytes (i + j))
      by (no l) = rw (get_or-eq_default (part s i m) 0 {n = j} (omega (arith, part_length s i m h))) (omega arith)

  -- the file of w stands in s from place o on, and r behind it
  pub record StoodAt (o : Place) (w : Word) (r : List ℕ) : Type 0 where
    pub savable : Savable w
    pub there : drop o s ≡ spell w ++ r

  front_stood : {o : Place} {m i : ℕ} {w : Word} {r : List ℕ} → FrontCaseAt s o (letters m i) → w ≡ part s i m
      → drop (i + m) s ≡ arrows_of w ++ r → StoodAt o w r
  unfolding spell body
  front_stood {o} {m} {i} {w} {r} (letters-there {i = k} h g least most there) e d =
      let n : m ≡ length w = sym (ap length e ∙ part_length s i m there) in
      let split : drop i s ≡ w ++ drop (i + m) s = sym (take-append-drop m (drop i s)) ∙ rw (← e, drop-drop m i s) in
      let letters : drop i s ≡ (w ++ arrows_of w) ++ r = split ∙ rw d (sym (append_assoc w (arrows_of w) r)) in
      record {
        savable = record { bytes = rw e (letters-bytes i m there); least = omega arith; most = omega arith };
        there = stood o (body w) r h (stood k (w ++ arrows_of w) r (rw n at g) letters);
      }

  -- what is read as a file from place o on, up to place p, is the file of the word that it shows
  pub shown_stood : {o : Place} {w : Word} {p : Place} → ShownAt s o w (behind p) → StoodAt o w (drop p s)
  shown_stood {o} {w} {p} a =
      let shown : FrontCaseAt s o (letters (length w) a.place) = rw a.shown at (front_case s o) in
      let judged : EndingCase s (a.place + length w) w (behind p) = rw a.judged at (ending_case s (a.place + length w) w) in
      front_stood shown a.word (ending_stood judged)

  -- a file that is accepted is the file of the word that it shows
  pub accepted_stood : {w : Word} → Accepts s w → FileOf s w
  accepted_stood {w} a = by (rw a.judged at (verdict_case s (a.place + length w) w))
    where
      by : VerdictCase s (a.place + length w) w right → FileOf s w
      by (all_read {p = p} c h) =
          let S = shown_stood (record { place = a.place; shown = a.shown; word = a.word; judged = case_ending s c }) in
          record { savable = S.savable; file = S.there ∙ rw (drop_of_length-le s h) (append-nil (spell w)) }
