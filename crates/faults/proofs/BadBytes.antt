-- A REFUSED BYTE STANDS IN NO WORD'S FILE: where a file that begins with the same bytes has a number, it is read, and not refused.
use mathlib.Core.Path.{◌≡◌, refl, sym, ap, ◌∙◌}
use mathlib.Core.List.Memᴰ
use mathlib.Core.List.{List, [], ◌∷◌, ◌++◌, append_assoc}
use Prim.Native.Nat.{ℕ, suc, ◌+◌, ◌≤◌, ◌<◌}
use native.Mathlib.Omega.{arith}
use lib.ListN.{length, drop, length-append, length-drop}
use lib.Seq.{get_or-take}
use Rattle.words.specs.Lists.{at}
use Rattle.words.specs.Words.{Word, Place}
use Rattle.words.proofs.Limits.{words_fit}
use Rattle.number.specs.Number.{Bytes, greatest, spell_number, number_at}
use Rattle.std.specs.Prelude.{Err}
use Rattle.number.specs.Exactly.{BadByte}
use Rattle.number.proofs.Theorems.{ReadAt, byte_fault, bad-exactly, number_at-spelled, spelling-length, spelling_prefix_free}
use Rattle.saved.specs.File.{edition, Step, spell_steps, own_steps, body, spell}
use Rattle.saved.proofs.Slots.{own-few}
use Rattle.saved.proofs.Spelled.{edition-number}
use Rattle.faults.specs.Faults.{ArrowsAt, NumberPlace, on_edition_at, length_at, count_at, first-at, second_at}
use Rattle.faults.specs.Beginnings.{Begins}
use Rattle.faults.proofs.Through.{Through, start, on, small, through-edition, through-letters, through-arrows}
use Rattle.faults.proofs.Spelled.{SmallStep, arrows_of, own-small, edition_begins, letters_begin}
use Rattle.faults.proofs.GoingOn.{its, its_most, its_file, counted, bytes_read, goes_on}

module _ (s : List ℕ) (bytes : Bytes s) {i p : Place} (b : BadByte s i p) (B : Begins s (p + 1)) where
  abbrev f : List ℕ
  f = B.file

  same : (k : ℕ) → k < p + 1 → at s k ≡ at f k
  same k h = sym (get_or-take (p + 1) s k 0 h) ∙ ap (λ l. at l k) B.same ∙ get_or-take (p + 1) f k 0 h

  before : i ≤ p
  before = omega (arith, b.place)

  bad-there : BadByte f i p
  bad-there = record {
    before = b.before;
    place = b.place;
    inside = omega (arith, B.inside);
    few = b.few;
    follow = λ k h. rw (sym (same (i + k) (omega (arith, b.place)))) (b.follow k h);
    bad = rw (sym (same p (omega arith))) b.bad;
  }

  -- so no number stands there
  none-stands : (v : ℕ) (y : List ℕ) → v ≤ greatest → spell_number v ++ y ≡ drop i f → ⊥
  none-stands v y h e =
      let read : ReadAt f i v = number_at-spelled f i v y h (sym e) in
      let refused : number_at f i ≡ Err (byte_fault f i p) = (bad-exactly f i p).1 bad-there in
      let z : ◌≡◌ {A = ℕ} 0 1 = cc in omega arith

  -- but there are bytes
  some_stand : [] ≡ drop i f → ⊥
  some_stand e = omega (arith, before, B.inside, ap {B = ℕ} length e, length-drop i f)

  -- the file begins with what stands before the number
  goes : {x : List ℕ} → Through s i x → spell (its B) ≡ x ++ drop i f
  goes t = its_file B i t (omega (arith, before))

  -- the arrows that are left of a word's own are small enough to be spelled
  left-small : {w : Word} {d : ℕ} {t : Step} {l : List Step} {j : Place} → ArrowsAt s w d (t ∷ l) j → SmallStep t
  left-small {w} {t = t} A =
      let R = through-arrows s bytes A in
      own-small w (counted s bytes A).most t (rw R.own (Memᴰ.append_right R.r (Memᴰ.head refl)))

  no_first : {w : Word} {d : ℕ} (l : List Step) {j : Place} → ArrowsAt s w d l j → spell_steps l ≡ drop i f → ⊥
  unfolding spell_steps
  no_first [] A e = some_stand e
  no_first (t ∷ l) A e = none-stands t.up (spell_number t.over ++ spell_steps l) (left-small A).0 e

  no_second : {w : Word} {d : ℕ} (l : List Step) {j : Place} → ArrowsAt s w d l j → (a : ℕ) → a ≤ greatest
      → spell_steps l ≡ spell_number a ++ drop i f → ⊥
  unfolding spell_steps
  no_second [] A a h e = omega (arith, ap {B = ℕ} length e, length-append (spell_number a) (drop i f), (spelling-length a).0)
  no_second (t ∷ l) A a h e =
      none-stands t.over (spell_steps l) (left-small A).1 (spelling_prefix_free (left-small A).0 h e).1

  no_number : {k : Place} → NumberPlace s k → k ≡ i → ⊥
  unfolding spell body
  no_number on_edition_at q = none-stands edition (body (its B)) (omega (arith, edition-number)) (goes (rw q at (start s bytes)))
  no_number (length_at h) q =
      let w = its B in
      let t = through-edition s bytes (rw q at h) in
      none-stands (length w) (w ++ arrows_of w) (omega (arith, its_most B, words_fit))
      (edition_begins w (its_most B) edition (drop i f) (omega (arith, edition-number)) (goes t)).1
  no_number (count_at {w = v} C) q =
      let w = its B in
      let t = rw q at (through-letters s bytes C) in
      none-stands (length (own_steps w)) (spell_steps (own_steps w)) (omega (arith, own-few w, its_most B, words_fit))
      (letters_begin w (its_most B) v (drop i f) C.most (goes t)).1
  no_number (first-at {w = v} {d = d} {l = l} A) q =
      let here : ArrowsAt s v (suc d) l i = rw q at A in
      let t = (through-arrows s bytes here).through in
      no_first l here (goes_on s bytes here (its B) (its_most B) (drop i f) (goes t)).2
  no_number (second_at {l = l} {i = j} {a = a} A h) q =
      let x = bytes_read s bytes A in
      let t = rw q at (on s bytes (through-arrows s bytes A).through h) in
      let e = goes t ∙ append_assoc x (spell_number a) (drop i f) in
      no_second l A a (small s bytes j h) (goes_on s bytes A (its B) (its_most B) (spell_number a ++ drop i f) e).2

  pub byte_wrong : NumberPlace s i → ⊥
  byte_wrong N = no_number N refl
