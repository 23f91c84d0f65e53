-- THE THEOREMS on the two editions, each a sentence about the definitions alone: what does not change for edition 1; the files that are
-- accepted are exactly the words' files in one of the two; a file tells its edition and its word; what is cut off or goes on is refused;
-- how long files are; and what damage is told.
use mathlib.Core.Path.{◌≡◌, refl, sym, ap, ap₂, ◌∙◌}
use mathlib.Core.Logic.{◌⊎◌, inl, inr, ◌↔◌}
use mathlib.Core.List.{List, [], ◌∷◌, ◌++◌, append-nil}
use Prim.Native.Nat.{ℕ, zero, suc, ◌+◌, ◌-◌, ◌≤◌, ◌<◌}
use native.Mathlib.Nat.{zero-add}
use native.Mathlib.Decide.{dec_lt}
use native.Mathlib.Omega.{arith}
use lib.ListN.{length, take, drop, length-append, drop_of_length-le}
use lib.Seq.{length-take-le, take-append-le, take-add, take-append_seam, drop-append_seam}
use borrow.Author.Tests.{eq-eqb, ne_eqb}
use Rattle.words.specs.Lists.{at}
use Rattle.words.specs.Words.{Word, Place}
use Rattle.words.specs.Limits.{least_saved, longest_word}
use Rattle.number.specs.Number.{Bytes}
use Rattle.number.proofs.Theorems.{spelling-single, number_at-spelled, number_at_stood}
use Rattle.saved.specs.File.{body, spell, Saved}
use Rattle.saved.proofs.Spelled.{edition-number}
use Rattle.saved.proofs.Theorems.{size_most, size_least, least_reached}
use Rattle.loaded.specs.Load.{letters, stop, front_within, front, behind, broken, ending, Verdict, right, wrong, verdict}
use Rattle.loaded.specs.Accepts.{Judged}
use Rattle.loaded.specs.Cases.{Reads, edition_other, EndingCase, VerdictCase, arrows_wrong, leftovers, all_read}
use Rattle.loaded.proofs.Fronts.{LettersIn, front_at-letters}
use Rattle.loaded.proofs.Theorems.{front_is, ending_is, verdict_is, beginning_refused}
use Rattle.crc.specs.Check.{check, low, high, digits, bits_of, sealed, Near}
use Rattle.crc.proofs.Theorems.{sealed-length, sealed-told}
use Rattle.editions.specs.Editions.{Edition, plain, checked, spell_in, FileIn, SavedIn, most_bytes}
use Rattle.editions.specs.Either.{edition_at, as_plain, front_either, ending_either, verdict_either, ShownEither, JudgedEither}
use Rattle.editions.specs.EitherCases.{EndingEither, arrows_broken, check_cut}
use Rattle.editions.specs.EitherCases.{VerdictEither, ending_wrong, bytes_follow, nothing_follows}
use Rattle.editions.proofs.AsPlain.{as_checked, as_other, by_edition, plain-length, plain-part, plain-ending}
use Rattle.editions.proofs.Ways.{verdict_either_is, ending_either_is}
use Rattle.editions.proofs.Files.{unsealed, unsealed_is, unsealed-length, spell_is, from_there, first_byte_lem, letters-behind}
use Rattle.editions.proofs.Files.{unsealed-shown, spelled_either, StandsIn, stands_plain, stands-checked}

-- ── 1. The number of the edition ───────────────────────────────────────────

-- a file says 2 exactly if the number 2 is read where it begins
pub two_read : (s : List ℕ) (o : Place) → at s o ≡ 2 → Reads s o 2 (o + 1)
two_read s o e =
    let single = spelling-single 2 (omega arith) in
    let stands = from_there s o e (omega arith) ∙ ap (λ l. l ++ drop (suc o) s) (sym single) in
    rw single at (number_at-spelled s o 2 (drop (suc o) s) (omega arith) stands)

pub read-two : (s : List ℕ) (o : Place) {j : Place} → Bytes s → Reads s o 2 j → at s o ≡ 2
read-two s o {j} bytes r =
    first_byte_lem s o ((number_at_stood s o bytes r).spelled ∙ ap (λ l. l ++ drop j s) (spelling-single 2 (omega arith)))

module _ (s : List ℕ) (other : at s 0 ≡ 2 → ⊥) where
  -- a file that does not say 2 shows what it always showed, under every limit
  pub front_kept : (n : ℕ) → front_either n s 0 ≡ front_within n s 0
  front_kept n = ap (λ t. front_within n t 0) (as_other s 0 other)

  pub verdict-kept : (i : Place) (w : Word) → verdict_either s i w ≡ verdict s i w
  unfolding verdict_either ending_either verdict
  verdict-kept i w = rw (ne_eqb (at s 0) 2 other)

-- one that says 2 showed 7
pub two_was_7 : (s : List ℕ) → at s 0 ≡ 2 → front s ≡ stop 7 0
two_was_7 s e = (front_is s (stop 7 0)).1 (edition_other (two_read s 0 e) (λ q. omega (arith, q, edition-number)))

-- ── 2. Exactly the words' files are accepted ───────────────────────────────

-- the letters that are shown are there, behind the edition
pub either_letters : (s : List ℕ) {m j : ℕ} → front_either longest_word s 0 ≡ letters m j → LettersIn s m j × (0 < j)
either_letters s {m} {j} e =
    let L = front_at-letters (as_plain s 0) 0 e in
    (record { least = L.least; most = L.most; inside = rw (plain-length s 0) at L.inside }, letters-behind s 0 e)

-- a file that is all of s is judged by where it ends
module _ {s : List ℕ} {w : Word} {p : Place} (A : ShownEither s 0 w (behind p)) where
  abbrev i : Place
  i = A.place + length w

  ends : EndingEither s 0 i w (behind p)
  ends = (ending_either_is s 0 i w (behind p)).0 A.judged

  judged_as : (v : Verdict) → VerdictEither s i w v → JudgedEither s w v
  judged_as v c = record { place = A.place; shown = A.shown; word = A.word; judged = (verdict_either_is s i w v).1 c }

  ends-right : length s ≤ p → JudgedEither s w right
  ends-right h = judged_as right (nothing_follows ends h)

  follows_11 : p < length s → JudgedEither s w (wrong 11 p)
  follows_11 h = judged_as (wrong 11 p) (bytes_follow ends h)

right-ends : {s : List ℕ} {w : Word} → JudgedEither s w right → (p : Place) × ShownEither s 0 w (behind p) × (length s ≤ p)
right-ends {s} {w} J = by ((verdict_either_is s (J.place + length w) w right).0 J.judged)
  where
    by : VerdictEither s (J.place + length w) w right → (p : Place) × ShownEither s 0 w (behind p) × (length s ≤ p)
    by (nothing_follows {p = p} c h) = (
      p,
      record { place = J.place; shown = J.shown; word = J.word; judged = (ending_either_is s 0 (J.place + length w) w (behind p)).1 c },
      h,
    )

-- the file of a word within the limit is accepted in either edition, and shows that word
pub file-accepted : (e : Edition) (w : Word) → least_saved ≤ length w → length w ≤ longest_word → JudgedEither (spell_in e w) w right
file-accepted e w least most =
    ends-right (spelled_either w least most e (spell_in e w) 0 [] (sym (append-nil (spell_in e w)))) (omega arith)

-- a file that is accepted is the file of the word that it shows, in the edition that it says
pub only_files : (s : List ℕ) → Bytes s → {w : Word} → JudgedEither s w right → FileIn (edition_at s 0) s w
only_files s bytes {w} J =
    let r = right-ends J in
    by_edition s 0
    (λ e. rw (eq-eqb (at s 0) 2 e) (all (stands-checked s bytes 0 r.1 e) r.2))
    (λ d. rw (ne_eqb (at s 0) 2 d) (all (stands_plain s bytes 0 r.1 d) r.2))
  where
    all : {e : Edition} {p : Place} → StandsIn e s 0 w p → length s ≤ p → FileIn e s w
    all {e} S h = record { savable = S.savable; file = S.there ∙ rw (drop_of_length-le s h) (append-nil (spell_in e w)) }

-- so some word is shown and accepted exactly if the file is in the set of files of one of the editions
pub saved-exactly : (s : List ℕ) → Bytes s → ((w : Word) × JudgedEither s w right) ↔ ((e : Edition) × SavedIn e s)
saved-exactly s bytes = (
  λ a. let f = only_files s bytes a.1 in (edition_at s 0, record { word = a.0; savable = f.savable; file = f.file }),
  λ f. let S = f.1 in (S.word, rw S.file (file-accepted f.0 S.word S.savable.least S.savable.most)),
)

-- edition 1 has the files that it had
pub plain-saved : (s : List ℕ) → SavedIn plain s ↔ Saved s
plain-saved s = (
  λ f. record { word = f.word; savable = f.savable; file = f.file },
  λ f. record { word = f.word; savable = f.savable; file = f.file },
)

-- ── 3. A file tells its edition and its word ───────────────────────────────

abbrev first_byte : Edition → ℕ
first_byte plain = 1
first_byte checked = 2

-- what stands behind it
abbrev behind_first : Edition → Word → List ℕ
behind_first plain w = body w
behind_first checked w = drop 1 (sealed (unsealed w))

opens : (e : Edition) (w : Word) → spell_in e w ≡ first_byte e ∷ behind_first e w
unfolding sealed
opens plain w = spell_is w
opens checked w = rw (unsealed_is w)

-- a file says which it is
pub edition_of : (e : Edition) {s : List ℕ} → SavedIn e s → edition_at s 0 ≡ e
edition_of e {s} f = by e (ap (λ l. at l 0) (f.file ∙ opens e f.word))
  where
    by : (e : Edition) → at s 0 ≡ first_byte e → edition_at s 0 ≡ e
    by plain one = rw (ne_eqb (at s 0) 2 (λ two. omega (arith, one, two)))
    by checked two = rw (eq-eqb (at s 0) 2 two)

pub says-one : {s : List ℕ} → SavedIn plain s → at s 0 ≡ 1
says-one f = ap (λ l. at l 0) (f.file ∙ opens plain f.word)

pub says_two : {s : List ℕ} → SavedIn checked s → at s 0 ≡ 2
says_two f = ap (λ l. at l 0) (f.file ∙ opens checked f.word)

pub edition-told : (e e' : Edition) (w w' : Word) → spell_in e w ≡ spell_in e' w' → e ≡ e'
edition-told e e' w w' q = by e e' (ap (λ l. at l 0) (sym (opens e w) ∙ q ∙ opens e' w'))
  where
    by : (e e' : Edition) → first_byte e ≡ first_byte e' → e ≡ e'
    by plain plain h = refl
    by checked checked h = refl
    by plain checked h = absurd (omega arith)
    by checked plain h = absurd (omega arith)

-- a file shows one word
pub one_word : {s : List ℕ} {w w' : Word} {v v' : Verdict} → JudgedEither s w v → JudgedEither s w' v' → w ≡ w'
one_word {s} {w} {w'} a b =
    let same : letters (length w) a.place ≡ letters (length w') b.place = sym a.shown ∙ b.shown in
    let size : length w ≡ length w' = cc in
    let place : a.place ≡ b.place = cc in
    a.word ∙ rw (size, place) (sym b.word)

-- words within the limit that have the same file, in whichever editions, are the same
pub word-told : (e e' : Edition) (w w' : Word) → least_saved ≤ length w → length w ≤ longest_word
    → least_saved ≤ length w' → length w' ≤ longest_word → spell_in e w ≡ spell_in e' w' → w ≡ w'
word-told e e' w w' least most least' most' q = one_word (file-accepted e w least most) (rw (sym q) at (file-accepted e' w' least' most'))

-- so a file has one edition and one word
pub saved_once : {e e' : Edition} {s : List ℕ} (f : SavedIn e s) (f' : SavedIn e' s) → (e ≡ e') × (f.word ≡ f'.word)
saved_once {e} {e'} f f' =
    let same = sym f.file ∙ f'.file in
    let a = f.savable in
    let b = f'.savable in
    (edition-told e e' f.word f'.word same, word-told e e' f.word f'.word a.least a.most b.least b.most same)

-- ── 4. Beginnings and longer files ─────────────────────────────────────────

module _ (w : Word) (least : least_saved ≤ length w) (most : length w ≤ longest_word) where
  -- every longer file shows the same word, and then 11 where the word's file ends
  pub longer-refused : (e : Edition) (b : ℕ) (l : List ℕ) → JudgedEither (spell_in e w ++ b ∷ l) w (wrong 11 (length (spell_in e w)))
  longer-refused e b l =
      let f = spell_in e w in
      let sum = length-append f (b ∷ l) in
      rw (zero-add (length f)) at (follows_11 (spelled_either w least most e (f ++ b ∷ l) 0 (b ∷ l) refl) (omega (arith, sum)))

  abbrev pub Cut : List ℕ → ℕ → Type 0
  Cut s n = (front_either longest_word s 0 ≡ stop 5 n) ⊎ JudgedEither s w (wrong 5 n)

  -- as edition 1 has it, cut where the letters or the arrows are not all there
  cut_so : (s : List ℕ) (n : ℕ) → as_plain s 0 ≡ take n (spell w) → n < length (spell w) → Cut s n
  cut_so s n e h = by (beginning_refused w least most n h)
    where
      ended : {i : Place} {v : Verdict} → VerdictCase (as_plain s 0) i w v → v ≡ wrong 5 n → EndingCase (as_plain s 0) i w (broken 5 n)
      ended {i} (arrows_wrong {r = r} {p = p} c) q =
          let number : r ≡ 5 = cc in
          let place : p ≡ n = cc in
          rw (number, place) at c
      ended (leftovers c g) q = let z : ◌≡◌ {A = ℕ} 11 5 = cc in absurd (omega arith)
      ended (all_read c g) q = let z : ◌≡◌ {A = ℕ} 0 1 = cc in absurd (omega arith)

      judged : Judged (as_plain s 0) w (wrong 5 n) → JudgedEither s w (wrong 5 n)
      judged K =
          let i = K.place + length w in
          let after = letters-behind s 0 K.shown in
          let E = ended ((verdict_is (as_plain s 0) i w (wrong 5 n)).0 K.judged) refl in
          let there : ending s i w ≡ broken 5 n =
          sym (plain-ending s 0 i w (omega (arith, after))) ∙ (ending_is (as_plain s 0) i w (broken 5 n)).1 E in
          record {
            place = K.place;
            shown = K.shown;
            word = K.word ∙ plain-part s 0 K.place (length w) after;
            judged = (verdict_either_is s i w (wrong 5 n)).1 (ending_wrong (arrows_broken ((ending_is s i w (broken 5 n)).0 there)));
          }

      by : (front (take n (spell w)) ≡ stop 5 n) ⊎ Judged (take n (spell w)) w (wrong 5 n) → Cut s n
      by (inl q) = inl (rw e q)
      by (inr q) = inr (judged (rw e q))

  plain_beginning : (n : ℕ) → n ≤ length (unsealed w) → as_plain (take n (unsealed w)) 0 ≡ take n (spell w)
  plain_beginning zero h = as_other [] 0 (λ q. omega (arith, q))
  plain_beginning (suc n) h =
      let cut : take (suc n) (unsealed w) ≡ 2 ∷ take n (body w) = ap (take (suc n)) (unsealed_is w) in
      rw cut (as_checked (2 ∷ take n (body w)) 0 refl ∙ sym (ap (take (suc n)) (spell_is w)))

  -- a part of the check
  cut-check : (s r : List ℕ) → s ≡ unsealed w ++ r → length s < length (spell w) + 2 → JudgedEither s w (wrong 5 (length s))
  cut-check s r e h =
      let first : at s 0 ≡ 2 = first_byte_lem s 0 (e ∙ ap (λ x. x ++ r) (unsealed_is w)) in
      let short : length s < 0 + length (spell w) + 2 = omega arith in
      let A = unsealed-shown w least most s 0 r e (broken 5 (length s)) (λ i E. check_cut E first short) in
      let i = A.place + length w in
      let way = (ending_either_is s 0 i w (broken 5 (length s))).0 A.judged in
      record {
        place = A.place;
        shown = A.shown;
        word = A.word;
        judged = (verdict_either_is s i w (wrong 5 (length s))).1 (ending_wrong way);
      }

  -- every proper beginning of a file shows 5 at its end: before the letters are all there, or behind them
  pub cut-refused : (e : Edition) (n : ℕ) → n < length (spell_in e w) → Cut (take n (spell_in e w)) n
  unfolding sealed
  cut-refused plain n h = cut_so (take n (spell w)) n (as_other (take n (spell w)) 0 (first n)) h
    where
      first : (n : ℕ) → at (take n (spell w)) 0 ≡ 2 → ⊥
      first zero q = omega (arith, q)
      first (suc n) q = omega (arith, q, ap (λ l. at (take (suc n) l) 0) (spell_is w))
  cut-refused checked n h = by (dec_lt n (length (spell w)))
    where
      x : List ℕ
      x = unsealed w

      l : List ℕ
      l = low (check x) ∷ high (check x) ∷ []

      by : Dec (n < length (spell w)) → Cut (take n (x ++ l)) n
      by (yes b) =
          let inside : n ≤ length x = omega (arith, unsealed-length w) in
          rw (take-append-le n x l inside) (cut_so (take n x) n (plain_beginning n inside) b)
      by (no b) =
          let k = n - length x in
          let sum : n ≡ length x + k = omega (arith, unsealed-length w) in
          let split : take n (x ++ l) ≡ x ++ take k l =
          ap (λ j. take j (x ++ l)) sum
          ∙ take-add (length x) k (x ++ l)
          ∙ ap₂ (λ a b. a ++ take k b) (take-append_seam x l) (drop-append_seam x l) in
          let size : length (take n (x ++ l)) ≡ n = length-take-le n (x ++ l) (omega arith) in
          inr (rw size at (cut-check (take n (x ++ l)) (take k l) split (omega (arith, size, h, unsealed-length w, sealed-length x))))

-- ── 5. How long files are ──────────────────────────────────────────────────

-- two bytes more than in edition 1
pub checked-length : (w : Word) → length (spell_in checked w) ≡ length (spell w) + 2
checked-length w = sealed-length (unsealed w) ∙ ap (λ n. n + 2) (unsealed-length w)

pub most_bytes_lem : (e : Edition) (w : Word) → 1 ≤ length w → length w ≤ longest_word → length (spell_in e w) ≤ most_bytes e
most_bytes_lem plain w some most = size_most w some most
most_bytes_lem checked w some most = omega (arith, size_most w some most, checked-length w)

-- three numbers beside the letters, and two bytes more for the check
pub least_bytes : (s : List ℕ) → SavedIn checked s → least_saved + 5 ≤ length s
least_bytes s f =
    let p = f.word in
    let size = size_least (spell p) (record { word = p; savable = f.savable; file = refl }) in
    rw f.file (omega (arith, checked-length p, size))

pub least_checked : (s : List ℕ) × SavedIn checked s × (length s ≡ least_saved + 5)
least_checked =
    let f = least_reached.1 in
    let p = f.word in
    let size : length (spell p) ≡ least_saved + 3 = sym (ap {B = ℕ} length f.file) ∙ least_reached.2 in
    (spell_in checked p, record { word = p; savable = f.savable; file = refl }, omega (arith, checked-length p, size))

-- ── 6. Lost bits ───────────────────────────────────────────────────────────

-- no two files of edition 2 differ in nothing but 16 bits next to each other or fewer, wherever in the file they stand
pub damage_told : (s t : List ℕ) → Bytes s → Bytes t → SavedIn checked s → SavedIn checked t → Near s t 16 → s ≡ t
damage_told s t b c f g near =
    let x = unsealed f.word in
    let y = unsealed g.word in
    let is_x : s ≡ sealed x = f.file in
    let is_y : t ≡ sealed y = g.file in
    is_x ∙ sealed-told x y (rw is_x at b) (rw is_y at c) (rw (is_x, is_y) at near) ∙ sym is_y

-- strings that differ in their first two bits differ in more than one
two_bits_apart : (before u v after x y : List ℕ) → 0 ∷ 1 ∷ x ≡ before ++ (u ++ after) → 1 ∷ 0 ∷ y ≡ before ++ (v ++ after)
    → length u ≡ length v → length u ≤ 1 → ⊥
two_bits_apart (b ∷ before) u v after x y e d size few = omega (arith, ap (λ l. at l 0) e, ap (λ l. at l 0) d)
two_bits_apart [] [] [] after x y e d size few = omega (arith, ap (λ l. at l 0) e, ap (λ l. at l 0) d)
two_bits_apart [] (a ∷ []) (c ∷ []) after x y e d size few = omega (arith, ap (λ l. at l 1) e, ap (λ l. at l 1) d)
two_bits_apart [] [] (c ∷ v) after x y e d size few = omega arith
two_bits_apart [] (a ∷ u) [] after x y e d size few = omega arith
two_bits_apart [] (a ∷ []) (c ∷ k ∷ v) after x y e d size few = omega arith
two_bits_apart [] (a ∷ b ∷ u) (c ∷ v) after x y e d size few = omega arith

-- so one bit does not make a 1 of the 2 that edition 2 begins with
pub one_bit_keeps_two : (s t : List ℕ) → Near s t 1 → at s 0 ≡ 2 → at t 0 ≡ 1 → ⊥
unfolding bits_of digits
one_bit_keeps_two s t near two one =
    two_bits_apart near.before near.u near.v near.after _ _
    (sym (ap bits_of (from_there s 0 two (omega arith))) ∙ near.first)
    (sym (ap bits_of (from_there t 0 one (omega arith))) ∙ near.second)
    near.size
    near.narrow
