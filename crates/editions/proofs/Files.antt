-- A WORD'S FILE IN EITHER EDITION IS READ WHEREVER IT STANDS, and what is read as a file is that of the word that it shows. Edition 1 is
-- the settled reading of it. A file of edition 2 is one of edition 1 with another first byte (`as_plain`) and a check: its arrows end where
-- those of edition 1 end, and the check stands there, low byte first.
use mathlib.Core.Path.{◌≡◌, refl, sym, ap, ap₂, ◌∙◌}
use mathlib.Core.List.{List, ◌∷◌, ◌++◌}
use Prim.Native.Nat.{ℕ, suc, ◌+◌, ◌*◌, ◌-◌, ◌≤◌, ◌<◌}
use native.Mathlib.Nat.{add_comm, add-zero, div-add-mod'}
use native.Mathlib.Numerals.{add-one}
use native.Mathlib.Decide.{dec_lt, ℕ_discrete}
use native.Mathlib.Omega.{arith}
use lib.Arith.{digits_div, digits_mod}
use lib.ListN.{length, take, drop, set, length-append, length-drop, get_or-eq_default}
use lib.Seq.{take_at, drop-cons, drop-set-add, get_or-drop, get_or-set_same, get_or-set_other}
use Rattle.words.specs.Lists.{at}
use Rattle.words.specs.Words.{Word, Place, part}
use Rattle.words.specs.Limits.{least_saved, longest_word}
use Rattle.words.proofs.Lists.{at-behind}
use Rattle.number.specs.Number.{Bytes, spell_number}
use Rattle.number.proofs.Theorems.{spelling-single}
use Rattle.saved.specs.File.{body, spell, Savable}
use Rattle.saved.proofs.Spelled.{edition-number}
use Rattle.loaded.specs.Load.{letters, Ending, behind, ending}
use Rattle.loaded.specs.Accepts.{ShownAt}
use Rattle.loaded.specs.Cases.{FrontCaseAt, letters-there, EndingCase}
use Rattle.loaded.proofs.Fields.{reads-inside}
use Rattle.loaded.proofs.Theorems.{front_at_is, ending_is, file-shown-at, only_files_at}
use Rattle.crc.specs.Check.{check, low, high, sealed}
use Rattle.crc.proofs.Theorems.{sealed-append, sealed-length}
use Rattle.editions.specs.Editions.{Edition, plain, checked, spell_in}
use Rattle.editions.specs.Either.{as_plain, front_either, pair_at, ShownEither}
use Rattle.editions.specs.EitherCases.{EndingEither, plain_end, check_agrees}
use Rattle.editions.proofs.AsPlain.{as_checked, as_other, by_edition, plain-drop, plain-part, plain-ending}
use Rattle.editions.proofs.Ways.{either_case, case_either}

-- ── The first byte ─────────────────────────────────────────────────────────

-- the file of edition 2 before its check
abbrev pub unsealed : Word → List ℕ
unsealed w = spell_number 2 ++ body w

pub unsealed_is : (w : Word) → unsealed w ≡ 2 ∷ body w
unsealed_is w = ap (λ l. l ++ body w) (spelling-single 2 (omega arith))

pub spell_is : (w : Word) → spell w ≡ 1 ∷ body w
unfolding spell
spell_is w = rw (edition-number, spelling-single 1 (omega arith))

pub unsealed-length : (w : Word) → length (unsealed w) ≡ length (spell w)
unsealed-length w = ap length (unsealed_is w) ∙ sym (ap {B = ℕ} length (spell_is w))

module _ (s : List ℕ) (o : Place) where
  -- a byte that is not 0 is there
  pub there : {b : ℕ} → at s o ≡ b → 0 < b → o < length s
  there {b} e h = by (dec_lt o (length s))
    where
      by : Dec (o < length s) → o < length s
      by (yes l) = l
      by (no l) = absurd (omega (arith, e, get_or-eq_default s 0 {n = o} (omega arith)))

  pub from_there : {b : ℕ} → at s o ≡ b → 0 < b → drop o s ≡ b ∷ drop (suc o) s
  from_there e h = drop-cons s o 0 (there e h) ∙ ap (λ b. b ∷ drop (suc o) s) e

  -- what stands from place o on begins with it
  pub first_byte_lem : {b : ℕ} {l : List ℕ} → drop o s ≡ b ∷ l → at s o ≡ b
  first_byte_lem e = ap (at s) (sym (add-zero o)) ∙ sym (get_or-drop o s 0 0) ∙ ap (λ l. at l 0) e

  -- as edition 1 has it
  pub as_plain-drop : at s o ≡ 2 → drop o (as_plain s o) ≡ 1 ∷ drop (suc o) s
  as_plain-drop e =
      ap (drop o) (as_checked s o e)
      ∙ ap (λ i. drop o (set s i 1)) (sym (add-zero o))
      ∙ drop-set-add o s 0 1
      ∙ ap (λ l. set l 0 1) (from_there e (omega arith))

  -- the letters stand behind it
  pub letters-behind : {m j : ℕ} → front_either longest_word s o ≡ letters m j → o < j
  letters-behind {m} {j} e = by ((front_at_is (as_plain s o) o (letters m j)).0 e)
    where
      by : FrontCaseAt (as_plain s o) o (letters m j) → o < j
      by (letters-there {i = i} a b l k d) = omega (arith, (reads-inside (as_plain s o) o a).0, (reads-inside (as_plain s o) i b).0)

-- ── Its check ──────────────────────────────────────────────────────────────

-- the check of x, behind x, as a number
pub pair_of-check : (x r : List ℕ) → let s = x ++ low (check x) ∷ high (check x) ∷ r in pair_at s (length x) ≡ check x
pair_of-check x r =
    let c = check x in
    let s = x ++ low c ∷ high c ∷ r in
    let one : at s (length x) ≡ low c = ap (at s) (sym (add-zero (length x))) ∙ at-behind x (low c ∷ high c ∷ r) (length x) 0 refl in
    let two : at s (length x + 1) ≡ high c = at-behind x (low c ∷ high c ∷ r) (length x) 1 refl in
    rw (one, two) (add_comm (low c) (high c * 256) ∙ div-add-mod' c 256)

pair_at_lem : (s : List ℕ) (o n : ℕ) → pair_at s (o + n) ≡ pair_at (drop o s) n
pair_at_lem s o n =
    let e : o + n + 1 ≡ o + (n + 1) = omega arith in
    rw e (ap₂ (λ a b. a + b * 256) (sym (get_or-drop o s n 0)) (sym (get_or-drop o s (n + 1) 0)))

-- two bytes that are there
pub two_there : (s : List ℕ) (k : Place) → k + 2 ≤ length s → drop k s ≡ at s k ∷ at s (k + 1) ∷ drop (k + 2) s
two_there s k h =
    let next : suc (suc k) ≡ k + 2 = omega arith in
    drop-cons s k 0 (omega arith)
    ∙ ap (λ l. at s k ∷ l) (drop-cons s (suc k) 0 (omega arith) ∙ ap₂ (λ i j. at s i ∷ drop j s) (sym (add-one k)) next)

-- of two bytes that are the check, which is which
pub check_of_pair : (a b c : ℕ) → a < 256 → a + b * 256 ≡ c → (a ≡ low c) × (b ≡ high c)
check_of_pair a b c h e =
    let same : b * 256 + a ≡ c = add_comm (b * 256) a ∙ e in
    (sym (digits_mod b h) ∙ ap low same, sym (digits_div b h) ∙ ap high same)

-- ── Read where it stands ───────────────────────────────────────────────────

module _ (w : Word) (least : least_saved ≤ length w) (most : length w ≤ longest_word) where
  -- what edition 1 shows of the same bytes, with 1 for the number of edition 2
  shown_too : (s : List ℕ) (o : Place) {p : Place} (e : Ending) → ShownAt (as_plain s o) o w (behind p)
      → ((i : Place) → EndingCase s i w (behind p) → EndingEither s o i w e) → ShownEither s o w e
  shown_too s o {p} e A way =
      let behind-edition = letters-behind s o A.shown in
      let i = A.place + length w in
      let ends : ending s i w ≡ behind p = sym (plain-ending s o i w (omega (arith, behind-edition))) ∙ A.judged in
      record {
        place = A.place;
        shown = A.shown;
        word = A.word ∙ plain-part s o A.place (length w) behind-edition;
        judged = case_either s o i w (way i ((ending_is s i w (behind p)).0 ends));
      }

  -- the bytes of edition 2 up to behind its arrows, from place o on and with r behind them, are read up to there
  pub unsealed-shown : (s : List ℕ) (o : Place) (r : List ℕ) → drop o s ≡ unsealed w ++ r → (e : Ending)
      → ((i : Place) → EndingCase s i w (behind (o + length (spell w))) → EndingEither s o i w e) → ShownEither s o w e
  unsealed-shown s o r d e way =
      let two = d ∙ ap (λ x. x ++ r) (unsealed_is w) in
      let first : at s o ≡ 2 = first_byte_lem s o two in
      let rest : drop (suc o) s ≡ body w ++ r = ap (drop 1) (sym (from_there s o first (omega arith)) ∙ two) in
      let one : drop o (as_plain s o) ≡ spell w ++ r =
      as_plain-drop s o first ∙ ap (λ l. 1 ∷ l) rest ∙ ap (λ x. x ++ r) (sym (spell_is w)) in
      shown_too s o e (file-shown-at (as_plain s o) o w r least most one) way

  -- the word's file, from place o on and with r behind it, is read to its end
  pub spelled_either : (e : Edition) (s : List ℕ) (o : Place) (r : List ℕ) → drop o s ≡ spell_in e w ++ r
      → ShownEither s o w (behind (o + length (spell_in e w)))
  spelled_either plain s o r d =
      let first : at s o ≡ 1 = first_byte_lem s o (d ∙ ap (λ x. x ++ r) (spell_is w)) in
      let other : at s o ≡ 2 → ⊥ = λ q. omega (arith, first, q) in
      let A = file-shown-at s o w r least most d in
      let same = as_other s o other in
      shown_too s o _ (rw same A) (λ i E. plain_end E other)
  spelled_either checked s o r d =
      let x = unsealed w in
      let c = check x in
      let l = low c ∷ high c ∷ r in
      let n = length (spell w) in
      let split : drop o s ≡ x ++ l = d ∙ sealed-append x r in
      let first : at s o ≡ 2 = first_byte_lem s o (split ∙ ap (λ x. x ++ l) (unsealed_is w)) in
      let size : n ≡ length x = sym (unsealed-length w) in
      let sum : length s - o ≡ length x + length l = sym (length-drop o s) ∙ ap length split ∙ length-append x l in
      let inside : o + n + 2 ≤ length s = omega (arith, there s o first (omega arith), size, sum) in
      let own : part s o (o + n - o) ≡ x =
      let e : o + n - o ≡ n = omega arith in rw e (ap (take n) split ∙ take_at x l n (sym size)) in
      let pair : pair_at s (o + n) ≡ check x = pair_at_lem s o n ∙ ap (λ t. pair_at t n) split ∙ rw size (pair_of-check x r) in
      let end : o + n + 2 ≡ o + length (sealed x) = omega (arith, size, sealed-length x) in
      rw end at (unsealed-shown s o l split (behind (o + n + 2))
      (λ i E. check_agrees E first inside (pair ∙ ap check (sym own))))

-- bytes stay bytes
pub plain-bytes : (s : List ℕ) → Bytes s → (o : Place) → Bytes (as_plain s o)
plain-bytes s bytes o j = by_edition s o (λ e. rw (as_checked s o e) (by e (ℕ_discrete j o))) (λ d. rw (as_other s o d) (bytes j))
  where
    by : at s o ≡ 2 → Dec (j ≡ o) → at (set s o 1) j < 256
    by e (yes q) = rw (q, get_or-set_same s o 1 0 (there s o e (omega arith))) (omega arith)
    by e (no q) = rw (get_or-set_other s o j 1 0 q) (bytes j)

-- ── Only files are read so ─────────────────────────────────────────────────

-- what stands in s from place o on is the file of w in the edition e, and then what stands from place p on
pub record StandsIn (e : Edition) (s : List ℕ) (o : Place) (w : Word) (p : Place) : Type 0 where
  pub savable : Savable w
  pub there : drop o s ≡ spell_in e w ++ drop p s
  pub end : p ≡ o + length (spell_in e w)

module _ (s : List ℕ) (bytes : Bytes s) (o : Place) {w : Word} {p : Place} (A : ShownEither s o w (behind p)) where
  abbrev i : Place
  i = A.place + length w

  way : EndingEither s o i w (behind p)
  way = rw A.judged at (either_case s o i w)

  -- what edition 1 shows of the same bytes
  as_shown : {q : Place} → EndingCase s i w (behind q) → ShownAt (as_plain s o) o w (behind q)
  as_shown {q} E =
      let behind-edition = letters-behind s o A.shown in
      record {
        place = A.place;
        shown = A.shown;
        word = A.word ∙ sym (plain-part s o A.place (length w) behind-edition);
        judged = plain-ending s o i w (omega (arith, behind-edition)) ∙ (ending_is s i w (behind q)).1 E;
      }

  pub stands_plain : (at s o ≡ 2 → ⊥) → StandsIn plain s o w p
  stands_plain d = by way
    where
      by : {q : Place} → EndingEither s o i w (behind q) → StandsIn plain s o w q
      by (plain_end E _) =
          let r = only_files_at s bytes o (rw (as_other s o d) at (as_shown E)) in
          record { savable = r.0; there = r.1; end = r.2 }
      by (check_agrees E c h q) = absurd (d c)

  pub stands-checked : at s o ≡ 2 → StandsIn checked s o w p
  stands-checked c = by way
    where
      by : {q : Place} → EndingEither s o i w (behind q) → StandsIn checked s o w q
      by (plain_end E d) = absurd (d c)
      by (check_agrees {p = k} E _ h q) =
          let r = only_files_at (as_plain s o) (plain-bytes s bytes o) o (as_shown E) in
          let n = length (spell w) in
          let x = unsealed w in
          let size : n ≡ length x = sym (unsealed-length w) in
          let after : o < k = omega (arith, r.2, ap {B = ℕ} length (spell_is w)) in
          let rest : drop (suc o) s ≡ body w ++ drop k s =
          ap (drop 1) (sym (as_plain-drop s o c) ∙ r.1 ∙ ap₂ ◌++◌ (spell_is w) (plain-drop s o k after)) in
          let whole : drop o s ≡ x ++ drop k s =
          from_there s o c (omega arith) ∙ ap (λ l. 2 ∷ l) rest ∙ ap (λ x. x ++ drop k s) (sym (unsealed_is w)) in
          let some : k - o ≡ n = omega (arith, r.2) in
          let own : part s o (k - o) ≡ x = rw some (ap (take n) whole ∙ take_at x (drop k s) n (sym size)) in
          let two = check_of_pair (at s k) (at s (k + 1)) (check x) (bytes k) (q ∙ ap check own) in
          let tail : drop k s ≡ low (check x) ∷ high (check x) ∷ drop (k + 2) s =
          two_there s k h ∙ ap₂ (λ a b. a ∷ b ∷ drop (k + 2) s) two.0 two.1 in
          record {
            savable = r.0;
            there = whole ∙ ap (λ l. x ++ l) tail ∙ sym (sealed-append x (drop (k + 2) s));
            end = omega (arith, r.2, unsealed-length w, sealed-length x);
          }
