-- THE THEOREMS on where a file is broken: before the place that is told it is right, and with what is at fault it is no longer. The bytes
-- up to a field are known (`through-arrows` and its neighbours), and so is what a word's file that begins with them goes on with.
use mathlib.Core.Path.{◌≡◌, refl, sym, ap, ◌∙◌}
use mathlib.Core.Logic.{inl, inr, ◌↔◌}
use mathlib.Core.List.{List, [], ◌∷◌, ◌++◌, append_assoc, append-nil}
use Prim.Native.Nat.{ℕ, suc, ◌+◌, ◌-◌, ◌≤◌, ◌<◌}
use native.Mathlib.Omega.{arith}
use lib.ListN.{length, drop, length-append}
use Rattle.words.specs.Words.{Word, Place}
use Rattle.words.specs.Limits.{least_saved, longest_word}
use Rattle.number.specs.Number.{Bytes, spell_number}
use Rattle.number.proofs.Theorems.{spelling-length}
use Rattle.saved.specs.File.{edition, Step, spell_steps, own_steps, body, spell}
use Rattle.saved.proofs.Slots.{own-few}
use Rattle.saved.proofs.Theorems.{least_reached}
use Rattle.loaded.specs.Cases.{Reads, BadLength}
use Rattle.faults.specs.Faults.{LengthAt, CountAt, ArrowsAt}
use Rattle.faults.specs.Faults.{FaultAt, number_cut, letters_cut, byte_refused, other_edition, bad_length, bad_count, other_arrow}
use Rattle.faults.specs.Faults.{no_arrow_left, arrows_missing, bytes_left}
use Rattle.faults.specs.Beginnings.{Begins, Declares}
use Rattle.faults.proofs.Through.{Through, up_to_count, start, on, small, through-edition, through-letters, through-arrows}
use Rattle.faults.proofs.Through.{begins, begins_with}
use Rattle.faults.proofs.Spelled.{arrows_of, edition_begins, length_begins, spell-parts, arrows_begin, arrow_begins}
use Rattle.faults.proofs.GoingOn.{its, its_most, its_file, shown-saved, counted, bytes_read, goes_on, begins_so}
use Rattle.faults.proofs.BadBytes.{byte_wrong}

module _ (s : List ℕ) (bytes : Bytes s) where
  -- ── 1. Before the place that is told ─────────────────────────────────────

  any_begins : Begins s 0
  any_begins =
      let f = least_reached in
      record { file = f.0; saved = f.1; inside = omega arith; same = refl }

  edition-right : {p : Place} → LengthAt s p → Begins s p
  unfolding spell
  edition-right h = let f = least_reached in begins (through-edition s bytes h) (body f.1.word) f.1 f.1.file

  -- up to the number of arrows the file is its word's
  pub letters-right : {w : Word} {p : Place} → CountAt s w p → Begins s p
  letters-right {w} C = begins (through-letters s bytes C) (arrows_of w) (shown-saved s bytes C) (spell-parts w C.most)

  -- of the arrows, exactly if as many are declared as the word has
  arrows-right : {w : Word} {d : ℕ} {l : List Step} {p : Place} → ArrowsAt s w d l p
      → (w : Word) × (n : ℕ) × Declares s w n × (Begins s p ↔ (n ≡ length (own_steps w)))
  arrows-right {w} {d} {l} {p} A =
      let R = through-arrows s bytes A in (
        w,
        R.n,
        R.declared,
        (
          λ B. (goes_on s bytes A (its B) (its_most B) (drop p B.file) (its_file B p R.through (omega arith))).1,
          λ e. begins R.through (spell_steps l) (shown-saved s bytes (counted s bytes A)) (begins_so s bytes A e),
        ),
      )

  -- all of them were read, and they are all of the word's
  all_read-right : {w : Word} {p : Place} → ArrowsAt s w 0 [] p → Begins s p
  all_read-right {w} A =
      let R = through-arrows s bytes A in
      let all : R.n ≡ length (own_steps w) = omega (arith, R.count, ap {B = ℕ} length R.own, length-append R.r []) in
      begins R.through (spell_steps []) (shown-saved s bytes (counted s bytes A)) (begins_so s bytes A all)

  -- the bytes before a refusal with 7, 8, 9 or 11 are those of some word's file
  pub right-before : {r : ℕ} {p q : Place} → FaultAt s r p q → (r ≡ 5 → ⊥) → (r ≡ 6 → ⊥) → (r ≡ 10 → ⊥) → Begins s p
  right-before (number_cut N c) five six ten = absurd (five refl)
  right-before (letters_cut h g l k d) five six ten = absurd (five refl)
  right-before (byte_refused N b) five six ten = absurd (six refl)
  right-before (other_edition h d) five six ten = any_begins
  right-before (bad_length h g d) five six ten = edition-right h
  right-before (bad_count C h d) five six ten = letters-right C
  right-before (other_arrow A h g d) five six ten = absurd (ten refl)
  right-before (no_arrow_left A h g) five six ten = absurd (ten refl)
  right-before (arrows_missing A) five six ten = absurd (ten refl)
  right-before (bytes_left A h) five six ten = all_read-right A

  -- those before a refusal with 10 are exactly if the file declares as many arrows as its word has
  pub arrow-right-before : {r : ℕ} {p q : Place} → FaultAt s r p q → r ≡ 10
      → (w : Word) × (n : ℕ) × Declares s w n × (Begins s p ↔ (n ≡ length (own_steps w)))
  arrow-right-before (number_cut N c) e = absurd (omega arith)
  arrow-right-before (letters_cut h g l k d) e = absurd (omega arith)
  arrow-right-before (byte_refused N b) e = absurd (omega arith)
  arrow-right-before (other_edition h d) e = absurd (omega arith)
  arrow-right-before (bad_length h g d) e = absurd (omega arith)
  arrow-right-before (bad_count C h d) e = absurd (omega arith)
  arrow-right-before (other_arrow A h g d) e = arrows-right A
  arrow-right-before (no_arrow_left A h g) e = arrows-right A
  arrow-right-before (arrows_missing A) e = arrows-right A
  arrow-right-before (bytes_left A h) e = absurd (omega arith)

  -- ── 2. With the field at fault ───────────────────────────────────────────

  edition-wrong : {e : ℕ} {q : Place} → Reads s 0 e q → (e ≡ edition → ⊥) → Begins s q → ⊥
  edition-wrong {e} {q} h d B =
      let t : Through s q (spell_number e) = on s bytes (start s bytes) h in
      d (sym (edition_begins (its B) (its_most B) e (drop q B.file) (small s bytes 0 h) (its_file B q t (omega arith))).0)

  length-wrong : {p : Place} {m : ℕ} {q : Place} → LengthAt s p → Reads s p m q → BadLength m → Begins s q → ⊥
  length-wrong {p} {m} {q} h g d B =
      let t = on s bytes (through-edition s bytes h) g in
      let w = its B in
      let y = drop q B.file in
      let E = spell_number edition in
      let M = spell_number m in
      let first = edition_begins w (its_most B) edition (M ++ y) (small s bytes 0 h) (its_file B q t (omega arith) ∙ append_assoc E M y) in
      let same : length w ≡ m = (length_begins w (its_most B) m y (small s bytes p g) first.1).0 in
      clash (rw same at B.saved.savable.least) (rw same at (its_most B)) d
    where
      clash : least_saved ≤ m → m ≤ longest_word → BadLength m → ⊥
      clash a b (inl c) = omega arith
      clash a b (inr c) = omega arith

  count-wrong : {w : Word} {p : Place} {n : ℕ} {q : Place} → CountAt s w p → Reads s p n q → length w - 1 < n → Begins s q → ⊥
  unfolding spell_steps
  count-wrong {w} {p} {n} {q} C h d B =
      let t = on s bytes (through-letters s bytes C) h in
      let v = its B in
      let y = drop q B.file in
      let N = spell_number n in
      let begun : spell v ≡ ((up_to_count w ++ N) ++ []) ++ y =
      its_file B q t (omega arith)
      ∙ ap (λ x. x ++ y) (sym (append-nil (up_to_count w ++ N))) in
      let same = (arrows_begin v (its_most B) w n [] (own_steps w) C.most (small s bytes p h) refl y begun).1 in
      omega (arith, same, own-few w)

  -- two numbers behind the arrows that were read would be the word's next
  arrow-next : {w : Word} {d : ℕ} {l : List Step} {p : Place} {a : ℕ} {j : Place} {b : ℕ} {q : Place} (A : ArrowsAt s w d l p)
      → Reads s p a j → Reads s j b q → (B : Begins s q) → spell_steps l ≡ spell_number a ++ (spell_number b ++ drop q B.file)
  arrow-next {p = p} {a = a} {j = j} {b = b} {q = q} A h g B =
      let R = through-arrows s bytes A in
      let t = on s bytes (on s bytes R.through h) g in
      let x = bytes_read s bytes A in
      let y = drop q B.file in
      let split : ((x ++ spell_number a) ++ spell_number b) ++ y ≡ x ++ (spell_number a ++ (spell_number b ++ y)) =
      append_assoc (x ++ spell_number a) (spell_number b) y
      ∙ append_assoc x (spell_number a) (spell_number b ++ y) in
      (goes_on s bytes A (its B) (its_most B) (spell_number a ++ (spell_number b ++ y)) (its_file B q t (omega arith) ∙ split)).2

  arrow-wrong : {w : Word} {d : ℕ} {t : Step} {l : List Step} {p : Place} {a : ℕ} {j : Place} {b : ℕ} {q : Place}
      → ArrowsAt s w (suc d) (t ∷ l) p → Reads s p a j → Reads s j b q → (a ≡ t.up → b ≡ t.over → ⊥) → Begins s q → ⊥
  arrow-wrong {w} {t = t} {l = l} {p = p} {a = a} {j = j} {b = b} {q = q} A h g d B =
      let R = through-arrows s bytes A in
      let y = drop q B.file in
      let next = arrow-next A h g B in
      let same = arrow_begins w (counted s bytes A).most R.r t l R.own a b y (small s bytes p h) (small s bytes j g) next in
      d same.0 same.1

  none_left-wrong : {w : Word} {d : ℕ} {p : Place} {a : ℕ} {j : Place} {b : ℕ} {q : Place}
      → ArrowsAt s w (suc d) [] p → Reads s p a j → Reads s j b q → Begins s q → ⊥
  unfolding spell_steps
  none_left-wrong {a = a} {b = b} {q = q} A h g B =
      let rest = spell_number b ++ drop q B.file in
      omega (arith, ap {B = ℕ} length (arrow-next A h g B), length-append (spell_number a) rest, (spelling-length a).0)

  missing-wrong : {w : Word} {t : Step} {l : List Step} {p : Place} → ArrowsAt s w 0 (t ∷ l) p → Begins s p → ⊥
  missing-wrong {w} {t} {l} {p} A B =
      let R = through-arrows s bytes A in
      let same = (goes_on s bytes A (its B) (its_most B) (drop p B.file) (its_file B p R.through (omega arith))).1 in
      omega (arith, same, R.count, ap {B = ℕ} length R.own, length-append R.r (t ∷ l))

  left-wrong : {w : Word} {p : Place} → ArrowsAt s w 0 [] p → Begins s (p + 1) → ⊥
  unfolding spell_steps
  left-wrong {w} {p} A B =
      let t = (through-arrows s bytes A).through in
      let y = drop p B.file in
      let none = (goes_on s bytes A (its B) (its_most B) y (its_file B p t (omega arith))).2 in
      let size = ap {B = ℕ} length (begins_with t (omega arith) B) in
      omega (arith, B.inside, size, length-append (bytes_read s bytes A) y, ap {B = ℕ} length none, t.size)

  -- no word's file begins with the bytes up to the end of what is refused with 6 to 11
  pub wrong-behind : {r : ℕ} {p q : Place} → FaultAt s r p q → (r ≡ 5 → ⊥) → Begins s q → ⊥
  wrong-behind (number_cut N c) five = absurd (five refl)
  wrong-behind (letters_cut h g l k d) five = absurd (five refl)
  wrong-behind (byte_refused N b) five = λ B. byte_wrong s bytes b B N
  wrong-behind (other_edition h d) five = edition-wrong h d
  wrong-behind (bad_length h g d) five = length-wrong h g d
  wrong-behind (bad_count C h d) five = count-wrong C h d
  wrong-behind (other_arrow A h g d) five = arrow-wrong A h g d
  wrong-behind (no_arrow_left A h g) five = none_left-wrong A h g
  wrong-behind (arrows_missing A) five = missing-wrong A
  wrong-behind (bytes_left A h) five = left-wrong A
