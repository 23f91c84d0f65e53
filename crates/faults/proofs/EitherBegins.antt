-- WHAT BEGINS A WORD'S FILE IN EITHER EDITION. A file that says 2 begins as some word's file of edition 2 does exactly if the same bytes
-- with 1 begin one of edition 1, as far as the check is not reached; where all arrows were read, the word is known, and so is its check.
use mathlib.Core.Path.{◌≡◌, refl, sym, ap, ap₂, ◌∙◌}
use mathlib.Core.List.{List, [], ◌∷◌, ◌++◌, append-nil}
use Prim.Native.Nat.{ℕ, zero, suc, ◌+◌, ◌*◌, ◌≤◌, ◌<◌}
use native.Mathlib.Nat.{zero-add}
use native.Mathlib.Omega.{arith}
use lib.ListN.{length, take, drop, length-append, take-append-drop}
use lib.Seq.{take_at, take_all, take-take, take-append-le, get_or-take}
use Rattle.words.specs.Lists.{at}
use Rattle.words.specs.Words.{Word, Place, part}
use Rattle.number.specs.Number.{Bytes}
use Rattle.saved.specs.File.{spell_steps, own_steps, body, spell, Savable}
use Rattle.loaded.specs.Load.{letters, behind}
use Rattle.loaded.proofs.Theorems.{front_at_is, ending_is, file-shown-at}
use Rattle.crc.specs.Check.{check, low, high, sealed}
use Rattle.crc.proofs.Theorems.{sealed-append, sealed-length}
use Rattle.editions.specs.Editions.{Edition, plain, checked, spell_in, SavedIn}
use Rattle.editions.specs.Either.{as_plain, pair_at}
use Rattle.editions.proofs.AsPlain.{plain-drop}
use Rattle.editions.proofs.Files.{unsealed, unsealed_is, unsealed-length, spell_is, from_there, as_plain-drop, check_of_pair}
use Rattle.editions.proofs.Files.{two_there, pair_of-check, plain-bytes}
use Rattle.faults.specs.Faults.{CountAt, ArrowsAt}
use Rattle.faults.specs.Beginnings.{Begins}
use Rattle.faults.specs.EitherFaults.{AllRead, BeginsIn, BeginsEither}
use Rattle.faults.proofs.Shown.{count-place, ending-read}
use Rattle.faults.proofs.Through.{through-arrows}
use Rattle.faults.proofs.GoingOn.{counted, bytes_read, begins_so, shown-savable}

-- ── The first byte ─────────────────────────────────────────────────────────

-- the same as the files have it
plain-first : {s : List ℕ} {p : Place} → BeginsIn plain s p → 1 ≤ p → at s 0 ≡ 1
plain-first {s} {p} B h =
    sym (get_or-take p s 0 0 h)
    ∙ ap (λ l. at l 0) B.same
    ∙ get_or-take p B.file 0 0 h
    ∙ ap (λ l. at l 0) (B.saved.file ∙ spell_is B.saved.word)

checked_is : (w : Word) → spell_in checked w ≡ 2 ∷ drop 1 (spell_in checked w)
unfolding sealed
checked_is w = rw (unsealed_is w)

checked-first : {s : List ℕ} {p : Place} → BeginsIn checked s p → 1 ≤ p → at s 0 ≡ 2
checked-first {s} {p} B h =
    sym (get_or-take p s 0 0 h)
    ∙ ap (λ l. at l 0) B.same
    ∙ get_or-take p B.file 0 0 h
    ∙ ap (λ l. at l 0) (B.saved.file ∙ checked_is B.saved.word)

-- in edition 1 they are those that there were
pub plain_begins : {s : List ℕ} {p : Place} → BeginsIn plain s p → Begins s p
plain_begins B = record {
  file = B.file;
  saved = record { word = B.saved.word; savable = B.saved.savable; file = B.saved.file };
  inside = B.inside;
  same = B.same;
}

pub begins_plain : {s : List ℕ} {p : Place} → Begins s p → BeginsIn plain s p
begins_plain B = record {
  file = B.file;
  saved = record { word = B.saved.word; savable = B.saved.savable; file = B.saved.file };
  inside = B.inside;
  same = B.same;
}

-- a file that does not say 2 begins as one of edition 1
pub other_begins : {s : List ℕ} {p : Place} → (at s 0 ≡ 2 → ⊥) → 1 ≤ p → BeginsEither s p → Begins s p
other_begins {s} {p} d h B = by B.0 B.1
  where
    by : (e : Edition) → BeginsIn e s p → Begins s p
    by plain C = plain_begins C
    by checked C = absurd (d (checked-first C h))

-- and one that says 2, as one of edition 2
pub two_begins : {s : List ℕ} {p : Place} → at s 0 ≡ 2 → 1 ≤ p → BeginsEither s p → BeginsIn checked s p
two_begins {s} {p} two h B = by B.0 B.1
  where
    by : (e : Edition) → BeginsIn e s p → BeginsIn checked s p
    by plain C = absurd (omega (arith, two, plain-first C h))
    by checked C = C

-- ── With 1 for 2 ───────────────────────────────────────────────────────────

module _ (s : List ℕ) (two : at s 0 ≡ 2) where
  abbrev t : List ℕ
  t = as_plain s 0

  s_is : s ≡ 2 ∷ drop 1 s
  s_is = from_there s 0 two (omega arith)

  t_is : t ≡ 1 ∷ drop 1 s
  t_is = as_plain-drop s 0 two

  -- the first p bytes of both, from those of the other
  from_body : (p : Place) (v : Word) → take p t ≡ take p (spell v) → take p s ≡ take p (unsealed v)
  from_body zero v e = refl
  from_body (suc p) v e =
      let tails : take p (drop 1 s) ≡ take p (body v) =
      ap (drop 1) (sym (ap (take (suc p)) t_is) ∙ e ∙ ap (take (suc p)) (spell_is v)) in
      ap (take (suc p)) s_is ∙ ap (λ l. 2 ∷ l) tails ∙ sym (ap (take (suc p)) (unsealed_is v))

  to_body : (p : Place) (v : Word) → take p s ≡ take p (unsealed v) → take p t ≡ take p (spell v)
  to_body zero v e = refl
  to_body (suc p) v e =
      let tails : take p (drop 1 s) ≡ take p (body v) =
      ap (drop 1) (sym (ap (take (suc p)) s_is) ∙ e ∙ ap (take (suc p)) (unsealed_is v)) in
      ap (take (suc p)) t_is ∙ ap (λ l. 1 ∷ l) tails ∙ sym (ap (take (suc p)) (spell_is v))

  sealed-front : (p : Place) (v : Word) → p ≤ length (spell v) → take p (spell_in checked v) ≡ take p (unsealed v)
  unfolding sealed
  sealed-front p v h =
      let x = unsealed v in
      take-append-le p x (low (check x) ∷ high (check x) ∷ []) (omega (arith, unsealed-length v))

  -- lifted to edition 2
  pub lifted : {p : Place} → Begins t p → BeginsIn checked s p
  lifted {p} B =
      let v = B.saved.word in
      let inside : p ≤ length (spell v) = omega (arith, B.inside, ap {B = ℕ} length B.saved.file) in
      let same : take p t ≡ take p (spell v) = B.same ∙ ap (take p) B.saved.file in
      record {
        file = spell_in checked v;
        saved = record { word = v; savable = B.saved.savable; file = refl };
        inside = omega (arith, inside, sealed-length (unsealed v), unsealed-length v);
        same = from_body p v same ∙ sym (sealed-front p v inside);
      }

  -- lowered to edition 1, as far as the check is not reached
  pub lowered : {p : Place} (B : BeginsIn checked s p) → p ≤ length (spell B.saved.word) → Begins t p
  lowered {p} B h =
      let v = B.saved.word in
      let same : take p s ≡ take p (unsealed v) = B.same ∙ ap (take p) B.saved.file ∙ sealed-front p v h in
      record {
        file = spell v;
        saved = record { word = v; savable = B.saved.savable; file = refl };
        inside = h;
        same = to_body p v same;
      }

  -- where it is reached, all arrows of that word stand there
  pub reached : {p : Place} (B : BeginsIn checked s p) → length (spell B.saved.word) < p → p ≤ length s
      → let v = B.saved.word in t ≡ spell v ++ drop (length (spell v)) t
  reached {p} B h inside =
      let v = B.saved.word in
      let n = length (spell v) in
      let low : take n s ≡ take n (unsealed v) =
      sym (take-take n p s (omega arith))
      ∙ ap (take n) (B.same ∙ ap (take p) B.saved.file)
      ∙ take-take n p (spell_in checked v) (omega arith)
      ∙ sealed-front n v (omega arith) in
      let whole : take n t ≡ spell v = to_body n v low ∙ take_all n (spell v) (omega arith) in
      sym (take-append-drop n t) ∙ ap (λ l. l ++ drop n t) whole

-- ── All arrows read ────────────────────────────────────────────────────────

-- a word's file of edition 1 with bytes behind it is read to its last arrow
pub all_there : (t : List ℕ) (v : Word) (r : List ℕ) → Savable v → t ≡ spell v ++ r → ArrowsAt t v 0 [] (length (spell v))
all_there t v r S e =
    let A = file-shown-at t 0 v r S.least S.most e in
    let f = (front_at_is t 0 (letters (length v) A.place)).0 A.shown in
    let c = A.place + length v in
    let E = (ending_is t c v (behind (0 + length (spell v)))).0 A.judged in
    let C : CountAt t v c = rw (← A.word) at (count-place f) in
    rw (zero-add (length (spell v))) at (ending-read C E)

-- of two words whose files of edition 1 begin the same bytes, both whole
same_word : (t : List ℕ) (w v : Word) (r q : List ℕ) → Savable w → Savable v → t ≡ spell w ++ r → t ≡ spell v ++ q → w ≡ v
same_word t w v r q S U e d =
    let a = file-shown-at t 0 w r S.least S.most e in
    let b = file-shown-at t 0 v q U.least U.most d in
    let shown = sym a.shown ∙ b.shown in
    let size : length w ≡ length v = cc in
    let place : a.place ≡ b.place = cc in
    a.word ∙ ap₂ (part t) place size ∙ sym b.word

-- with 1 for 2
with_one : (v : Word) {f : List ℕ} (r : List ℕ) → f ≡ unsealed v ++ r → 1 ∷ drop 1 f ≡ spell v ++ r
with_one v r e =
    ap (λ l. 1 ∷ l) (ap (drop 1) (e ∙ ap (λ x. x ++ r) (unsealed_is v)))
    ∙ ap (λ x. x ++ r) (sym (spell_is v))

-- the check of what is sealed, where it stands
pair_of-sealed : (x : List ℕ) (p : Place) → length x ≡ p → pair_at (sealed x) p ≡ check x
pair_of-sealed x p e =
    let is : sealed x ≡ x ++ low (check x) ∷ high (check x) ∷ [] = sym (append-nil (sealed x)) ∙ sealed-append x [] in
    rw (is, ← e) (pair_of-check x [])

module _ (s : List ℕ) (bytes : Bytes s) {w : Word} {p : Place} (A : AllRead s w p) where
  abbrev two : at s 0 ≡ 2
  two = A.0

  plainly : Bytes (as_plain s 0)
  plainly = plain-bytes s bytes 0

  -- the word's file up to its check
  pub record Whole : Type 0 where
    pub savable : Savable w
    pub size : p ≡ length (spell w)
    pub there : s ≡ unsealed w ++ drop p s

  pub whole : Whole
  unfolding spell_steps
  whole =
      let R = through-arrows (as_plain s 0) plainly A.1 in
      let all : R.n ≡ length (own_steps w) = omega (arith, R.count, ap {B = ℕ} length R.own, length-append R.r []) in
      let read = bytes_read (as_plain s 0) plainly A.1 in
      let spelled : spell w ≡ read = begins_so (as_plain s 0) plainly A.1 all ∙ append-nil read in
      let size : p ≡ length (spell w) = R.through.size ∙ sym (ap {B = ℕ} length spelled) in
      let after : 0 < p = omega (arith, size, ap {B = ℕ} length (spell_is w)) in
      let own : as_plain s 0 ≡ spell w ++ drop p s =
      R.through.whole ∙ ap₂ ◌++◌ (sym spelled) (plain-drop s 0 p after) in
      let rest : drop 1 s ≡ body w ++ drop p s =
      ap (drop 1) (sym (as_plain-drop s 0 two) ∙ own ∙ ap (λ x. x ++ drop p s) (spell_is w)) in
      record {
        savable = shown-savable (as_plain s 0) plainly (counted (as_plain s 0) plainly A.1);
        size = size;
        there = s_is s two ∙ ap (λ l. 2 ∷ l) rest ∙ ap (λ x. x ++ drop p s) (sym (unsealed_is w));
      }

  up_to-check : take p s ≡ unsealed w
  up_to-check =
      ap (take p) whole.there
      ∙ take_at (unsealed w) (drop p s) p (unsealed-length w ∙ sym whole.size)

  pub own-file : SavedIn checked (spell_in checked w)
  own-file = record { word = w; savable = whole.savable; file = refl }

  own-size : length (spell_in checked w) ≡ p + 2
  own-size = sealed-length (unsealed w) ∙ ap (λ n. n + 2) (unsealed-length w ∙ sym whole.size)

  -- right before the check
  pub check-right-before : BeginsIn checked s p
  check-right-before = record {
    file = spell_in checked w;
    saved = own-file;
    inside = omega (arith, own-size);
    same = up_to-check
        ∙ sym (take_all p (unsealed w) (omega (arith, unsealed-length w, whole.size)))
        ∙ sym (sealed-front s two p w (omega (arith, whole.size)));
  }

  -- and behind it, where it agrees
  pub check-right-behind : p + 2 ≤ length s → pair_at s p ≡ check (take p s) → BeginsIn checked s (p + 2)
  check-right-behind h q =
      let x = unsealed w in
      let pair = check_of_pair (at s p) (at s (p + 1)) (check x) (bytes p) (q ∙ ap check up_to-check) in
      let tail : drop p s ≡ low (check x) ∷ high (check x) ∷ drop (p + 2) s =
      two_there s p h ∙ ap₂ (λ a b. a ∷ b ∷ drop (p + 2) s) pair.0 pair.1 in
      let sealing : s ≡ spell_in checked w ++ drop (p + 2) s =
      whole.there ∙ ap (λ l. x ++ l) tail ∙ sym (sealed-append x (drop (p + 2) s)) in
      record {
        file = spell_in checked w;
        saved = own-file;
        inside = omega (arith, own-size);
        same = ap (take (p + 2)) sealing
            ∙ take_at (spell_in checked w) (drop (p + 2) s) (p + 2) own-size
            ∙ sym (take_all (p + 2) (spell_in checked w) (omega (arith, own-size)));
      }

  -- a file of edition 2 that begins so is that word's
  only_own : {q : Place} → p ≤ q → (B : BeginsIn checked s q) → B.saved.word ≡ w
  only_own {q} h B =
      let v = B.saved.word in
      let f = spell_in checked v in
      let x = unsealed v in
      let begun : take p f ≡ unsealed w =
      sym (take-take p q f h)
      ∙ ap (take p) (sym (B.same ∙ ap (take q) B.saved.file))
      ∙ take-take p q s h
      ∙ up_to-check in
      let one : f ≡ unsealed w ++ drop p f = sym (take-append-drop p f) ∙ ap (λ l. l ++ drop p f) begun in
      let other : f ≡ unsealed v ++ (low (check x) ∷ high (check x) ∷ []) =
      sym (append-nil f) ∙ sealed-append x [] in
      same_word (1 ∷ drop 1 f) v w _ _ B.saved.savable whole.savable (with_one v _ other) (with_one w _ one)

  pub check-wrong : (pair_at s p ≡ check (take p s) → ⊥) → BeginsIn checked s (p + 2) → ⊥
  check-wrong d B =
      let f = B.file in
      let is : f ≡ spell_in checked w = B.saved.file ∙ ap (spell_in checked) (only_own (omega arith) B) in
      let same : (j : ℕ) → j < p + 2 → at s j ≡ at f j =
      λ j h. sym (get_or-take (p + 2) s j 0 h) ∙ ap (λ l. at l j) B.same ∙ get_or-take (p + 2) f j 0 h in
      let size : length (unsealed w) ≡ p = unsealed-length w ∙ sym whole.size in
      d (ap₂ (λ a b. a + b * 256) (same p (omega arith)) (same (p + 1) (omega arith))
      ∙ ap (λ l. pair_at l p) is
      ∙ pair_of-sealed (unsealed w) p size
      ∙ ap check (sym up_to-check))

  pub left-wrong : BeginsIn checked s (p + 3) → ⊥
  left-wrong B =
      let same = only_own (omega arith) B in
      omega (arith, B.inside, ap {B = ℕ} length (B.saved.file ∙ ap (spell_in checked) same), own-size)
