-- THE BYTES BEFORE A FIELD: numbers that are read stood there in their one spelling, so the bytes up to a field are the spellings of what
-- was read, one behind the other.
use mathlib.Core.Path.{◌≡◌, refl, sym, ap, ◌∙◌}
use mathlib.Core.List.{List, [], ◌∷◌, ◌++◌, append_assoc, append-nil}
use Prim.Native.Nat.{ℕ, ◌+◌, ◌≤◌}
use native.Mathlib.Omega.{arith}
use lib.ListN.{length, take, drop, take-append-drop, length-append}
use lib.Seq.{take_at, take-take, drop-drop}
use Rattle.words.specs.Words.{Word, Place, part}
use Rattle.words.proofs.Words.{part_length}
use Rattle.number.specs.Number.{Bytes, greatest, spell_number}
use Rattle.number.proofs.Theorems.{number_at_stood}
use Rattle.saved.specs.File.{edition, Step, spell_steps, own_steps, Saved}
use Rattle.loaded.specs.Cases.{Reads}
use Rattle.faults.specs.Faults.{LengthAt, CountAt, ArrowsAt, none_read, one-read}
use Rattle.faults.specs.Beginnings.{Begins, Declares}

-- the first p bytes of s are x
pub record Through (s : List ℕ) (p : Place) (x : List ℕ) : Type 0 where
  pub whole : s ≡ x ++ drop p s
  pub size : p ≡ length x

-- ── Spellings one behind the other ─────────────────────────────────────────

-- a word's file up to the number of its arrows
abbrev pub up_to_count : Word → List ℕ
up_to_count w = (spell_number edition ++ spell_number (length w)) ++ w

pub steps-append : (a b : List Step) → spell_steps (a ++ b) ≡ spell_steps a ++ spell_steps b
unfolding spell_steps
steps-append [] b = refl
steps-append (t ∷ a) b =
    ap (λ y. spell_number t.up ++ (spell_number t.over ++ y)) (steps-append a b)
    ∙ ap (λ y. spell_number t.up ++ y) (sym (append_assoc (spell_number t.over) (spell_steps a) (spell_steps b)))
    ∙ sym (append_assoc (spell_number t.up) (spell_number t.over ++ spell_steps a) (spell_steps b))

module _ (s : List ℕ) (bytes : Bytes s) where
  pub start : Through s 0 []
  start = record { whole = refl; size = refl }

  -- behind x stands the spelling of what is read there
  pub on : {i : Place} {x : List ℕ} {v : ℕ} {j : Place} → Through s i x → Reads s i v j → Through s j (x ++ spell_number v)
  on {i} {x} {v} {j} t h =
      let S = number_at_stood s i bytes h in
      record {
        whole = t.whole
            ∙ ap (λ y. x ++ y) S.spelled
            ∙ sym (append_assoc x (spell_number v) (drop j s));
        size = S.next ∙ omega (arith, t.size, length-append x (spell_number v));
      }

  pub small : (i : Place) {v : ℕ} {j : Place} → Reads s i v j → v ≤ greatest
  small i h = (number_at_stood s i bytes h).small

  on_letters : {i : Place} {x : List ℕ} (m : ℕ) → Through s i x → i + m ≤ length s → Through s (i + m) (x ++ part s i m)
  on_letters {i} {x} m t d =
      record {
        whole = t.whole
            ∙ ap (λ y. x ++ y) (sym (take-append-drop m (drop i s)) ∙ ap (λ y. part s i m ++ y) (drop-drop m i s))
            ∙ sym (append_assoc x (part s i m) (drop (i + m) s));
        size = omega (arith, t.size, length-append x (part s i m), part_length s i m d);
      }

  -- ── The fields ───────────────────────────────────────────────────────────

  pub through-edition : {p : Place} → LengthAt s p → Through s p (spell_number edition)
  through-edition h = on start h

  pub through-letters : {w : Word} {p : Place} → CountAt s w p → Through s p (up_to_count w)
  through-letters {w} {p} C =
      let t = on (on start C.length_at) C.length_read in
      let h : C.letters_place + length w ≤ length s = omega (arith, C.place, C.inside) in
      rw (← C.place, ← C.letters) at (on_letters (length w) t h)

  -- n arrows are declared; those that were read are r, and stand before p
  pub record ReadBefore (w : Word) (d : ℕ) (l : List Step) (p : Place) : Type 0 where
    pub n : ℕ
    pub r : List Step
    pub declared : Declares s w n
    pub count : n ≡ length r + d
    pub own : own_steps w ≡ r ++ l
    pub through : Through s p ((up_to_count w ++ spell_number n) ++ spell_steps r)

  pub through-arrows : {w : Word} {d : ℕ} {l : List Step} {p : Place} → ArrowsAt s w d l p → ReadBefore w d l p
  unfolding spell_steps
  through-arrows {w} (none_read {c = c} {n = n} {p = p} C h few) =
      let t = on (through-letters C) h in
      record {
        n = n;
        r = [];
        declared = record { place = c; after = p; count_at = C; count_read = h };
        count = omega arith;
        own = refl;
        through = rw (append-nil (up_to_count w ++ spell_number n)) t;
      }
  through-arrows {w} {d} {l} {p} (one-read {t = t} A h g) =
      let B = through-arrows A in
      let x = up_to_count w ++ spell_number B.n in
      let next : List Step = t ∷ [] in
      let spelled : spell_steps (B.r ++ next) ≡ spell_steps B.r ++ (spell_number t.up ++ spell_number t.over) =
      steps-append B.r next
      ∙ ap (λ y. spell_steps B.r ++ (spell_number t.up ++ y)) (append-nil (spell_number t.over)) in
      let same : ((x ++ spell_steps B.r) ++ spell_number t.up) ++ spell_number t.over ≡ x ++ spell_steps (B.r ++ next) =
      append_assoc (x ++ spell_steps B.r) (spell_number t.up) (spell_number t.over)
      ∙ append_assoc x (spell_steps B.r) (spell_number t.up ++ spell_number t.over)
      ∙ ap (λ y. x ++ y) (sym spelled) in
      record {
        n = B.n;
        r = B.r ++ next;
        declared = B.declared;
        count = omega (arith, B.count, length-append B.r next);
        own = B.own ∙ sym (append_assoc B.r next l);
        through = rw same at (on (on B.through h) g);
      }

-- ── Files that begin so ────────────────────────────────────────────────────

module _ {s : List ℕ} {p : Place} {x : List ℕ} (t : Through s p x) where
  these : take p s ≡ x
  these = ap (take p) t.whole ∙ take_at x (drop p s) p (sym t.size)

  -- a word's file that begins with these bytes
  pub begins : {f : List ℕ} (y : List ℕ) → Saved f → f ≡ x ++ y → Begins s p
  begins {f} y S e = record {
    file = f;
    saved = S;
    inside = omega (arith, t.size, ap {B = ℕ} length e, length-append x y);
    same = these ∙ sym (ap (take p) e ∙ take_at x y p (sym t.size));
  }

  -- and the other way round, of one that begins with as many bytes or more
  pub begins_with : {q : Place} → p ≤ q → (B : Begins s q) → B.file ≡ x ++ drop p B.file
  begins_with {q} h B =
      let same : x ≡ take p B.file = sym these ∙ sym (take-take p q s h) ∙ ap (take p) B.same ∙ take-take p q B.file h in
      sym (take-append-drop p B.file) ∙ ap (λ y. y ++ drop p B.file) (sym same)
