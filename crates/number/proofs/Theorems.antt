-- THE THEOREMS on numbers of the file, each a sentence about the definitions alone: what was spelled is read whatever follows, and what is
-- read stood there in its one spelling. Then the same at a place of a file; and when a number is read, and when 5 or 6 shows, said of the
-- bytes.
use mathlib.Core.Path.{◌≡◌, refl, sym, ap, ◌∙◌}
use mathlib.Core.Logic.{◌⊎◌, inl, inr, ◌↔◌}
use mathlib.Core.List.{List, [], ◌∷◌, ◌++◌, append_assoc}
use Prim.Native.Nat.{ℕ, ◌+◌, ◌≤◌, ◌<◌}
use native.Mathlib.Nat.{zero-add}
use native.Mathlib.Omega.{arith}
use lib.ListN.{length, take, drop, length-drop}
use lib.Seq.{drop-append_seam, drop_at, drop-drop, get_or-drop, length-take-le}
use Rattle.words.specs.Lists.{at}
use Rattle.number.specs.Number.{Bytes, greatest, spell_number, written, Seen, number, ends, refused, see, see_number, placed, number_at}
use Rattle.number.specs.Exactly.{StandsAt, CutOff, BadByte}
use Rattle.number.specs.declared.Cursor.{Cursor}
use Rattle.std.specs.Prelude.{Ok, Err}
use Rattle.answers.specs.declared.Fault.{Fault}
use Rattle.answers.specs.declared.Flaw.{Flaw}
use Rattle.answers.specs.declared.Flaw.TheVariants.{EndsEarly, Misspelled}
use Rattle.number.specs.declared.Number.{Number}
use Rattle.number.proofs.Spelling.{Spells, last, follows, top, spelling-spells, spells_one, spells-bytes, groups-length}
use Rattle.number.proofs.Seeing.{Spellable, see-spells, Stood, see_stood, see-append, Refusable}
use Rattle.number.proofs.Exactly.{Follow, Shape, see_shape, see-ends, see-bad}

whole_spellable : (v : ℕ) → v ≤ greatest → Spellable 0 4 v
unfolding top
whole_spellable v h = record { places = omega arith; below = omega arith; counts = λ g. absurd (omega arith) }

-- ── 1. Spelling and reading ────────────────────────────────────────────────

-- what was spelled is read, whatever follows
pub read-spelled : (v : ℕ) (l : List ℕ) → v ≤ greatest → see_number (spell_number v ++ l) ≡ number v (length (spell_number v))
unfolding see_number
read-spelled v l h = see-spells l (whole_spellable v h) (spelling-spells v h) ∙ ap (number v) (zero-add (length (spell_number v)))

-- at the front of l stands the spelling of v, n bytes long
pub record Stands (l : List ℕ) (v n : ℕ) : Type 0 where
  pub spelled : l ≡ spell_number v ++ drop n l
  pub size : n ≡ length (spell_number v)
  pub small : v ≤ greatest

-- what is read stood there in its one spelling
pub read_stood : {l : List ℕ} {v n : ℕ} → Bytes l → see_number l ≡ number v n → Stands l v n
unfolding see_number top
read_stood {l} {v} {n} bytes e = by (see_stood l bytes (omega arith) e)
  where
    by : Stood 0 4 l v n → Stands l v n
    by s =
        let small : v ≤ greatest = omega (arith, s.fits.below) in
        let one : s.spelling ≡ spell_number v = spells_one s.spells (spelling-spells v small) in
        let size : n ≡ length (spell_number v) = omega (arith, s.count, ap length one) in
        let whole : l ≡ spell_number v ++ s.rest = s.whole ∙ ap (λ y. y ++ s.rest) one in
        let behind : drop n l ≡ s.rest = ap (drop n) whole ∙ drop_at (spell_number v) s.rest n (sym size) in
        record { spelled = whole ∙ ap (λ y. spell_number v ++ y) (sym behind); size = size; small = small }

-- no spelling begins another
pub spelling_prefix_free : {u v : ℕ} {k l : List ℕ} → u ≤ greatest → v ≤ greatest → spell_number u ++ k ≡ spell_number v ++ l
    → (u ≡ v) × (k ≡ l)
spelling_prefix_free {u} {v} {k} {l} h g e =
    let seen : number u (length (spell_number u)) ≡ number v (length (spell_number v)) =
    sym (read-spelled u k h)
    ∙ ap see_number e
    ∙ read-spelled v l g in
    let same : u ≡ v = cc in
    (same, sym (drop-append_seam (spell_number u) k) ∙ rw (e, same) (drop-append_seam (spell_number v) l))

-- one spelling, one number
pub spelling_injective : {u v : ℕ} → u ≤ greatest → v ≤ greatest → spell_number u ≡ spell_number v → u ≡ v
spelling_injective h g e = (spelling_prefix_free {k = []} {l = []} h g (ap (λ y. y ++ []) e)).0

-- bytes behind change nothing, unless the bytes before them end too soon
pub read-append : (l r : List ℕ) → (see_number l ≡ ends) ⊎ (see_number (l ++ r) ≡ see_number l)
unfolding see_number
read-append l r = see-append 0 l r

-- ── 2. The spelling by itself ──────────────────────────────────────────────

module _ (v : ℕ) where
  -- it has one to five bytes
  pub spelling-length : (1 ≤ length (spell_number v)) × (length (spell_number v) ≤ 5)
  unfolding spell_number
  spelling-length = groups-length 4 v

  -- below 128 one, which is the number
  pub spelling-single : v < 128 → spell_number v ≡ v ∷ []
  spelling-single h = spells_one (spelling-spells v (omega arith)) (last h)

  -- below 16384 at most two
  pub spelling-short : v < 16384 → length (spell_number v) ≤ 2
  spelling-short h = by (spelling-spells v (omega arith))
    where
      by : {l : List ℕ} → Spells v l → length l ≤ 2
      by (last g) = omega arith
      by (follows g (last f)) = omega arith
      by (follows g (follows f s)) = absurd (omega arith)

  -- they are bytes
  pub spelling-bytes : v ≤ greatest → Bytes (spell_number v)
  spelling-bytes h = spells-bytes (spelling-spells v h)

-- ── 3. At a place of a file ────────────────────────────────────────────────

-- v is read at place i
abbrev pub ReadAt : List ℕ → ℕ → ℕ → Type 0
ReadAt s i v = number_at s i ≡ Ok (record { value = v; next = record { at = i + length (spell_number v) } })

module _ (s : List ℕ) (i : ℕ) where
  -- a number that stands there is read
  pub number_at-spelled : (v : ℕ) (l : List ℕ) → v ≤ greatest → drop i s ≡ spell_number v ++ l → ReadAt s i v
  unfolding number_at
  number_at-spelled v l h e = rw (e, read-spelled v l h)

  -- one that was written there, too
  pub number_at-written : (v : ℕ) → v ≤ greatest → i + length (spell_number v) ≤ length s → ReadAt (written s i v) i v
  unfolding number_at written
  number_at-written v h r =
      let rest = drop (i + length (spell_number v)) s in
      let split = drop_at (take i s) (spell_number v ++ rest) i (length-take-le i s (omega arith)) in
      rw (append_assoc (take i s) (spell_number v) rest, split, read-spelled v rest h)

  -- a number that is read was seen, and ends so many bytes further on
  pub placed-value : (g : Seen) {r : Number} → placed s i g ≡ Ok r → (n : ℕ) × (g ≡ number r.value n) × (r.next.at ≡ i + n)
  placed-value (number v n) {r} e =
      let same : record { value = v; next = record { at = i + n } } ≡ r = cc in
      (n, ap (λ r. number r.value n) same, sym (ap (λ r. r.next.at) same))
  placed-value ends e = let z : ◌≡◌ {A = ℕ} 0 1 = cc in absurd (omega arith)
  placed-value (refused n) e = let z : ◌≡◌ {A = ℕ} 0 1 = cc in absurd (omega arith)

  -- a number that is read has at least one byte, and ends within the file
  pub number_at-inside : {r : Number} → number_at s i ≡ Ok r → (i < r.next.at) × (r.next.at ≤ length s)
  unfolding number_at see_number
  number_at-inside {r} e =
      let f = placed-value (see_number (drop i s)) e in
      let within : Shape 0 (drop i s) (number r.value f.0) = rw f.1 at (see_shape 0 (drop i s) (omega arith)) in
      (omega (arith, f.2, within.0), omega (arith, f.2, within.1, length-drop i s))

  -- what is read stood there
  pub number_at_stood : {r : Number} → Bytes s → number_at s i ≡ Ok r → StandsAt s i r.value r.next
  unfolding number_at see_number
  number_at_stood {r} bytes e =
      let f = placed-value (see_number (drop i s)) e in
      let stood = read_stood {l = drop i s} (λ j. rw (get_or-drop i s j 0) (bytes (i + j))) f.1 in
      record {
        spelled = stood.spelled
            ∙ ap (λ y. spell_number r.value ++ y) (drop-drop f.0 i s)
            ∙ ap (λ j. spell_number r.value ++ drop j s) (sym f.2);
        next = f.2 ∙ ap (λ n. i + n) stood.size;
        inside = (number_at-inside e).1;
        small = stood.small;
      }

  abbrev pub cut_fault : Fault
  cut_fault = record { flaw = EndsEarly; place = length s }

  abbrev pub byte_fault : ℕ → Fault
  byte_fault p = record { flaw = Misspelled; place = p }

  -- 5 at the file's end, or 6 at a byte, and the bytes are as they have to be for it
  abbrev pub Refusal : Fault → Type 0
  Refusal f = ((f ≡ cut_fault) × CutOff s i) ⊎ ((f ≡ byte_fault f.place) × BadByte s i f.place)

  -- nothing else is refused
  pub number_at-refused : {f : Fault} → number_at s i ≡ Err f → Refusal f
  unfolding number_at see_number
  number_at-refused {f} q = by (see 0 (drop i s)) (see_shape 0 (drop i s) (omega arith)) q
    where
      by : (g : Seen) → Shape 0 (drop i s) g → placed s i g ≡ Err f → Refusal f
      by (number v n) w q = let z : ◌≡◌ {A = ℕ} 0 1 = cc in absurd (omega arith)
      by ends w q = inl (
        cc,
        record {
          few = omega (arith, w.0, length-drop i s);
          follow = λ k h. rw (get_or-drop i s k 0) at (w.1 k (omega (arith, length-drop i s)));
        },
      )
      by (refused n) w q =
          let same : f ≡ byte_fault (i + n) = cc in
          let place : f.place ≡ i + w.before = ap (λ f. f.place) same ∙ omega (arith, w.place) in
          let size : n ≡ w.before = omega (arith, w.place) in
          inr (
            same ∙ ap byte_fault (sym (ap (λ f. f.place) same)),
            record {
              before = w.before;
              place = place;
              inside = omega (arith, w.inside, length-drop i s);
              few = omega (arith, w.few);
              follow = λ k h. rw (get_or-drop i s k 0) at (w.follow k h);
              bad = rw place (rw (size, get_or-drop i s w.before 0) at w.bad);
            },
          )

  -- ── 4. Exactly when ──────────────────────────────────────────────────────

  -- 5 shows exactly if the file ends before or inside the number
  pub cut-exactly : (number_at s i ≡ Err cut_fault) ↔ CutOff s i
  unfolding number_at see_number
  cut-exactly = (λ e. told refl (number_at-refused e), λ c. rw (see-ends 0 (drop i s) (size c) (follow c)))
    where
      told : {f : Fault} → f.flaw ≡ EndsEarly → Refusal f → CutOff s i
      told e (inl q) = q.1
      told e (inr q) = let z : ◌≡◌ {A = Flaw} EndsEarly Misspelled = sym e ∙ ap (λ f. f.flaw) q.0 in absurd cc

      size : CutOff s i → 0 + length (drop i s) ≤ 4
      size c = omega (arith, c.few, length-drop i s)

      follow : CutOff s i → Follow (drop i s) (length (drop i s))
      follow c k h = rw (get_or-drop i s k 0) (c.follow k (omega (arith, length-drop i s)))

  -- 6 shows at a place exactly if the byte there is refused
  pub bad-exactly : (p : ℕ) → (number_at s i ≡ Err (byte_fault p)) ↔ BadByte s i p
  unfolding number_at see_number
  bad-exactly p = (λ e. told refl (number_at-refused e), shown)
    where
      told : {f : Fault} → f.flaw ≡ Misspelled → Refusal f → BadByte s i f.place
      told e (inl q) = let z : ◌≡◌ {A = Flaw} Misspelled EndsEarly = sym e ∙ ap (λ f. f.flaw) q.0 in absurd cc
      told e (inr q) = q.1

      shown : BadByte s i p → placed s i (see 0 (drop i s)) ≡ Err (byte_fault p)
      shown b =
          let n = b.before in
          let bad : Refusable n (at (drop i s) n) = rw (get_or-drop i s n 0, ← b.place) b.bad in
          let follow : Follow (drop i s) n = λ k h. rw (get_or-drop i s k 0) (b.follow k h) in
          let seen = see-bad 0 n (drop i s) (omega arith) b.few (omega (arith, b.inside, b.place, length-drop i s)) follow bad in
          rw (seen, b.place)

  -- v is read exactly if its one spelling stands there
  pub value-exactly : {v : ℕ} {c : Cursor} → Bytes s → (number_at s i ≡ Ok (record { value = v; next = c })) ↔ StandsAt s i v c
  value-exactly {v} {c} bytes = (λ e. number_at_stood bytes e, λ S. number_at-spelled v _ S.small S.spelled ∙ rw S.next)
