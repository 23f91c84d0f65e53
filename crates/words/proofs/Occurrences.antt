-- Laws of `stands` and `occurrences`: the list of occurrences rises, and holds a place exactly where the word stands within the text. Both
-- follow from what `only` keeps of `from`; so does what the list is from a place on.
use mathlib.Core.Path.{◌≡◌, sym, ap, ◌∙◌}
use mathlib.Core.Bool.{true, false, not-eq-not}
use mathlib.Core.List.{List, [], ◌∷◌, Memᴰ}
use Prim.Native.Nat.{ℕ, suc, ◌+◌, ◌-◌, ◌≤◌, ◌<◌}
use native.Mathlib.Nat.{zero-add}
use native.Mathlib.Omega.{arith}
use lib.ListN.{length, length-take, length-drop}
use lib.Seq.{ext_get_or}
use Rattle.words.specs.Lists.{from, only, Rising}
use Rattle.words.specs.Words.{Word, Place, letter, part, stands, occurrences}
use Rattle.words.proofs.Lists.{only_yes, only_in, in_only, only_later, only_none, from_in, in_from, rising_from}
use Rattle.words.proofs.Lists.{only_few, from_length}
use Rattle.words.proofs.Words.{same_true, same_refl, part_length, part_at}

-- ── stands ─────────────────────────────────────────────────────────────────

module _ (v t : Word) (s : Place) where
  pub stands-part : stands v t s ≡ true → part t s (length v) ≡ v
  unfolding stands
  stands-part e = same_true (part t s (length v)) v e

  pub part-stands : part t s (length v) ≡ v → stands v t s ≡ true
  unfolding stands
  part-stands e = rw e (same_refl v)

  -- what stands somewhere ends within the text
  pub stands-inside : 1 ≤ length v → stands v t s ≡ true → s + length v ≤ length t
  stands-inside h e =
      let l : length (part t s (length v)) ≡ length v = ap length (stands-part e) in
      omega (arith, simp (length-take, length-drop) at l)

  -- it stands where its letters do
  pub stands-letters : stands v t s ≡ true → (i : ℕ) → i < length v → letter t (s + i) ≡ letter v i
  stands-letters e i l = sym (part_at t s (length v) i l) ∙ ap (λ (p : Word). letter p i) (stands-part e)

  pub letters_stand : s + length v ≤ length t → ((i : ℕ) → i < length v → letter t (s + i) ≡ letter v i) → stands v t s ≡ true
  letters_stand h f =
      let size = part_length t s (length v) h in
      part-stands (ext_get_or 0 _ v size (λ i l. part_at t s (length v) i (rw size at l) ∙ f i (rw size at l)))

-- ── occurrences ────────────────────────────────────────────────────────────

module _ (v t : Word) where
  pub occurrence_stands : (s : Place) → Memᴰ s (occurrences v t) → (s + length v ≤ length t) × (stands v t s ≡ true)
  unfolding occurrences
  occurrence_stands s m =
      let r = only_in (stands v t) _ m in
      let b = from_in 0 _ r.0 in
      (omega arith, r.1)

  pub standing_occurs : (s : Place) → s + length v ≤ length t → stands v t s ≡ true → Memᴰ s (occurrences v t)
  unfolding occurrences
  standing_occurs s h e = in_only (stands v t) _ (in_from 0 _ s (omega arith) (omega arith)) e

  pub occurrences_rise : Rising 0 (occurrences v t)
  unfolding occurrences
  occurrences_rise = rising_from (stands v t) 0 _

  -- no more than there are places at which the word ends within the text
  pub occurrences-few : length (occurrences v t) ≤ suc (length t) - length v
  unfolding occurrences
  occurrences-few =
      let tried = suc (length t) - length v in
      omega (arith, only_few (stands v t) (from 0 tried), from_length 0 tried)

-- ── From a place on ────────────────────────────────────────────────────────

module _ (v t : Word) where
  -- the occurrences from place s on
  abbrev pub since : Place → List Place
  since s = only (stands v t) (from s (suc (length t) - (s + length v)))

  pub since-start : since 0 ≡ occurrences v t
  unfolding occurrences
  since-start = rw (zero-add (length v))

  -- none, where the word no longer fits
  pub since-past : (s : Place) → length t < s + length v → since s ≡ []
  since-past s h = only_none (stands v t) s (suc (length t) - (s + length v)) (λ j l u. absurd (omega arith))

  -- the first of them is s, where the word stands there
  pub since-here : (s : Place) → s + length v ≤ length t → stands v t s ≡ true → since s ≡ s ∷ since (suc s)
  unfolding from
  since-here s h e =
      let q : suc (length t) - (s + length v) ≡ suc (suc (length t) - (suc s + length v)) = omega arith in
      rw (q, from) (only_yes (stands v t) s _ e)

  -- they are those from s' on, where the word stands nowhere before s'
  pub since-later : (s s' : Place) → s ≤ s' → ((j : Place) → s ≤ j → j < s' → stands v t j ≡ true → ⊥) → since s ≡ since s'
  since-later s s' h f =
      let k = suc (length t) - (s + length v) in
      let q : s + (s' - s) ≡ s' = omega arith in
      let c : k - (s' - s) ≡ suc (length t) - (s' + length v) = omega arith in
      rw (q, c) at (only_later (stands v t) (s' - s) s k (λ j l u. (not-eq-not {b = false}).0 (f j l (omega arith))))
