-- A NUMBER'S VALUE SAYS HOW MANY BYTES IT TAKES, so where the same was declared before it, a field stands at the same place. A value below
-- 128 is one group; a greater one has a group and, above 0, what the bytes behind it show: by induction on these, both take equally many.
use mathlib.Core.Path.{◌≡◌, refl, sym, ap, ◌∙◌}
use mathlib.Core.Logic.{inl, inr}
use mathlib.Core.List.{List, [], ◌∷◌}
use Prim.Native.Nat.{ℕ, suc, ◌+◌, ◌*◌, ◌%◌, ◌<◌}
use native.Mathlib.Omega.{arith}
use lib.ListN.{drop}
use Rattle.words.specs.Lists.{at}
use Rattle.words.specs.Words.{Place}
use Rattle.number.specs.Number.{Seen, number, ends, refused, with_group, refuses, see, see_number, number_at}
use Rattle.number.specs.declared.Number.{Number}
use Rattle.number.proofs.Theorems.{placed-value}
use Rattle.number.proofs.Seeing.{Kind, is_refused, is_last, is_followed, kind_of_lem, see-refused, see-last, see-follows}
use Rattle.saved.specs.File.{edition}
use Rattle.saved.proofs.Spelled.{edition-number}
use Rattle.loaded.specs.Load.{letters}
use Rattle.loaded.specs.Cases.{Reads, FrontCase, letters-there}
use Rattle.editions.specs.Either.{as_plain}
use Rattle.editions.specs.EitherCases.{EditionRead}
use Rattle.editions.proofs.AsPlain.{as_other, by_edition}
use Rattle.editions.proofs.Coding.{one-read}
use Rattle.editions.proofs.Theorems.{two_read}

-- how v is shown by bytes that stand behind n others and take k with them: by one group, or by a group and the bytes behind it
data Grouped (n v k : ℕ) : List ℕ → Type 0 where
  single : {b : ℕ} {l : List ℕ} → v < 128 → (0 < n → 0 < v) → k ≡ suc n → Grouped n v k (b ∷ l)
  several : {b : ℕ} {l : List ℕ} (x u : ℕ) → x < 128 → v ≡ x + 128 * u → see (suc n) l ≡ number u k → Grouped n v k (b ∷ l)

seen_grouped : (n : ℕ) (l : List ℕ) {v k : ℕ} → see n l ≡ number v k → Grouped n v k l
unfolding see
seen_grouped n [] e = let z : ◌≡◌ {A = ℕ} 0 1 = cc in absurd (omega arith)
seen_grouped n (b ∷ l) {v} {k} e = by (kind_of_lem n b)
  where
    behind : (g : Seen) → see (suc n) l ≡ g → with_group (b % 128) g ≡ number v k → Grouped n v k (b ∷ l)
    behind (number u m) s q =
        let value : v ≡ b % 128 + 128 * u = cc in
        let end : m ≡ k = cc in
        several (b % 128) u (omega arith) value (s ∙ ap (number u) end)
    behind ends s q = let z : ◌≡◌ {A = ℕ} 0 1 = cc in absurd (omega arith)
    behind (refused m) s q = let z : ◌≡◌ {A = ℕ} 0 1 = cc in absurd (omega arith)

    by : Kind n b → Grouped n v k (b ∷ l)
    by (is_refused r) = let q = sym (see-refused n b l r) ∙ e in let z : ◌≡◌ {A = ℕ} 0 1 = cc in absurd (omega arith)
    by (is_last p h) =
        let q : number b (suc n) ≡ number v k = sym (see-last l p h) ∙ e in
        let same : v ≡ b = cc in
        single (omega arith) (λ g. rw same (p.counts g)) cc
    by (is_followed p h) = behind (see (suc n) l) refl (sym (see-follows l p h) ∙ e)

-- behind others no number is 0
above_0 : (n : ℕ) (l : List ℕ) (v k : ℕ) → see (suc n) l ≡ number v k → 0 < v
above_0 n [] v k e = elim (seen_grouped (suc n) [] e) [ ]
above_0 n (b ∷ l) v k e = by (seen_grouped (suc n) (b ∷ l) e) (λ u. above_0 (suc n) l u k)
  where
    by : Grouped (suc n) v k (b ∷ l) → ((u : ℕ) → see (suc (suc n)) l ≡ number u k → 0 < u) → 0 < v
    by (single h c q) later = c (omega arith)
    by (several x u h q s) later = omega (arith, later u s)

-- the same value takes equally many bytes
see_width : (n : ℕ) (l l' : List ℕ) (v k k' : ℕ) → see n l ≡ number v k → see n l' ≡ number v k' → k ≡ k'
see_width n [] l' v k k' e e' = elim (seen_grouped n [] e) [ ]
see_width n (b ∷ l) [] v k k' e e' = elim (seen_grouped n [] e') [ ]
see_width n (b ∷ l) (b' ∷ l') v k k' e e' =
    by (seen_grouped n (b ∷ l) e) (seen_grouped n (b' ∷ l') e') (λ u. see_width (suc n) l l' u k k')
  where
    by : Grouped n v k (b ∷ l) → Grouped n v k' (b' ∷ l')
        → ((u : ℕ) → see (suc n) l ≡ number u k → see (suc n) l' ≡ number u k' → k ≡ k') → k ≡ k'
    by (single h c q) (single h' c' q') later = q ∙ sym q'
    by (single h c q) (several x u g r s) later = absurd (omega (arith, above_0 n l' u k' s))
    by (several x u g r s) (single h c q) later = absurd (omega (arith, above_0 n l u k s))
    by (several x u g r s) (several x' u' g' r' s') later = let same : u' ≡ u = omega arith in later u s (rw same at s')

-- a number below 128 is its first byte
see-small : (l : List ℕ) {v k : ℕ} → see 0 l ≡ number v k → v < 128 → at l 0 ≡ v
unfolding see
see-small [] e h = let z : ◌≡◌ {A = ℕ} 0 1 = cc in absurd (omega arith)
see-small (b ∷ l) {v} {k} e h = by (kind_of_lem 0 b)
  where
    behind : (g : Seen) → see 1 l ≡ g → with_group (b % 128) g ≡ number v k → b ≡ v
    behind (number u m) s q =
        let value : v ≡ b % 128 + 128 * u = cc in
        absurd (omega (arith, above_0 0 l u m s))
    behind ends s q = let z : ◌≡◌ {A = ℕ} 0 1 = cc in absurd (omega arith)
    behind (refused m) s q = let z : ◌≡◌ {A = ℕ} 0 1 = cc in absurd (omega arith)

    by : Kind 0 b → b ≡ v
    by (is_refused r) = let q = sym (see-refused 0 b l r) ∙ e in let z : ◌≡◌ {A = ℕ} 0 1 = cc in absurd (omega arith)
    by (is_last p g) = let q : number b 1 ≡ number v k = sym (see-last l p g) ∙ e in cc
    by (is_followed p g) = behind (see 1 l) refl (sym (see-follows l p g) ∙ e)

-- ── Fields ─────────────────────────────────────────────────────────────────

module _ (s s' : List ℕ) where
  -- the same number, read at the same place of two files, ends at the same place
  pub reads-same-place : (i : Place) {v : ℕ} {j j' : Place} → Reads s i v j → Reads s' i v j' → j ≡ j'
  unfolding number_at see_number
  reads-same-place i {v} h h' =
      let r = placed-value s i (see 0 (drop i s)) h in
      let r' = placed-value s' i (see 0 (drop i s')) h' in
      let width : r.0 ≡ r'.0 = see_width 0 (drop i s) (drop i s') v r.0 r'.0 r.1 r'.1 in
      r.2 ∙ ap (λ (k : ℕ). i + k) width ∙ sym r'.2

  -- and so the letters of two files that have equally many stand at the same place
  pub letters-same-place : {m : ℕ} {i i' : Place} → FrontCase s (letters m i) → FrontCase s' (letters m i') → i ≡ i'
  letters-same-place (letters-there {i = e} a b l k d) (letters-there a' b' l' k' d') =
      reads-same-place e b (rw (sym (reads-same-place 0 a a')) at b')

-- ── The edition ────────────────────────────────────────────────────────────

module _ (s : List ℕ) where
  -- the number 2 is the byte 2
  pub two_first : {j : Place} → Reads s 0 2 j → at s 0 ≡ 2
  unfolding number_at see_number
  two_first h = let r = placed-value s 0 (see 0 s) h in see-small s r.1 (omega arith)

  -- where 1 is read, 2 is not
  pub one_not_two : {j : Place} → Reads s 0 1 j → at s 0 ≡ 2 → ⊥
  one_not_two {j} h e =
      let q = sym h ∙ two_read s 0 e in
      let one : Number = record { value = 1; next = record { at = j } } in
      let two : Number = record { value = 2; next = record { at = 1 } } in
      let same : one ≡ two = cc in
      let z : ◌≡◌ {A = ℕ} 1 2 = ap (λ (r : Number). r.value) same in
      omega arith

  one-alone : {l : List ℕ} → l ≡ 1 ∷ [] → Reads l 0 1 1
  unfolding refuses see see_number number_at
  one-alone e = rw e

  -- the number of edition 1 is one of the two
  pub first-edition : {i : Place} → Reads s 0 edition i → EditionRead s i
  first-edition h = inl (rw edition-number at h)

  -- an edition's number takes one byte
  pub edition_one_byte : {i : Place} → EditionRead s i → i ≡ 1
  edition_one_byte (inl h) = reads-same-place s (1 ∷ []) 0 h (one-alone refl)
  edition_one_byte (inr h) = reads-same-place s s 0 h (two_read s 0 (two_first h))

  -- as edition 1 has it, it is read too
  pub edition-plain : {i : Place} → EditionRead s i → Reads (as_plain s 0) 0 edition i
  edition-plain (inl h) = rw (as_other s 0 (one_not_two h), edition-number) h
  edition-plain (inr h) = rw (edition_one_byte (inr h)) (one-read s 0 (two_first h))

  pub plain-edition : {i : Place} → Reads (as_plain s 0) 0 edition i → EditionRead s i
  plain-edition {i} h = by_edition s 0 checked-one (λ d. inl (rw (as_other s 0 d, edition-number) at h))
    where
      checked-one : at s 0 ≡ 2 → EditionRead s i
      checked-one two =
          let place : 0 + 1 ≡ i = reads-same-place (as_plain s 0) (as_plain s 0) 0 (one-read s 0 two) h in
          inr (rw place at (two_read s 0 two))
