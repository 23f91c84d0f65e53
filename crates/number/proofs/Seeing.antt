-- WHAT BYTES SHOW AND WHAT SPELLS A NUMBER: a number is seen exactly where a spelling of it stands. The bytes stand behind n others of
-- their number, and k more may follow the first of them, n + k being 4.
use mathlib.Core.Path.{◌≡◌, refl, sym, ap, ◌∙◌}
use mathlib.Core.Logic.{◌⊎◌, inl, inr}
use mathlib.Core.Bool.{Bool, true, false, ◌&&◌, ◌||◌, or-true, true≢false}
use mathlib.Core.List.{List, [], ◌∷◌, ◌++◌}
use Prim.Native.Nat.{ℕ, zero, suc, ◌+◌, ◌*◌, ◌/◌, ◌%◌, ◌≤◌, ◌<◌}
use native.Mathlib.Decide.{dec_lt}
use native.Mathlib.Omega.{arith}
use lib.ListN.{length}
use lib.Dec.{eqb, ltb}
use borrow.Author.Tests.{ltb-true, lt-ltb, le-ltb, eqb-true, eq-eqb}
use Rattle.words.proofs.Lists.{and_true}
use Rattle.number.specs.Number.{Bytes, refuses, Seen, number, ends, refused, with_group, see}
use Rattle.number.proofs.Spelling.{Spells, last, follows, spells-follow, top, top_least}

-- ── One byte ───────────────────────────────────────────────────────────────

-- b is not refused behind n others: it is no zero if there are any, and no more than 15 if there are four
pub record Passes (n b : ℕ) : Type 0 where
  pub counts : 0 < n → 0 < b
  pub small : n ≡ 4 → b ≤ 15

-- it is a zero behind others, or the fifth and above 15
abbrev pub Refusable : ℕ → ℕ → Type 0
Refusable n b = ((0 < n) × (b ≡ 0)) ⊎ ((n ≡ 4) × (15 < b))

-- such a byte is refused
pub refuses_when : {n b : ℕ} → Refusable n b → refuses n b ≡ true
unfolding refuses
refuses_when {n} {b} (inl q) = rw (lt-ltb 0 n q.0, eq-eqb b 0 q.1)
refuses_when {n} {b} (inr q) = rw (eq-eqb n 4 q.0, lt-ltb 15 b q.1, or-true (ltb 0 n && eqb b 0))

-- and no other is
pub refuses_why : {n b : ℕ} → refuses n b ≡ true → Refusable n b
unfolding refuses
refuses_why {n} {b} e = by (ltb 0 n && eqb b 0) (eqb n 4 && ltb 15 b) refl refl e
  where
    by : (x y : Bool) → (ltb 0 n && eqb b 0) ≡ x → (eqb n 4 && ltb 15 b) ≡ y → x || y ≡ true → Refusable n b
    by true y f g h = let q = and_true {a = ltb 0 n} f in inl (ltb-true 0 n q.0, eqb-true b 0 q.1)
    by false true f g h = let q = and_true {a = eqb n 4} g in inr (eqb-true n 4 q.0, ltb-true 15 b q.1)
    by false false f g h = absurd (true≢false (sym h))

-- so what passes is not refused
pub refuses_not : {n b : ℕ} → Passes n b → refuses n b ≡ false
refuses_not {n} {b} p = by (refuses n b) refl
  where
    clash : Refusable n b → ⊥
    clash (inl q) = omega (arith, p.counts q.0)
    clash (inr q) = omega (arith, p.small q.0)

    by : (t : Bool) → refuses n b ≡ t → t ≡ false
    by true e = absurd (clash (refuses_why e))
    by false e = refl

-- and what is not refused passes
pub refuses-told : {n b : ℕ} → refuses n b ≡ false → Passes n b
refuses-told {n} {b} e = record { counts = λ h. counted h (dec_lt 0 b); small = λ h. smaller h (dec_lt 15 b) }
  where
    never : {X : Type 0} → Refusable n b → X
    never r = absurd (true≢false (sym (refuses_when r) ∙ e))

    counted : 0 < n → Dec (0 < b) → 0 < b
    counted h (yes g) = g
    counted h (no g) = never (inl (h, omega arith))

    smaller : n ≡ 4 → Dec (15 < b) → b ≤ 15
    smaller h (yes g) = never (inr (h, g))
    smaller h (no g) = omega arith

-- a byte is refused, or ends the number, or is followed by another
pub data Kind (n b : ℕ) : Type 0 where
  is_refused : refuses n b ≡ true → Kind n b
  is_last : Passes n b → b < 128 → Kind n b
  is_followed : Passes n b → 128 ≤ b → Kind n b

-- one of the three
pub kind_of_lem : (n b : ℕ) → Kind n b
kind_of_lem n b = by (refuses n b) refl (dec_lt b 128)
  where
    by : (t : Bool) → refuses n b ≡ t → Dec (b < 128) → Kind n b
    by true e d = is_refused e
    by false e (yes h) = is_last (refuses-told e) h
    by false e (no h) = is_followed (refuses-told e) (omega arith)

-- what is seen at a byte of each kind
pub see-refused : (n b : ℕ) (l : List ℕ) → refuses n b ≡ true → see n (b ∷ l) ≡ refused n
unfolding see
see-refused n b l e = rw e

module _ {n b : ℕ} (l : List ℕ) (p : Passes n b) where
  pub see-last : b < 128 → see n (b ∷ l) ≡ number b (suc n)
  unfolding see
  see-last h = rw (refuses_not p, lt-ltb b 128 h)

  pub see-follows : 128 ≤ b → see n (b ∷ l) ≡ with_group (b % 128) (see (suc n) l)
  unfolding see
  see-follows h = rw (refuses_not p, le-ltb b 128 h)

-- ── A spelling is seen ─────────────────────────────────────────────────────

-- v can be spelled behind n others, in its next byte and k more
pub record Spellable (n k v : ℕ) : Type 0 where
  pub places : n + k ≡ 4
  pub below : v < top k
  pub counts : 0 < n → 0 < v

-- a last byte that passes, and the number that it is
spellable_passes : {n k v : ℕ} → Spellable n k v → Passes n v
unfolding top
spellable_passes {k = zero} f = record { counts = f.counts; small = λ e. omega arith }
spellable_passes {k = suc k} f = record { counts = f.counts; small = λ e. absurd (omega arith) }

passes_spellable : {n v : ℕ} (k : ℕ) → n + k ≡ 4 → Passes n v → v < 128 → Spellable n k v
unfolding top
passes_spellable zero q p h = record { places = q; below = omega (arith, p.small (omega arith)); counts = p.counts }
passes_spellable (suc k) q p h = record { places = q; below = omega (arith, top_least k); counts = p.counts }

-- from 128 on the first byte passes, and the rest can be spelled behind it
spellable_follow : {n k v : ℕ} → Spellable n k v → 128 ≤ v → (j : ℕ) × Spellable (suc n) j (v / 128) × Passes n (128 + v % 128)
unfolding top
spellable_follow {k = zero} f h = absurd (omega arith)
spellable_follow {k = suc k} f h = (
  k,
  record { places = omega arith; below = omega arith; counts = λ _. omega arith },
  record { counts = λ _. omega arith; small = λ e. absurd (omega arith) },
)

-- and the other way round
follow_spellable : {n k u : ℕ} (b : ℕ) → 128 ≤ b → Spellable (suc n) k u → Spellable n (suc k) (b % 128 + 128 * u)
unfolding top
follow_spellable b h f =
    record { places = omega arith; below = omega (arith, f.below); counts = λ _. omega (arith, f.counts (omega arith)) }

-- what was spelled is seen, whatever follows
pub see-spells : {n k v : ℕ} {l : List ℕ} (r : List ℕ) → Spellable n k v → Spells v l → see n (l ++ r) ≡ number v (n + length l)
see-spells {n = n} r f (last {v = v} h) = let e : n + 1 ≡ suc n = omega arith in see-last r (spellable_passes f) h ∙ rw e
see-spells {n = n} r f (follows {v = v} {l = l} h s) =
    let g = spellable_follow f h in
    let e : (128 + v % 128) % 128 + 128 * (v / 128) ≡ v = omega arith in
    let c : suc n + length l ≡ n + suc (length l) = omega arith in
    see-follows (l ++ r) g.2 (omega arith)
    ∙ ap (with_group ((128 + v % 128) % 128)) (see-spells {n = suc n} r g.1 s)
    ∙ rw (e, c)

-- ── What is seen was spelled ───────────────────────────────────────────────

-- at the front of l stands a spelling of v, whose last byte is the m-th of the number
pub record Stood (n k : ℕ) (l : List ℕ) (v m : ℕ) : Type 0 where
  pub spelling : List ℕ
  pub rest : List ℕ
  pub spells : Spells v spelling
  pub whole : l ≡ spelling ++ rest
  pub count : m ≡ n + length spelling
  pub fits : Spellable n k v

stood_follows : {n k u m b : ℕ} {l : List ℕ} → 128 ≤ b → b < 256 → Stood (suc n) k l u m → Stood n (suc k) (b ∷ l) (b % 128 + 128 * u) m
stood_follows {u = u} {b = b} h g s =
    let z : 0 < u = s.fits.counts (omega arith) in
    record {
      spelling = b ∷ s.spelling;
      rest = s.rest;
      spells = spells-follow h g z s.spells;
      whole = ap (λ y. b ∷ y) s.whole;
      count = omega (arith, s.count);
      fits = follow_spellable b h s.fits;
    }

group_number : (x : ℕ) (s : Seen) {v m : ℕ} → with_group x s ≡ number v m → (u : ℕ) × (s ≡ number u m) × (v ≡ x + 128 * u)
group_number x (number u m) e = (u, cc, cc)
group_number x ends e = let z : ◌≡◌ {A = ℕ} 0 1 = cc in absurd (omega arith)
group_number x (refused m) e = let z : ◌≡◌ {A = ℕ} 0 1 = cc in absurd (omega arith)

-- where a number is seen a spelling of it stood
pub see_stood : {n k v m : ℕ} (l : List ℕ) → Bytes l → n + k ≡ 4 → see n l ≡ number v m → Stood n k l v m
unfolding see
see_stood [] bytes q e = let z : ◌≡◌ {A = ℕ} 0 1 = cc in absurd (omega arith)
see_stood {n} {k} {v} {m} (b ∷ l) bytes q e =
    by (kind_of_lem n b) k q (λ j u r f. see_stood {n = suc n} {k = j} {v = u} {m = m} l (λ i. bytes (suc i)) r f)
  where
    Later : Type 0
    Later = (j u : ℕ) → suc n + j ≡ 4 → see (suc n) l ≡ number u m → Stood (suc n) j l u m

    by : Kind n b → (k : ℕ) → n + k ≡ 4 → Later → Stood n k (b ∷ l) v m
    by (is_refused r) k q later =
        let f : refused n ≡ number v m = sym (see-refused n b l r) ∙ e in
        let z : ◌≡◌ {A = ℕ} 0 1 = cc in
        absurd (omega arith)
    by (is_last p h) k q later =
        let f : number b (suc n) ≡ number v m = sym (see-last l p h) ∙ e in
        let w : v ≡ b = cc in
        let c : m ≡ suc n = cc in
        record {
          spelling = b ∷ [];
          rest = l;
          spells = rw w (last h);
          whole = refl;
          count = omega arith;
          fits = rw w (passes_spellable k q p h);
        }
    by (is_followed p h) zero q later = absurd (omega (arith, p.small (omega arith)))
    by (is_followed p h) (suc k) q later =
        let f = group_number (b % 128) (see (suc n) l) (sym (see-follows l p h) ∙ e) in
        rw f.2 (stood_follows h (bytes 0) (later k f.0 (omega arith) f.1))

-- ── More bytes ─────────────────────────────────────────────────────────────

-- bytes behind change nothing, unless the bytes before them end too soon
pub see-append : (n : ℕ) (l r : List ℕ) → (see n l ≡ ends) ⊎ (see n (l ++ r) ≡ see n l)
unfolding see
see-append n [] r = inl refl
see-append n (b ∷ l) r = by (kind_of_lem n b) (see-append (suc n) l r)
  where
    by : Kind n b → (see (suc n) l ≡ ends) ⊎ (see (suc n) (l ++ r) ≡ see (suc n) l)
        → (see n (b ∷ l) ≡ ends) ⊎ (see n (b ∷ l ++ r) ≡ see n (b ∷ l))
    by (is_refused e) o = inr (see-refused n b (l ++ r) e ∙ sym (see-refused n b l e))
    by (is_last p h) o = inr (see-last (l ++ r) p h ∙ sym (see-last l p h))
    by (is_followed p h) (inl e) = inl (see-follows l p h ∙ ap (with_group (b % 128)) e)
    by (is_followed p h) (inr e) = inr (rw (see-follows (l ++ r) p h, see-follows l p h, e))
