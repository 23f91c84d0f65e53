-- Lists in which nothing stands twice. Such a list is no longer than any list that has all its members: each member is taken out of the
-- other list in turn, and the others stay in it.
use mathlib.Core.Path.{◌≡◌, refl, sym, ap, ◌∙◌}
use mathlib.Core.Logic.{⊎_elim, ◌≢◌}
use mathlib.Core.List.Memᴰ
use mathlib.Core.List.{List, [], ◌∷◌, ◌++◌, Memᴰ}
use Prim.Native.Nat.{ℕ, zero, suc, ◌≤◌, ◌<◌}
use native.Mathlib.Decide.{ℕ_discrete}
use native.Mathlib.Omega.{arith}
use lib.ListN.{length}

pub data Distinct {A : Type 0} : List A → Type 0 where
  empty : Distinct []
  more : {a : A} {l : List A} → ((b : A) → Memᴰ b l → b ≢ a) → Distinct l → Distinct (a ∷ l)

module _ {A : Type 0} where
  pub distinct_append : {l r : List A} → Distinct l → Distinct r → ((a b : A) → Memᴰ a l → Memᴰ b r → b ≢ a)
      → Distinct (l ++ r)
  distinct_append empty R f = R
  distinct_append (more {a = a} {l = l} n L) R f = more
      (λ b m. ⊎_elim (n b) (f a b (Memᴰ.head refl)) (Memᴰ.append_cases l m))
      (distinct_append L R (λ c b m. f c b (Memᴰ.tail m)))

  -- E without the place at which a stands
  without : {a : A} (E : List A) → Memᴰ a E → List A
  without {a = a} [] m = elim m [ ]
  without (b ∷ E) (Memᴰ.head e) = E
  without (b ∷ E) (Memᴰ.tail m) = b ∷ without E m

  without_length : {a : A} (E : List A) (m : Memᴰ a E) → length E ≡ suc (length (without E m))
  unfolding without
  without_length {a = a} [] m = elim m [ ]
  without_length (b ∷ E) (Memᴰ.head e) = refl
  without_length (b ∷ E) (Memᴰ.tail m) = ap suc (without_length E m)

  others_stay : {a b : A} (E : List A) (m : Memᴰ a E) → Memᴰ b E → b ≢ a → Memᴰ b (without E m)
  unfolding without
  others_stay {a = a} {b = b} [] m _ f = elim m [ ]
  others_stay (d ∷ E) (Memᴰ.head e) (Memᴰ.head q) f = absurd (f (q ∙ sym e))
  others_stay (d ∷ E) (Memᴰ.head e) (Memᴰ.tail n) f = n
  others_stay (d ∷ E) (Memᴰ.tail m) (Memᴰ.head q) f = Memᴰ.head q
  others_stay (d ∷ E) (Memᴰ.tail m) (Memᴰ.tail n) f = Memᴰ.tail (others_stay E m n f)

  -- where everything is in E, no more stands than in E
  pub distinct_length : {l : List A} → Distinct l → (E : List A) → ((b : A) → Memᴰ b l → Memᴰ b E) → length l ≤ length E
  distinct_length empty E f = omega arith
  distinct_length (more {a = a} n L) E f =
      let m = f a (Memᴰ.head refl) in
      let rest = distinct_length L (without E m) (λ b i. others_stay E m (f b (Memᴰ.tail i)) (n b i)) in
      omega (arith, without_length E m, rest)

-- ── A number that a list lacks ─────────────────────────────────────────────

member_or_not : (x : ℕ) (l : List ℕ) → Dec (Memᴰ x l)
member_or_not x [] = no (λ m. elim m [ ])
member_or_not x (a ∷ l) = by (ℕ_discrete x a) (member_or_not x l)
  where
    neither : x ≢ a → (Memᴰ x l → ⊥) → Memᴰ x (a ∷ l) → ⊥
    neither d f (Memᴰ.head e) = d e
    neither d f (Memᴰ.tail m) = f m

    by : Dec (x ≡ a) → Dec (Memᴰ x l) → Dec (Memᴰ x (a ∷ l))
    by (yes e) r = yes (Memᴰ.head e)
    by (no d) (yes m) = yes (Memᴰ.tail m)
    by (no d) (no f) = no (neither d f)

-- of n numbers, a list of fewer lacks one
pub lacking : (n : ℕ) (l : List ℕ) → length l < n → (x : ℕ) × (x < n) × (Memᴰ x l → ⊥)
lacking zero l h = absurd (omega arith)
lacking (suc n) l h = by (member_or_not n l) (λ m. lacking n (without l m) (omega (arith, without_length l m)))
  where
    by : Dec (Memᴰ n l) → ((m : Memᴰ n l) → (x : ℕ) × (x < n) × (Memᴰ x (without l m) → ⊥))
        → (x : ℕ) × (x < suc n) × (Memᴰ x l → ⊥)
    by (no f) rest = (n, omega arith, f)
    by (yes m) rest =
        let r = rest m in
        let less = r.1 in
        (r.0, omega arith, λ i. r.2 (others_stay l m i (λ e. omega arith)))
