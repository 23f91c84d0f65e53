-- Laws of lists in general, of `from`, `only` and `first`, and of lists that rise: what is in such a list, where, and in which order. Each
-- goes by induction on the list or on how many numbers `from` has; where a test decides, by its two cases. First the cases themselves.
use mathlib.Core.Path.{◌≡◌, refl, sym, ap, ◌∙◌}
use mathlib.Core.Bool.{Bool, true, false, cond, ◌&&◌}
use mathlib.Core.Logic.{⊎_elim, by_cases}
use mathlib.Core.Option.{Option, none, some}
use mathlib.Core.List.{List, [], ◌∷◌, ◌++◌, map, Memᴰ}
use Prim.Native.Nat.{ℕ, zero, suc, ◌+◌, ◌-◌, ◌≤◌, ◌<◌}
use native.Mathlib.Nat.{le_refl, zero-add, add-zero, add-suc, suc-add, sub-zero, zero-sub, suc-sub-suc}
use native.Mathlib.Decide.{ℕ_discrete, dec_lt}
use native.Mathlib.Omega.{arith}
use lib.ListN.{length, get_or, take, drop, set, replicate, get_or-map}
use lib.Seq.{get_or-append-add, get_or-set_same, get_or-set_other, set_out, drop-append_seam, take_at}
use Rattle.words.specs.Lists.{at, from, only, first, Rising, end, up}

-- ── Tests and options ──────────────────────────────────────────────────────

pub and_true : {a b : Bool} → a && b ≡ true → (a ≡ true) × (b ≡ true)
and_true {a = true} e = (refl, e)
and_true {a = false} e = (e, cc)

pub true_not_false : {C : Type 0} → ◌≡◌ {A = Bool} true false → C
true_not_false e = let z : ◌≡◌ {A = ℕ} 0 1 = cc in absurd (omega arith)

pub test_cases : {C : Type 0} (b : Bool) → (b ≡ true → C) → (b ≡ false → C) → C
test_cases true f g = f refl
test_cases false f g = g refl

pub option_cases : {A C : Type 0} (o : Option A) → (o ≡ none → C) → ((a : A) → o ≡ some a → C) → C
option_cases none f g = f refl
option_cases (some a) f g = g a refl

-- what is not some is none
pub none_where : {A : Type 0} (o : Option A) → ((a : A) → o ≡ some a → ⊥) → o ≡ none
none_where none f = refl
none_where (some a) f = absurd (f a refl)

-- ── Members and entries ────────────────────────────────────────────────────

module _ {A : Type 0} where
  -- a list that has something has a member
  pub member : (l : List A) → 1 ≤ length l → (a : A) × Memᴰ a l
  member [] h = absurd (omega arith)
  member (a ∷ l) h = (a, mathlib.Core.List.Memᴰ.head refl)

  pub not_empty : {a : A} {l : List A} → Memᴰ a l → 1 ≤ length l
  not_empty (mathlib.Core.List.Memᴰ.head e) = omega arith
  not_empty (mathlib.Core.List.Memᴰ.tail m) = omega arith

  pub entry_in : (l : List A) (i : ℕ) (d : A) → i < length l → Memᴰ (get_or l i d) l
  entry_in [] i d h = absurd (omega arith)
  entry_in (a ∷ l) zero d h = mathlib.Core.List.Memᴰ.head refl
  entry_in (a ∷ l) (suc i) d h = mathlib.Core.List.Memᴰ.tail (entry_in l i d (omega arith))

  -- what has a first has a last
  pub last_of : (a : A) (l : List A) → (k : List A) × (z : A) × (a ∷ l ≡ k ++ (z ∷ []))
  last_of a [] = ([], a, refl)
  last_of a (b ∷ l) = let r = last_of b l in (a ∷ r.0, r.1, ap {B = List A} (λ k. a ∷ k) r.2)

-- what bounds every member bounds what is looked up, within the list or not
pub entry-below : {b : ℕ} (l : List ℕ) (i : ℕ) → ((y : ℕ) → Memᴰ y l → y ≤ b) → at l i ≤ b
entry-below [] i f = omega arith
entry-below (y ∷ l) zero f = f y (mathlib.Core.List.Memᴰ.head refl)
entry-below (y ∷ l) (suc i) f = entry-below l i (λ z m. f z (mathlib.Core.List.Memᴰ.tail m))

-- a list and its images, behind equally many: entry s of the one is the image of entry s of the other
pub map-behind : {A B : Type 0} (f : A → B) (d : A) (E : List B) (T l : List A) (s : ℕ) → length E ≡ length T → length T ≤ s
    → get_or (E ++ map f l) s (f d) ≡ f (get_or (T ++ l) s d)
map-behind f d E T l s e h =
    let i = s - length T in
    let p : length E + i ≡ s = omega arith in
    let q : length T + i ≡ s = omega arith in
    (rw p at (get_or-append-add E (map f l) i (f d)))
    ∙ get_or-map f l i d
    ∙ ap f (sym (rw q at (get_or-append-add T l i d)))

pub map-append : {A B : Type 0} (f : A → B) (l r : List A) → map f (l ++ r) ≡ map f l ++ map f r
map-append f [] r = refl
map-append {B = B} f (a ∷ l) r = ap {B = List B} (λ k. f a ∷ k) (map-append f l r)

-- what follows the same list is the same
pub same-behind : {A : Type 0} (l a b : List A) → l ++ a ≡ l ++ b → a ≡ b
same-behind l a b e = sym (drop-append_seam l a) ∙ ap (drop (length l)) e ∙ drop-append_seam l b

-- a list is put together in one way of two parts, where the length of the first is known
pub same_parts : {A : Type 0} (a b x y : List A) → length a ≡ length b → a ++ x ≡ b ++ y → (a ≡ b) × (x ≡ y)
same_parts a b x y n e =
    let front : a ≡ b = sym (take_at a x (length a) refl) ∙ ap (take (length a)) e ∙ take_at b y (length a) (sym n) in
    (front, same-behind b x y (rw front at e))

pub drop-replicate : (n k a : ℕ) → drop k (replicate n a) ≡ replicate (n - k) a
drop-replicate n zero a = rw (sub-zero n)
drop-replicate zero (suc k) a = rw (zero-sub (suc k))
drop-replicate (suc n) (suc k) a = drop-replicate n k a ∙ rw (suc-sub-suc n k)

-- ── from ───────────────────────────────────────────────────────────────────

pub from_snoc : (a k : ℕ) → from a (suc k) ≡ from a k ++ ((a + k) ∷ [])
unfolding from
from_snoc a zero = rw (add-zero a)
from_snoc a (suc k) =
    let e : suc a + k ≡ a + suc k = omega arith in
    ap {B = List ℕ} (λ l. a ∷ l) (from_snoc (suc a) k ∙ rw e)

pub from_length : (a k : ℕ) → length (from a k) ≡ k
unfolding from
from_length a zero = refl
from_length a (suc k) = ap suc (from_length (suc a) k)

-- j + k numbers are the first j of them, and k behind those
pub from_append : (a j k : ℕ) → from a (j + k) ≡ from a j ++ from (a + j) k
unfolding from
from_append a zero k = rw (zero-add k, add-zero a)
from_append a (suc j) k =
    let n : suc j + k ≡ suc (j + k) = omega arith in
    let e : suc a + j ≡ a + suc j = omega arith in
    rw (n, from) (ap {B = List ℕ} (λ l. a ∷ l) (from_append (suc a) j k ∙ rw e))

-- entry i of a function's values at a, a + 1, ..
pub map_from_at : (f : ℕ → ℕ) (a k i d : ℕ) → i < k → get_or (map f (from a k)) i d ≡ f (a + i)
unfolding from
map_from_at f a zero i d h = absurd (omega arith)
map_from_at f a (suc k) zero d h = rw (add-zero a)
map_from_at f a (suc k) (suc i) d h =
    let e : suc a + i ≡ a + suc i = omega arith in
    map_from_at f (suc a) k i d (omega arith) ∙ ap f e

pub from_in : (a k : ℕ) {j : ℕ} → Memᴰ j (from a k) → (a ≤ j) × (j < a + k)
unfolding from
from_in a zero m = absurd (elim m [ ])
from_in a (suc k) (mathlib.Core.List.Memᴰ.head e) = (omega arith, omega arith)
from_in a (suc k) (mathlib.Core.List.Memᴰ.tail m) = let r = from_in (suc a) k m in (omega arith, omega arith)

pub in_from : (a k j : ℕ) → a ≤ j → j < a + k → Memᴰ j (from a k)
unfolding from
in_from a zero j h l = absurd (omega arith)
in_from a (suc k) j h l =
    by_cases (ℕ_discrete j a) (λ e. mathlib.Core.List.Memᴰ.head e)
    (λ e. mathlib.Core.List.Memᴰ.tail (in_from (suc a) k j (omega arith) (omega arith)))

-- ── only ───────────────────────────────────────────────────────────────────

module _ {A : Type 0} (P : A → Bool) where
  pub only_yes : (a : A) (l : List A) → P a ≡ true → only P (a ∷ l) ≡ a ∷ only P l
  unfolding only
  only_yes a l e = rw e

  pub only_not : (a : A) (l : List A) → P a ≡ false → only P (a ∷ l) ≡ only P l
  unfolding only
  only_not a l e = rw e

  pub only_append : (l r : List A) → only P (l ++ r) ≡ only P l ++ only P r
  unfolding only
  only_append [] r = refl
  only_append (a ∷ l) r = test_cases (P a) (λ e. rw (e, only_append l r)) (λ e. rw (e, only_append l r))

  -- no more than were tried
  pub only_few : (l : List A) → length (only P l) ≤ length l
  unfolding only
  only_few [] = omega arith
  only_few (a ∷ l) = test_cases (P a)
      (λ e. rw e (omega (arith, only_few l)))
      (λ e. rw e (omega (arith, only_few l)))

  pub only_in : (l : List A) {a : A} → Memᴰ a (only P l) → Memᴰ a l × (P a ≡ true)
  unfolding only
  only_in [] m = absurd (elim m [ ])
  only_in (x ∷ l) {a} m =
      let later : Memᴰ a (only P l) → Memᴰ a (x ∷ l) × (P a ≡ true) = λ n. let r = only_in l n in (mathlib.Core.List.Memᴰ.tail r.0, r.1) in
      test_cases (P x)
      (λ e. ⊎_elim (λ q. (mathlib.Core.List.Memᴰ.head q, rw q e)) later (mathlib.Core.List.Memᴰ.cases_cons (rw e at m)))
      (λ e. later (rw e at m))

  pub in_only : (l : List A) {a : A} → Memᴰ a l → P a ≡ true → Memᴰ a (only P l)
  unfolding only
  in_only [] {a = a} m e = elim m [ ]
  in_only (x ∷ l) (mathlib.Core.List.Memᴰ.head q) e = rw (only_yes x l (rw q at e)) (mathlib.Core.List.Memᴰ.head q)
  in_only (x ∷ l) (mathlib.Core.List.Memᴰ.tail m) e =
      test_cases (P x) (λ f. rw f (mathlib.Core.List.Memᴰ.tail (in_only l m e))) (λ f. rw f (in_only l m e))

-- ── only of from ───────────────────────────────────────────────────────────

module _ (P : ℕ → Bool) where
  -- the first d numbers may be left out where they fail the test
  pub only_later : (d s k : ℕ) → ((j : ℕ) → s ≤ j → j < s + d → P j ≡ false) → only P (from s k) ≡ only P (from (s + d) (k - d))
  unfolding from
  only_later zero s k f = rw (add-zero, sub-zero)
  only_later (suc d) s zero f = rw (zero-sub (suc d))
  only_later (suc d) s (suc k) f =
      only_not P s (from (suc s) k) (f s (le_refl s) (omega arith))
      ∙ rw (add-suc, ← suc-add, suc-sub-suc) (only_later d (suc s) k (λ j l u. f j (omega arith) (omega arith)))

  -- where no number passes, nothing is listed
  pub only_none : (a k : ℕ) → ((j : ℕ) → a ≤ j → j < a + k → P j ≡ false) → only P (from a k) ≡ []
  unfolding from only
  only_none a k f = let e : k - k ≡ 0 = omega arith in only_later k a k f ∙ rw e

-- ── first ──────────────────────────────────────────────────────────────────

module _ {A : Type 0} (P : A → Bool) where
  pub first_yes : (a : A) (l : List A) → P a ≡ true → first P (a ∷ l) ≡ some a
  unfolding first
  first_yes a l e = rw e

  pub first_not : (a : A) (l : List A) → P a ≡ false → first P (a ∷ l) ≡ first P l
  unfolding first
  first_not a l e = rw e

  -- where nothing passes there is no first
  pub first-none : (l : List A) → ((a : A) → Memᴰ a l → P a ≡ false) → first P l ≡ none
  unfolding first
  first-none [] f = refl
  first-none (a ∷ l) f = first_not a l (f a (mathlib.Core.List.Memᴰ.head refl)) ∙ first-none l (λ b m. f b (mathlib.Core.List.Memᴰ.tail m))

  -- the only one that passes is the first
  pub first_only : (l : List A) {a : A} → Memᴰ a l → P a ≡ true → ((b : A) → Memᴰ b l → P b ≡ true → b ≡ a)
      → first P l ≡ some a
  unfolding first
  first_only [] {a = a} m e f = elim m [ ]
  first_only (b ∷ l) (mathlib.Core.List.Memᴰ.head q) e f = rw q (first_yes b l (rw q at e))
  first_only (b ∷ l) (mathlib.Core.List.Memᴰ.tail m) e f = test_cases (P b)
      (λ g. first_yes b l g ∙ ap {B = Option A} some (f b (mathlib.Core.List.Memᴰ.head refl) g))
      (λ g. first_not b l g ∙ first_only l m e (λ d n. f d (mathlib.Core.List.Memᴰ.tail n)))

-- ── Lists that rise ────────────────────────────────────────────────────────

rising_lower : {a b : ℕ} {l : List ℕ} → a ≤ b → Rising b l → Rising a l
rising_lower h end = end
rising_lower {a} h (up {x = x} g r) = let k : a ≤ x = omega arith in up k r

-- nothing is below the bound
pub rising_above : {a y : ℕ} {l : List ℕ} → Rising a l → Memᴰ y l → a ≤ y
rising_above {y = y} (end {a = a}) m = elim m [ ]
rising_above (up g r) (mathlib.Core.List.Memᴰ.head e) = omega arith
rising_above (up g r) (mathlib.Core.List.Memᴰ.tail m) = omega (arith, rising_above r m)

pub rising_from : (P : ℕ → Bool) (a k : ℕ) → Rising a (only P (from a k))
unfolding from only
rising_from P a zero = end
rising_from P a (suc k) = test_cases (P a)
    (λ e. rw e (up (le_refl a) (rising_from P (suc a) k)))
    (λ e. rw e (rising_lower (omega arith) (rising_from P (suc a) k)))

-- ── Tests that agree, lists one behind the other ───────────────────────────

-- tests that agree on the numbers tried list the same
pub only_same : (P Q : ℕ → Bool) (a k : ℕ) → ((j : ℕ) → a ≤ j → j < a + k → P j ≡ Q j) → only P (from a k) ≡ only Q (from a k)
unfolding only from
only_same P Q a zero h = refl
only_same P Q a (suc k) h = rw (h a (le_refl a) (omega arith), only_same P Q (suc a) k (λ j l b. h j (omega arith) (omega arith)))

-- a test of numbers that are d further on
pub only_shift : (P : ℕ → Bool) (d a k : ℕ) → only P (from (d + a) k) ≡ map (λ q. d + q) (only (λ q. P (d + q)) (from a k))
unfolding only from
only_shift P d a zero = refl
only_shift P d a (suc k) =
    by (P (d + a)) (only P (from (suc (d + a)) k)) (only (λ q. P (d + q)) (from (suc a) k)) (rw (add-suc d a) at (only_shift P d (suc a) k))
  where
    by : (b : Bool) (l r : List ℕ) → l ≡ map (λ q. d + q) r → cond b ((d + a) ∷ l) l ≡ map (λ q. d + q) (cond b (a ∷ r) r)
    by true l r e = ap {B = List ℕ} (λ l. (d + a) ∷ l) e
    by false l r e = e

-- an entry behind n others
pub at-behind : (a b : List ℕ) (n i : ℕ) → length a ≡ n → at (a ++ b) (n + i) ≡ at b i
at-behind a b n i e = rw (← e) (get_or-append-add a b i 0)

-- ── Small entries ──────────────────────────────────────────────────────────

-- every entry is below b
abbrev pub Small : ℕ → List ℕ → Type 0
Small b L = (i : ℕ) → at L i < b

-- a small number written into small entries
pub set-small : (b : ℕ) (L : List ℕ) (i v : ℕ) → Small b L → v < b → Small b (set L i v)
set-small b L i v S h j = by_cases (dec_lt i (length L))
    (λ l. by_cases (ℕ_discrete j i)
    (λ e. rw (e, get_or-set_same L i v 0 l) h)
    (λ e. rw (get_or-set_other L i j v 0 e) (S j)))
    (λ l. rw (set_out L i v (omega arith)) (S j))
