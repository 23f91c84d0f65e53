-- Laws of `target` and `OneEach`: what one arrow more changes, and that where one arrow at most leaves a state on a letter, the arrows of a
-- list are exactly those that its target says. Each goes by induction on the list, with `target_pass` for its first arrow.
use mathlib.Core.Path.{◌≡◌, refl, sym, ◌∙◌}
use mathlib.Core.Bool.{◌&&◌}
use mathlib.Core.Logic.{◌⊎◌, inl, inr, ⊎_elim, ◌≢◌}
use mathlib.Core.Option.{Option, none, some}
use mathlib.Core.List.{List, [], ◌∷◌, ◌++◌, map, Memᴰ}
use Prim.Native.Nat.{ℕ}
use native.Mathlib.Omega.{arith}
use lib.Dec.{eqb}
use borrow.Author.Tests.{eqb-true, eq-eqb, ne_eqb}
use Rattle.words.specs.Words.{Letter}
use Rattle.words.proofs.Lists.{and_true, test_cases}
use Rattle.oracle.specs.Arrows.{State, Arrow, arrow, target, OneEach}

-- nothing is some
pub never : {A X : Type 0} {a : A} {o : Option A} → o ≡ none → o ≡ some a → X
never e f = let z : ◌≡◌ {A = ℕ} 0 1 = cc in absurd (omega arith)

-- ── One arrow more ─────────────────────────────────────────────────────────

pub target_hit : (A : List Arrow) (x : State) (c : Letter) (y : State) → target (arrow x c y ∷ A) x c ≡ some y
unfolding target
target_hit A x c y = rw (eq-eqb x x refl, eq-eqb c c refl)

pub target-skip : (A : List Arrow) (a : Arrow) (x : State) (c : Letter) → a.source ≢ x → target (a ∷ A) x c ≡ target A x c
unfolding target
target-skip A a x c f = rw (ne_eqb a.source x f)

pub target_pass : (A : List Arrow) (a : Arrow) (x : State) (c : Letter)
    → (target (a ∷ A) x c ≡ target A x c) ⊎ ((x ≡ a.source) × (c ≡ a.on))
unfolding target
target_pass A a x c = test_cases (eqb a.source x && eqb a.on c)
    (λ e. let r = and_true e in inr (sym (eqb-true a.source x r.0), sym (eqb-true a.on c r.1)))
    (λ e. inl (rw e))

-- ── Arrows on one letter into one state ────────────────────────────────────

abbrev pub into : Letter → State → List State → List Arrow
into c y xs = map (λ k. arrow k c y) xs

pub target-new : (A : List Arrow) (c : Letter) (y x : State) (xs : List State) → Memᴰ x xs → target (into c y xs ++ A) x c ≡ some y
target-new A c y x [] m = elim m [ ]
target-new A c y x (k ∷ xs) (Memᴰ.head e) = rw e (target_hit (into c y xs ++ A) k c y)
target-new A c y x (k ∷ xs) (Memᴰ.tail m) =
    let B = into c y xs ++ A in
    ⊎_elim (λ e. e ∙ target-new A c y x xs m) (λ e. rw e.0 (target_hit B k c y)) (target_pass B (arrow k c y) x c)

pub target_old : (A : List Arrow) (c : Letter) (y : State) (xs : List State) (x : State) (d : Letter)
    → (target (into c y xs ++ A) x d ≡ target A x d) ⊎ ((d ≡ c) × Memᴰ x xs)
target_old A c y [] x d = inl refl
target_old A c y (k ∷ xs) x d = ⊎_elim
    (λ e. ⊎_elim (λ r. inl (e ∙ r)) (λ r. inr (r.0, Memᴰ.tail r.1)) (target_old A c y xs x d))
    (λ e. inr (e.1, Memᴰ.head e.0))
    (target_pass (into c y xs ++ A) (arrow k c y) x d)

-- ── A list's arrows are its target's ───────────────────────────────────────

pub target_member : (A : List Arrow) (x : State) (c : Letter) (y : State) → target A x c ≡ some y → Memᴰ (arrow x c y) A
unfolding target
target_member [] x c y e = never {X = Memᴰ (arrow x c y) []} refl e
target_member (a ∷ A) x c y e = ⊎_elim
    (λ d. Memᴰ.tail (target_member A x c y (sym d ∙ e)))
    (λ d.
    let t : some y ≡ some a.to = sym e ∙ rw (d.0, d.1) (target_hit A a.source a.on a.to) in
    let q : y ≡ a.to = cc in
    Memᴰ.head {x = a} (rw (d.0, d.1, q)))
    (target_pass A a x c)

pub member_target : (A : List Arrow) → OneEach A → {a : Arrow} → Memᴰ a A → target A a.source a.on ≡ some a.to
unfolding OneEach
member_target [] o {a = a} m = elim m [ ]
member_target (b ∷ A) o (Memᴰ.head e) = rw e (target_hit A b.source b.on b.to)
member_target (b ∷ A) o {a} (Memᴰ.tail m) =
    let r = member_target A o.1 m in
    ⊎_elim (λ d. d ∙ r) (λ d. never o.0 (rw (d.0, d.1) at r)) (target_pass A b a.source a.on)

-- ── Two lists, one behind the other ────────────────────────────────────────

none-behind : (A B : List Arrow) (x : State) (c : Letter) → target (A ++ B) x c ≡ none → target B x c ≡ none
none-behind [] B x c e = e
none-behind (a ∷ A) B x c e = ⊎_elim
    (λ d. none-behind A B x c (sym d ∙ e))
    (λ d. never (rw (d.0, d.1) at e) (target_hit (A ++ B) a.source a.on a.to))
    (target_pass (A ++ B) a x c)

-- no arrow of the one list leaves the same state on the same letter as one of the other
pub apart : (A B : List Arrow) → OneEach (A ++ B) → {a : Arrow} → Memᴰ a A → target B a.source a.on ≡ none
unfolding OneEach
apart [] B o {a = a} m = elim m [ ]
apart (b ∷ A) B o (Memᴰ.head e) = rw e (none-behind A B b.source b.on o.0)
apart (b ∷ A) B o (Memᴰ.tail m) = apart A B o.1 m
