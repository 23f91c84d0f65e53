-- WALKS AND WHERE THEY HALT, of whatever arrows. A walk stays as it is where every arrow is kept. The walk of a suffix goes on as far as
-- arrows go, letter by letter of the word; with arrows that keep its own, the rest of the suffix is still to be walked from its halt.
use mathlib.Core.Path.{◌≡◌, refl, ◌∙◌}
use mathlib.Core.Option.{none, some}
use mathlib.Core.List.{[], ◌∷◌}
use Prim.Native.Nat.{ℕ, zero, suc, ◌+◌, ◌≤◌, ◌<◌}
use native.Mathlib.Nat.{le_refl}
use native.Mathlib.Omega.{arith}
use lib.ListN.{length, drop}
use lib.Seq.{drop-cons, drop-length}
use Rattle.words.specs.Words.{Letter, Word, letter}
use Rattle.words.proofs.Lists.{option_cases}
use Rattle.oracle.specs.Arrows.{State, Delta, walk}
use Rattle.oracle.specs.SuffixRule.{Halt, far}
use Rattle.oracle.proofs.Walks.{walk_step, walk_first}

-- every arrow of the one is an arrow of the other
abbrev pub Keeps : Delta → Delta → Type 0
Keeps δ δ' = (x : State) (c : Letter) (y : State) → δ x c ≡ some y → δ' x c ≡ some y

-- a walk stays as it is where every arrow is kept
pub walk_kept : {δ δ' : Delta} → Keeps δ δ' → (v : Word) (x y : State) → walk δ x v ≡ some y → walk δ' x v ≡ some y
unfolding walk
walk_kept K [] x y e = e
walk_kept {δ} {δ'} K (c ∷ v) x y e =
    let r = walk_first δ c v x y e in
    walk_step δ' c v x r.0 (K x c r.0 r.1) ∙ walk_kept K v r.0 y r.2

-- the walk of suffix i from x halts at h: at the word's end, or in a state that lacks the next letter
pub record HaltedAt (p : Word) (δ : Delta) (x : State) (i : ℕ) (h : Halt) : Type 0 where
  pub state : h.state ≤ length p
  pub inside : h.up_to ≤ length p
  pub lacks : h.up_to < length p → δ h.state (letter p h.up_to) ≡ none
  pub resumes : {δ' : Delta} → Keeps δ δ' → walk δ' x (drop i p) ≡ walk δ' h.state (drop h.up_to p)

-- arrows between the states 0 to m walk each suffix to such a halt
pub far_halted : (p : Word) (δ : Delta) → ((x : State) (c : Letter) (y : State) → δ x c ≡ some y → y ≤ length p)
    → (n i : ℕ) (x : State) → i + n ≡ length p → x ≤ length p → HaltedAt p δ x i (far δ x i (drop i p))
unfolding far
far_halted p δ f zero i x e b =
    let q : i ≡ length p = omega arith in
    rw (q, drop-length p, far) (record { state = b; inside = le_refl _; lacks = λ l. absurd (omega arith); resumes = λ K. refl })
far_halted p δ f (suc n) i x e b =
    let inside : i < length p = omega arith in
    rw (drop-cons p i 0 inside) (option_cases (δ x (letter p i))
    (λ d. rw (d, far) (record { state = b; inside = omega arith; lacks = λ l. d; resumes = λ K. refl }))
    (λ y d.
    let H = far_halted p δ f n (suc i) y (omega arith) (f x (letter p i) y d) in
    rw (d, far) (record {
      state = H.state;
      inside = H.inside;
      lacks = H.lacks;
      resumes = λ {δ'} K. rw (drop-cons p i 0 inside) (walk_step δ' (letter p i) _ x y (K x _ y d) ∙ H.resumes K);
    })))
