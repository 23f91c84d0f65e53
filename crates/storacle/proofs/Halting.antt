-- WHERE THE WALK OF A SUFFIX HALTS. In state x with the letters up to k spelled, the next letter leads on, or it leads nowhere, or there is
-- none. As arrows lead to the first later state that has their letter, a walk is never ahead of the letters that it spells: x is at most k,
-- the next letter stands behind state x, and a first later state that has it is found.
use mathlib.Core.Path.{◌≡◌, refl, ◌∙◌}
use mathlib.Core.Option.{none, some}
use Prim.Native.Nat.{ℕ, zero, suc, ◌+◌, ◌-◌, ◌≤◌, ◌<◌}
use native.Mathlib.Nat.{le_refl}
use native.Mathlib.Omega.{arith}
use lib.ListN.{length, drop}
use lib.Seq.{drop-cons, drop-length}
use Rattle.words.specs.Words.{Letter, Word, letter}
use Rattle.words.proofs.Lists.{option_cases}
use Rattle.oracle.specs.Arrows.{State, Delta, walk}
use Rattle.oracle.specs.SuffixRule.{Halt, far}
use Rattle.oracle.proofs.Walks.{walk_step}
use Rattle.failure.proofs.Halts.{Keeps}
use Rattle.storacle.specs.StoracleRule.{FirstLater}
use Rattle.storacle.proofs.FirstLater.{first_later_least}

-- the walk of the letters behind the first k, from state x, as far as arrows go
abbrev pub far_of : Word → Delta → State → ℕ → Halt
far_of p δ x k = far δ x k (drop k p)

-- every arrow leads to the first later state that has its letter
abbrev pub LeadsFirst : Word → Delta → Type 0
LeadsFirst p δ = (x : State) (c : Letter) (y : State) → δ x c ≡ some y → FirstLater p x c y

-- ── One letter ─────────────────────────────────────────────────────────────

module _ (p : Word) (δ : Delta) (x : State) where
  pub far-ends : (k : ℕ) → k ≡ length p → far_of p δ x k ≡ record { state = x; up_to = length p }
  unfolding far
  far-ends k e = rw (e, drop-length p, far)

  module _ (k : ℕ) (inside : k < length p) where
    pub far-goes : (y : State) → δ x (letter p k) ≡ some y → far_of p δ x k ≡ far_of p δ y (suc k)
    unfolding far
    far-goes y d = rw (drop-cons p k 0 inside, far, d)

    pub far_stops : δ x (letter p k) ≡ none → far_of p δ x k ≡ record { state = x; up_to = k }
    unfolding far
    far_stops d = rw (drop-cons p k 0 inside, far, d)

-- ── The halt ───────────────────────────────────────────────────────────────

-- the walk from x of the letters behind the first k halts at h
pub record HaltsAt (p : Word) (δ : Delta) (x : State) (k : ℕ) (h : Halt) : Type 0 where
  pub low : h.state ≤ h.up_to
  pub onward : k ≤ h.up_to
  pub inside : h.up_to ≤ length p
  pub lacks : h.up_to < length p → δ h.state (letter p h.up_to) ≡ none
  pub resumes : {δ' : Delta} → Keeps δ δ' → far_of p δ' x k ≡ far_of p δ' h.state h.up_to

module _ (p : Word) (δ : Delta) (L : LeadsFirst p δ) where
  halts : (n : ℕ) (x : State) (k : ℕ) → k + n ≡ length p → x ≤ k → HaltsAt p δ x k (far_of p δ x k)
  halts zero x k e l =
      let q : k ≡ length p = omega arith in
      rw (far-ends p δ x k q) (record {
        low = omega arith;
        onward = omega arith;
        inside = le_refl _;
        lacks = λ b. absurd (omega arith);
        resumes = λ K. rw q;
      })
  halts (suc n) x k e l =
      let inside : k < length p = omega arith in
      option_cases (δ x (letter p k))
      (λ d. rw (far_stops p δ x k inside d) (record {
        low = l;
        onward = le_refl _;
        inside = omega arith;
        lacks = λ b. d;
        resumes = λ K. refl;
      }))
      (λ y d.
      let H = halts n y (suc k) (omega arith) (first_later_least (L x (letter p k) y d) k l refl) in
      rw (far-goes p δ x k inside y d) (record {
        low = H.low;
        onward = omega (arith, H.onward);
        inside = H.inside;
        lacks = H.lacks;
        resumes = λ {δ'} K. far-goes p δ' x k inside y (K x (letter p k) y d) ∙ H.resumes K;
      }))

  -- every walk that is not ahead of its letters halts so
  pub walk_halts : (x : State) (k : ℕ) → k ≤ length p → x ≤ k → HaltsAt p δ x k (far_of p δ x k)
  walk_halts x k h l = halts (length p - k) x k (omega arith) l

-- a walk that halts at the word's end is a walk
pub halted_walk : (p : Word) (δ : Delta) (n : ℕ) (x : State) (k : ℕ) → k + n ≡ length p → (far_of p δ x k).up_to ≡ length p
    → walk δ x (drop k p) ≡ some (far_of p δ x k).state
unfolding walk
halted_walk p δ zero x k e q = let f : k ≡ length p = omega arith in rw (far-ends p δ x k f, f, drop-length p, walk)
halted_walk p δ (suc n) x k e q =
    let inside : k < length p = omega arith in
    option_cases (δ x (letter p k))
    (λ d. let stop : k ≡ length p = rw (far_stops p δ x k inside d) at q in absurd (omega arith))
    (λ y d.
    let on = far-goes p δ x k inside y d in
    let rest = halted_walk p δ n y (suc k) (omega arith) (rw on at q) in
    rw (on, drop-cons p k 0 inside) (walk_step δ (letter p k) (drop (suc k) p) x y d ∙ rest))
