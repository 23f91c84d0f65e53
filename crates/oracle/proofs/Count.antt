-- HOW MANY ARROWS. The suffix rule adds one at most for each suffix. The letter-by-letter rule keeps, at every moment, its arrows and the
-- length of its last state's suffix path within twice its letters: a step along the path pays for the arrow that it adds. This is what
-- leaves a slot free while a table is built.
use mathlib.Core.Path.{◌≡◌, refl, sym, ◌∙◌}
use mathlib.Core.Logic.{⊎_elim}
use mathlib.Core.Option.{some}
use mathlib.Core.List.{List, [], ◌∷◌, ◌++◌}
use Prim.Native.Nat.{ℕ, zero, suc, ◌+◌, ◌-◌, ◌≤◌, ◌<◌}
use native.Mathlib.Nat.{le_refl, le_trans}
use native.Mathlib.Omega.{arith}
use lib.ListN.{length, length-append, length-map, drop}
use lib.Dec.{eqb}
use Rattle.words.specs.Words.{Letter, Word}
use Rattle.words.proofs.Lists.{test_cases, from_length}
use Rattle.oracle.specs.Arrows.{State, Delta, target, spine}
use Rattle.oracle.specs.SuffixRule.{Halt, far, mend, missing, extras_after, extra_arrows}
use Rattle.oracle.specs.SuffixPath.{SuffixPath, ended, falls}
use Rattle.oracle.specs.LetterRule.{add_letter, built_up_to, sources_of}
use Rattle.oracle.proofs.Chain.{Supplied, supply_below}
use Rattle.oracle.proofs.Grow.{Climb, stop, out, go, climb-below}
use Rattle.oracle.proofs.LetterRule.{supplies, path_agree, built_sound, letter-climb, supply-kept, supply-new}

-- ── The suffix rule ────────────────────────────────────────────────────────

pub spine-length : (p : Word) → length (spine p) ≡ length p
unfolding spine
spine-length p = simp (length-map, from_length)

mend-length : (p : Word) (h : Halt) → length (mend p h) ≤ 1
unfolding mend
mend-length p h = test_cases (eqb h.up_to (length p)) (λ e. rw e (omega arith)) (λ e. rw e (le_refl 1))

extras_length : (p : Word) (i : ℕ) → length (extras_after p i) ≤ i
unfolding extras_after missing
extras_length p zero = le_refl 0
extras_length p (suc i) =
    let h = far (target (extras_after p i ++ spine p)) 0 (suc i) (drop (suc i) p) in
    simp length-append (omega (arith, mend-length p h, extras_length p i))

pub extra_arrows-few : (p : Word) → length (extra_arrows p) ≤ length p - 1
unfolding extra_arrows
extra_arrows-few p = le_trans (extras_length p _) (omega arith)

-- ── The length of suffix paths ─────────────────────────────────────────────

path_of-zero : {S : State → State} {x : State} {l : List State} → x ≡ 0 → SuffixPath S x l → length l ≡ 0
path_of-zero e (ended q) = refl
path_of-zero e (falls p q r) = absurd (omega arith)

module _ {m : ℕ} {w : ℕ → Letter} {δ : Delta} {S : State → State} (O : Supplied m w δ S) where
  -- the first number only bounds the state
  path-within : (f x : State) → x ≤ f → x ≤ m → (l : List State) × SuffixPath S x l
  path-within zero x h b = let e : x ≡ 0 = omega arith in ([], ended e)
  path-within (suc f) zero h b = ([], ended refl)
  path-within (suc f) (suc x) h b =
      let d = O.down x b in
      let r = path-within f (S (suc x)) (omega arith) (omega arith) in
      let p : 0 < suc x = omega arith in
      (S (suc x) ∷ r.0, falls p refl r.1)

  -- an arrow leads to a path longer by one at most
  arrow-path : {k : State} {l : List State} {c : Letter} {y : State} {l' : List State} → SuffixPath S k l → δ k c ≡ some y
      → SuffixPath S y l' → length l' ≤ suc (length l)
  arrow-path (ended q) e (ended r) = omega arith
  arrow-path (falls p q d) e (ended r) = omega arith
  arrow-path {c = c} {y = y} (ended q) e (falls p r d) =
      let z : S y ≡ 0 = O.bottom c y (rw q at e) in
      omega (arith, path_of-zero (r ∙ z) d)
  arrow-path {c = c} {y = y} (falls {x = k} {y = k'} {l = l} p q d) e (falls {y = y'} {l = l'} p' q' d') =
      ⊎_elim
      (λ f. omega (arith, arrow-path d (rw (← q) at f) (falls p' q' d')))
      (λ f. omega (arith, arrow-path d (rw (← q) at f) (rw q' at d')))
      (O.answers k c y e)

  -- the sources of a climb and the path of where it lands
  climb-path : {c : Letter} {k : State} {l : List State} {y : State} {l' xs : List State} → Climb δ S c k xs y → SuffixPath S k l
      → SuffixPath S y l' → length xs + length l' ≤ suc (length l)
  climb-path (stop e) d d' = omega (arith, arrow-path d e d')
  climb-path (out z y e) d d' = omega (arith, path_of-zero z d, path_of-zero y d')
  climb-path (go p e r) (ended q) d' = absurd (omega arith)
  climb-path (go p e r) (falls p' q d) d' = omega (arith, climb-path r (rw q at d) d')

  -- one letter more: arrows so far and path at most 2 m, arrows then and path at most 2 (m + 1)
  pub path_grows : (arrows : ℕ) {y : State} {l xs : List State} (S' : State → State) → Climb δ S (w m) m xs y → SuffixPath S m l
      → arrows + length l ≤ m + m
      → ((x : State) → x ≤ m → S' x ≡ S x) → S' (suc m) ≡ y
      → (l' : List State) × SuffixPath S' (suc m) (y ∷ l') × (length xs + arrows + suc (length l') ≤ suc m + suc m)
  path_grows arrows {y} {l} {xs} S' C D b kept given =
      let r = path-within y y (le_refl y) (climb-below O C) in
      let p : 0 < suc m = omega arith in
      let d : SuffixPath S' y r.0 = path_agree S S' (λ x h. omega (arith, supply_below O x h)) kept (climb-below O C) r.1 in
      (r.0, falls p (sym given) d, omega (arith, climb-path C D r.1))

-- ── The letter-by-letter rule ──────────────────────────────────────────────

module _ (p : Word) where
  abbrev arrows_at : ℕ → ℕ
  arrows_at t = length (built_up_to p t).arrows

  pub arrows-added : (t : ℕ) → arrows_at (suc t) ≡ suc (length (sources_of p t)) + arrows_at t
  unfolding built_up_to add_letter sources_of
  arrows-added t = simp (length-append, length-map)

  pub arrows_many : (t : ℕ) → t ≤ arrows_at t
  unfolding built_up_to
  arrows_many zero = omega arith
  arrows_many (suc t) = omega (arith, arrows-added t, arrows_many t)

  counted : (t : ℕ) → (l : List State) × SuffixPath (supplies (built_up_to p t)) t l × (arrows_at t + length l ≤ t + t)
  unfolding built_up_to sources_of
  counted zero = ([], ended refl, omega arith)
  counted (suc t) =
      let G = built_sound p t in
      let r = counted t in
      let S' = supplies (built_up_to p (suc t)) in
      let s = path_grows G.supplied (arrows_at t) S' (letter-climb G) r.1 r.2 (supply-kept G) (supply-new G) in
      (_, s.1, omega (arith, s.2, arrows-added t))

  -- t letters make at most 2 t - 1 arrows
  pub arrows-few : (t : ℕ) → arrows_at (suc t) ≤ t + suc t
  arrows-few t = let s = counted (suc t) in by s.1 s.2
    where
      by : {l : List State} → SuffixPath (supplies (built_up_to p (suc t))) (suc t) l → arrows_at (suc t) + length l ≤ suc t + suc t
          → arrows_at (suc t) ≤ t + suc t
      by (ended q) h = absurd (omega arith)
      by (falls q r d) h = omega arith

  -- while letter t is added, the extra arrows so far and all that are still to come are at most t: before each, one slot of t is free
  pub slot-free : (t : ℕ) → (arrows_at t - t) + length (sources_of p t) ≤ t
  slot-free t = omega (arith, arrows-added t, arrows-few t, arrows_many t)
