-- MARKING WHAT CAN FOLLOW. Flags are only ever set, so one that is not set in the end never was: no arrow that was passed has its
-- letter, and the lookup of `Seeking` goes by them all.
use mathlib.Core.Path.{◌≡◌, refl, sym, ap, ◌∙◌}
use mathlib.Core.Bool.{Bool, true, false}
use mathlib.Core.Option.{none, some}
use mathlib.Core.List.{List}
use Prim.Native.Nat.{ℕ, ◌+◌, ◌*◌, ◌≤◌, ◌<◌}
use native.Mathlib.Decide.{ℕ_discrete}
use native.Mathlib.Omega.{arith}
use lib.ListN.{length}
use Rattle.words.specs.Lists.{at}
use Rattle.words.specs.Words.{Letter}
use Rattle.words.specs.Answers.{MaybeState}
use Rattle.words.specs.declared.State.{State as Stated}
use Rattle.words.proofs.Answers.{arrow-told, arrow-untold}
use Rattle.std.specs.Prelude.{Some, None}
use Rattle.oracle.specs.Arrows.{State}
use Rattle.table.specs.Table.{read_arrow}
use Rattle.table.specs.Formed.{Formed}
use Rattle.table.proofs.Formed.{arrow-far}
use Rattle.table.proofs.Seeking.{Seeking, seek-start, seek-next, seek-end}
use Rattle.prepared.specs.Prepared.{leads, spot, is_set, Firsts, Followers}
use Rattle.prepared.specs.Filling.{FlagsKept, Marked, MarkedState}

unset : {b : Bool} {X : Type 0} → b ≡ true → b ≡ false → X
unset t f = let z : ◌≡◌ {A = ℕ} 0 1 = cc in absurd (omega arith)

-- ── The arrows of a state ──────────────────────────────────────────────────

-- in P₀ the spine's arrow of x is marked, in P also the slots before s; e is where its slots end
pub record Marking (L : List ℕ) (m : ℕ) (x : State) (P₀ : List Bool) (c : Letter) (P : List Bool) (e s : ℕ) : Type 0 where
  pub size : length P ≡ length P₀
  pub kept : FlagsKept P₀ P
  pub clear : (d : Letter) → d < 256 → is_set P (spot c d) ≡ false → Seeking L m x d e s

module _ {L : List ℕ} {m : ℕ} {x : State} {P₁ P₀ : List Bool} {c : Letter} (M : Marked P₁ c (at L (x + 1)) P₀) where
  -- no slot is
  pub marking_start : Formed L m → x < m → Marking L m x P₀ c P₀ (at L (2 * (m + 1) + x + 1)) (at L (2 * (m + 1) + x))
  marking_start F h = record {
    size = refl;
    kept = λ i z. z;
    clear = λ d b z. seek-start F h (λ q. unset (M.set (omega arith)) (ap (λ (a : ℕ). is_set P₀ (spot c a)) q ∙ z));
  }

  -- all are
  pub marking_end : {P : List Bool} {e s : ℕ} → Marking L m x P₀ c P e s → e ≤ s → MarkedState L m x P₁ c P
  marking_end K h = record {
    size = K.size ∙ M.size;
    kept = λ i z. M.kept i (K.kept i z);
    clear = λ d b z. arrow-untold _ _ (seek-end (K.clear d b z) h) refl;
  }

-- one slot more is
pub marking_step : {L : List ℕ} {m : ℕ} {x : State} {P₀ : List Bool} {c : Letter} {P : List Bool} {e s : ℕ}
    → Marking L m x P₀ c P e s → s < e
    → {P' : List Bool} → Marked P c (at L (at L (3 * (m + 1) + s))) P' → Marking L m x P₀ c P' e (s + 1)
marking_step {c = c} K h {P'} M = record {
  size = M.size ∙ K.size;
  kept = λ i z. K.kept i (M.kept i z);
  clear = λ d b z. seek-next (K.clear d b (M.kept (spot c d) z)) h
      (λ q. unset (M.set (omega arith)) (ap (λ (a : ℕ). is_set P' (spot c a)) q ∙ z));
}

-- ── All letters ────────────────────────────────────────────────────────────

-- the letters before i are passed
pub record Following (L : List ℕ) (m : ℕ) (P : List Bool) (i : ℕ) : Type 0 where
  pub size : length P ≡ 8192
  pub clear : (c : Letter) → c < i → (x : State) → read_arrow m L 0 c ≡ some x → (d : Letter) → d < 256 → is_set P (spot c d) ≡ false
      → read_arrow m L x d ≡ none

module _ {L : List ℕ} {m : ℕ} {P : List Bool} where
  pub following_end : {i : ℕ} → Following L m P i → 256 ≤ i → Followers L m P
  following_end G h = record { size = G.size; clear = λ c b. G.clear c (omega arith) }

  module _ {F : List MaybeState} (I : Firsts L m F) {i : ℕ} (b : i < 256) (G : Following L m P i) where
    -- one letter more: no arrow leaves the state to which it leads
    following_same : ((x : State) → read_arrow m L 0 i ≡ some x → m ≤ x) → Following L m P (i + 1)
    following_same far = record { size = G.size; clear = λ c h. by c h (ℕ_discrete c i) }
      where
        by : (c : Letter) → c < i + 1 → Dec (c ≡ i) → (x : State) → read_arrow m L 0 c ≡ some x → (d : Letter) → d < 256
            → is_set P (spot c d) ≡ false → read_arrow m L x d ≡ none
        by c h (yes q) x e d l z = arrow-far L m x d (far x (rw q at e))
        by c h (no f) x e d l z = G.clear c (omega arith) x e d l z

    -- it leads nowhere
    pub following_none : leads F i ≡ None → Following L m P (i + 1)
    following_none n = following_same (λ x e. let z = sym (arrow-untold _ _ (I.arrows i b) n) ∙ e in cc)

    module _ {y : Stated} (there : leads F i ≡ Some y) where
      to : (x : State) → read_arrow m L 0 i ≡ some x → y.0 ≡ x
      to x e = let z = sym (arrow-told _ _ y (I.arrows i b) there) ∙ e in cc

      -- no arrow leaves a state that is not below m
      pub following_last : m ≤ y.0 → Following L m P (i + 1)
      following_last far = following_same (λ x e. omega (arith, to x e))

      -- those that leave it are marked
      pub following_step : {P' : List Bool} → MarkedState L m y.0 P i P' → Following L m P' (i + 1)
      following_step {P'} M = record { size = M.size ∙ G.size; clear = λ c h. by c h (ℕ_discrete c i) }
        where
          by : (c : Letter) → c < i + 1 → Dec (c ≡ i) → (x : State) → read_arrow m L 0 c ≡ some x → (d : Letter) → d < 256
              → is_set P' (spot c d) ≡ false → read_arrow m L x d ≡ none
          by c h (yes q) x e d l z = rw (← to x (rw q at e)) (M.clear d l (rw q at z))
          by c h (no f) x e d l z = G.clear c (omega arith) x e d l (M.kept (spot c d) z)
