-- THE FIRST STATE OF EACH LETTER, kept while letters are added: it is where state 0's arrow on that letter leads, so that no lookup runs
-- along state 0's chain, the only one that grows with the letters in use.
use mathlib.Core.Path.{◌≡◌, refl, sym, ap, ◌∙◌}
use mathlib.Core.Logic.{◌≢◌}
use mathlib.Core.List.{List}
use Prim.Native.Nat.{ℕ, zero, suc, ◌+◌, ◌*◌, ◌%◌, ◌≤◌, ◌<◌}
use native.Mathlib.Nat.{mod-eq_of_lt}
use native.Mathlib.Numerals.{add-one}
use native.Mathlib.Decide.{ℕ_discrete}
use native.Mathlib.Omega.{arith}
use lib.ListN.{set, replicate, length-set, length-replicate, get_or-replicate}
use lib.Seq.{get_or-set_same, get_or-set_other}
use Rattle.words.specs.Lists.{at}
use Rattle.words.specs.Words.{Letter}
use Rattle.words.specs.Answers.{MaybeState, arrow_to}
use Rattle.std.specs.Prelude.{Some, None}
use Rattle.std.specs.Option.{option_or}
use Rattle.oracle.specs.Arrows.{State}
use Rattle.oracle.proofs.Chain.{zero-first, zero-none}
use Rattle.chains.specs.Chains.{Chain, look_in, Looks}
use Rattle.chains.specs.Letters.{first_state, FirstState, unseen, seen, Firsts, Blank}
use Rattle.chains.proofs.Looking.{chain-one}
use Rattle.chains.proofs.Model.{arrows_of}
use Rattle.chains.proofs.Sources.{look_held}
use Rattle.chains.proofs.Grown.{Grown}

-- ── Letter by letter ───────────────────────────────────────────────────────

pub firsts-start : (a : State → Letter) → Firsts a 0 (replicate 256 None)
firsts-start a = record {
  size = length-replicate {A = MaybeState} 256 None;
  says = λ c h. unseen (get_or-replicate 256 c None None h) (λ x p l. absurd (omega arith));
}

module _ {a : State → Letter} {t : ℕ} {F : List MaybeState} (K : Firsts a t F) (small : a (suc t) < 256) where
  abbrev new : MaybeState
  new = Some (record { 0 = suc t })

  -- a letter that had no state gets the new one, another keeps its own
  pub firsts-next : Firsts a (suc t) (set F (a (suc t)) (option_or (first_state F (a (suc t))) new))
  firsts-next = record { size = length-set F _ _ ∙ K.size; says = λ c h. by c h (ℕ_discrete c (a (suc t))) }
    where
      value : MaybeState
      value = option_or (first_state F (a (suc t))) new

      own : {r : MaybeState} → FirstState a t (a (suc t)) r → FirstState a (suc t) (a (suc t)) (option_or r new)
      own (unseen q f) = seen (suc t) (rw q) (omega arith) (omega arith) refl (λ x p l. f x p (omega arith))
      own (seen y q p l e f) = seen y (rw q) p (omega arith) e f

      later : (c : Letter) → c ≢ a (suc t) → {r : MaybeState} → FirstState a t c r → FirstState a (suc t) c r
      later c e (unseen q f) = unseen q (λ x p l. unlike x p l (ℕ_discrete x (suc t)))
        where
          unlike : (x : State) → 0 < x → x ≤ suc t → Dec (x ≡ suc t) → a x ≢ c
          unlike x p l (yes i) g = e (sym g ∙ ap a i)
          unlike x p l (no i) g = f x p (omega arith) g
      later c e (seen y q p l i f) = seen y q p (omega arith) i f

      by : (c : Letter) → c < 256 → Dec (c ≡ a (suc t)) → FirstState a (suc t) c (first_state (set F (a (suc t)) value) c)
      by c h (yes e) = rw (e, get_or-set_same F (a (suc t)) value None (omega (arith, K.size))) (own (K.says (a (suc t)) small))
      by c h (no e) = rw (get_or-set_other F (a (suc t)) c value None e) (later c e (K.says c h))

-- ── State 0's arrows ───────────────────────────────────────────────────────

module _ {B : List ℕ} {m : ℕ} {L : List ℕ} {t u : ℕ} (G : Grown B m L t u) (more : t < m) {F : List MaybeState}
    (K : Firsts (at B) t F) where
  -- the arrow that the first state of c tells is the one that a lookup along the chain would find
  pub zero_looks : (c : Letter) → c < 256 → Looks L (suc m) t 0 c (first_state F c)
  zero_looks c h = record {
    says = λ l C. told (first_state F c) (K.says c h) ∙ ap arrow_to (sym held ∙ ap (λ v. look_in (at L) t v 0 c) (sym (chain-one C chain)));
  }
    where
      chain : Chain L (suc m) (at L (2 * suc m + 0)) (G.T 0)
      chain = G.held.chain 0 (omega arith)

      held : look_in (at L) t (G.T 0) 0 c ≡ arrows_of (at B) t G.T 0 c
      held = look_held (at B) t c G.held (λ y b. G.letters y b) (omega arith)

      told : (r : MaybeState) → FirstState (at B) t c r → r ≡ arrow_to (arrows_of (at B) t G.T 0 c)
      told r (unseen e f) = e ∙ ap arrow_to (sym (zero-none G.supplied c (λ i b. f (suc i) (omega arith) b)))
      told r (seen zero q p l e f) = absurd (omega arith)
      told r (seen (suc z) q p l e f) =
          let to = zero-first G.supplied z l (λ i b g. f (suc i) (omega arith) (omega arith) (g ∙ e)) in
          q ∙ ap arrow_to (sym (rw e at to))

-- ── In the code's sums ─────────────────────────────────────────────────────

module _ {B : List ℕ} {m : ℕ} (N : Blank B m) {L : List ℕ} {t u : ℕ} (G : Grown B m L t u) (more : t < m) {F : List MaybeState}
    (K : Firsts (at B) t F) where
  letter_is : at L (t + 1) % 256 ≡ at B (suc t)
  letter_is = rw (add-one t, G.letters (suc t) (omega arith)) (mod-eq_of_lt (N.letters (suc t) more))

  pub code-zero : Looks L (m + 1) t 0 (at L (t + 1)) (first_state F (at L (t + 1) % 256))
  code-zero =
      let looks = zero_looks G more K (at B (suc t)) (N.letters (suc t) more) in
      rw (letter_is, add-one t, add-one m, G.letters (suc t) (omega arith)) looks

  pub code-next : {r : MaybeState} → r ≡ option_or (first_state F (at L (t + 1) % 256)) (Some (record { 0 = t + 1 }))
      → Firsts (at B) (t + 1) (set F (at L (t + 1) % 256) r)
  code-next e = rw (e, letter_is, add-one t) (firsts-next K (N.letters (suc t) more))
