-- THE FAILURE RULE, suffix by suffix. Claim: after the suffixes 1 to i, each of the suffixes 0 to i is walked by both kinds of arrow.
--
--   Suffix 0 is the word, and runs on the spine. The walk of suffix i + 1 halts with the letters up to k spelled. At the word's end nothing
--   is lacking. Else no state on the failure path from the halt has the next letter. The arrow that the rule adds at the path's end makes
--   that letter lead to k + 1: straight, or along a new failure arrow to k, where the spine has it. Behind it the suffix runs on the spine.
--   The new arrow stands where there was none, so the earlier suffixes are walked as before.
use mathlib.Core.Path.{◌≡◌, ◌∙◌}
use mathlib.Core.Logic.{by_cases}
use mathlib.Core.Option.{some}
use Prim.Native.Nat.{ℕ, zero, suc, ◌+◌, ◌-◌, ◌≤◌, ◌<◌}
use native.Mathlib.Decide.{dec_lt, ℕ_discrete}
use native.Mathlib.Omega.{arith}
use lib.ListN.{length, drop}
use lib.Seq.{drop-cons, drop-length}
use borrow.Author.Tests.{eq-eqb, ne_eqb, lt-ltb, le-ltb}
use Rattle.words.specs.Words.{Word, letter}
use Rattle.oracle.specs.Arrows.{State, walk}
use Rattle.oracle.specs.SuffixRule.{Halt}
use Rattle.oracle.proofs.Targets.{target_hit}
use Rattle.oracle.proofs.Walks.{walk_step}
use Rattle.failure.specs.FailureRule.{path_end, FailureArrows, symbols, with_failure, with_symbol, repair, after_suffix}
use Rattle.failure.proofs.Halts.{walk_kept, HaltedAt, far_halted}
use Rattle.failure.proofs.Paths.{Goes, hit, goes_via, Stuck, stuck-end, stuck-goes}
use Rattle.failure.proofs.Added.{symbol_to, failure_to, both_to, failure-hit, OneByOne, bare, skip, by_failure, by_symbol, Grows}
use Rattle.failure.proofs.Added.{failure_grows, symbol_grows, added-climbs, added-spine, stuck-state}
use Rattle.failure.proofs.Added.{goes_both, both_stuck, both_state, both_spine, both_kept}

-- suffix j is walked from 0
abbrev pub SuffixWalked : Word → FailureArrows → ℕ → Type 0
SuffixWalked p A j = (y : State) × (walk (both_to p A) 0 (drop j p) ≡ some y)

-- what holds after the suffixes 1 to i
pub record SuffixesWalked (p : Word) (A : FailureArrows) (i : ℕ) : Type 0 where
  pub one_by_one : OneByOne p A i
  pub walked : (j : ℕ) → j ≤ i → SuffixWalked p A j

module _ (p : Word) where
  -- from state k on, the letters behind the first k run on the spine
  rest-walked : {A : FailureArrows} {i : ℕ} → OneByOne p A i → (n k : ℕ) → k + n ≡ length p
      → walk (both_to p A) k (drop k p) ≡ some (length p)
  unfolding walk
  rest-walked G zero k e = let q : k ≡ length p = omega arith in rw (q, drop-length p, walk)
  rest-walked G (suc n) k e =
      rw (drop-cons p k 0 (omega arith))
      (walk_step _ (letter p k) (drop (suc k) p) k (suc k) (both_spine p G k (omega arith)) ∙ rest-walked G n (suc k) (omega arith))

  -- ── One suffix ───────────────────────────────────────────────────────────

  module _ {A : FailureArrows} {i : ℕ} (P : SuffixesWalked p A i) (h : Halt) (H : HaltedAt p (both_to p A) 0 (suc i) h) where
    abbrev G : OneByOne p A i
    G = P.one_by_one

    -- as the rule names them: the letters spelled, and the end of the failure path from the halt
    abbrev k : ℕ
    k = h.up_to

    abbrev j : State
    j = path_end (failure_to A) (length p) h.state

    -- what holds after suffix i holds after suffix i + 1, with new arrows by which that one is walked
    suffix-added : {A' : FailureArrows} → OneByOne p A' (suc i) → Grows p A A' → SuffixWalked p A' (suc i) → SuffixesWalked p A' (suc i)
    suffix-added G' E w = record {
      one_by_one = G';
      walked = λ s b. by_cases (ℕ_discrete s (suc i))
          (λ e. rw e w)
          (λ e. let r = P.walked s (omega arith) in (r.0, walk_kept (both_kept p G G' E) (drop s p) 0 r.0 r.1));
    }

    -- where the walk went to the word's end, none is needed
    nothing-lacking : k ≡ length p → SuffixesWalked p A (suc i)
    unfolding walk
    nothing-lacking e =
        suffix-added (skip G) (record { symbol = λ x c y d. d; failing = λ x z f. f; lacking = λ x c z d f. d })
        (h.state, H.resumes (λ x c y d. d) ∙ rw (e, drop-length p, walk))

    module _ (b : k < length p) where
      -- else no state of the path has the next letter
      stuck : Stuck (symbol_to p A) (failure_to A) (letter p k) j h.state
      stuck = both_stuck p G h.state (letter p k) (H.lacks b)

      -- arrows by which that letter leads from the path's end to k + 1 are enough
      arrow-added : {A' : FailureArrows} → OneByOne p A' (suc i) → Grows p A A'
          → Goes (symbol_to p A') (failure_to A') (letter p k) (suc k) j
          → SuffixesWalked p A' (suc i)
      arrow-added {A'} G' E g =
          let onto_spine = goes_both p G' h.state (letter p k) (suc k) (stuck-goes E stuck g) in
          let rest = rest-walked G' (length p - suc k) (suc k) (omega arith) in
          let behind = walk_step _ (letter p k) (drop (suc k) p) h.state (suc k) onto_spine ∙ rest in
          suffix-added G' E (length p, H.resumes (both_kept p G G' E) ∙ rw (drop-cons p k 0 b) behind)

      -- such is the rule's failure arrow
      failure-added : j < k → SuffixesWalked p (with_failure j k A) (suc i)
      failure-added l =
          let e = stuck-end stuck in
          let to-k = failure-hit A.failures j k in
          arrow-added (by_failure j k G l b e.1) (failure_grows p A j k e.1) (goes_via k e.0 to-k (hit (added-spine p G k b)))

      -- and such is its symbol arrow
      symbol-added : k ≤ j → SuffixesWalked p (with_symbol p j k A) (suc i)
      symbol-added l =
          let e = stuck-end stuck in
          let state = stuck-state p (added-climbs p G) H.state stuck in
          let to-next = target_hit (symbols p A) j (letter p k) (suc k) in
          arrow-added (by_symbol j k G l state b e.0 e.1) (symbol_grows p A j k e.0 e.1) (hit to-next)

    -- so the arrow that the rule adds is enough
    repaired : SuffixesWalked p (repair p A h) (suc i)
    unfolding repair
    repaired = by_cases (ℕ_discrete k (length p))
        (λ e. rw (eq-eqb k (length p) e) (nothing-lacking e))
        (λ e.
        let b : k < length p = omega (arith, H.inside) in
        rw (ne_eqb k (length p) e) (by_cases (dec_lt j k)
        (λ l. rw (lt-ltb j k l) (failure-added b l))
        (λ l. rw (le-ltb j k (omega arith)) (symbol-added b (omega arith)))))

  -- ── All suffixes ─────────────────────────────────────────────────────────

  -- the rule's arrows after suffix i were added one by one, and by them the suffixes 0 to i are walked
  pub suffixes_walked : (i : ℕ) → i ≤ length p → SuffixesWalked p (after_suffix p i) i
  unfolding after_suffix
  suffixes_walked zero h = record {
    one_by_one = bare;
    walked = λ j l. let q : j ≡ 0 = omega arith in rw q (length p, rest-walked bare (length p) 0 (omega arith));
  }
  suffixes_walked (suc i) h =
      let P = suffixes_walked i (omega arith) in
      let states = both_state p P.one_by_one in
      repaired P _ (far_halted p (both_to p (after_suffix p i)) states (length p - suc i) (suc i) 0 (omega arith) (omega arith))
