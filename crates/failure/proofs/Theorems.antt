-- THE THEOREMS on the failure oracle and the search with it, for every word and every text, each a sentence about the definitions alone.
-- The proofs are in the other files: the rule adds its arrows one by one (`Added`), by them all suffixes are walked (`Rule`), so every
-- factor is, and a search whose arrows walk every factor of the mirrored word loses no occurrence (`Windows`).
use mathlib.Core.Path.{◌≡◌, refl, ◌∙◌}
use mathlib.Core.Logic.{◌≢◌}
use mathlib.Core.Option.{none, some}
use mathlib.Core.List.{[], ◌∷◌, Memᴰ}
use Prim.Native.Nat.{ℕ, zero, suc, ◌+◌, ◌-◌, ◌*◌, ◌≤◌, ◌<◌}
use native.Mathlib.Omega.{arith}
use lib.ListN.{length, drop, length-append, length-reverse, take-append-drop}
use borrow.Author.Tests.{eq-eqb, ne_eqb, lt-ltb, le-ltb}
use Rattle.words.specs.Words.{Letter, Word, letter, mirror, part, occurrences}
use Rattle.words.proofs.Lists.{option_cases}
use Rattle.oracle.specs.Arrows.{State, Arrow, target, walk, spine, OneEach}
use Rattle.oracle.specs.SuffixRule.{Halt, far}
use Rattle.oracle.proofs.Count.{spine-length}
use Rattle.oracle.proofs.Walks.{walk-append}
use Rattle.backward.proofs.Windows.{WalksParts}
use Rattle.failure.specs.FailureRule.{Fails, failure_of, OneFailure, Asking, here, further, leads, path_end}
use Rattle.failure.specs.FailureRule.{FailureArrows, symbols, ask_in, with_failure, with_symbol, repair, after_suffix, failure_rule}
use Rattle.failure.specs.FailureRule.{failure_walk}
use Rattle.failure.specs.FailureSteps.{no_window, failure_steps}
use Rattle.failure.proofs.Paths.{Climbing, ask-hit, ask-stop, ask-taken, path-ends, path_via, ask_via}
use Rattle.failure.proofs.Added.{added-climbs, added-letter, added-falls, added-one_each, added-one, added-count}
use Rattle.failure.proofs.Rule.{SuffixesWalked, suffixes_walked}
use Rattle.failure.proofs.Windows.{steps-list, steps_letters_most, steps_failures_most, steps-short}

-- where a counted walk ends is where a walk by both kinds ends
pub counted-walk : (σ : Asking) (v : Word) (x : State) → (failure_walk σ x v).to ≡ walk (leads σ) x v
unfolding failure_walk walk
counted-walk σ [] x = refl
counted-walk σ (c ∷ v) x = option_cases (σ x c).to
    (λ d. rw (d, failure_walk, walk))
    (λ y d. rw (d, failure_walk, walk) (counted-walk σ v y))

module _ (p : Word) where
  -- where failure arrows lead, and what becomes of a letter
  abbrev fails : Fails
  fails = failure_of (failure_rule p).failures

  abbrev asking : Asking
  asking = ask_in p (failure_rule p)

  -- ── 1. One suffix more ───────────────────────────────────────────────────

  -- from state 0 the suffix behind i + 1 letters halts at h; j ends the failure path from there, and the letters up to k are spelled
  module _ (i : ℕ) where
    abbrev before : FailureArrows
    before = after_suffix p i

    abbrev halt : Halt
    halt = far (leads (ask_in p before)) 0 (suc i) (drop (suc i) p)

    abbrev k : ℕ
    k = halt.up_to

    abbrev j : State
    j = path_end (failure_of before.failures) (length p) halt.state

    -- all of it is spelled: no arrow is added
    pub whole-suffix : k ≡ length p → after_suffix p (suc i) ≡ before
    unfolding after_suffix repair
    whole-suffix e = rw (eq-eqb k (length p) e)

    -- k is above j: a failure arrow from j to k
    pub failure-added : k ≢ length p → j < k → after_suffix p (suc i) ≡ with_failure j k before
    unfolding after_suffix repair
    failure-added e l = rw (ne_eqb k (length p) e, lt-ltb j k l)

    -- else a symbol arrow from j to k + 1
    pub symbol-added : k ≢ length p → k ≤ j → after_suffix p (suc i) ≡ with_symbol p j k before
    unfolding after_suffix repair
    symbol-added e l = rw (ne_eqb k (length p) e, le-ltb j k l)

  -- all suffixes are walked, by arrows added one by one
  all-walked : SuffixesWalked p (failure_rule p) (length p - 1)
  unfolding failure_rule
  all-walked = suffixes_walked p (length p - 1) (omega arith)

  -- ── 2. The arrows ────────────────────────────────────────────────────────

  -- failure arrows climb, and stay below m
  pub failures-climb : Climbing (length p) fails
  failures-climb = added-climbs p all-walked.one_by_one

  -- so every failure path ends: the state that ends it has no failure arrow
  pub failure-paths-end : (x : State) → fails (path_end fails (length p) x) ≡ none
  failure-paths-end x = path-ends failures-climb (length p) x (omega arith)

  -- and a failure arrow is a step on the path
  pub failure_path_via : (x z : State) → fails x ≡ some z → path_end fails (length p) x ≡ path_end fails (length p) z
  failure_path_via = path_via failures-climb

  -- a symbol arrow that fits is taken, and no failure arrow
  pub symbol-taken : (x y : State) (c : Letter) → target (symbols p (failure_rule p)) x c ≡ some y → asking x c ≡ here x (some y)
  unfolding ask_in
  symbol-taken x y c d = ask-hit (target (symbols p (failure_rule p))) fails (length p) x y c d

  -- where none fits, the letter is handed on along the failure arrow
  pub failure-taken : (x z : State) (c : Letter) → target (symbols p (failure_rule p)) x c ≡ none → fails x ≡ some z
      → asking x c ≡ further (asking z c)
  unfolding ask_in
  failure-taken x z c d f = ask_via failures-climb (target (symbols p (failure_rule p))) x z c d f

  -- where there is no failure arrow either, it leads nowhere
  pub neither-taken : (x : State) (c : Letter) → target (symbols p (failure_rule p)) x c ≡ none → fails x ≡ none → asking x c ≡ here x none
  unfolding ask_in
  neither-taken x c d f = ask-stop (target (symbols p (failure_rule p))) fails (length p) x c d f

  -- one failure arrow at most leaves a state
  pub one-failure : OneFailure (failure_rule p).failures
  one-failure = added-one p all-walked.one_by_one

  -- one symbol arrow at most leaves a state on a letter
  pub one_symbol : OneEach (symbols p (failure_rule p))
  one_symbol = added-one_each p all-walked.one_by_one

  -- a symbol arrow into a state carries that state's letter
  pub symbol-letter : (a : Arrow) → Memᴰ a (symbols p (failure_rule p))
      → (z : State) × (a.to ≡ suc z) × (z < length p) × (a.on ≡ letter p z)
  symbol-letter a i = added-letter p all-walked.one_by_one i

  -- beside the spine, a symbol arrow leads to its own state or to a lower one
  pub extra-falls : (a : Arrow) → Memᴰ a (failure_rule p).extra → a.to ≤ a.source
  extra-falls a i = added-falls p all-walked.one_by_one i

  -- there are at least m arrows in all
  pub arrows_least : length p ≤ length (symbols p (failure_rule p)) + length (failure_rule p).failures
  arrows_least = omega (arith, length-append (failure_rule p).extra (spine p), spine-length p)

  -- and at most 2m - 1
  pub arrows_most : 1 ≤ length p → length (symbols p (failure_rule p)) + length (failure_rule p).failures ≤ 2 * length p - 1
  arrows_most h =
      omega (arith, length-append (failure_rule p).extra (spine p), spine-length p, added-count p all-walked.one_by_one)

  -- a letter takes at most m failure arrows
  pub letter-takes : (x : State) (c : Letter) → (asking x c).taken ≤ length p
  unfolding ask_in
  letter-takes x c = ask-taken (target (symbols p (failure_rule p))) fails (length p) x c

  -- ── 3. Walks ─────────────────────────────────────────────────────────────

  -- every factor is walked from 0
  pub factor_walked : (i n : ℕ) → i + n ≤ length p → (y : State) × (walk (leads asking) 0 (part p i n) ≡ some y)
  unfolding walk
  factor_walked i zero h = (0, refl)
  factor_walked i (suc n) h =
      let r = all-walked.walked i (omega arith) in
      let v = drop (suc n) (drop i p) in
      let q = walk-append (leads asking) (part p i (suc n)) v 0 r.0 (rw (take-append-drop (suc n) (drop i p)) r.1) in
      (q.0, q.1)

  -- so is it where the failure arrows taken are counted
  pub factor_counted : (i n : ℕ) → i + n ≤ length p → (y : State) × ((failure_walk asking 0 (part p i n)).to ≡ some y)
  factor_counted i n h = let r = factor_walked i n h in (r.0, counted-walk asking (part p i n) 0 ∙ r.1)

-- ── 4. The search ──────────────────────────────────────────────────────────

module _ (w t : Word) where
  abbrev asking_mirror : Asking
  asking_mirror = asking (mirror w)

  -- by the arrows of the mirrored word, its factors are walked
  factors_walked : WalksParts w (leads asking_mirror)
  factors_walked = record { part-walked = λ a n h. factor_walked (mirror w) a n (rw (length-reverse w) h) }

  -- the search lists what demand 2 lists
  pub search-lists : (failure_steps w t).starts ≡ occurrences w t
  unfolding failure_steps
  search-lists = steps-list asking_mirror factors_walked t

  -- in a text shorter than the word nothing is read and nothing found
  pub search-short : length t < length w → failure_steps w t ≡ no_window
  unfolding failure_steps
  search-short h = steps-short asking_mirror w t h

  -- it takes at most m failure arrows for each letter that it reads
  pub search_failures_most : (failure_steps w t).failures ≤ length w * (failure_steps w t).letters
  unfolding failure_steps
  search_failures_most =
      steps_failures_most asking_mirror (length w) (λ x c. omega (arith, letter-takes (mirror w) x c, length-reverse w)) t w

  -- it reads at most m (n - m + 1) letters
  pub search_letters_most : length w ≤ length t → (failure_steps w t).letters ≤ length w * (length t - length w + 1)
  unfolding failure_steps
  search_letters_most h = steps_letters_most asking_mirror w t h
