-- A LETTER ASKED IN CODE, along the failure path: `Along` is what holds before each state that is asked, namely that asking it says what
-- asking the first state says, but for the failure arrows already taken.
use mathlib.Core.Path.{◌≡◌, ◌∙◌}
use mathlib.Core.Logic.{◌≢◌}
use mathlib.Core.List.{List}
use Prim.Native.Nat.{ℕ, suc, ◌+◌, ◌-◌, ◌≤◌}
use native.Mathlib.Nat.{add-zero}
use native.Mathlib.Omega.{arith}
use Rattle.words.specs.Words.{Letter}
use Rattle.words.specs.Answers.{arrow_to}
use Rattle.words.specs.declared.State.{State as Stated}
use Rattle.words.specs.Answers.{MaybeState}
use Rattle.std.specs.Prelude.{Some, None}
use Rattle.words.proofs.Answers.{arrow-told, arrow-untold}
use Rattle.oracle.specs.Arrows.{State}
use Rattle.failure.specs.FailureRule.{Asked, further, ask}
use Rattle.failure.proofs.Paths.{ask-hit, ask-stop, ask_fail}
use Rattle.failure_table.specs.FailureTable.{read_failure, read_symbol, read_ask}
use Rattle.failure_table.specs.FailureFormed.{FailureFormed}
use Rattle.failure_table.specs.Building.{answered_as}
use Rattle.failure_table.proofs.Lookups.{failure_entry, failure-none, failure-some}

-- k failure arrows were taken before s
abbrev after_taking : ℕ → Asked → Asked
after_taking k s = record { to = s.to; last = s.last; taken = k + s.taken }

-- what asking y for c says, along at most g failure arrows
abbrev asked_from : List ℕ → ℕ → Letter → ℕ → State → Asked
asked_from L m c g y = ask (read_symbol m L) (read_failure m L) g y c

-- the letter is still to be asked of the state y and of those behind it, k failure arrows having been taken from x
pub record Along (L : List ℕ) (m : ℕ) (x : State) (c : Letter) (y : State) (k : ℕ) : Type 0 where
  pub bound : ℕ
  pub state : y ≤ m
  pub counted : k ≤ y
  pub enough : m ≤ bound + y
  pub same : read_ask m L x c ≡ after_taking k (asked_from L m c bound y)

module _ {L : List ℕ} {m : ℕ} {x : State} {c : Letter} (F : FailureFormed L m) where
  -- no state is asked yet
  pub along_start : x ≤ m → Along L m x c x 0
  unfolding read_ask
  along_start h = record { bound = m; state = h; counted = omega arith; enough = omega arith; same = none-taken (asked_from L m c m x) }
    where
      none-taken : (s : Asked) → s ≡ after_taking 0 s
      none-taken s = let e : 0 + s.taken ≡ s.taken = omega arith in rw e

  module _ {y : State} {k : ℕ} (A : Along L m x c y k) (r : MaybeState) (says : r ≡ arrow_to (read_symbol m L y c)) where
    -- y has the letter
    pub along_hit : (z : Stated) → r ≡ Some z → record { leads = Some z; last = record { 0 = y }; taken = k }
        ≡ answered_as (read_ask m L x c)
    along_hit z e =
        let there = arrow-told _ r z says e in
        rw (A.same, ask-hit (read_symbol m L) (read_failure m L) A.bound y z.0 c there, add-zero k)

    -- y has neither the letter nor a failure arrow
    pub along_stop : r ≡ None → failure_entry m L y ≡ 0
        → record { leads = None; last = record { 0 = y }; taken = k } ≡ answered_as (read_ask m L x c)
    along_stop e z =
        let lacks = arrow-untold _ r says e in
        let stops = failure-none m L y A.state z in
        rw (A.same, ask-stop (read_symbol m L) (read_failure m L) A.bound y c lacks stops, add-zero k)

    -- y has a failure arrow
    pub along_fail : r ≡ None → failure_entry m L y ≢ 0 → Along L m x c (failure_entry m L y) (k + 1)
    along_fail e z =
        let up = F.climbs y A.state z in
        let g = A.bound - 1 in
        let one : A.bound ≡ suc g = omega arith in
        let lacks = arrow-untold _ r says e in
        let fails = failure-some m L y A.state z in
        let on = ask_fail (read_symbol m L) (read_failure m L) g y (failure_entry m L y) c lacks fails in
        record {
          bound = g;
          state = omega arith;
          counted = omega arith;
          enough = omega arith;
          same = rw (one, on) at A.same ∙ one_more (asked_from L m c g (failure_entry m L y));
        }
      where
        one_more : (s : Asked) → after_taking k (further s) ≡ after_taking (k + 1) s
        one_more s = let a : k + suc s.taken ≡ k + 1 + s.taken = omega arith in rw a
