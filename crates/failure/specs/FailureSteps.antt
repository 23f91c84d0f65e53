-- THE SEARCH WITH THE FAILURE ORACLE, step by step as 02 states it: the windows of the backward search, but that letters are read by both
-- kinds of arrow, and that the failure arrows taken are counted too. The automaton may have symbol cycles, so that reading m letters is no
-- find by itself: the word is compared.
--
--   FailureReading          where a window's reading failed, if it did, the letters that it read and the failure arrows that it took
--   read_both σ t s k x     reads the letters at s + k - 1 down to s, from state x
--   read_window_both σ w t s
--                           reads the window of w's length that starts at s, from state 0
--   failure_next w t s f    where the window goes from s, f the place of the failing letter if there is one
--   failure_listed w t s f l
--                           the starts l with s before them, where no letter failed and the word stands at s
--   FailureSweep            the starts of the occurrences, rising, all letters read and all failure arrows taken
--   failure_windows σ w t k s
--                           the windows from s on; k bounds how many there are
--   failure_steps_with σ w t
--                           all windows, where letters lead as σ says
--   failure_steps w t       the search: with the failure oracle of the mirrored word
--
-- 02, 'Failure oracle' and 'The step after a find'; 01, 'The backward search'.
use Rattle.std.specs.Prelude.{cond, List, [], ◌∷◌, ℕ, zero, suc, ◌+◌, length, leb}
use Rattle.std.proofs.Math.Option.{Option, none, some}
use Rattle.words.specs.Words.{Word, Place, letter, mirror, stands}
use Rattle.oracle.specs.Arrows.{State}
use Rattle.backward.specs.Steps.{after_find}
use Rattle.failure.specs.FailureRule.{Asked, Asking, ask_in, failure_rule}

pub record FailureReading : Type 0 where
  pub failed : Option Place
  pub letters : ℕ
  pub failures : ℕ

-- no letter is left
abbrev pub none_left : FailureReading
none_left = record { failed = none; letters = 0; failures = 0 }

-- the letter at f fails: it counts as read, and the failure arrows taken on it count
abbrev pub fails_asked : Place → Asked → FailureReading
fails_asked f a = record { failed = some f; letters = 1; failures = a.taken }

-- one letter is read, and then the others as r says
abbrev pub one_asked : Asked → FailureReading → FailureReading
one_asked a r = record { failed = r.failed; letters = suc r.letters; failures = a.taken + r.failures }

unfoldable pub read_both : Asking → Word → Place → ℕ → State → FailureReading
read_both σ t s zero x = none_left
read_both σ t s (suc k) x =
    let a = σ x (letter t (s + k)) in
    elim a.to [ none ↦ fails_asked (s + k) a | some y ↦ one_asked a (read_both σ t s k y) ]

abbrev pub read_window_both : Asking → Word → Word → Place → FailureReading
read_window_both σ w t s = read_both σ t s (length w) 0

abbrev pub failure_next : Word → Word → Place → Option Place → Place
failure_next w t s none = cond (stands w t s) (s + after_find w) (s + 1)
failure_next w t s (some f) = f + 1

abbrev pub failure_listed : Word → Word → Place → Option Place → List Place → List Place
failure_listed w t s none l = cond (stands w t s) (s ∷ l) l
failure_listed w t s (some f) l = l

pub record FailureSweep : Type 0 where
  pub starts : List Place
  pub letters : ℕ
  pub failures : ℕ

abbrev pub no_window : FailureSweep
no_window = record { starts = []; letters = 0; failures = 0 }

unfoldable pub failure_windows : Asking → Word → Word → ℕ → Place → FailureSweep
failure_windows σ w t zero s = no_window
failure_windows σ w t (suc k) s =
    let r = read_window_both σ w t s in
    let later = failure_windows σ w t k (failure_next w t s r.failed) in
    cond (leb (s + length w) (length t)) (record {
      starts = failure_listed w t s r.failed later.starts;
      letters = r.letters + later.letters;
      failures = r.failures + later.failures;
    }) no_window

-- every window starts at another of the places 0 to n, so n + 1 bounds them
unfoldable pub failure_steps_with : Asking → Word → Word → FailureSweep
failure_steps_with σ w t = failure_windows σ w t (suc (length t)) 0

unfoldable pub failure_steps : Word → Word → FailureSweep
failure_steps w t = failure_steps_with (ask_in (mirror w) (failure_rule (mirror w))) w t
