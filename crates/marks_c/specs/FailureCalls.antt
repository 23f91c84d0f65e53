-- WHAT A CALL FROM C SAYS of the failure oracle: the number that it returns, and every lent buffer and answer as it is left, from the
-- outcome of the entry behind it.
--
--   failure_build_call_says ..
--                             what a build returns and leaves, as that of the oracle does
--   failure_count_given v a ..
--                             what C is given of a search: the finds, the letters read and the failure arrows taken
--   failure_search_call ..    the outcome of code that returns, and leaves, so much
--   failure_search_returns .. what is returned and left for an outcome of the entry
--   failure_search_call_says ..
--                             what it must be
use Rattle.std.specs.Prelude.{List, ℕ}
use Rattle.words.specs.Words.{Word, Place}
use Rattle.answers.specs.Answers.{Answer}
use Rattle.failure_search.specs.declared.FailureTally.{FailureTally}
use Rattle.failure_entries.specs.FailureBuild.{failure_build_says}
use Rattle.failure_entries.specs.FailureSearch.{FailureOutcome, failure_search_says}
use Rattle.marks_c.specs.Calls.{result_of, given, BuildCall, build_returns}

-- ── Build ──────────────────────────────────────────────────────────────────

abbrev pub failure_build_call_says : Word → List ℕ → ℕ → BuildCall
failure_build_call_says word T m = build_returns m (failure_build_says word T)

-- ── Search ─────────────────────────────────────────────────────────────────

abbrev pub failure_count_given : ℕ → Answer FailureTally → ℕ
failure_count_given v a = given v a (λ t. t.count)

abbrev pub failure_letters_given : ℕ → Answer FailureTally → ℕ
failure_letters_given v a = given v a (λ t. t.letters)

abbrev pub failures_given : ℕ → Answer FailureTally → ℕ
failures_given v a = given v a (λ t. t.failures)

pub record FailureSearchCall : Type 0 where
  pub result : ℕ
  pub tables : List ℕ
  pub finds : List Place
  pub count : ℕ
  pub letters : ℕ
  pub failures : ℕ

abbrev pub failure_search_call : ℕ → List ℕ → List Place → ℕ → ℕ → ℕ → FailureSearchCall
failure_search_call r T F c l f = record { result = r; tables = T; finds = F; count = c; letters = l; failures = f }

abbrev pub failure_search_returns : ℕ → ℕ → ℕ → FailureOutcome → FailureSearchCall
failure_search_returns c l f o =
    let a = o.answer in
    failure_search_call (result_of a) o.tables o.finds (failure_count_given c a) (failure_letters_given l a) (failures_given f a)

abbrev pub failure_search_call_says : Word → Word → List ℕ → List Place → ℕ → ℕ → ℕ → FailureSearchCall
failure_search_call_says word text T F c l f = failure_search_returns c l f (failure_search_says word text T F)
