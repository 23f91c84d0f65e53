-- WHAT A SEARCH REMEMBERS of the letters with which windows began: where each leads from state 0, and how many failure arrows it takes.
--
--   TellsFirst σ c r   r tells where c leads from state 0, and how many failure arrows it takes
--   Remembers σ D      entry c of D is none, or it tells this of the letter c
use Rattle.std.specs.Prelude.{◌≡◌, List, length, Option as Maybe, Some, None, slice_index_or}
use Rattle.words.specs.Words.{Letter}
use Rattle.words.specs.Answers.{arrow_to}
use Rattle.failure.specs.FailureRule.{Asking}
use Rattle.failure_search.specs.declared.First.{First}

pub record TellsFirst (σ : Asking) (c : Letter) (r : First) : Type 0 where
  pub leads : r.leads ≡ arrow_to (σ 0 c).to
  pub taken : r.taken ≡ (σ 0 c).taken

pub record Remembers (σ : Asking) (D : List (Maybe First)) : Type 0 where
  pub size : length D ≡ 256
  pub tells : (c : Letter) (r : First) → slice_index_or D c None ≡ Some r → TellsFirst σ c r
