-- WHAT A CALL FROM C SAYS of the salvage lister: the number that it returns, and every lent buffer and the answer as it is left, from
-- the outcome of the entry behind it.
--
--   salvage_call ..      the outcome of code that returns, and leaves, so much
--   salvage_returns ..   what is returned and left for an outcome of the entry
--   salvage_call_says .. what it must be
use Rattle.std.specs.Prelude.{List, ℕ}
use Rattle.words.specs.Words.{Word, Place}
use Rattle.salvage.specs.Salvage.{Outcome, salvage_says}
use Rattle.marks_c.specs.Calls.{result_of, size_given}

pub record SalvageCall : Type 0 where
  pub result : ℕ
  pub tables : List ℕ
  pub starts : List Place
  pub kinds : List ℕ
  pub count : ℕ

abbrev pub salvage_call : ℕ → List ℕ → List Place → List ℕ → ℕ → SalvageCall
salvage_call r T S K c = record { result = r; tables = T; starts = S; kinds = K; count = c }

abbrev pub salvage_returns : ℕ → Outcome → SalvageCall
salvage_returns c o = salvage_call (result_of o.answer) o.tables o.starts o.kinds (size_given c o.answer)

abbrev pub salvage_call_says : Word → List ℕ → List Place → List ℕ → ℕ → SalvageCall
salvage_call_says text T S K c = salvage_returns c (salvage_says text T S K)
