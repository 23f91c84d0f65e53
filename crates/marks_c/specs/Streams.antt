-- WHAT A CALL FROM C SAYS where the text comes in pieces: the number that it returns, and every lent buffer and answer as it is left, from
-- the outcome of the entry behind it.
--
--   open_call ..        the outcome of code that returns, and leaves, so much
--   open_returns ..     what is returned and left for an outcome of the entry
--   open_call_says ..   what it must be
--   take_call .., take_returns .., take_call_says ..   the same of taking a piece
use Rattle.std.specs.Prelude.{List, ℕ}
use Rattle.words.specs.Words.{Word, Place}
use Rattle.searcher_bytes.specs.OpenBytes
use Rattle.searcher_bytes.specs.OpenBytes.{open_bytes_says}
use Rattle.searcher_bytes.specs.TakeBytes
use Rattle.searcher_bytes.specs.TakeBytes.{take_bytes_says}
use Rattle.marks_c.specs.Calls.{result_of, size_given}

-- ── Open ───────────────────────────────────────────────────────────────────

pub record OpenCall : Type 0 where
  pub result : ℕ
  pub searcher : List ℕ

abbrev pub open_call : ℕ → List ℕ → OpenCall
open_call r B = record { result = r; searcher = B }

abbrev pub open_returns : OpenBytes.Outcome → OpenCall
open_returns o = open_call (result_of o.answer) o.bytes

abbrev pub open_call_says : Word → List ℕ → OpenCall
open_call_says word B = open_returns (open_bytes_says word B)

-- ── Take ───────────────────────────────────────────────────────────────────

pub record TakeCall : Type 0 where
  pub result : ℕ
  pub searcher : List ℕ
  pub finds : List Place
  pub count : ℕ

abbrev pub take_call : ℕ → List ℕ → List Place → ℕ → TakeCall
take_call r B F c = record { result = r; searcher = B; finds = F; count = c }

abbrev pub take_returns : ℕ → TakeBytes.Outcome → TakeCall
take_returns c o = take_call (result_of o.answer) o.bytes o.list (size_given c o.answer)

abbrev pub take_call_says : List ℕ → Word → List Place → ℕ → TakeCall
take_call_says B piece F c = take_returns c (take_bytes_says B piece F)
