-- WHAT A CALL FROM C SAYS of compact rows: the number that it returns, and every lent buffer and answer as it is left, from the outcome of
-- the entry behind it.
--
--   compact_build_call ..    the outcome of code that returns, and leaves, so much
--   compact_build_returns .. what is returned and left for an outcome of the entry
--   compact_build_call_says ..
--                            what it must be
--   compact_search_call .., and with Returns and Says: the same of a search
use Rattle.std.specs.Prelude.{List, ℕ}
use Rattle.words.specs.Words.{Word, Place}
use Rattle.compact_entries.specs.CompactBuild
use Rattle.compact_entries.specs.CompactBuild.{compact_build_says}
use Rattle.compact_entries.specs.CompactSearch
use Rattle.compact_entries.specs.CompactSearch.{compact_search_says}
use Rattle.marks_c.specs.Calls.{result_of, size_given, count_given, letters_given}

-- ── Build ──────────────────────────────────────────────────────────────────

pub record CompactBuildCall : Type 0 where
  pub result : ℕ
  pub sets : List ℕ
  pub targets : List ℕ
  pub m : ℕ

abbrev pub compact_build_call : ℕ → List ℕ → List ℕ → ℕ → CompactBuildCall
compact_build_call r Z T m = record { result = r; sets = Z; targets = T; m = m }

abbrev pub compact_build_returns : ℕ → CompactBuild.Outcome → CompactBuildCall
compact_build_returns m o = compact_build_call (result_of o.answer) o.sets o.tables (size_given m o.answer)

abbrev pub compact_build_call_says : Word → List ℕ → List ℕ → ℕ → CompactBuildCall
compact_build_call_says word Z T m = compact_build_returns m (compact_build_says word Z T)

-- ── Search ─────────────────────────────────────────────────────────────────

pub record CompactSearchCall : Type 0 where
  pub result : ℕ
  pub sets : List ℕ
  pub targets : List ℕ
  pub finds : List Place
  pub count : ℕ
  pub letters : ℕ

abbrev pub compact_search_call : ℕ → List ℕ → List ℕ → List Place → ℕ → ℕ → CompactSearchCall
compact_search_call r Z T F c l = record { result = r; sets = Z; targets = T; finds = F; count = c; letters = l }

abbrev pub compact_search_returns : ℕ → ℕ → CompactSearch.Outcome → CompactSearchCall
compact_search_returns c l o =
    let a = o.answer in compact_search_call (result_of a) o.sets o.tables o.finds (count_given c a) (letters_given l a)

abbrev pub compact_search_call_says : Word → Word → List ℕ → List ℕ → List Place → ℕ → ℕ → CompactSearchCall
compact_search_call_says word text Z T F c l = compact_search_returns c l (compact_search_says word text Z T F)
