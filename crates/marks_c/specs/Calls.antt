-- WHAT A CALL FROM C SAYS: the number that it returns, and every lent buffer and answer as it is left, from the outcome of the entry behind
-- it.
--
--   result_of a         0 for an answer, the number of 01's table for a refusal
--   given v a f         an answer that C is given: f of it, or v as it was where the call was refused
--   size_given v a ..   the same of a size, of the number of finds, and of the letters read
--   offset_given v a    an offset that C is given: the place of a refusal that has one, or v as it was
--   build_call ..       the outcome of code that returns, and leaves, so much
--   build_returns ..    what is returned and left for an outcome of the entry
--   build_call_says ..  what it must be
--   save_call .., load_call .., search_call .., search_file_call .., and each with Returns and Says: the same of the other entries
--   save_checked_call_says
--                       ..
--                       the same of saving with a check, which returns as saving does
--   turbo_call_says ..  the same of the Turbo search, which returns as a search does
use Rattle.std.specs.Prelude.{List, ℕ}
use Rattle.words.specs.Words.{Word, Place}
use Rattle.finds.specs.declared.Tally.{Tally}
use Rattle.answers.specs.Answers.{Answer, done, refused, refused_at}
use Rattle.marks.specs.Build
use Rattle.marks.specs.Build.{build_says}
use Rattle.marks.specs.Search
use Rattle.marks.specs.Search.{search_says}
use Rattle.linear.specs.Turbo.{turbo_says}
use Rattle.mark_files.specs.Save
use Rattle.mark_files.specs.Save.{save_says, save_checked_says}
use Rattle.mark_files.specs.Load
use Rattle.mark_files.specs.Load.{load_says}
use Rattle.mark_files.specs.SearchFile
use Rattle.mark_files.specs.SearchFile.{search_file_says}

abbrev pub result_of : {A : Type 0} → Answer A → ℕ
result_of (done a) = 0
result_of (refused r) = r
result_of (refused_at r p) = r

abbrev pub given : {A : Type 0} → ℕ → Answer A → (A → ℕ) → ℕ
given v (done a) f = f a
given v (refused r) f = v
given v (refused_at r p) f = v

abbrev pub size_given : ℕ → Answer ℕ → ℕ
size_given v a = given v a (λ n. n)

abbrev pub count_given : ℕ → Answer Tally → ℕ
count_given v a = given v a (λ t. t.count)

abbrev pub letters_given : ℕ → Answer Tally → ℕ
letters_given v a = given v a (λ t. t.letters)

abbrev pub offset_given : {A : Type 0} → Place → Answer A → Place
offset_given v (done a) = v
offset_given v (refused r) = v
offset_given v (refused_at r p) = p

-- ── Build ──────────────────────────────────────────────────────────────────

pub record BuildCall : Type 0 where
  pub result : ℕ
  pub tables : List ℕ
  pub m : ℕ

abbrev pub build_call : ℕ → List ℕ → ℕ → BuildCall
build_call r T m = record { result = r; tables = T; m = m }

abbrev pub build_returns : ℕ → Build.Outcome → BuildCall
build_returns m o = build_call (result_of o.answer) o.tables (size_given m o.answer)

abbrev pub build_call_says : Word → List ℕ → ℕ → BuildCall
build_call_says word T m = build_returns m (build_says word T)

-- ── Save ───────────────────────────────────────────────────────────────────

pub record SaveCall : Type 0 where
  pub result : ℕ
  pub tables : List ℕ
  pub output : List ℕ
  pub length : ℕ

abbrev pub save_call : ℕ → List ℕ → List ℕ → ℕ → SaveCall
save_call r T O n = record { result = r; tables = T; output = O; length = n }

abbrev pub save_returns : ℕ → Save.Outcome → SaveCall
save_returns n o = save_call (result_of o.answer) o.tables o.output (size_given n o.answer)

abbrev pub save_call_says : Word → List ℕ → List ℕ → ℕ → SaveCall
save_call_says word T O n = save_returns n (save_says word T O)

abbrev pub save_checked_call_says : Word → List ℕ → List ℕ → ℕ → SaveCall
save_checked_call_says word T O n = save_returns n (save_checked_says word T O)

-- ── Load ───────────────────────────────────────────────────────────────────

pub record LoadCall : Type 0 where
  pub result : ℕ
  pub word : List ℕ
  pub tables : List ℕ
  pub m : ℕ
  pub offset : Place

abbrev pub load_call : ℕ → List ℕ → List ℕ → ℕ → Place → LoadCall
load_call r R T m p = record { result = r; word = R; tables = T; m = m; offset = p }

abbrev pub load_returns : ℕ → Place → Load.Outcome → LoadCall
load_returns m p o = load_call (result_of o.answer) o.word o.tables (size_given m o.answer) (offset_given p o.answer)

abbrev pub load_call_says : List ℕ → List ℕ → List ℕ → ℕ → Place → LoadCall
load_call_says file R T m p = load_returns m p (load_says file R T)

-- ── Search ─────────────────────────────────────────────────────────────────

pub record SearchCall : Type 0 where
  pub result : ℕ
  pub tables : List ℕ
  pub finds : List Place
  pub count : ℕ
  pub letters : ℕ

abbrev pub search_call : ℕ → List ℕ → List Place → ℕ → ℕ → SearchCall
search_call r T F c l = record { result = r; tables = T; finds = F; count = c; letters = l }

abbrev pub search_returns : ℕ → ℕ → Search.Outcome → SearchCall
search_returns c l o = search_call (result_of o.answer) o.tables o.finds (count_given c o.answer) (letters_given l o.answer)

abbrev pub search_call_says : Word → Word → List ℕ → List Place → ℕ → ℕ → SearchCall
search_call_says word text T F c l = search_returns c l (search_says word text T F)

abbrev pub turbo_call_says : Word → Word → List ℕ → List Place → ℕ → ℕ → SearchCall
turbo_call_says word text T F c l = search_returns c l (turbo_says word text T F)

-- ── Search with a file ─────────────────────────────────────────────────────

pub record SearchFileCall : Type 0 where
  pub result : ℕ
  pub word : List ℕ
  pub tables : List ℕ
  pub finds : List Place
  pub count : ℕ
  pub letters : ℕ
  pub offset : Place

abbrev pub search_file_call : ℕ → List ℕ → List ℕ → List Place → ℕ → ℕ → Place → SearchFileCall
search_file_call r R T F c l p = record { result = r; word = R; tables = T; finds = F; count = c; letters = l; offset = p }

abbrev pub search_file_returns : ℕ → ℕ → Place → SearchFile.Outcome → SearchFileCall
search_file_returns c l p o =
    search_file_call (result_of o.answer) o.word o.tables o.finds (count_given c o.answer) (letters_given l o.answer)
    (offset_given p o.answer)

abbrev pub search_file_call_says : List ℕ → Word → List ℕ → List ℕ → List Place → ℕ → ℕ → Place → SearchFileCall
search_file_call_says file text R T F c l p = search_file_returns c l p (search_file_says file text R T F)
