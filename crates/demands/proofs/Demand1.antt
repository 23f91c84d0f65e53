-- DEMAND 1, clause by clause: each is quoted word for word, and under it stands what says just that of the entries' outcomes, by citing the
-- file where it is proved. Wrong programs that 01 wants shut out by this demand are named in plain words, each with what shuts it out.
use mathlib.Core.Path.{◌≡◌, refl, ap}
use mathlib.Core.Bool.{true}
use mathlib.Core.Logic.{◌⊎◌, ◌↔◌}
use mathlib.Core.List.{List, [], ◌∷◌, ◌++◌, map}
use Prim.Native.Nat.{ℕ, ◌+◌, ◌-◌, ◌≤◌, ◌<◌}
use lib.ListN.{length, drop, replicate}
use Rattle.words.specs.Words.{Word, Place, mirror}
use Rattle.words.specs.Limits.{longest_word, longest_text, least_saved, greatest_file}
use Rattle.table.specs.Table.{room}
use Rattle.saved.specs.File.{spell}
use Rattle.loaded.specs.Load.{letters}
use Rattle.loaded.specs.Cases.{Reads, BadLength}
use Rattle.editions.specs.Editions.{Edition, plain, spell_in}
use Rattle.editions.specs.EitherCases.{EditionRead, FrontEither}
use Rattle.std.specs.Prelude.{Result}
use Rattle.answers.specs.declared.Refusal.{Refusal}
use Rattle.finds.specs.declared.Tally.{Tally}
use Rattle.answers.specs.Answers.{Answer, done, refused, refused_at, Succeeds, refuses_only, refuses_with, refusals}
use Rattle.marks.specs.Build.{built, build_says}
use Rattle.mark_files.specs.Save.{saved_as, save_says}
use Rattle.marks.specs.Search.{found, searched, search_says}
use Rattle.mark_files.specs.Load.{loaded_as, load_says}
use Rattle.mark_files.specs.SearchFile.{file_searched, search_file_says}
use Rattle.marks.specs.Build
use Rattle.mark_files.specs.Save
use Rattle.marks.specs.Search
use Rattle.mark_files.specs.Load
use Rattle.mark_files.specs.SearchFile
use Rattle.marks.specs.Cases.{BuildCase, SearchCase}
use Rattle.mark_files.specs.Cases.{SaveCase, LoadCase, SearchFileCase, AfterRefusal}
use Rattle.marks.proofs.Numbers as WordNumbers
use Rattle.mark_files.proofs.Numbers as FileNumbers
use Rattle.marks.proofs.BuildSays
use Rattle.mark_files.proofs.SaveSays
use Rattle.marks.proofs.SearchSays
use Rattle.mark_files.proofs.LoadSays
use Rattle.mark_files.proofs.LoadTheorems
use Rattle.mark_files.proofs.SearchFileSays

-- ── 'Any word, text, file and room may be handed to any public entry.' ─────

-- Of the code, crates/marks/src/lib.rt and crates/mark_files/src/lib.rt: an entry has no `requires`, and its one `ensures` says that its
-- answer and every lent buffer as it is left are `build_says`, `save_says`, `search_says`, `load_says` or `search_file_says` of what is
-- handed over. These are functions on all lists of numbers. Files are of either edition; saving in edition 2 is `EditionTwo`'s.

-- ── 'Each entry comes to an end with an answer, or refuses with a number from the written table,' ──

-- Of the code: every function is proved to end. What it ends with is `answers/Answers/Answer`: done with an answer, or refused with a
-- number, alone or with the place of the file where it shows.

-- the numbers of the written table
pub table-numbers : map (λ r. r.number) refusals ≡ 1 ∷ 2 ∷ 3 ∷ 4 ∷ 5 ∷ 6 ∷ 7 ∷ 8 ∷ 9 ∷ 10 ∷ 11 ∷ 12 ∷ 13 ∷ 16 ∷ 17 ∷ []
unfolding refusals
table-numbers = refl

-- for every word, text and file, and every word room R, tables T, output O and list F: each entry is done, or refuses with one of its
-- numbers; and 'a refusal returns its number only', as 01 has it, but for 5 to 11 and 13, which since 02 say where in the file they show
module _ (word text : Word) (file R T O : List ℕ) (F : List Place) where
  pub build_numbers : refuses_only (1 ∷ 2 ∷ 3 ∷ []) (build_says word T).answer ≡ true
  build_numbers = WordNumbers.build_numbers word T

  pub save_numbers : refuses_only (1 ∷ 2 ∷ 17 ∷ 3 ∷ 12 ∷ []) (save_says word T O).answer ≡ true
  save_numbers = FileNumbers.save_numbers plain word T O

  pub search-numbers : refuses_only (1 ∷ 2 ∷ 4 ∷ 3 ∷ []) (search_says word text T F).answer ≡ true
  search-numbers = WordNumbers.search-numbers word text T F

  pub load_numbers : refuses_with (3 ∷ []) (5 ∷ 6 ∷ 7 ∷ 8 ∷ 9 ∷ 10 ∷ 11 ∷ 13 ∷ []) (load_says file R T).answer ≡ true
  load_numbers = FileNumbers.load_numbers file R T

  pub search-file-numbers : refuses_with (4 ∷ 3 ∷ []) (5 ∷ 6 ∷ 7 ∷ 8 ∷ 9 ∷ 10 ∷ 11 ∷ 13 ∷ []) (search_file_says file text R T F).answer
      ≡ true
  search-file-numbers = FileNumbers.search-file-numbers file text R T F

  -- ── 'exactly when the table says and at no other time.' ──────────────────

  -- The table with its order is `marks/Cases` and `mark_files/Cases`: a line is a constructor, with what word, bytes and rooms have to be
  -- for it, and its outcome.

  pub build_exactly : (o : Build.Outcome) → (build_says word T ≡ o) ↔ BuildCase word T o
  build_exactly = BuildSays.build_is word T

  pub save_exactly : (o : Save.Outcome) → (save_says word T O ≡ o) ↔ SaveCase plain word T O o
  save_exactly = SaveSays.save_is plain word T O

  pub search-exactly : (o : Search.Outcome) → (search_says word text T F ≡ o) ↔ SearchCase word text T F o
  search-exactly = SearchSays.search_is word text T F

  pub load_exactly : (o : Load.Outcome) → (load_says file R T ≡ o) ↔ LoadCase file R T o
  load_exactly = LoadSays.load_is file R T

  pub search-file-exactly : (o : SearchFile.Outcome) → (search_file_says file text R T F ≡ o) ↔ SearchFileCase file text R T F o
  search-file-exactly = SearchFileSays.search_file_is file text R T F

  -- each number of loading by itself, with its place where it has one: the cases that have it, and only they, give it
  pub load_number_exactly : (a : Answer ℕ) → ((load_says file R T).answer ≡ a)
      ↔ ((R' : List ℕ) × (T' : List ℕ) × LoadCase file R T (Load.outcome a R' T'))
  load_number_exactly = LoadSays.load_answers file R T

  -- ── 'What a refusal leaves in every lent buffer is fixed,' ───────────────

  -- before the rooms were found large enough nothing is changed, after it the word's part of them is zero; outputs and lists are never
  -- touched
  module _ {n : ℕ} where
    pub build_refusal : (build_says word T).answer ≡ refused n → (build_says word T).tables ≡ T
    build_refusal = BuildSays.refusal_leaves word T

    pub save_refusal : (save_says word T O).answer ≡ refused n
        → ((save_says word T O).output ≡ O)
        × (((save_says word T O).tables ≡ T)
        ⊎ ((save_says word T O).tables ≡ replicate (room (length word)) 0 ++ drop (room (length word)) T))
    save_refusal = SaveSays.refusal_leaves plain word T O

    pub search_refusal : (search_says word text T F).answer ≡ refused n
        → ((search_says word text T F).tables ≡ T) × ((search_says word text T F).finds ≡ F)
    search_refusal = SearchSays.refusal_leaves word text T F

  -- with a file, whether or not the refusal has a place
  pub load_refusal : (Succeeds (load_says file R T).answer → ⊥) → AfterRefusal R T (load_says file R T).word (load_says file R T).tables
  load_refusal = LoadSays.refusal_leaves file R T

  pub search_file_refusal : (Succeeds (search_file_says file text R T F).answer → ⊥)
      → ((search_file_says file text R T F).finds ≡ F)
      × AfterRefusal R T (search_file_says file text R T F).word (search_file_says file text R T F).tables
  search_file_refusal = SearchFileSays.refusal_leaves file text R T F

  -- and any two outcomes that an entry's promise allows are equal: the code's answers r and r', and all that is left
  pub build_fixed : (r r' : Result ℕ Refusal) (T₁ T₂ : List ℕ) → built r T₁ ≡ build_says word T → built r' T₂ ≡ build_says word T
      → (r ≡ r') × (T₁ ≡ T₂)
  build_fixed = BuildSays.build_one word T

  pub save_fixed : (r r' : Result ℕ Refusal) (T₁ T₂ O₁ O₂ : List ℕ) → saved_as r T₁ O₁ ≡ save_says word T O
      → saved_as r' T₂ O₂ ≡ save_says word T O
      → (r ≡ r') × (T₁ ≡ T₂) × (O₁ ≡ O₂)
  save_fixed = SaveSays.save_one plain word T O

  pub search_fixed : (r r' : Result Tally Refusal) (T₁ T₂ : List ℕ) (F₁ F₂ : List Place) → searched r T₁ F₁ ≡ search_says word text T F
      → searched r' T₂ F₂ ≡ search_says word text T F → (r ≡ r') × (T₁ ≡ T₂) × (F₁ ≡ F₂)
  search_fixed = SearchSays.search-one word text T F

  pub load_fixed : (r r' : Result ℕ Refusal) (R₁ R₂ T₁ T₂ : List ℕ) → loaded_as r R₁ T₁ ≡ load_says file R T
      → loaded_as r' R₂ T₂ ≡ load_says file R T
      → (r ≡ r') × (R₁ ≡ R₂) × (T₁ ≡ T₂)
  load_fixed = LoadSays.load_one file R T

  pub search_file_fixed : (r r' : Result Tally Refusal) (R₁ R₂ T₁ T₂ : List ℕ) (F₁ F₂ : List Place)
      → file_searched r R₁ T₁ F₁ ≡ search_file_says file text R T F → file_searched r' R₂ T₂ F₂ ≡ search_file_says file text R T F
      → (r ≡ r') × (R₁ ≡ R₂) × (T₁ ≡ T₂) × (F₁ ≡ F₂)
  search_file_fixed = SearchFileSays.search-file-one file text R T F

  -- ── 'and no declared count is acted on before it has been checked.' ──────

  -- Put as values, as 01 has it: what 8 or 9 returns and leaves is the same whichever bad number was declared. Of the code: a check that is
  -- left out or moved is refused by the prover, as the must-fail edits no_limit_check and count_unchecked of crates/loaded and
  -- load_room_unchecked of crates/mark_files show.

  -- Shut out: a loader that clears before 8. A declared length that no saved word has is refused with every lent buffer as it was
  pub bad_length_touches_nothing : {i m j : ℕ} → EditionRead file i → Reads file i m j → BadLength m
      → load_says file R T ≡ Load.outcome (refused_at 8 i) R T
  bad_length_touches_nothing = LoadTheorems.bad-length-one R T file

  -- two files that declare such a length
  module _ (file' : List ℕ) {i m j i' m' j' : ℕ}
      (edition-read : EditionRead file i) (length_read : Reads file i m j) (bad : BadLength m)
      (edition-read' : EditionRead file' i') (length-read' : Reads file' i' m' j') (bad' : BadLength m') where
    pub bad-length-loads : load_says file R T ≡ load_says file' R T
    bad-length-loads = LoadTheorems.any_two_bad_lengths R T file file' edition-read length_read bad edition-read' length-read' bad'

    pub bad_length_searches : search_file_says file text R T F ≡ search_file_says file' text R T F
    bad_length_searches = SearchFileSays.same_load_same_search file text R T F file' bad-length-loads

  -- two files that have m letters, and declare more than m - 1 arrows
  module _ (file' : List ℕ) {m i n j i' n' j' : ℕ}
      (there : FrontEither file 0 (letters m i)) (count_read : Reads file (i + m) n j) (bad : m - 1 < n)
      (there' : FrontEither file' 0 (letters m i')) (count-read' : Reads file' (i' + m) n' j') (bad' : m - 1 < n') where
    pub bad-count-loads : load_says file R T ≡ load_says file' R T
    bad-count-loads = LoadTheorems.any_two_bad_counts R T file file' there count_read bad there' count-read' bad'

    pub bad_count_searches : search_file_says file text R T F ≡ search_file_says file' text R T F
    bad_count_searches = SearchFileSays.same_load_same_search file text R T F file' bad-count-loads

  -- ── Shut out: refusals in another order ──────────────────────────────────

  -- letters that are missing are refused with 5, however short the rooms are: 3 comes behind them
  pub letters_before_rooms : {i m j : ℕ} → EditionRead file i → Reads file i m j → least_saved ≤ m → m ≤ longest_word
      → length file < j + m → load_says file R T ≡ Load.outcome (refused_at 5 (length file)) R T
  letters_before_rooms = LoadTheorems.letters-missing-one R T file

  -- ── Shut out: an entry that refuses everything ───────────────────────────

  -- with a word within the limits and rooms large enough, none of the five refuses
  module _ (most : length word ≤ longest_word) (enough : room (length word) ≤ length T) where
    pub build_answers : 1 ≤ length word → (build_says word T).answer ≡ done (length word)
    build_answers some = ap (λ o. o.answer) (BuildSays.says-done word T some most enough)

    pub search-answers : 1 ≤ length word → length text ≤ longest_text → (search_says word text T F).answer ≡ done (found word text)
    search-answers some short = ap (λ o. o.answer) (SearchSays.says-done word text T F some most short enough)

    pub save_answers : least_saved ≤ length word → length (spell word) ≤ length O → (save_says word T O).answer ≡ done (length (spell word))
    save_answers least out = ap (λ o. o.answer) (SaveSays.says-done plain word T O least most enough out)

    pub load_answers : (e : Edition) → least_saved ≤ length word → length word ≤ length R
        → (load_says (spell_in e word) R T).answer ≡ done (length word)
    load_answers e least fits = ap (λ o. o.answer) (LoadTheorems.file-loads R T e word least most fits enough)

    pub search-file-answers : (e : Edition) → least_saved ≤ length word → length text ≤ longest_text → length word ≤ length R
        → (search_file_says (spell_in e word) text R T F).answer ≡ done (found (mirror word) text)
    search-file-answers e least short fits =
        ap (λ o. o.answer) (SearchFileSays.file_searched_lem (spell_in e word) text R T F e word least most refl short fits enough)

  -- and the output that 01 promises to be enough always is
  pub save_never_short : greatest_file ≤ length O → (save_says word T O).answer ≡ refused 12 → ⊥
  save_never_short = SaveSays.enough-output plain word T O
