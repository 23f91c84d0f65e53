-- THE THEOREMS on `search_file_says`: 4 comes first, then loading decides, then the mirror of the file's word is searched for; and the
-- promise allows one outcome.
use mathlib.Core.Path.{◌≡◌, refl, sym, ap, ◌∙◌}
use mathlib.Core.Logic.{◌↔◌}
use mathlib.Core.List.{List, ◌++◌, reverse-reverse}
use Prim.Native.Nat.{ℕ, ◌≤◌, ◌<◌}
use native.Mathlib.Decide.{dec_lt}
use native.Mathlib.Omega.{arith}
use lib.ListN.{length, take, drop, take-append-drop}
use lib.Seq.{take_at, length-take-le}
use borrow.Author.Tests.{lt-ltb, le-ltb}
use Rattle.words.specs.Lists.{at}
use Rattle.words.specs.Words.{Word, Place, mirror, occurrences}
use Rattle.words.specs.Limits.{least_saved, longest_word, longest_text}
use Rattle.words.proofs.Limits.{words_fit, texts_fit}
use Rattle.oracle.specs.SuffixRule.{oracle}
use Rattle.backward.specs.Steps.{steps, backward}
use Rattle.backward.proofs.Windows.{steps-same, steps-mirror}
use Rattle.backward.proofs.Theorems.{search-lists-occurrences}
use Rattle.table.specs.Table.{room, table_of, read_arrow}
use Rattle.table.specs.Formed.{Formed}
use Rattle.table.specs.Spare.{Spare}
use Rattle.table.proofs.Theorems.{table-arrow}
use Rattle.table.proofs.Formed.{table-formed}
use Rattle.table.proofs.Spare.{table_spare}
use Rattle.finds.specs.declared.Tally.{Tally}
use Rattle.search.specs.Answers.{tally_of}
use Rattle.finds.specs.Finds.{filled}
use Rattle.std.specs.Prelude.{Result, Ok, Err}
use Rattle.answers.specs.declared.Refusal.{Refusal}
use Rattle.answers.specs.Answers.{Answer, done, refused, refused_at, Succeeds, refused_as, long_text}
use Rattle.answers.proofs.Answers.{done_not_refused, done_not_placed, answer_of-one}
use Rattle.mark_files.specs.Load.{loaded_as, load_says}
use Rattle.mark_files.specs.Load
use Rattle.marks.specs.Search.{found}
use Rattle.mark_files.specs.SearchFile.{Outcome, outcome, file_searched, after_load, search_file_says, plain_search_file_says}
use Rattle.mark_files.specs.Cases.{LoadCase, SearchFileCase, AfterRefusal}
use Rattle.number.specs.Number.{Bytes}
use Rattle.editions.specs.Editions.{Edition, spell_in, SavedIn}
use Rattle.mark_files.proofs.LoadTheorems.{file-loads, accepted-exactly as loads-exactly, load_kept}
use Rattle.answers.specs.declared.Refusal.TheVariants.{EmptyWord, LongWord, ShortRoom, LongText, ShortOutput, Unmade, ShortWord, InFile}
use Rattle.mark_files.proofs.LoadSays.{load_is, Standing, told-stands}
use Rattle.mark_files.proofs.LoadSays

-- ── The word's own table, searched with ────────────────────────────────────

-- the steps over a word's table are the published ones of its mirror
pub own-table-steps : (w text : Word) → steps (read_arrow (length w) (table_of w)) w text ≡ backward (mirror w) text
unfolding backward
own-table-steps w text =
    steps-same (read_arrow (length w) (table_of w)) (oracle w) w text (table-arrow w) ∙ steps-mirror (oracle w) w text
    ∙ ap (λ (v : Word). steps (oracle v) (mirror w) text) (sym (reverse-reverse w))

-- what stands in the rooms after loading can be searched with
pub lent-sized : {m : ℕ} {R T : List ℕ} (text : Word) → Standing m R T → length text ≤ longest_text
    → ((1 ≤ length (take m R)) × (length text < 4294967295))
    × (Formed (take (room m) T) (length (take m R)) × Spare (take (room m) T) (length (take m R)))
lent-sized {m} {R} {T} text stood short =
    let size : length (take m R) ≡ m = length-take-le m R stood.inside in
    let few : length (take m R) < 65535 = omega (arith, size, stood.most, words_fit) in (
      (omega (arith, size, stood.least), omega (arith, texts_fit)),
      (rw stood.table (table-formed (take m R) few), rw stood.table (table_spare (take m R))),
    )

module _ (file : List ℕ) (text : Word) (R T : List ℕ) (F : List Place) where
  -- ── Its cases, in the order of the tests ─────────────────────────────────

  pub says-long_text : longest_text < length text → search_file_says file text R T F ≡ outcome (refused long_text) R T F
  unfolding search_file_says
  says-long_text h = rw (lt-ltb longest_text (length text) h)

  pub says-after : length text ≤ longest_text → {o : Load.Outcome} → load_says file R T ≡ o
      → search_file_says file text R T F ≡ after_load o.answer text o.word o.tables F
  unfolding search_file_says
  says-after h e = rw (le-ltb longest_text (length text) h, e)

  -- ── When each is given ───────────────────────────────────────────────────

  -- every input is of one case
  case : SearchFileCase file text R T F (search_file_says file text R T F)
  case = by (dec_lt longest_text (length text))
    where
      by_load : (a : Answer ℕ) (R' T' : List ℕ) → length text ≤ longest_text → LoadCase file R T (Load.outcome a R' T')
          → SearchFileCase file text R T F (after_load a text R' T' F)
      by_load (refused n) R' T' k (LoadCase.on_short_room f r) = SearchFileCase.on_short_room k (LoadCase.on_short_room f r)
      by_load (refused_at n p) R' T' k c = SearchFileCase.file_refused k c
      by_load (done m) R' T' k c = SearchFileCase.accepted k c

      by : Dec (longest_text < length text) → SearchFileCase file text R T F (search_file_says file text R T F)
      by (yes h) = rw (says-long_text h) (SearchFileCase.on_long_text h)
      by (no h) = rw (says-after (omega arith) refl) (by_load _ _ _ (omega arith) ((load_is file R T _).0 refl))

  -- and a case that applies has its outcome
  given : {o : Outcome} → SearchFileCase file text R T F o → search_file_says file text R T F ≡ o
  given (SearchFileCase.on_long_text h) = says-long_text h
  given (SearchFileCase.on_short_room k c) = says-after k ((load_is file R T _).1 c)
  given (SearchFileCase.file_refused k c) = says-after k ((load_is file R T _).1 c)
  given (SearchFileCase.accepted k c) = says-after k ((load_is file R T _).1 c)

  pub search_file_is : (o : Outcome) → (search_file_says file text R T F ≡ o) ↔ SearchFileCase file text R T F o
  search_file_is o = (λ e. rw e at case, given)

  -- a refusal leaves the list as it was, and the rooms as loading does
  pub refusal_leaves : (Succeeds (search_file_says file text R T F).answer → ⊥)
      → ((search_file_says file text R T F).finds ≡ F)
      × AfterRefusal R T (search_file_says file text R T F).word (search_file_says file text R T F).tables
  refusal_leaves = by case
    where
      loaded : {a : Answer ℕ} {R' T' : List ℕ} → LoadCase file R T (Load.outcome a R' T') → (Succeeds a → ⊥) → AfterRefusal R T R' T'
      loaded c d = let e = (load_is file R T _).1 c in rw e at (LoadSays.refusal_leaves file R T (rw e d))

      by : {o : Outcome} → SearchFileCase file text R T F o → (Succeeds o.answer → ⊥)
          → (o.finds ≡ F) × AfterRefusal R T o.word o.tables
      by (SearchFileCase.on_long_text h) d = (refl, AfterRefusal.unchanged)
      by (SearchFileCase.on_short_room k c) d = (refl, loaded c (λ q. done_not_refused (sym q.1)))
      by (SearchFileCase.file_refused k c) d = (refl, loaded c (λ q. done_not_placed (sym q.1)))
      by (SearchFileCase.accepted k c) d = absurd (d (_, refl))

  -- the file matters by what loading says of it alone
  pub same_load_same_search : (file' : List ℕ) → load_says file R T ≡ load_says file' R T
      → search_file_says file text R T F ≡ search_file_says file' text R T F
  unfolding search_file_says
  same_load_same_search file' e = rw e

  -- a file that does not say 2 has the outcome that it had before edition 2
  pub search-kept : (at file 0 ≡ 2 → ⊥) → search_file_says file text R T F ≡ plain_search_file_says file text R T F
  unfolding search_file_says plain_search_file_says
  search-kept other = rw (load_kept R T file other)

  -- ── What the code's steps come to ────────────────────────────────────────

  -- once the code was told what loading says
  module _ (short : length text ≤ longest_text) {R' T' : List ℕ} where
    pub says-refused : (r : Refusal) → loaded_as (Err r) R' T' ≡ load_says file R T
        → outcome (refused_as r) R' T' F ≡ search_file_says file text R T F
    says-refused r told = after r ∙ sym (says-after short (sym told))
      where
        after : (r : Refusal) → outcome (refused_as r) R' T' F ≡ after_load (refused_as r) text R' T' F
        after EmptyWord = refl
        after LongWord = refl
        after ShortRoom = refl
        after LongText = refl
        after ShortOutput = refl
        after Unmade = refl
        after ShortWord = refl
        after (InFile f) = refl

    -- the mirror of the loaded word is searched for, with its own table
    module _ {m : ℕ} (told : loaded_as (Ok m) R' T' ≡ load_says file R T) where
      stood : Standing m R' T'
      stood = told-stands file R T told

      -- Q is what the scan leaves of the tables that it was lent
      pub scan_counts : {t : Tally} {F' : List Place} {Q : List ℕ}
          → t ≡ tally_of (steps (read_arrow (length (take m R')) (take (room m) T')) (take m R') text)
          → F' ≡ filled (steps (read_arrow (length (take m R')) (take (room m) T')) (take m R') text).starts F
          → Q ≡ take (room m) T'
          → outcome (done t) R' (Q ++ drop (room m) T') F' ≡ search_file_says file text R T F
      scan_counts t f q =
          rw (
            t,
            f,
            q,
            take-append-drop (room m) T',
            stood.table,
            own-table-steps (take m R') text,
            search-lists-occurrences (mirror (take m R')) text,
          )
          (sym (says-after short (sym told)))

  -- ── What is found with a word's file ─────────────────────────────────────

  -- every occurrence of the mirror of the file's word is counted, the first of them are listed, and the letters are the steps' own
  pub file_searched_lem : (e : Edition) (w : Word) → least_saved ≤ length w → length w ≤ longest_word → file ≡ spell_in e w
      → length text ≤ longest_text → length w ≤ length R
      → room (length w) ≤ length T
      → search_file_says file text R T F
      ≡ outcome (done (found (mirror w) text)) (w ++ drop (length w) R) (table_of w ++ drop (room (length w)) T)
      (filled (occurrences (mirror w) text) F)
  unfolding search_file_says
  file_searched_lem e w least most f short h t =
      let loads = file-loads R T e w least most h t in
      rw (f, le-ltb longest_text (length text) short, loads, take_at w (drop (length w) R) (length w) refl)

  -- with a text within the limit, exactly the files that loading accepts are
  pub accepted-exactly : Bytes file → length text ≤ longest_text
      → ((t : Tally) × ((search_file_says file text R T F).answer ≡ done t))
      ↔ ((e : Edition) × (f : SavedIn e file) × (length f.word ≤ length R) × (room (length f.word) ≤ length T))
  accepted-exactly bytes short = (λ a. (loads-exactly R T file bytes).0 (there (load_says file R T).answer refl a.1), back)
    where
      after : (a : Answer ℕ) → (load_says file R T).answer ≡ a
          → (search_file_says file text R T F).answer ≡ (after_load a text (load_says file R T).word (load_says file R T).tables F).answer
      after a e = ap (λ o. o.answer) (says-after short refl) ∙ rw e

      there : (a : Answer ℕ) → (load_says file R T).answer ≡ a → {t : Tally} → (search_file_says file text R T F).answer ≡ done t
          → (m : ℕ) × ((load_says file R T).answer ≡ done m)
      there (done m) e h = (m, e)
      there (refused n) e h = done_not_refused (sym h ∙ after (refused n) e)
      there (refused_at n p) e h = done_not_placed (sym h ∙ after (refused_at n p) e)

      back : (e : Edition) × (f : SavedIn e file) × (length f.word ≤ length R) × (room (length f.word) ≤ length T)
          → (t : Tally) × ((search_file_says file text R T F).answer ≡ done t)
      back f = let a = (loads-exactly R T file bytes).1 f in (_, after (done a.0) a.1)

-- ── One outcome ────────────────────────────────────────────────────────────

-- two outcomes that the promise of a search with a file allows are equal
pub search-file-one : (file : List ℕ) (text : Word) (R T : List ℕ) (F : List Place)
    (r s : Result Tally Refusal) (A B C D : List ℕ) (G H : List Place)
    → file_searched r A C G ≡ search_file_says file text R T F → file_searched s B D H ≡ search_file_says file text R T F
    → (r ≡ s) × (A ≡ B) × (C ≡ D) × (G ≡ H)
search-file-one file text R T F r s A B C D G H e f =
    let g : file_searched r A C G ≡ file_searched s B D H = e ∙ sym f in
    (answer_of-one r s (ap (λ o. o.answer) g), ap (λ o. o.word) g, ap (λ o. o.tables) g, ap (λ o. o.finds) g)
