-- THE NUMBERS that each entry over files may refuse with: those that 01's table has for it, and which of them say where in the file. By its
-- cases, and by the ways of loading.
use mathlib.Core.Path.{◌≡◌, refl}
use mathlib.Core.Bool.{true}
use mathlib.Core.List.{List, [], ◌∷◌}
use Prim.Native.Nat.{ℕ}
use Rattle.words.specs.Words.{Word, Place}
use Rattle.saved.specs.File.{Step}
use Rattle.loaded.specs.Load.{stop, broken, wrong}
use Rattle.loaded.specs.Cases.{Unread, cut_off, bad_byte}
use Rattle.loaded.specs.Cases.{FrontCase, edition_unread, edition_other, length_unread, length_bad, letters_missing}
use Rattle.loaded.specs.Cases.{ArrowsCase, arrow_agrees, up_unread, over_unread, arrow_differs, no_arrow_left, arrows_missing}
use Rattle.loaded.specs.Cases.{EndingCase, count_unread, count_too_large, count_fits}
use Rattle.editions.specs.Editions.{Edition}
use Rattle.editions.specs.EitherCases.{EndingEither, arrows_broken, check_cut, check_differs, VerdictEither, ending_wrong, bytes_follow}
use Rattle.answers.specs.Answers.{refused_at, refuses_only, refuses_with, one_of}
use Rattle.mark_files.specs.Save
use Rattle.mark_files.specs.Save.{save_in}
use Rattle.mark_files.specs.Load
use Rattle.mark_files.specs.Load.{load_says}
use Rattle.mark_files.specs.SearchFile
use Rattle.mark_files.specs.SearchFile.{search_file_says}
use Rattle.mark_files.specs.Cases.{SaveCase, LoadCase, SearchFileCase}
use Rattle.mark_files.proofs.SaveSays.{save_is}
use Rattle.mark_files.proofs.LoadSays.{load_is}
use Rattle.mark_files.proofs.SearchFileSays.{search_file_is}

pub save_numbers : (e : Edition) (word : Word) (T O : List ℕ) → refuses_only (1 ∷ 2 ∷ 17 ∷ 3 ∷ 12 ∷ []) (save_in e word T O).answer ≡ true
unfolding one_of
save_numbers e word T O = by ((save_is e word T O _).0 refl)
  where
    by : {o : Save.Outcome} → SaveCase e word T O o → refuses_only (1 ∷ 2 ∷ 17 ∷ 3 ∷ 12 ∷ []) o.answer ≡ true
    by (SaveCase.on_empty_word h) = refl
    by (SaveCase.on_long_word h l) = refl
    by (SaveCase.on_short_word h l b) = refl
    by (SaveCase.on_short_room h l s) = refl
    by (SaveCase.on_short_output h l s o) = refl
    by (SaveCase.accepted h l s o) = refl

-- ── With a file ────────────────────────────────────────────────────────────

-- what a file shows, each with its place
abbrev pub shown : List ℕ
shown = 5 ∷ 6 ∷ 7 ∷ 8 ∷ 9 ∷ 10 ∷ 11 ∷ 13 ∷ []

abbrev Shown : ℕ → Type 0
Shown r = one_of r shown ≡ true

module _ {s : List ℕ} where
  unread_number : {i : Place} {r : ℕ} {p : Place} → Unread s i r p → Shown r
  unfolding one_of
  unread_number (cut_off e) = refl
  unread_number (bad_byte e) = refl

  front-number : {r : ℕ} {p : Place} → FrontCase s (stop r p) → Shown r
  unfolding one_of
  front-number (edition_unread u) = unread_number u
  front-number (edition_other a d) = refl
  front-number (length_unread a u) = unread_number u
  front-number (length_bad a b d) = refl
  front-number (letters_missing a b c d h) = refl

  arrows-number : {i : Place} {n : ℕ} {l : List Step} {r : ℕ} {p : Place} → ArrowsCase s i n l (broken r p) → Shown r
  unfolding one_of
  arrows-number (arrow_agrees a b c) = arrows-number c
  arrows-number (up_unread u) = unread_number u
  arrows-number (over_unread a u) = unread_number u
  arrows-number (arrow_differs a b d) = refl
  arrows-number (no_arrow_left a b) = refl
  arrows-number arrows_missing = refl

  ending-number : {i : Place} {w : Word} {r : ℕ} {p : Place} → EndingCase s i w (broken r p) → Shown r
  unfolding one_of
  ending-number (count_unread u) = unread_number u
  ending-number (count_too_large a b) = refl
  ending-number (count_fits a b c) = arrows-number c

  either_number : {o i : Place} {w : Word} {r : ℕ} {p : Place} → EndingEither s o i w (broken r p) → Shown r
  unfolding one_of
  either_number (arrows_broken c) = ending-number c
  either_number (check_cut c two h) = refl
  either_number (check_differs c two h d) = refl

  verdict-number : {i : Place} {w : Word} {r : ℕ} {p : Place} → VerdictEither s i w (wrong r p) → Shown r
  unfolding one_of
  verdict-number (ending_wrong c) = either_number c
  verdict-number (bytes_follow c h) = refl

load_number : {s R T : List ℕ} {n : ℕ} {p : Place} {R' T' : List ℕ} → LoadCase s R T (Load.outcome (refused_at n p) R' T') → Shown n
load_number (LoadCase.head_refused f) = front-number f
load_number (LoadCase.on_arrows_refused f h t v) = verdict-number v

pub load_numbers : (file R T : List ℕ) → refuses_with (3 ∷ []) shown (load_says file R T).answer ≡ true
unfolding one_of
load_numbers file R T = by ((load_is file R T _).0 refl)
  where
    by : {o : Load.Outcome} → LoadCase file R T o → refuses_with (3 ∷ []) shown o.answer ≡ true
    by (LoadCase.head_refused f) = front-number f
    by (LoadCase.on_short_room f r) = refl
    by (LoadCase.on_arrows_refused f h t v) = verdict-number v
    by (LoadCase.accepted f h t v) = refl

pub search-file-numbers : (file : List ℕ) (text : Word) (R T : List ℕ) (F : List Place)
    → refuses_with (4 ∷ 3 ∷ []) shown (search_file_says file text R T F).answer ≡ true
unfolding one_of
search-file-numbers file text R T F = by ((search_file_is file text R T F _).0 refl)
  where
    by : {o : SearchFile.Outcome} → SearchFileCase file text R T F o → refuses_with (4 ∷ 3 ∷ []) shown o.answer ≡ true
    by (SearchFileCase.on_long_text h) = refl
    by (SearchFileCase.on_short_room k c) = refl
    by (SearchFileCase.file_refused k c) = load_number c
    by (SearchFileCase.accepted k c) = refl
