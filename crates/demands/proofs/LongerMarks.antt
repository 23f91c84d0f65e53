-- LONGER MARKS, the first request of 02, sentence by sentence: each is quoted, and under it stands what says just that.
use mathlib.Core.Path.{◌≡◌, refl, sym, ◌∙◌}
use mathlib.Core.Bool.{true, false}
use mathlib.Core.Logic.{◌⊎◌}
use mathlib.Core.List.{List, [], ◌∷◌}
use Prim.Native.Nat.{ℕ, ◌+◌, ◌*◌, ◌≤◌, ◌<◌}
use native.Mathlib.Omega.{arith}
use lib.ListN.{length}
use lib.Dec.{ltb}
use borrow.Author.Tests.{lt-ltb, le-ltb}
use Rattle.words.specs.Words.{Word, Place}
use Rattle.words.specs.Limits.{longest_word, longest_text, least_saved}
use Rattle.words.proofs.Limits.{word_limit, greatest_file_lem, limits_agree}
use Rattle.table.specs.Table.{room}
use Rattle.number.specs.Number.{groups, spell_number}
use Rattle.loaded.specs.Cases.{Reads}
use Rattle.loaded.proofs.Within.{front_unmoved, front-refused}
use Rattle.saved.specs.File.{edition, Saved}
use Rattle.editions.specs.Editions.{Edition, plain}
use Rattle.editions.proofs.Theorems.{plain-saved}
use Rattle.editions.specs.Either.{as_plain}
use Rattle.editions.specs.EitherCases.{EditionRead}
use Rattle.editions.proofs.AsPlain.{plain-number}
use Rattle.mark_files.proofs.SamePlace.{edition_one_byte, edition-plain, plain-edition}
use Rattle.answers.specs.Answers.{refused, refused_at, long_word}
use Rattle.marks.specs.Build
use Rattle.marks.specs.Build.{build_within, build_says}
use Rattle.marks.specs.Search
use Rattle.marks.specs.Search.{search_within, search_says}
use Rattle.mark_files.specs.Save
use Rattle.mark_files.specs.Save.{save_within, save_in}
use Rattle.mark_files.specs.Load
use Rattle.mark_files.specs.Load.{load_within, load_says}
use Rattle.mark_files.specs.SearchFile
use Rattle.mark_files.specs.SearchFile.{search_file_within, search_file_says}
use Rattle.demands.proofs.Demand3.{file-sizes}

-- ── 'Our mapping users need marks up to 4,096 bytes. Raise m's limit from 1,024 in demands 2 and 3 and in refusals 2 and 8;' ──

-- the one name that the demands and the cases of both refusals speak of
pub limit : longest_word ≡ 4096
limit = word_limit

-- ── '6(m+1) stays.' ────────────────────────────────────────────────────────

pub room_stays : (m : ℕ) → room m ≡ 6 * (m + 1)
room_stays m = refl

-- ── 'A file then needs at most 20,481 bytes.' ──────────────────────────────

-- in edition 1, which was the only one; edition 2 needs two more (`EditionTwo`)
pub file_needs : (s : List ℕ) → Saved s → length s ≤ 20481
file_needs s f = rw greatest_file_lem at (file-sizes plain s ((plain-saved s).1 f)).1

-- ── 'Examples at 1,024 and 1,025 move to 4,096 (80 20) and 4,097 (81 20).' ─

-- what loading makes of them is computed in `examples`
pub spelling_of_4096 : spell_number 4096 ≡ 128 ∷ 32 ∷ []
unfolding groups spell_number
spelling_of_4096 = refl

pub spelling_of_4097 : spell_number 4097 ≡ 129 ∷ 32 ∷ []
unfolding groups spell_number
spelling_of_4097 = refl

-- ── 'All answers for shorter words stay.' ──────────────────────────────────

-- the whole outcome of each entry, every lent buffer with it, is the one under any lower limit, as 1,024 was; so it is for what is too long
-- under both
module _ (low : ℕ) (rises : low ≤ longest_word) where
  module _ (word : Word) (agree : (length word ≤ low) ⊎ (longest_word < length word)) (T : List ℕ) where
    same_test : ltb low (length word) ≡ ltb longest_word (length word)
    same_test = limits_agree low longest_word (length word) rises agree

    pub build_stays : build_within low word T ≡ build_says word T
    unfolding build_says
    build_stays = rw same_test

    pub search_stays : (text : Word) (F : List Place) → search_within low word text T F ≡ search_says word text T F
    unfolding search_says
    search_stays text F = rw same_test

    pub save_stays : (e : Edition) (O : List ℕ) → save_within e low word T O ≡ save_in e word T O
    unfolding save_in
    save_stays e O = rw same_test

  -- a file from which no length of a word can be read, or one of those
  module _ (file : List ℕ) (agree : (i : Place) (m : ℕ) (j : Place) → EditionRead file i → Reads file i m j
      → (m ≤ low) ⊎ (longest_word < m)) (R T : List ℕ) where
    pub load_stays : load_within low file R T ≡ load_says file R T
    unfolding load_within
    load_stays = rw (front_unmoved low rises (as_plain file 0) 0 agree_too)
      where
        agree_too : (i : Place) (m : ℕ) (j : Place) → Reads (as_plain file 0) 0 edition i → Reads (as_plain file 0) i m j
            → (m ≤ low) ⊎ (longest_word < m)
        agree_too i m j first second =
            let one = plain-edition file first in
            agree i m j one (sym (plain-number file 0 i (omega (arith, edition_one_byte file one))) ∙ second)

    pub search_file_stays : (text : Word) (F : List Place) → search_file_within low file text R T F ≡ search_file_says file text R T F
    unfolding search_file_says
    search_file_stays text F = rw load_stays

-- and it is indeed the outcome under that limit: what is longer was refused with 2, or 8, and nothing was changed
module _ (low : ℕ) where
  module _ (word : Word) (longer : low < length word) (T : List ℕ) where
    some-letter : ltb (length word) 1 ≡ false
    some-letter = le-ltb (length word) 1 (omega (arith, longer))

    too_long : ltb low (length word) ≡ true
    too_long = lt-ltb low (length word) longer

    pub build_refused : build_within low word T ≡ Build.outcome (refused long_word) T
    build_refused = rw (some-letter, too_long)

    pub search-refused : (text : Word) (F : List Place) → search_within low word text T F ≡ Search.outcome (refused long_word) T F
    search-refused text F = rw (some-letter, too_long)

    pub save_refused_lem : (e : Edition) (O : List ℕ) → save_within e low word T O ≡ Save.outcome (refused long_word) T O
    save_refused_lem e O = rw (some-letter, too_long)

  module _ (least : least_saved ≤ low) (file : List ℕ) {i : Place} {m : ℕ} {j : Place} (first : EditionRead file i)
      (second : Reads file i m j) (longer : low < m) (R T : List ℕ) where
    pub load_refused_lem : load_within low file R T ≡ Load.outcome (refused_at 8 i) R T
    unfolding load_within
    load_refused_lem =
        let after : 0 < i = omega (arith, edition_one_byte file first) in
        rw (front-refused low least (as_plain file 0) 0 (edition-plain file first) (plain-number file 0 i after ∙ second) longer)

    pub search-file-refused : (text : Word) (F : List Place) → length text ≤ longest_text
        → search_file_within low file text R T F ≡ SearchFile.outcome (refused_at 8 i) R T F
    search-file-refused text F h = rw (le-ltb longest_text (length text) h, load_refused_lem)
