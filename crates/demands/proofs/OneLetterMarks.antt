-- ONE-LETTER MARKS, the sixth request of 02, sentence by sentence: each is quoted, and under it stands what says just that.
use mathlib.Core.Path.{◌≡◌, refl, sym, ap, ◌∙◌}
use mathlib.Core.Logic.{◌⊎◌, inl, ◌↔◌}
use mathlib.Core.List.{List, [], ◌++◌, append-nil}
use Prim.Native.Nat.{ℕ, ◌≤◌, ◌<◌}
use native.Mathlib.Omega.{arith}
use lib.ListN.{length}
use Rattle.words.specs.Words.{Word, Place}
use Rattle.words.specs.Limits.{longest_word, longest_text}
use Rattle.words.proofs.Limits.{word_limit, streamed_limit, least_saved_lem}
use Rattle.table.specs.Table.{room, table_of}
use Rattle.table.proofs.Theorems.{table-size}
use Rattle.number.specs.Number.{Bytes, spell_number}
use Rattle.number.proofs.Theorems.{spelling-single}
use Rattle.saved.specs.File.{edition, own_steps, spell_steps, body, spell, Saved}
use Rattle.saved.proofs.Spelled.{edition-number}
use Rattle.saved.proofs.Theorems.{size_least, least_reached}
use Rattle.loaded.specs.Cases.{Reads, BadLength}
use Rattle.loaded.proofs.Fields.{reads-spelled}
use Rattle.editions.specs.Editions.{Edition, plain}
use Rattle.editions.specs.EitherCases.{EditionRead}
use Rattle.editions.proofs.AsPlain.{plain-number}
use Rattle.mark_files.proofs.SamePlace.{first-edition, edition_one_byte, plain-edition}
use Rattle.answers.specs.Answers.{done, refused, refused_at, empty_word, long_word}
use Rattle.answers.proofs.Answers.{done_not_refused, done_not_placed}
use Rattle.marks.specs.Build.{build_says}
use Rattle.marks.specs.Search.{found, search_says}
use Rattle.linear.specs.Turbo.{turbo_says}
use Rattle.linear.specs.Turbo as Linear
use Rattle.linear.specs.Cases.{TurboCase}
use Rattle.linear.proofs.TurboSays.{turbo_is}
use Rattle.stream.specs.Opening.{open_says}
use Rattle.stream.proofs.OpenSays.{says-opened}
use Rattle.mark_files.specs.Save
use Rattle.mark_files.specs.Save.{save_within, save_in}
use Rattle.mark_files.specs.Load
use Rattle.mark_files.specs.Load.{load_says}
use Rattle.mark_files.specs.SearchFile
use Rattle.mark_files.specs.SearchFile.{search_file_says}
use Rattle.mark_files.specs.Cases.{SaveCase}
use Rattle.mark_files.proofs.SaveSays.{says-one_letter, save_is}
use Rattle.mark_files.proofs.LoadTheorems.{bad-length-one, file-loads}
use Rattle.mark_files.proofs.SearchFileSays.{says-after}
use Rattle.faults.specs.Faults.{FaultAt, number_cut, letters_cut, byte_refused, other_edition, bad_length, bad_count, other_arrow}
use Rattle.faults.specs.Faults.{no_arrow_left, arrows_missing, bytes_left}
use Rattle.faults.specs.EitherFaults.{FaultEither, in_edition_1, up_to_arrows, check_cut, check_differs, bytes_behind}
use Rattle.faults.proofs.EitherTold.{load_fault}
use Rattle.demands.proofs.Demand1
use Rattle.demands.proofs.LongerMarks

-- ── 'Loading now gives 8 for m below 2 as well,' ───────────────────────────

-- m letters are declared, in the field that starts at i; nothing is changed, and a search with the file says the same
module _ (file R T : List ℕ) {i m j : ℕ} (edition-read : EditionRead file i) (length_read : Reads file i m j) (below : m < 2) where
  pub load_refuses : load_says file R T ≡ Load.outcome (refused_at 8 i) R T
  load_refuses = bad-length-one R T file edition-read length_read (inl (omega (arith, least_saved_lem, below)))

  pub search-file-refuses : (text : Word) (F : List Place) → length text ≤ longest_text
      → search_file_says file text R T F ≡ SearchFile.outcome (refused_at 8 i) R T F
  search-file-refuses text F short = says-after file text R T F short load_refuses

-- and for no other length up to the limit: a length of 2 is not refused with it
module _ (file R T : List ℕ) where
  length_at_fault : {s : List ℕ} {r : ℕ} {p q : Place} → FaultAt s r p q → r ≡ 8
      → (m : ℕ) × Reads s 0 edition p × Reads s p m q × BadLength m
  length_at_fault (number_cut N c) e = absurd (omega arith)
  length_at_fault (letters_cut h g l k d) e = absurd (omega arith)
  length_at_fault (byte_refused N b) e = absurd (omega arith)
  length_at_fault (other_edition h d) e = absurd (omega arith)
  length_at_fault (bad_length {m = m} h g d) e = (m, h, g, d)
  length_at_fault (bad_count C h d) e = absurd (omega arith)
  length_at_fault (other_arrow A h g d) e = absurd (omega arith)
  length_at_fault (no_arrow_left A h g) e = absurd (omega arith)
  length_at_fault (arrows_missing A) e = absurd (omega arith)
  length_at_fault (bytes_left A h) e = absurd (omega arith)

  -- in either edition
  length-refused : {r : ℕ} {p q : Place} → FaultEither file r p q → r ≡ 8 → (m : ℕ) × EditionRead file p × Reads file p m q × BadLength m
  length-refused (in_edition_1 d F) e =
      let b = length_at_fault F e in
      (b.0, first-edition file b.1, b.2, b.3)
  length-refused (up_to_arrows {p = p} two F last) e =
      let b = length_at_fault F e in
      let read = plain-edition file b.1 in
      (b.0, read, sym (plain-number file 0 p (omega (arith, edition_one_byte file read))) ∙ b.2, b.3)
  length-refused (check_cut A h) e = absurd (omega arith)
  length-refused (check_differs A h d) e = absurd (omega arith)
  length-refused (bytes_behind A q h) e = absurd (omega arith)

  pub eight_exactly : (p : Place) → ((load_says file R T).answer ≡ refused_at 8 p)
      ↔ ((m : ℕ) × (q : Place) × EditionRead file p × Reads file p m q × ((m < 2) ⊎ (longest_word < m)))
  eight_exactly p = (
    λ e.
        let f = load_fault file R T e in
        let b = length-refused f.1 refl in
        (b.0, f.0, b.1, b.2, rw least_saved_lem at b.3),
    λ a. ap (λ o. o.answer) (bad-length-one R T file a.2 a.3 (rw least_saved_lem a.4)),
  )

-- ── 'so 01 01 61 00 is refused.' ───────────────────────────────────────────

-- that one is computed in `examples`; here what would be the file of any word of one letter
module _ (word : Word) (one : length word ≡ 1) (R T : List ℕ) where
  pub one_letter-refused : load_says (spell word) R T ≡ Load.outcome (refused_at 8 1) R T
  unfolding spell body
  one_letter-refused =
      let rest = word ++ (spell_number (length (own_steps word)) ++ spell_steps (own_steps word)) in
      let first = reads-spelled (spell word) 0 edition (body word) [] (omega (arith, edition-number)) (sym (append-nil (spell word))) in
      let second = reads-spelled (spell word) first.next (length word) rest [] (omega (arith, one)) first.rest in
      let short = ap {B = ℕ} length (spelling-single edition (omega (arith, edition-number))) in
      let place : first.next ≡ 1 = omega (arith, first.size, short) in
      rw place at (load_refuses (spell word) R T (first-edition (spell word) first.read) second.read (omega (arith, one)))

-- ── 'Saving refuses such a word with a new 17, between 2 and 3.' ───────────

-- new: it is one of the written table since then (`table-numbers` of Demand1); so in either edition
module _ (e : Edition) (word : Word) (T O : List ℕ) where
  -- before 3 and 12: however short the rooms are, which it leaves as they were
  pub saving_refuses : length word ≡ 1 → save_in e word T O ≡ Save.outcome (refused 17) T O
  saving_refuses one =
      says-one_letter e word T O (omega (arith, one)) (omega (arith, one, word_limit)) (omega (arith, one, least_saved_lem))

  -- and no other word is
  pub seventeen_exactly : ((save_in e word T O).answer ≡ refused 17) ↔ (length word ≡ 1)
  seventeen_exactly = (by ((save_is e word T O _).0 refl), λ one. ap (λ o. o.answer) (saving_refuses one))
    where
      by : {o : Save.Outcome} → SaveCase e word T O o → o.answer ≡ refused 17 → length word ≡ 1
      by (SaveCase.on_empty_word h) q = let z : ◌≡◌ {A = ℕ} 1 17 = cc in absurd (omega arith)
      by (SaveCase.on_long_word h l) q = let z : ◌≡◌ {A = ℕ} 2 17 = cc in absurd (omega arith)
      by (SaveCase.on_short_word h l b) q = omega (arith, h, b, least_saved_lem)
      by (SaveCase.on_short_room h l s) q = let z : ◌≡◌ {A = ℕ} 3 17 = cc in absurd (omega arith)
      by (SaveCase.on_short_output h l s o) q = let z : ◌≡◌ {A = ℕ} 12 17 = cc in absurd (omega arith)
      by (SaveCase.accepted h l s o) q = done_not_refused q

  -- after 1, which the empty word keeps, and after 2: under a limit that leaves no letter a word of one is too long
  pub empty_word-first : length word ≡ 0 → save_in e word T O ≡ Save.outcome (refused empty_word) T O
  empty_word-first none = (save_is e word T O _).1 (SaveCase.on_empty_word (omega (arith, none)))

  pub long_word-first : length word ≡ 1 → save_within e 0 word T O ≡ Save.outcome (refused long_word) T O
  long_word-first one = LongerMarks.save_refused_lem 0 word (omega (arith, one)) T e O

-- ── 'Build and search keep taking them.' ───────────────────────────────────

module _ (word : Word) (one : length word ≡ 1) (text : Word) (T : List ℕ) (F : List Place) where
  some : 1 ≤ length word
  some = omega (arith, one)

  most : length word ≤ longest_word
  most = omega (arith, one, word_limit)

  module _ (enough : room (length word) ≤ length T) where
    pub build_takes : (build_says word T).answer ≡ done (length word)
    build_takes = Demand1.build_answers word text [] [] T [] F most enough some

    pub search-takes : length text ≤ longest_text → (search_says word text T F).answer ≡ done (found word text)
    search-takes = Demand1.search-answers word text [] [] T [] F most enough some

    -- the search of hostile texts too
    pub turbo-takes : length text ≤ longest_text → (turbo_says word text T F).answer ≡ done (Linear.found word text)
    turbo-takes short = ap (λ o. o.answer) ((turbo_is word text T F _).1 (TurboCase.accepted some most short enough))

  -- and a stream
  pub open_takes : (open_says word).answer ≡ done (length word)
  open_takes = ap (λ o. o.answer) (says-opened word some (omega (arith, one, streamed_limit)))

-- ── 'Demand 3's set of files starts at length 2,' ──────────────────────────

pub set_of_files : (s : List ℕ) → Saved s ↔ ((w : Word) × Bytes w × (2 ≤ length w) × (length w ≤ longest_word) × (s ≡ spell w))
set_of_files s = (
  λ f. (f.word, f.savable.bytes, rw least_saved_lem at f.savable.least, f.savable.most, f.file),
  λ a. record { word = a.0; savable = record { bytes = a.1; least = rw least_saved_lem a.2; most = a.3 }; file = a.4 },
)

-- what would be the file of a word of one letter is in it under no other word either
pub no_file : (word : Word) → length word ≡ 1 → Saved (spell word) → ⊥
no_file word one f =
    let w = f.word in
    let R = w in
    let T = table_of w in
    let loads = file-loads R T plain w f.savable.least f.savable.most (omega arith) (omega (arith, table-size w)) in
    let same = ap (λ (s : List ℕ). load_says s R T) f.file in
    done_not_placed (ap (λ o. o.answer) (sym loads ∙ sym same ∙ one_letter-refused word one R T))

-- ── 'the least file is 5 bytes,' ───────────────────────────────────────────

pub never_fewer : (s : List ℕ) → Saved s → 5 ≤ length s
never_fewer s f = omega (arith, size_least s f, least_saved_lem)

pub five_reached : (s : List ℕ) × Saved s × (length s ≡ 5)
five_reached = (least_reached.0, least_reached.1, omega (arith, least_reached.2, least_saved_lem))

-- ── 'and 01's example of `a` keeps only its arrows.' ───────────────────────

-- and supplies: so it stands in `examples/Examples/table`, which has 01 01 61 00 as a file that is refused
