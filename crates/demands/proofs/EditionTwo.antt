-- EDITION 2 WITH A CHECK, the ninth request of 02, sentence by sentence: each is quoted, and under it stands what says just that. Then what
-- the check is worth.
use mathlib.Core.Path.{◌≡◌, refl, sym, ap, ◌∙◌}
use mathlib.Core.Bool.{true}
use mathlib.Core.Logic.{◌⊎◌, ◌↔◌}
use mathlib.Core.List.{List, [], ◌∷◌, ◌++◌}
use Prim.Native.Nat.{ℕ, suc, ◌+◌, ◌*◌, ◌/◌, ◌%◌, ◌≤◌, ◌<◌}
use native.Mathlib.Omega.{arith}
use lib.ListN.{length, take, drop, replicate}
use lib.Bits.{bit_xor}
use borrow.Author.Tests.{eq-eqb, le-ltb}
use Rattle.words.specs.Lists.{at}
use Rattle.words.specs.Words.{Word, Place}
use Rattle.words.specs.Limits.{longest_word, longest_text, least_saved}
use Rattle.words.proofs.Limits.{greatest_file_lem, least_saved_lem}
use Rattle.table.specs.Table.{room}
use Rattle.number.specs.Number.{Bytes, spell_number}
use Rattle.saved.specs.File.{Step, edition, body, spell}
use Rattle.saved.proofs.Spelled.{edition-number}
use Rattle.loaded.specs.Cases.{Reads, edition_other}
use Rattle.crc.specs.Check.{polynomial, shifted, shifts, fed, digits, bits_of, half_bytes, check, low, high, sealed, Near}
use Rattle.crc.proofs.Table
use Rattle.crc.proofs.Theorems as Checks
use Rattle.editions.specs.Editions.{Edition, plain, checked, spell_in, SavedIn, most_bytes}
use Rattle.editions.specs.Either.{edition_at, as_plain, pair_at}
use Rattle.editions.proofs.AsPlain.{as_other}
use Rattle.editions.proofs.Files.{first_byte_lem, spell_is}
use Rattle.editions.proofs.Coding.{one-read}
use Rattle.editions.proofs.Theorems as Editions
use Rattle.std.specs.Prelude.{Result, Ok, Err}
use Rattle.number.specs.declared.Number.{Number}
use Rattle.answers.specs.declared.Fault.{Fault}
use Rattle.answers.specs.declared.Refusal.{Refusal}
use Rattle.answers.specs.Answers.{done, refused, refused_at, Succeeds, refuses_only}
use Rattle.mark_files.specs.Save
use Rattle.mark_files.specs.Save.{saved_as, save_checked_says}
use Rattle.mark_files.specs.Load
use Rattle.mark_files.specs.Load.{load_says, plain_load_says}
use Rattle.mark_files.specs.SearchFile
use Rattle.mark_files.specs.SearchFile.{search_file_says, plain_search_file_says}
use Rattle.mark_files.specs.Cases.{SaveCase, LoadCase}
use Rattle.mark_files.proofs.Numbers as FileNumbers
use Rattle.mark_files.proofs.SaveSays
use Rattle.mark_files.proofs.LoadSays
use Rattle.mark_files.proofs.LoadTheorems
use Rattle.mark_files.proofs.SamePlace.{two_first}
use Rattle.mark_files.proofs.SearchFileSays
use Rattle.faults.specs.Faults.{ArrowsAt, FaultAt, number_cut, letters_cut, byte_refused, other_edition, bad_length, bad_count, other_arrow}
use Rattle.faults.specs.Faults.{no_arrow_left, arrows_missing, bytes_left}
use Rattle.faults.specs.EitherFaults.{AllRead, FaultEither, in_edition_1, up_to_arrows, check_cut, check_differs, bytes_behind}
use Rattle.faults.proofs.EitherTold.{load_fault, refused-exactly}
use Rattle.demands.proofs.Demand3

-- ── 'Phones lose bits. Edition 2 is the same body with edition number 2, then the CRC-16 known as ARC (reflected polynomial A001
--    hexadecimal, start 0) of all bytes before it, low byte first.' ──

pub edition_1_is : (p : Word) → spell_in plain p ≡ spell_number 1 ++ body p
unfolding spell
edition_1_is p = rw edition-number

pub edition_2_is : (p : Word) → let x = spell_number 2 ++ body p in spell_in checked p ≡ x ++ low (check x) ∷ high (check x) ∷ []
unfolding sealed
edition_2_is p = refl

-- A001
pub polynomial_is : polynomial ≡ 10 * 4096 + 1
polynomial_is = refl

-- a register of 0 is fed with the bits, the lowest of each byte first; a 1 that falls out takes the polynomial with it
pub check_is : (l : List ℕ) → check l ≡ fed 0 (bits_of l)
unfolding check
check_is l = refl

pub bit_fed : (r d : ℕ) (u : List ℕ) → fed r (d ∷ u) ≡ fed (shifted (bit_xor r d)) u
unfolding fed
bit_fed r d u = refl

pub falls_out : (r : ℕ) → shifted r ≡ bit_xor (r / 2) (r % 2 * polynomial)
unfolding shifted
falls_out r = refl

pub byte_fed : (b : ℕ) (l : List ℕ) → bits_of (b ∷ l) ≡ digits 8 b ++ bits_of l
unfolding bits_of
byte_fed b l = refl

pub lowest_first : (k b : ℕ) → digits (suc k) b ≡ b % 2 ∷ digits k (b / 2)
unfolding digits
lowest_first k b = refl

-- ── 'Use a constant table of sixteen entries, one per half byte, with its rule shown once over the whole.' ──

-- `HALF_BYTES` of crates/crc/src/lib.rt, which `half_byte` looks up, whose contract is four shifts. What loading and saving call is
-- crates/crc_wide, six bytes at a time, with the same contract.
pub sixteen_entries : length half_bytes ≡ 16
sixteen_entries = refl

pub half_byte_rule : (n : ℕ) → n < 16 → at half_bytes n ≡ shifts 4 n
half_byte_rule = Table.table_at

-- ── 'The catalogue's check value for the digits 123456789 is BB3D.' ────────

-- B 11, 3, D 13
pub catalogue : check (49 ∷ 50 ∷ 51 ∷ 52 ∷ 53 ∷ 54 ∷ 55 ∷ 56 ∷ 57 ∷ []) ≡ 11 * 4096 + 11 * 256 + 3 * 16 + 13
catalogue = Checks.check_of-digits

pub empty_string : check [] ≡ 0
empty_string = Checks.check_of-nothing

-- ── 'After the arrows, missing ones (10) being judged first: fewer than two bytes is 5, a differing check is a new 13 (offset: the first
--    check byte), bytes behind it 11 (offset: the first of them).' ──

-- of every file, with rooms for every word; with less, 3 may come before. `AllRead file w p`: it says 2, and its arrows, which end before
-- p, are all of w's own
module _ (file R T : List ℕ) (fits : longest_word ≤ length R) (enough : room longest_word ≤ length T) where
  told : {r : ℕ} {p q : Place} → FaultEither file r p q → (load_says file R T).answer ≡ refused_at r p
  told {r} {p} {q} f = (refused-exactly file R T fits enough r p).1 (q, f)

  -- whatever follows
  pub missing-first : at file 0 ≡ 2 → {w : Word} {t : Step} {l : List Step} {p : Place} → ArrowsAt (as_plain file 0) w 0 (t ∷ l) p
      → (load_says file R T).answer ≡ refused_at 10 p
  missing-first two A = told (up_to_arrows two (arrows_missing A) (λ e. omega arith))

  module _ {w : Word} {p : Place} (A : AllRead file w p) where
    pub check-missing : length file < p + 2 → (load_says file R T).answer ≡ refused_at 5 (length file)
    check-missing h = told (check_cut A h)

    -- whether or not bytes follow
    pub check-refused : p + 2 ≤ length file → (pair_at file p ≡ check (take p file) → ⊥) → (load_says file R T).answer ≡ refused_at 13 p
    check-refused h d = told (check_differs A h d)

    pub bytes-refused : pair_at file p ≡ check (take p file) → p + 2 < length file → (load_says file R T).answer ≡ refused_at 11 (p + 2)
    bytes-refused q h = told (bytes_behind A q h)

-- 13 is new in the table (`table-numbers` of Demand1), and is given for nothing else, whatever the rooms
module _ (file R T : List ℕ) where
  not_13 : {s : List ℕ} {r : ℕ} {p q : Place} → FaultAt s r p q → r ≡ 13 → ⊥
  not_13 (number_cut N c) e = omega arith
  not_13 (letters_cut h g l k d) e = omega arith
  not_13 (byte_refused N b) e = omega arith
  not_13 (other_edition h d) e = omega arith
  not_13 (bad_length h g d) e = omega arith
  not_13 (bad_count C h d) e = omega arith
  not_13 (other_arrow A h g d) e = omega arith
  not_13 (no_arrow_left A h g) e = omega arith
  not_13 (arrows_missing A) e = omega arith
  not_13 (bytes_left A h) e = omega arith

  pub thirteen_only : {p : Place} → (load_says file R T).answer ≡ refused_at 13 p
      → (w : Word) × AllRead file w p × (p + 2 ≤ length file) × (pair_at file p ≡ check (take p file) → ⊥)
  thirteen_only e = by (load_fault file R T e).1 refl
    where
      by : {r : ℕ} {k q : Place} → FaultEither file r k q → r ≡ 13
          → (w : Word) × AllRead file w k × (k + 2 ≤ length file) × (pair_at file k ≡ check (take k file) → ⊥)
      by (in_edition_1 d F) e = absurd (not_13 F e)
      by (up_to_arrows two F last) e = absurd (not_13 F e)
      by (check_cut A h) e = absurd (omega arith)
      by (check_differs {w = w} A h d) e = (w, A, h, d)
      by (bytes_behind A q h) e = absurd (omega arith)

-- ── 'The greatest file grows by 2.' ────────────────────────────────────────

pub two_more : (p : Word) → length (spell_in checked p) ≡ length (spell_in plain p) + 2
two_more = Editions.checked-length

pub greatest_grows : most_bytes checked ≡ most_bytes plain + 2
greatest_grows = refl

pub never_more : (s : List ℕ) → SavedIn checked s → length s ≤ 20483
never_more s f = omega (arith, (Demand3.file-sizes checked s f).1, greatest_file_lem)

-- and the least has 7
pub never_fewer : (s : List ℕ) → SavedIn checked s → 7 ≤ length s
never_fewer s f = omega (arith, Editions.least_bytes s f, least_saved_lem)

pub seven_reached : (s : List ℕ) × SavedIn checked s × (length s ≡ 7)
seven_reached = let f = Editions.least_checked in (f.0, f.1, omega (arith, f.2, least_saved_lem))

-- ── 'Saving has one entry for each edition.' ───────────────────────────────

-- `save` writes edition 1, as it did (`save_says`, of which demands 1 and 3 speak); `save_checked` of crates/checked_files writes edition
-- 2, and all that demand 1 says of an entry holds of it
module _ (word : Word) (T O : List ℕ) where
  pub save_checked_numbers : refuses_only (1 ∷ 2 ∷ 17 ∷ 3 ∷ 12 ∷ []) (save_checked_says word T O).answer ≡ true
  save_checked_numbers = FileNumbers.save_numbers checked word T O

  pub save_checked_exactly : (o : Save.Outcome) → (save_checked_says word T O ≡ o) ↔ SaveCase checked word T O o
  save_checked_exactly = SaveSays.save_is checked word T O

  pub save_checked_refusal : {n : ℕ} → (save_checked_says word T O).answer ≡ refused n
      → ((save_checked_says word T O).output ≡ O)
      × (((save_checked_says word T O).tables ≡ T)
      ⊎ ((save_checked_says word T O).tables ≡ replicate (room (length word)) 0 ++ drop (room (length word)) T))
  save_checked_refusal = SaveSays.refusal_leaves checked word T O

  pub save_checked_fixed : (r r' : Result ℕ Refusal) (T₁ T₂ O₁ O₂ : List ℕ) → saved_as r T₁ O₁ ≡ save_checked_says word T O
      → saved_as r' T₂ O₂ ≡ save_checked_says word T O → (r ≡ r') × (T₁ ≡ T₂) × (O₁ ≡ O₂)
  save_checked_fixed = SaveSays.save_one checked word T O

  pub save_checked_answers : least_saved ≤ length word → length word ≤ longest_word → room (length word) ≤ length T
      → length (spell_in checked word) ≤ length O → (save_checked_says word T O).answer ≡ done (length (spell_in checked word))
  save_checked_answers least most enough out = ap (λ o. o.answer) (SaveSays.says-done checked word T O least most enough out)

  pub save_checked_never_short : most_bytes checked ≤ length O → (save_checked_says word T O).answer ≡ refused 12 → ⊥
  save_checked_never_short = SaveSays.enough-output checked word T O

-- ── 'Edition 1 stays readable; a reader from before this request answers 7.' ──

-- `plain_load_says` is what loading said before: a reader that knows edition 1 alone
module _ (file : List ℕ) (text : Word) (R T : List ℕ) (F : List Place) where
  -- whatever a file says but 2, the whole outcome is the one that it had
  module _ (other : (j : Place) → Reads file 0 2 j → ⊥) where
    not_two : at file 0 ≡ 2 → ⊥
    not_two e = other 1 (Editions.two_read file 0 e)

    pub load_kept : load_says file R T ≡ plain_load_says file R T
    load_kept = LoadTheorems.load_kept R T file not_two

    pub search-file-kept : search_file_says file text R T F ≡ plain_search_file_says file text R T F
    search-file-kept = SearchFileSays.search-kept file text R T F not_two

  -- and so of every word's file of edition 1
  pub plain-file-kept : (w : Word) → file ≡ spell_in plain w → load_says file R T ≡ plain_load_says file R T
  plain-file-kept w e = LoadTheorems.load_kept R T file (λ two. omega (arith, two, first_byte_lem file 0 (e ∙ spell_is w)))

  pub reader_from_before : {j : Place} → Reads file 0 2 j → plain_load_says file R T ≡ Load.outcome (refused_at 7 0) R T
  reader_from_before two = LoadTheorems.two_refused R T file (two_first file two)

  pub searcher_from_before : {j : Place} → Reads file 0 2 j → length text ≤ longest_text
      → plain_search_file_says file text R T F ≡ SearchFile.outcome (refused_at 7 0) R T F
  unfolding plain_search_file_says
  searcher_from_before two short = rw (le-ltb longest_text (length text) short, reader_from_before two)

-- ── 'Demand 3 holds per edition: one file for a word in each,' ─────────────

-- accepted as one of the edition e exactly if it is a word's file in e; the whole of demand 3 is stated for both (`Demand3`)
pub accepted_in : (e : Edition) (s R T : List ℕ) → Bytes s
    → ((m : ℕ) × ((load_says s R T).answer ≡ done m) × (edition_at s 0 ≡ e))
    ↔ ((f : SavedIn e s) × (length f.word ≤ length R) × (room (length f.word) ≤ length T))
accepted_in e s R T bytes = (there, back)
  where
    there : (m : ℕ) × ((load_says s R T).answer ≡ done m) × (edition_at s 0 ≡ e)
        → (f : SavedIn e s) × (length f.word ≤ length R) × (room (length f.word) ≤ length T)
    there a =
        let r = LoadTheorems.loaded_files R T s bytes a.1 in
        let w = r.0 in
        let f = r.1 in
        (record { word = w; savable = f.savable; file = f.file ∙ ap (λ (e : Edition). spell_in e w) a.2 }, r.3, r.4)

    back : (f : SavedIn e s) × (length f.word ≤ length R) × (room (length f.word) ≤ length T)
        → (m : ℕ) × ((load_says s R T).answer ≡ done m) × (edition_at s 0 ≡ e)
    back a =
        let r = (Demand3.accepted-exactly s R T bytes).1 (e, a.0, a.1, a.2) in
        (r.0, r.1, Editions.edition_of e a.0)

-- a file has one edition and one word
pub one_edition_and_word : {e e' : Edition} {s : List ℕ} (f : SavedIn e s) (f' : SavedIn e' s) → (e ≡ e') × (f.word ≡ f'.word)
one_edition_and_word = Editions.saved_once

-- ── 'and 7 is now for editions other than 1 and 2.' ────────────────────────

edition_at_fault : {s : List ℕ} {r : ℕ} {p q : Place} → FaultAt s r p q → r ≡ 7 → (p ≡ 0) × (n : ℕ) × Reads s 0 n q × (n ≡ edition → ⊥)
edition_at_fault (number_cut N c) e = absurd (omega arith)
edition_at_fault (letters_cut h g l k d) e = absurd (omega arith)
edition_at_fault (byte_refused N b) e = absurd (omega arith)
edition_at_fault (other_edition {e = n} h d) e = (refl, n, h, d)
edition_at_fault (bad_length h g d) e = absurd (omega arith)
edition_at_fault (bad_count C h d) e = absurd (omega arith)
edition_at_fault (other_arrow A h g d) e = absurd (omega arith)
edition_at_fault (no_arrow_left A h g) e = absurd (omega arith)
edition_at_fault (arrows_missing A) e = absurd (omega arith)
edition_at_fault (bytes_left A h) e = absurd (omega arith)

-- the value of a number that is read
abbrev value_in : Result Number Fault → ℕ
value_in (Ok n) = n.value
value_in (Err f) = 0

-- whatever the rooms
pub seven_exactly : (file R T : List ℕ) (p : Place) → ((load_says file R T).answer ≡ refused_at 7 p)
    ↔ ((p ≡ 0) × (n : ℕ) × (j : Place) × Reads file 0 n j × (n ≡ 1 → ⊥) × (n ≡ 2 → ⊥))
seven_exactly file R T p = (λ e. there (load_fault file R T e).1 refl, back)
  where
    there : {r : ℕ} {k q : Place} → FaultEither file r k q → r ≡ 7
        → (k ≡ 0) × (n : ℕ) × (j : Place) × Reads file 0 n j × (n ≡ 1 → ⊥) × (n ≡ 2 → ⊥)
    there (in_edition_1 {q = q} d F) e =
        let b = edition_at_fault F e in
        (b.0, b.1, q, b.2, λ one. b.3 (one ∙ sym edition-number), λ two. d (two_first file (rw two at b.2)))
    there (up_to_arrows two F last) e =
        let b = edition_at_fault F e in
        let same = sym b.2 ∙ one-read file 0 two in
        absurd (b.3 (ap value_in same))
    there (check_cut A h) e = absurd (omega arith)
    there (check_differs A h d) e = absurd (omega arith)
    there (bytes_behind A q h) e = absurd (omega arith)

    back : (p ≡ 0) × (n : ℕ) × (j : Place) × Reads file 0 n j × (n ≡ 1 → ⊥) × (n ≡ 2 → ⊥) → (load_says file R T).answer ≡ refused_at 7 p
    back a =
        let not_two : at file 0 ≡ 2 → ⊥ = λ two. a.5 (ap value_in (sym a.3 ∙ Editions.two_read file 0 two)) in
        let other = edition_other a.3 (λ e. a.4 (e ∙ edition-number)) in
        rw a.0 (ap (λ o. o.answer) ((LoadSays.load_is file R T _).1 (LoadCase.head_refused (rw (as_other file 0 not_two) other))))

-- ── What the check is worth ────────────────────────────────────────────────

-- two strings of bytes that differ, but in one bit, or in no more than 16 bits next to each other, have different checks
module _ (x y : List ℕ) (bytes : Bytes x) (bytes' : Bytes y) (differ : x ≡ y → ⊥) where
  pub one_bit_told : Near x y 1 → check x ≡ check y → ⊥
  one_bit_told near e = differ (Checks.single-told x y bytes bytes' near e)

  pub sixteen_bits_told : Near x y 16 → check x ≡ check y → ⊥
  sixteen_bits_told near e = differ (Checks.burst_told x y bytes bytes' near e)

-- so a file of edition 2 that was changed so, its check included, is never accepted as one of edition 2, and one with one changed bit not
-- at all
module _ (s t R T : List ℕ) (bytes : Bytes s) (bytes' : Bytes t) (saved : SavedIn checked s) (differ : s ≡ t → ⊥) where
  pub damage_refused : Near s t 16 → at t 0 ≡ 2 → Succeeds (load_says t R T).answer → ⊥
  damage_refused near two a =
      let f = (accepted_in checked t R T bytes').0 (a.0, a.1, rw (eq-eqb (at t 0) 2 two)) in
      differ (Editions.damage_told s t bytes bytes' saved f.0 near)

  pub one_bit_refused : Near s t 1 → Succeeds (load_says t R T).answer → ⊥
  one_bit_refused near a = by f.0 f.1
    where
      f : (e : Edition) × (g : SavedIn e t) × (length g.word ≤ length R) × (room (length g.word) ≤ length T)
      f = (Demand3.accepted-exactly t R T bytes').0 a

      by : (e : Edition) → SavedIn e t → ⊥
      by plain g = Editions.one_bit_keeps_two s t near (Editions.says_two saved) (Editions.says-one g)
      by checked g = differ (Editions.damage_told s t bytes bytes' saved g (Checks.wider s t near))
