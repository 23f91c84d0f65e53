-- WHERE IN THE FILE IS IT BROKEN?, the fourth request of 02, sentence by sentence: each is quoted, and under it stands what says just that.
-- Then how far a refused file is right.
use mathlib.Core.Path.{◌≡◌, refl, sym, ap, ◌∙◌}
use mathlib.Core.Bool.{true, false}
use mathlib.Core.Logic.{◌⊎◌, inl, inr, ◌↔◌}
use mathlib.Core.List.{List, [], ◌∷◌}
use Prim.Native.Nat.{ℕ, zero, suc, ◌+◌, ◌-◌, ◌≤◌, ◌<◌}
use native.Mathlib.Omega.{arith}
use lib.ListN.{length}
use Rattle.words.specs.Lists.{from, only, first}
use Rattle.words.specs.Words.{Word, Place}
use Rattle.words.specs.Limits.{least_saved, longest_word}
use Rattle.words.proofs.Lists.{true_not_false}
use Rattle.oracle.specs.Arrows.{target, walk, spine}
use Rattle.oracle.specs.SuffixRule.{far, mend, missing, extras_after, extra_arrows, suffix_rule}
use Rattle.oracle.specs.FileOrder.{leads_to, extra_targets, extras_before, file_arrows}
use Rattle.table.specs.Table.{room}
use Rattle.number.specs.declared.Cursor.{Cursor}
use Rattle.std.specs.Prelude.{Ok, Err}
use Rattle.answers.specs.declared.Fault.{Fault}
use Rattle.answers.specs.declared.Flaw.TheVariants.{EndsEarly, Misspelled}
use Rattle.number.specs.Number.{Bytes, spell_number, refuses, see, see_number, number_at}
use Rattle.number.specs.Exactly.{StandsAt, CutOff, BadByte}
use Rattle.number.proofs.Theorems as Numbers
use Rattle.saved.specs.File.{edition, Step, steps_from, own_steps}
use Rattle.loaded.specs.Load.{letters}
use Rattle.loaded.specs.Cases.{Reads, BadLength}
use Rattle.editions.specs.Either.{as_plain}
use Rattle.editions.specs.EitherCases.{EditionRead, FrontEither}
use Rattle.answers.specs.Answers.{refused_at, refuses_with, one_of, flaw_number}
use Rattle.mark_files.specs.Load
use Rattle.mark_files.specs.Load.{load_says}
use Rattle.mark_files.specs.SearchFile.{search_file_says}
use Rattle.mark_files.specs.Cases.{LoadCase}
use Rattle.faults.specs.Faults.{FaultAt, CountAt, ArrowsAt, none_read, arrows_missing}
use Rattle.faults.specs.Beginnings.{Begins, Declares}
use Rattle.faults.specs.EitherFaults.{FaultEither, BeginsEither}
use Rattle.faults.proofs.Shown.{search_load}
use Rattle.faults.proofs.EitherTold
use Rattle.faults.proofs.EitherTheorems
use Rattle.faults.proofs.Theorems
use Rattle.demands.proofs.Demand1

-- ── 'Reading a number must say how many bytes it took and, when it refuses, at which byte the fault shows (the file's length for 5).' ──

-- at place i of the file s
module _ (s : List ℕ) (i : Place) where
  -- v is read exactly if its one spelling stands there, and the next place is so many bytes further on
  pub value_read : {v : ℕ} {c : Cursor} → Bytes s → (number_at s i ≡ Ok (record { value = v; next = c })) ↔ StandsAt s i v c
  value_read = Numbers.value-exactly s i

  pub bytes-taken : {v : ℕ} {c : Cursor} → Bytes s → number_at s i ≡ Ok (record { value = v; next = c })
      → c.at ≡ i + length (spell_number v)
  bytes-taken bytes e = ((value_read bytes).0 e).next

  pub cut-shows : (number_at s i ≡ Err (record { flaw = EndsEarly; place = length s })) ↔ CutOff s i
  cut-shows = Numbers.cut-exactly s i

  pub bad_byte_shows : (p : Place) → (number_at s i ≡ Err (record { flaw = Misspelled; place = p })) ↔ BadByte s i p
  bad_byte_shows = Numbers.bad-exactly s i

  pub nothing_else_shows : {f : Fault} → number_at s i ≡ Err f
      → ((flaw_number f.flaw ≡ 5) × (f.place ≡ length s)) ⊎ (flaw_number f.flaw ≡ 6)
  nothing_else_shows {f} e = by (Numbers.number_at-refused s i e)
    where
      by : Numbers.Refusal s i f → ((flaw_number f.flaw ≡ 5) × (f.place ≡ length s)) ⊎ (flaw_number f.flaw ≡ 6)
      by (inl q) = inl (ap (λ (f : Fault). flaw_number f.flaw) q.0, ap (λ (f : Fault). f.place) q.0)
      by (inr q) = inr (ap (λ (f : Fault). flaw_number f.flaw) q.0)

-- for every file and text, and all rooms R, T and lists F that are lent
module _ (file : List ℕ) (text : Word) (R T : List ℕ) (F : List Place) where
  -- ── 'Every loading refusal from 5 to 11 then carries the offset' ─────────

  -- and 3, as 4 of a search with a file, has none, which is a case of its own
  pub load_carries : refuses_with (3 ∷ []) (5 ∷ 6 ∷ 7 ∷ 8 ∷ 9 ∷ 10 ∷ 11 ∷ 13 ∷ []) (load_says file R T).answer ≡ true
  load_carries = Demand1.load_numbers [] [] file R T [] []

  pub search_file_carries : refuses_with (4 ∷ 3 ∷ []) (5 ∷ 6 ∷ 7 ∷ 8 ∷ 9 ∷ 10 ∷ 11 ∷ 13 ∷ []) (search_file_says file text R T F).answer
      ≡ true
  search_file_carries = Demand1.search-file-numbers [] text file R T [] F

  -- a search with a file carries the one of loading
  pub same-offset : {r : ℕ} {p : Place} → (search_file_says file text R T F).answer ≡ refused_at r p
      → (load_says file R T).answer ≡ refused_at r p
  same-offset = search_load file text R T F

  -- ── 'of the faulty field's first byte (an arrow's two numbers are one field), or of that byte for 5 and 6; for 10 with missing arrows
  --    and for 11 it's the first byte after the arrows.' ──

  -- a constructor of `FaultAt` for each of these, and of `FaultEither` for those of edition 2; q is where the field at fault ends
  pub offset_of : {r : ℕ} {p : Place} → (load_says file R T).answer ≡ refused_at r p → (q : Place) × FaultEither file r p q
  offset_of = EitherTold.load_fault file R T

  -- and the other way round: with rooms for every word a file is refused with r at p exactly if that is its fault
  pub fault_exactly : longest_word ≤ length R → room longest_word ≤ length T → (r : ℕ) (p : Place)
      → ((load_says file R T).answer ≡ refused_at r p) ↔ ((q : Place) × FaultEither file r p q)
  fault_exactly = EitherTold.refused-exactly file R T

  pub one_fault : {r r' : ℕ} {p p' q q' : Place} → FaultEither file r p q → FaultEither file r' p' q' → (r ≡ r') × (p ≡ p')
  one_fault = EitherTold.one_fault_either file

  -- the number and its offset are given exactly when a case that has both applies
  pub offset-exactly : (r : ℕ) (p : Place) → ((load_says file R T).answer ≡ refused_at r p)
      ↔ ((R' : List ℕ) × (T' : List ℕ) × LoadCase file R T (Load.outcome (refused_at r p) R' T'))
  offset-exactly r p = Demand1.load_number_exactly [] [] file R T [] [] (refused_at r p)

  -- ── 'Numbers and their order stay.' ──────────────────────────────────────

  -- Which number a file shows is said by crates/loaded/specs, and since edition 2 by crates/editions/specs over it; the order is that of
  -- the constructors of `LoadCase`, as it was. As before, any two files that declare a bad number in the same field have one outcome, and
  -- its offset is one too.
  module _ (file' : List ℕ) {i m j i' m' j' : ℕ}
      (edition-read : EditionRead file i) (length_read : Reads file i m j) (bad : BadLength m)
      (edition-read' : EditionRead file' i') (length-read' : Reads file' i' m' j') (bad' : BadLength m') where
    pub bad-lengths-alike : load_says file R T ≡ load_says file' R T
    bad-lengths-alike =
        Demand1.bad-length-loads [] text file R T [] F file' edition-read length_read bad edition-read' length-read' bad'

  module _ (file' : List ℕ) {m i n j i' n' j' : ℕ}
      (there : FrontEither file 0 (letters m i)) (count_read : Reads file (i + m) n j) (bad : m - 1 < n)
      (there' : FrontEither file' 0 (letters m i')) (count-read' : Reads file' (i' + m) n' j') (bad' : m - 1 < n') where
    pub bad-counts-alike : load_says file R T ≡ load_says file' R T
    bad-counts-alike = Demand1.bad-count-loads [] text file R T [] F file' there count_read bad there' count-read' bad'

  -- ── How far a refused file is right ──────────────────────────────────────

  module _ {r : ℕ} {p : Place} (refused : (load_says file R T).answer ≡ refused_at r p) where
    -- no offset is beyond the file's length; that of 5 is the length, and all others are below it, but where arrows are missing
    pub never_beyond : p ≤ length file
    never_beyond = let f = offset_of refused in omega (arith, EitherTheorems.either_inside file f.1)

    pub five_is_the_length : r ≡ 5 → p ≡ length file
    five_is_the_length = EitherTheorems.either_cut file (offset_of refused).1

    pub others_are_below : (r ≡ 5 → ⊥)
        → (p < length file) ⊎ ((w : Word) × (t : Step) × (l : List Step) × ArrowsAt (as_plain file 0) w 0 (t ∷ l) p)
    others_are_below = EitherTheorems.either_before file (offset_of refused).1

    other_than : (k : ℕ) (l : List ℕ) → one_of k l ≡ false → one_of r l ≡ true → r ≡ k → ⊥
    other_than k l nowhere one e = true_not_false (sym one ∙ ap (λ (n : ℕ). one_of n l) e ∙ nowhere)

    -- the bytes before the offset of 7, 8, 9, 11 or 13 are those of some accepted file's beginning
    pub right-before : Bytes file → one_of r (7 ∷ 8 ∷ 9 ∷ 11 ∷ 13 ∷ []) ≡ true → BeginsEither file p
    unfolding one_of
    right-before bytes one =
        EitherTheorems.either_right_before file bytes (offset_of refused).1
        (other_than 5 (7 ∷ 8 ∷ 9 ∷ 11 ∷ 13 ∷ []) refl one)
        (other_than 6 (7 ∷ 8 ∷ 9 ∷ 11 ∷ 13 ∷ []) refl one)
        (other_than 10 (7 ∷ 8 ∷ 9 ∷ 11 ∷ 13 ∷ []) refl one)

    -- those before the offset of 10 are exactly if the file declares as many arrows as its word has
    pub arrow-right-before : Bytes file → r ≡ 10
        → (w : Word) × (n : ℕ) × Declares (as_plain file 0) w n × (BeginsEither file p ↔ (n ≡ length (own_steps w)))
    arrow-right-before bytes = EitherTheorems.either_arrow_right file bytes (offset_of refused).1

    -- and with what is at fault, up to its end q, the bytes are those of none, whatever follows: the file has stopped being right. Of 5
    -- that cannot be said, as a file that is cut is the beginning of one
    pub wrong-behind : Bytes file → (r ≡ 5 → ⊥) → (q : Place) × FaultEither file r p q × (BeginsEither file q → ⊥)
    wrong-behind bytes other = let f = offset_of refused in (f.0, f.1, EitherTheorems.either_wrong_behind file bytes f.1 other)

  -- whatever number of arrows is declared, up to it the bytes are those of the word's file
  pub right_up_to_the_count : Bytes file → {w : Word} {n : ℕ} → (d : Declares (as_plain file 0) w n) → BeginsEither file d.place
  right_up_to_the_count bytes d = EitherTheorems.either_letters_right file bytes d.count_at

-- An example of 10 whose bytes before the offset begin no file: 01 02 61 62 00 is refused at 5, behind a count that no check refuses and
-- that is not the word's, for the file of ab is 01 02 61 62 01 00 00.
abbrev no_arrows_of_ab : List ℕ
no_arrows_of_ab = 1 ∷ 2 ∷ 97 ∷ 98 ∷ 0 ∷ []

pub wrong-before : FaultAt no_arrows_of_ab 10 5 5 × (Begins no_arrows_of_ab 5 → ⊥)
unfolding from only first target walk spine far mend missing extras_after extra_arrows suffix_rule leads_to extra_targets extras_before
    file_arrows
    refuses see see_number number_at edition steps_from own_steps least_saved longest_word
wrong-before = (fault, Theorems.wrong-behind no_arrows_of_ab bytes fault (λ e. omega arith))
  where
    counted : CountAt no_arrows_of_ab (97 ∷ 98 ∷ []) 4
    counted = record {
      length_place = 1;
      letters_place = 2;
      length_at = refl;
      length_read = refl;
      least = omega arith;
      most = omega arith;
      letters = refl;
      place = refl;
      inside = omega arith;
    }

    fault : FaultAt no_arrows_of_ab 10 5 5
    fault = arrows_missing (none_read counted refl (omega arith))

    bytes : Bytes no_arrows_of_ab
    bytes zero = omega arith
    bytes (suc zero) = omega arith
    bytes (suc (suc zero)) = omega arith
    bytes (suc (suc (suc zero))) = omega arith
    bytes (suc (suc (suc (suc zero)))) = omega arith
    bytes (suc (suc (suc (suc (suc i))))) = omega arith
