-- WHAT AN ENTRY MAY SAY: done with an answer, or refused with a number of 01's table, alone or with the place of the file where it shows.
--
--   empty_word ..    01's numbers, by what they mean
--   refusals         the whole table: each number and when it is given, in the words that every face of the library says
--   Answer A         done with an answer of kind A, or refused
--   Succeeds a       a is done, with some answer
--   one_of n l       whether n is one of the numbers l
--   refuses_with l k a
--                    whether a is done, or refused with one of the numbers l and nothing but the number, or with one of the numbers k and
--                    a place
--   refuses_only l a the same where no refusal has a place
--   flaw_number f    the number of the code's flaw f of a file
--   number_of r      the number of the code's refusal r
--   refused_as r     what it means
--   answer_of r      what the code's result r means
--   size_answer r    the same of the letters of a word, the bytes of a file, or a number of finds
--   tally_answer r   the same of a search: finds and letters read
--
-- 01, 'When the library says no'; 02, 'Uploads in pieces', 'Where in the file is it broken?', 'One-letter marks' and 'Edition 2 with a
-- check'.
use Rattle.std.specs.Prelude.{◌≡◌, Bool, true, false, ◌||◌, List, [], ◌∷◌, ℕ, eqb, Result, Ok, Err}
use Prim.Native.String.{String}
use Rattle.words.specs.Words.{Place}
use Rattle.finds.specs.declared.Tally.{Tally}
use Rattle.answers.specs.declared.Flaw.{Flaw}
use Rattle.answers.specs.declared.Flaw.TheVariants.{EndsEarly, Misspelled, OtherEdition, WordSize}
use Rattle.answers.specs.declared.Flaw.TheVariants.{ManyArrows, OtherArrow, Leftovers, OtherCheck}
use Rattle.answers.specs.declared.Refusal.{Refusal as Why}
use Rattle.answers.specs.declared.Refusal.TheVariants.{EmptyWord, LongWord, ShortRoom, LongText, ShortOutput, Unmade, ShortWord, InFile}

-- ── The table ──────────────────────────────────────────────────────────────

abbrev pub empty_word : ℕ
empty_word = 1

abbrev pub long_word : ℕ
long_word = 2

abbrev pub short_room : ℕ
short_room = 3

abbrev pub long_text : ℕ
long_text = 4

-- 5 to 11 and 13 are what a file shows: `flaw_number`
abbrev pub short_output : ℕ
short_output = 12

abbrev pub unmade : ℕ
unmade = 16

abbrev pub short_word : ℕ
short_word = 17

pub record Line : Type 0 where
  pub number : ℕ
  pub given_when : String

abbrev pub line : ℕ → String → Line
line n s = record { number = n; given_when = s }

unfoldable pub refusals : List Line
refusals =
    line empty_word "the word is empty"
    ∷ line long_word "the word is longer than 4,096 bytes, for a storacle than 128, for a stream than 64"
    ∷ line
    short_room
    "too little room: 6(m+1) entries, storacle (m+1)(m+6), failure oracle 10(m+1), compact rows also 4(m+1) words, file m bytes, stream 134"
    ∷ line long_text "the text is longer than 16,777,216 bytes, or the stream would be with this piece"
    ∷ line 5 "the file ends before or inside a number, or before the last of its letters or of its check"
    ∷ line 6 "a number in the file is misspelled: the last of its several groups is zero, or its fifth byte is above 15"
    ∷ line 7 "the file's edition is neither 1 nor 2"
    ∷ line 8 "the file declares fewer than 2 letters, or more than 4,096"
    ∷ line 9 "the file declares more arrows than its letters less 1"
    ∷ line 10 "an arrow in the file is not its word's own at that place, or arrows are missing"
    ∷ line 11 "bytes follow the file's last arrow, or in edition 2 its check"
    ∷ line short_output "the room lent for the file is below its size"
    ∷ line 13 "the file's check is not that of the bytes before it"
    ∷ line unmade "opening and taking bytes could never have made the searcher"
    ∷ line short_word "the word to be saved has one letter"
    ∷ []

-- ── Answers ────────────────────────────────────────────────────────────────

pub data Answer (A : Type 0) : Type 0 where
  done : A → Answer A
  refused : ℕ → Answer A
  refused_at : ℕ → Place → Answer A

abbrev pub Succeeds : {A : Type 0} → Answer A → Type 0
Succeeds {A} a = (v : A) × (a ≡ done v)

unfoldable pub one_of : ℕ → List ℕ → Bool
one_of n [] = false
one_of n (k ∷ l) = eqb n k || one_of n l

abbrev pub refuses_with : {A : Type 0} → List ℕ → List ℕ → Answer A → Bool
refuses_with l k (done a) = true
refuses_with l k (refused n) = one_of n l
refuses_with l k (refused_at n p) = one_of n k

abbrev pub refuses_only : {A : Type 0} → List ℕ → Answer A → Bool
refuses_only l a = refuses_with l [] a

-- ── What the code's answers mean ───────────────────────────────────────────

abbrev pub flaw_number : Flaw → ℕ
flaw_number EndsEarly = 5
flaw_number Misspelled = 6
flaw_number OtherEdition = 7
flaw_number WordSize = 8
flaw_number ManyArrows = 9
flaw_number OtherArrow = 10
flaw_number Leftovers = 11
flaw_number OtherCheck = 13

abbrev pub number_of : Why → ℕ
number_of EmptyWord = empty_word
number_of LongWord = long_word
number_of ShortRoom = short_room
number_of LongText = long_text
number_of ShortOutput = short_output
number_of Unmade = unmade
number_of ShortWord = short_word
number_of (InFile f) = flaw_number f.flaw

abbrev pub refused_as : {A : Type 0} → Why → Answer A
refused_as EmptyWord = refused empty_word
refused_as LongWord = refused long_word
refused_as ShortRoom = refused short_room
refused_as LongText = refused long_text
refused_as ShortOutput = refused short_output
refused_as Unmade = refused unmade
refused_as ShortWord = refused short_word
refused_as (InFile f) = refused_at (flaw_number f.flaw) f.place

abbrev pub answer_of : {A : Type 0} → Result A Why → Answer A
answer_of (Ok v) = done v
answer_of (Err r) = refused_as r

abbrev pub size_answer : Result ℕ Why → Answer ℕ
size_answer r = answer_of r

abbrev pub tally_answer : Result Tally Why → Answer Tally
tally_answer r = answer_of r
