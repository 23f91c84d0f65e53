-- LOADING EDITION 1, field by field as 01 orders it: within any number 5 or 6, whichever its bytes show first; then that field's own check
-- (7, 8, 9); after m the letters (5); each arrow is compared once both its numbers are read (10); after the last, missing arrows (10), then
-- leftovers (11). Every refusal keeps the place where it shows.
--
--   taking n off on      the answer n on a number: `on` its value and the next place, or `off` the number of the fault and where it shows
--   field s i off on     the same of the number at place i of the file s
--   Front                the number of letters and where they stand, or a refusal
--   letters_within n s i what s shows at place i, where the number of letters stands, if a word may have n letters
--   letters_at s i       the same with the limit that there is
--   front_within n s o   what the file that stands in s from place o on shows up to its letters, if a word may have n letters
--   front_at s o         the same with the limit that there is
--   front s              the same of a file that is all of s
--   Two                  two numbers and the next place, or a refusal
--   two_at s i           what s shows at place i
--   Ending               the place behind a file, whose arrows are the word's own, or a refusal; what follows is not judged
--   next_is a b l        whether the numbers a and b are those of the first of the arrows l
--   later l              the arrows behind the first
--   none_left l          whether there are none
--   taking_two t off on  what `taking` is to one number, to two
--   arrows_at s i n l    n declared arrows from place i on, against the word's own that are left, l
--   ending s i w         what s shows from place i on, where the number of arrows stands, for the word w
--   Verdict              whether a file's arrows are the word's own, and nothing follows
--   closed s e           what an ending comes to where nothing may follow the file
--   verdict s i w        both at once
--
-- 01, 'When the library says no'; demands 1 and 3.
use Rattle.std.specs.Prelude.{Bool, true, false, ◌&&◌, cond, List, [], ◌∷◌, ℕ, zero, suc, ◌+◌, ◌-◌, length, eqb, leb, ltb, Result, Ok, Err}
use Rattle.words.specs.Words.{Word}
use Rattle.words.specs.Limits.{least_saved, longest_word}
use Rattle.answers.specs.declared.Fault.{Fault}
use Rattle.answers.specs.Answers.{flaw_number}
use Rattle.number.specs.declared.Number.{Number}
use Rattle.number.specs.Number.{number_at}
use Rattle.saved.specs.File.{edition, Step, own_steps}

-- ── Fields ─────────────────────────────────────────────────────────────────

abbrev pub taking : {A : Type 0} → Result Number Fault → (ℕ → ℕ → A) → (ℕ → ℕ → A) → A
taking (Ok n) off on = on n.value n.next.at
taking (Err f) off on = off (flaw_number f.flaw) f.place

abbrev pub field : {A : Type 0} → List ℕ → ℕ → (ℕ → ℕ → A) → (ℕ → ℕ → A) → A
field s i off on = taking (number_at s i) off on

-- ── Up to the letters ──────────────────────────────────────────────────────

pub data Front : Type 0 where
  letters : ℕ → ℕ → Front
  stop : ℕ → ℕ → Front

abbrev pub letters_within : ℕ → List ℕ → ℕ → Front
letters_within n s i =
    field s i stop (λ m j.
    cond (leb least_saved m && leb m n) (cond (leb (j + m) (length s)) (letters m j) (stop 5 (length s))) (stop 8 i))

abbrev pub letters_at : List ℕ → ℕ → Front
letters_at s i = letters_within longest_word s i

unfoldable pub front_within : ℕ → List ℕ → ℕ → Front
front_within n s o = field s o stop (λ e i. cond (eqb e edition) (letters_within n s i) (stop 7 o))

abbrev pub front_at : List ℕ → ℕ → Front
front_at s o = front_within longest_word s o

abbrev pub front : List ℕ → Front
front s = front_at s 0

-- ── Arrows ─────────────────────────────────────────────────────────────────

pub data Two : Type 0 where
  both : ℕ → ℕ → ℕ → Two
  neither : ℕ → ℕ → Two

unfoldable pub two_at : List ℕ → ℕ → Two
two_at s i = field s i neither (λ a j. field s j neither (λ b k. both a b k))

pub data Ending : Type 0 where
  behind : ℕ → Ending
  broken : ℕ → ℕ → Ending

abbrev pub next_is : ℕ → ℕ → List Step → Bool
next_is a b [] = false
next_is a b (s ∷ l) = eqb a s.up && eqb b s.over

abbrev pub later : List Step → List Step
later [] = []
later (s ∷ l) = l

abbrev pub none_left : List Step → Bool
none_left [] = true
none_left (s ∷ l) = false

abbrev pub taking_two : {A : Type 0} → Two → (ℕ → ℕ → A) → (ℕ → ℕ → ℕ → A) → A
taking_two (both a b k) off on = on a b k
taking_two (neither r i) off on = off r i

unfoldable pub arrows_at : List ℕ → ℕ → ℕ → List Step → Ending
arrows_at s i zero l = cond (none_left l) (behind i) (broken 10 i)
arrows_at s i (suc n) l = taking_two (two_at s i) broken (λ a b k. cond (next_is a b l) (arrows_at s k n (later l)) (broken 10 i))

unfoldable pub ending : List ℕ → ℕ → Word → Ending
ending s i w = field s i broken (λ n j. cond (leb n (length w - 1)) (arrows_at s j n (own_steps w)) (broken 9 i))

-- ── Where nothing may follow ───────────────────────────────────────────────

pub data Verdict : Type 0 where
  right : Verdict
  wrong : ℕ → ℕ → Verdict

abbrev pub closed : List ℕ → Ending → Verdict
closed s (behind p) = cond (ltb p (length s)) (wrong 11 p) right
closed s (broken r p) = wrong r p

unfoldable pub verdict : List ℕ → ℕ → Word → Verdict
verdict s i w = closed s (ending s i w)
