-- A NUMBER OF THE FILE: groups of seven bits, low group first; a byte of 128 or more says that another group follows. At most five groups,
-- the fifth at most 15, and the last group of several is not zero: so each number up to 4,294,967,295 has one spelling.
--
--   Bytes l           the numbers of l are bytes
--   greatest          the greatest number
--   groups k v        v spelled in at most k + 1 groups
--   spell_number v    the one spelling of v
--   written s at v    s with the spelling of v from place `at` on
--   refuses n b       whether the byte b is refused behind n others of its number
--   Seen              what bytes show: a number and how many bytes it takes; or that they end too soon; or a refused byte and how many
--                     stand before it
--   with_group x seen the same where a group x stands before
--   see n l           what the bytes l show, behind n others of their number
--   see_number l      what the bytes l show at their front
--   placed s at seen  the answer at place `at` of the file s: the value and the next place; or 5 and the file's length; or 6 and the
--                     refused byte's place (`answers/Answers/flaw_number`)
--   number_at s at    what the file s shows at place `at`
--
-- 01, 'The file on disk' and 'When the library says no' (5 and 6).
use Rattle.std.specs.Prelude.{Bool, cond, ◌&&◌, ◌||◌, List, [], ◌∷◌, ◌++◌, ℕ, zero, suc, Result, Ok, Err}
use Rattle.std.specs.Prelude.{◌+◌, ◌*◌, ◌/◌, ◌%◌, ◌<◌, length, take, drop, eqb, ltb}
use Rattle.words.specs.Lists.{at}
use Rattle.answers.specs.declared.Fault.{Fault}
use Rattle.answers.specs.declared.Flaw.TheVariants.{EndsEarly, Misspelled}
use Rattle.number.specs.declared.Number.{Number}

abbrev pub Bytes : List ℕ → Type 0
Bytes l = (i : ℕ) → at l i < 256

abbrev pub greatest : ℕ
greatest = 4294967295

-- ── Spelling ───────────────────────────────────────────────────────────────

unfoldable pub groups : ℕ → ℕ → List ℕ
groups zero v = v ∷ []
groups (suc k) v = cond (ltb v 128) (v ∷ []) ((128 + v % 128) ∷ groups k (v / 128))

unfoldable pub spell_number : ℕ → List ℕ
spell_number v = groups 4 v

unfoldable pub written : List ℕ → ℕ → ℕ → List ℕ
written s at v = take at s ++ spell_number v ++ drop (at + length (spell_number v)) s

-- ── Reading ────────────────────────────────────────────────────────────────

-- a zero that ends several groups, and a fifth byte above 15, whether or not it says that another follows
unfoldable pub refuses : ℕ → ℕ → Bool
refuses n b = (ltb 0 n && eqb b 0) || (eqb n 4 && ltb 15 b)

pub data Seen : Type 0 where
  number : ℕ → ℕ → Seen
  ends : Seen
  refused : ℕ → Seen

abbrev pub with_group : ℕ → Seen → Seen
with_group x (number v n) = number (x + 128 * v) n
with_group x ends = ends
with_group x (refused n) = refused n

unfoldable pub see : ℕ → List ℕ → Seen
see n [] = ends
see n (b ∷ l) = cond (refuses n b) (refused n) (cond (ltb b 128) (number b (suc n)) (with_group (b % 128) (see (suc n) l)))

unfoldable pub see_number : List ℕ → Seen
see_number l = see 0 l

abbrev pub placed : List ℕ → ℕ → Seen → Result Number Fault
placed s at (number v n) = Ok (record { value = v; next = record { at = at + n } })
placed s at ends = Err (record { flaw = EndsEarly; place = length s })
placed s at (refused n) = Err (record { flaw = Misspelled; place = at + n })

unfoldable pub number_at : List ℕ → ℕ → Result Number Fault
number_at s at = placed s at (see_number (drop at s))
