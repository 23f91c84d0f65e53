-- COMPACT ROWS: a second form of the table of an oracle over a word of m letters, n = m + 1, and the rule by which it is read. It has 4n
-- words of 64 bits and ten rows of n entries. Arrows are numbered: 256x + c is the number of the one from state x on the letter c.
--
--   words, bit d of word i    whether there is an arrow of the number 64i + d; so the words 4x to 4x + 3 are the set of the letters on
--                             which an arrow leaves state x
--   row 0, entry i            the letter of state i, for i from 1 to m
--   row 1, entry i            the supply of state i, for i from 1 to m
--   rows 2 and 3              zero
--   rows 4 to 7, entry i      how many arrows have numbers below 64i: where the targets of word i start in the row of targets
--   rows 8 and 9              the targets of all arrows by rising number, which is by rising source, then rising letter; zero behind them
--
--   sets_room m               how many words
--   compact_room m            how many entries
--   arrow_number x c          the number of the arrow from x on c
--   arrow_at δ g              where the arrow of the number g leads
--   is_arrow o                whether there is one
--   as_list o                 the state that it leads to, in a list of one or none
--   from_bits f k             the number whose first k bits say which of 0, .., k - 1 pass the test f
--   set_word δ i              word i
--   targets_up_to δ g         the targets of the arrows with numbers below g
--   sets_from δ m             all words for the arrows δ
--   compact_from p δ S        the rows for the arrows δ and the supplies S over p
--   compact_sets p            the words of a word's oracle: the suffix rule's arrows
--   compact_table p           its rows, with 001's supplies
--   bit_at w d                whether bit d of w is 1
--   marked Z g                whether the words Z tell of an arrow of the number g
--   in_set Z x c              whether c is in the set of x
--   how_many f k              how many of 0, .., k - 1 pass the test f
--   read_compact m Z L x c    where the arrow from x on c leads, read from the words Z and the entries L
--
-- The word and the supplies are read as from the first form. 02, 'Compact rows'.
use Rattle.std.specs.Prelude.{Bool, true, false, cond, ◌&&◌, List, [], ◌∷◌, ◌++◌, map, ℕ, zero, suc}
use Rattle.std.specs.Prelude.{◌+◌, ◌*◌, ◌/◌, ◌%◌, ◌^◌, length, take, replicate, eqb, ltb, leb}
use Rattle.std.proofs.Math.Option.{Option, none, some, get_or}
use Rattle.words.specs.Lists.{at, from}
use Rattle.words.specs.Words.{Letter, Word}
use Rattle.oracle.specs.Arrows.{State, Delta}
use Rattle.oracle.specs.SuffixRule.{oracle}
use Rattle.oracle.specs.Supply.{supply}

abbrev pub sets_room : ℕ → ℕ
sets_room m = 4 * (m + 1)

abbrev pub compact_room : ℕ → ℕ
compact_room m = 10 * (m + 1)

-- ── Laid out ───────────────────────────────────────────────────────────────

abbrev pub arrow_number : State → Letter → ℕ
arrow_number x c = 256 * x + c

abbrev pub arrow_at : Delta → ℕ → Option State
arrow_at δ g = δ (g / 256) (g % 256)

unfoldable pub is_arrow : Option State → Bool
is_arrow none = false
is_arrow (some y) = true

unfoldable pub as_list : Option State → List State
as_list none = []
as_list (some y) = y ∷ []

unfoldable pub from_bits : (ℕ → Bool) → ℕ → ℕ
from_bits f zero = 0
from_bits f (suc k) = from_bits f k + cond (f k) (2 ^ k) 0

unfoldable pub set_word : Delta → ℕ → ℕ
set_word δ i = from_bits (λ d. is_arrow (arrow_at δ (64 * i + d))) 64

unfoldable pub targets_up_to : Delta → ℕ → List State
targets_up_to δ zero = []
targets_up_to δ (suc g) = targets_up_to δ g ++ as_list (arrow_at δ g)

unfoldable pub sets_from : Delta → ℕ → List ℕ
sets_from δ m = map (set_word δ) (from 0 (sets_room m))

unfoldable pub compact_from : Word → Delta → (State → State) → List ℕ
compact_from p δ S =
    let m = length p in
    let n = m + 1 in
    let letters : List ℕ = 0 ∷ p in
    let supplies : List ℕ = 0 ∷ map S (from 1 m) in
    let starts = map (λ i. length (targets_up_to δ (64 * i))) (from 0 (4 * n)) in
    let targets = take (2 * n) (targets_up_to δ (256 * n) ++ replicate (2 * n) 0) in
    letters ++ (supplies ++ (replicate (2 * n) 0 ++ (starts ++ targets)))

unfoldable pub compact_sets : Word → List ℕ
compact_sets p = sets_from (oracle p) (length p)

unfoldable pub compact_table : Word → List ℕ
compact_table p = compact_from p (oracle p) (λ x. get_or (supply p x) 0)

-- ── Read ───────────────────────────────────────────────────────────────────

unfoldable pub bit_at : ℕ → ℕ → Bool
bit_at w d = eqb (w / 2 ^ d % 2) 1

abbrev pub marked : List ℕ → ℕ → Bool
marked Z g = bit_at (at Z (g / 64)) (g % 64)

abbrev pub in_set : List ℕ → State → Letter → Bool
in_set Z x c = marked Z (arrow_number x c)

unfoldable pub how_many : (ℕ → Bool) → ℕ → ℕ
how_many f zero = 0
how_many f (suc k) = how_many f k + cond (f k) 1 0

-- the target's place: where those of the state start, and behind that one place for each smaller letter of its set
unfoldable pub read_compact : ℕ → List ℕ → List ℕ → Delta
read_compact m Z L x c =
    let n = m + 1 in
    let start = at L (4 * n + 4 * x) in
    let place = start + how_many (in_set Z x) c in
    cond (leb x m && (ltb c 256 && in_set Z x c)) (some (at L (8 * n + place))) none
