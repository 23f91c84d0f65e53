-- HOW COMPACT ROWS ARE FILLED: from the first form of the same word, which stands in the entries meanwhile. What each step leaves; nothing
-- here is of interest once they are filled.
--
--   out_targets p x      where the arrows of x lead, a state below m: the spine's, and then the extra ones in the file's order
--   letter_into p y      the letter of the arrows into y
--   place_of p x c       the place of the target of the arrow from x on c, in the rows of targets
--   first_place δ x      the place of the first target of x there
--   FirstForm p L m      the entries L have room for compact rows, and rows 0 to 3 are those of the first form of p, which has m letters
--   Words64 Z            Z are words of 64 bits
--   WithBit Z g Z'       Z' is Z with the bit of the number g
--   NoneOf x Z           the set of x in Z is empty
--   WithSet δ x Z Z'     Z' is Z with the set of x
--   OwnWords δ x Z       the words of x are those of its arrows
--   OwnStarts δ m x L    where the targets of the words of x start stands in rows 4 to 7
--   WithStarts δ m x L L'
--                        L' is L with that
--   WithTargets δ m x L L'
--                        L' is L with the targets of x, in rows 8 and 9
--   WithState δ m x L L' L' is L with both
--   FilledState δ m x Z L Z' L' next
--                        Z' is Z with the set of x, L' is L with its starts and targets, and `next` is where those of the next state start
--   AllStates δ m L L'   L' is L with the starts of all states but the last, and with all targets
--   FilledRows δ m L L'  L' is that with the starts of the last one
use Rattle.std.specs.Prelude.{◌≡◌, ◌≢◌, false, ◌||◌, List, ◌∷◌, ℕ, suc, pred, ◌+◌, ◌*◌, ◌/◌, ◌^◌, ◌≤◌, ◌<◌, length, eqb}
use Rattle.std.proofs.Math.Option.{some}
use Rattle.words.specs.Lists.{at}
use Rattle.words.specs.Words.{Letter, Word, letter}
use Rattle.oracle.specs.Arrows.{State, Delta}
use Rattle.oracle.specs.SuffixRule.{oracle}
use Rattle.oracle.specs.FileOrder.{extra_targets}
use Rattle.table.specs.Table.{table_of}
use Rattle.compact.specs.Compact.{compact_room, arrow_number, is_arrow, set_word, targets_up_to, marked, in_set}

abbrev pub out_targets : Word → State → List State
out_targets p x = suc x ∷ extra_targets (oracle p) p x

abbrev pub letter_into : Word → State → Letter
letter_into p y = letter p (pred y)

abbrev pub place_of : Word → State → Letter → ℕ
place_of p x c = length (targets_up_to (oracle p) (arrow_number x c))

abbrev pub first_place : Delta → State → ℕ
first_place δ x = length (targets_up_to δ (256 * x))

pub record FirstForm (p : Word) (L : List ℕ) (m : ℕ) : Type 0 where
  pub long : length p ≡ m
  pub few : m < 30000
  pub bytes : (i : ℕ) → letter p i < 256
  pub size : length L ≡ compact_room m
  pub rows : (i : ℕ) → i < 4 * (m + 1) → at L i ≡ at (table_of p) i

abbrev pub Words64 : List ℕ → Type 0
Words64 Z = (i : ℕ) → at Z i < 2 ^ 64

pub record WithBit (Z : List ℕ) (g : ℕ) (Z' : List ℕ) : Type 0 where
  pub size : length Z' ≡ length Z
  pub small : Words64 Z → Words64 Z'
  pub told : (h : ℕ) → marked Z' h ≡ marked Z h || eqb g h

abbrev pub NoneOf : State → List ℕ → Type 0
NoneOf x Z = (c : Letter) → c < 256 → in_set Z x c ≡ false

pub record WithSet (δ : Delta) (x : State) (Z Z' : List ℕ) : Type 0 where
  pub size : length Z' ≡ length Z
  pub small : Words64 Z → Words64 Z'
  pub own : (c : Letter) → c < 256 → in_set Z' x c ≡ in_set Z x c || is_arrow (δ x c)
  pub others : (g : ℕ) → g / 256 ≢ x → marked Z' g ≡ marked Z g

abbrev pub OwnWords : Delta → State → List ℕ → Type 0
OwnWords δ x Z = (k : ℕ) → k < 4 → at Z (4 * x + k) ≡ set_word δ (4 * x + k)

abbrev pub OwnStarts : Delta → ℕ → State → List ℕ → Type 0
OwnStarts δ m x L = (k : ℕ) → k < 4 → at L (4 * (m + 1) + (4 * x + k)) ≡ length (targets_up_to δ (64 * (4 * x + k)))

pub record WithStarts (δ : Delta) (m : ℕ) (x : State) (L L' : List ℕ) : Type 0 where
  pub size : length L' ≡ length L
  pub starts : OwnStarts δ m x L'
  pub before : (i : ℕ) → i < 4 * (m + 1) + 4 * x → at L' i ≡ at L i
  pub behind : (i : ℕ) → 4 * (m + 1) + 4 * suc x ≤ i → at L' i ≡ at L i

pub record WithTargets (δ : Delta) (m : ℕ) (x : State) (L L' : List ℕ) : Type 0 where
  pub size : length L' ≡ length L
  pub put : (c : Letter) → c < 256 → (y : State) → δ x c ≡ some y → at L' (8 * (m + 1) + length (targets_up_to δ (arrow_number x c))) ≡ y
  pub before : (i : ℕ) → i < 8 * (m + 1) + first_place δ x → at L' i ≡ at L i
  pub behind : (i : ℕ) → 8 * (m + 1) + first_place δ (suc x) ≤ i → at L' i ≡ at L i

pub record WithState (δ : Delta) (m : ℕ) (x : State) (L L' : List ℕ) : Type 0 where
  pub size : length L' ≡ length L
  pub starts : OwnStarts δ m x L'
  pub put : (c : Letter) → c < 256 → (y : State) → δ x c ≡ some y → at L' (8 * (m + 1) + length (targets_up_to δ (arrow_number x c))) ≡ y
  pub before : (i : ℕ) → i < 4 * (m + 1) + 4 * x → at L' i ≡ at L i
  pub between : (i : ℕ) → 4 * (m + 1) + 4 * suc x ≤ i → i < 8 * (m + 1) + first_place δ x → at L' i ≡ at L i
  pub behind : (i : ℕ) → 8 * (m + 1) + first_place δ (suc x) ≤ i → at L' i ≡ at L i

abbrev pub FilledState : Delta → ℕ → State → List ℕ → List ℕ → List ℕ → List ℕ → ℕ → Type 0
FilledState δ m x Z L Z' L' next = (next ≡ first_place δ (suc x)) × WithSet δ x Z Z' × WithState δ m x L L'

pub record AllStates (δ : Delta) (m : ℕ) (L L' : List ℕ) : Type 0 where
  pub size : length L' ≡ length L
  pub starts : (i : ℕ) → i < 4 * m → at L' (4 * (m + 1) + i) ≡ length (targets_up_to δ (64 * i))
  pub targets : (i : ℕ) → i < 2 * (m + 1) → at L' (8 * (m + 1) + i) ≡ at (targets_up_to δ (256 * (m + 1))) i
  pub before : (i : ℕ) → i < 4 * (m + 1) → at L' i ≡ at L i

pub record FilledRows (δ : Delta) (m : ℕ) (L L' : List ℕ) : Type 0 where
  pub but_last : List ℕ
  pub states : AllStates δ m L but_last
  pub last : WithStarts δ m m but_last L'
