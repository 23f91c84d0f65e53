-- READING COMPACT ROWS BACK: the rule reads from `sets_from δ m` and `compact_from p δ S` the arrows that they were made of, for every
-- automaton whose targets fit into their rows. A letter is in a state's set exactly if it has an arrow (`set_told`); so counting the
-- smaller letters of the set counts the arrows of smaller numbers from that state (`count-told`), and behind the state's start that is
-- the target's place (`place-told`).
use mathlib.Core.Path.{◌≡◌, refl, sym, ap, ap₂, ◌∙◌}
use mathlib.Core.Bool.{Bool, true, false, cond, ◌&&◌}
use mathlib.Core.Option.{Option, none, some}
use mathlib.Core.List.{List}
use Prim.Native.Nat.{ℕ, ◌+◌, ◌*◌, ◌/◌, ◌%◌, ◌^◌, ◌≤◌, ◌<◌}
use native.Mathlib.Omega.{arith}
use lib.ListN.{length}
use lib.Dec.{leb}
use borrow.Author.Tests.{lt-ltb, le-ltb, le-leb, lt-leb}
use Rattle.words.specs.Lists.{at}
use Rattle.words.specs.Words.{Letter, Word}
use Rattle.oracle.specs.Arrows.{State, Delta}
use Rattle.compact.specs.Compact.{arrow_number, arrow_at, is_arrow, set_word, targets_up_to, sets_from, compact_from}
use Rattle.compact.specs.Compact.{bit_at, in_set, how_many, read_compact}
use Rattle.compact.proofs.Bits.{bits_at, bits_small}
use Rattle.compact.proofs.Counting.{count-split, count_same}
use Rattle.compact.proofs.Targets.{there, targets-length, target-inside, target_at}
use Rattle.compact.proofs.CompactRows.{word_at, starts-there, targets-there}

-- ── Sets ───────────────────────────────────────────────────────────────────

-- of a number: its state and letter
pub its_state : (x : State) (c : Letter) → c < 256 → arrow_number x c / 256 ≡ x
its_state x c h = omega arith

pub its_letter : (x : State) (c : Letter) → c < 256 → arrow_number x c % 256 ≡ c
its_letter x c h = omega arith

pub arrow_at-number : (δ : Delta) (x : State) (c : Letter) → c < 256 → arrow_at δ (arrow_number x c) ≡ δ x c
arrow_at-number δ x c h = ap₂ δ (its_state x c h) (its_letter x c h)

-- bit d of word i tells of the arrow of number 64i + d
pub word-told : (δ : Delta) (i d : ℕ) → d < 64 → bit_at (set_word δ i) d ≡ there δ (64 * i + d)
unfolding set_word
word-told δ i d h = bits_at (λ d. there δ (64 * i + d)) 64 d h

pub word_small : (δ : Delta) (i : ℕ) → set_word δ i < 2 ^ 64
unfolding set_word
word_small δ i = bits_small (λ d. there δ (64 * i + d)) 64

module _ (δ : Delta) (m : ℕ) (Z : List ℕ) (told : (i : ℕ) → i < 4 * (m + 1) → at Z i ≡ set_word δ i) where
  -- the bits of all words, by number
  pub number-told : (g : ℕ) → g < 256 * (m + 1) → bit_at (at Z (g / 64)) (g % 64) ≡ there δ g
  number-told g h =
      let e : 64 * (g / 64) + g % 64 ≡ g = omega arith in
      rw (told (g / 64) (omega arith)) (rw e at (word-told δ (g / 64) (g % 64) (omega arith)))

  module _ (x : State) (h : x ≤ m) where
    pub set_told : (c : Letter) → c < 256 → in_set Z x c ≡ is_arrow (δ x c)
    set_told c l = number-told (arrow_number x c) (omega arith) ∙ ap is_arrow (arrow_at-number δ x c l)

    -- those of smaller letters
    pub count-told : (c : Letter) → c ≤ 256
        → length (targets_up_to δ (256 * x)) + how_many (in_set Z x) c ≡ length (targets_up_to δ (arrow_number x c))
    count-told c l =
        ap₂ (λ (a b : ℕ). a + b) (targets-length δ (256 * x)) (count_same (in_set Z x) (λ d. there δ (arrow_number x d)) c same)
        ∙ sym (count-split (there δ) (256 * x) c)
        ∙ sym (targets-length δ (arrow_number x c))
      where
        same : (d : ℕ) → d < c → in_set Z x d ≡ there δ (arrow_number x d)
        same d k = number-told (arrow_number x d) (omega arith)

-- ── Arrows ─────────────────────────────────────────────────────────────────

-- what is no state or no byte has none
pub beyond_state : (m : ℕ) (Z L : List ℕ) (x : State) (c : Letter) → m < x → read_compact m Z L x c ≡ none
unfolding read_compact
beyond_state m Z L x c h = rw (lt-leb x m h)

pub beyond_bytes : (m : ℕ) (Z L : List ℕ) (x : State) (c : Letter) → 256 ≤ c → read_compact m Z L x c ≡ none
unfolding read_compact
beyond_bytes m Z L x c h = rw (le-ltb c 256 h) (by (leb x m))
  where
    by : (b : Bool) → cond (b && false) (some (at L (8 * (m + 1) + (at L (4 * (m + 1) + 4 * x) + how_many (in_set Z x) c)))) none ≡ none
    by true = refl
    by false = refl

-- a letter of the set leads to the target at its place
pub reads-some : (m : ℕ) (Z L : List ℕ) (x : State) (c : Letter) → x ≤ m → c < 256 → in_set Z x c ≡ true
    → read_compact m Z L x c ≡ some (at L (8 * (m + 1) + (at L (4 * (m + 1) + 4 * x) + how_many (in_set Z x) c)))
unfolding read_compact
reads-some m Z L x c h l e = rw (le-leb x m h, lt-ltb c 256 l, e)

-- another letter leads nowhere
pub reads_none : (m : ℕ) (Z L : List ℕ) (x : State) (c : Letter) → x ≤ m → c < 256 → in_set Z x c ≡ false → read_compact m Z L x c ≡ none
unfolding read_compact
reads_none m Z L x c h l e = rw (le-leb x m h, lt-ltb c 256 l, e)

module _ (p : Word) (δ : Delta) (S : State → State) (few : length (targets_up_to δ (256 * (length p + 1))) ≤ 2 * (length p + 1)) where
  abbrev m : ℕ
  m = length p

  abbrev Z : List ℕ
  Z = sets_from δ m

  abbrev L : List ℕ
  L = compact_from p δ S

  pub place-told : (x : State) (c : Letter) → x ≤ m → c ≤ 256
      → at L (4 * (m + 1) + 4 * x) + how_many (in_set Z x) c ≡ length (targets_up_to δ (arrow_number x c))
  place-told x c h l =
      let e : 64 * (4 * x) ≡ 256 * x = omega arith in
      ap (λ (a : ℕ). a + how_many (in_set Z x) c) (starts-there p δ S (4 * x) (omega arith) ∙ ap (λ (g : ℕ). length (targets_up_to δ g)) e)
      ∙ count-told δ m Z (word_at δ m) x h c l

  pub reads_compact : (x : State) (c : Letter) → x ≤ m → c < 256 → read_compact m Z L x c ≡ δ x c
  reads_compact x c h l = by (δ x c) refl
    where
      member : {o : Option State} → δ x c ≡ o → in_set Z x c ≡ is_arrow o
      member e = set_told δ m Z (word_at δ m) x h c l ∙ ap is_arrow e

      by : (o : Option State) → δ x c ≡ o → read_compact m Z L x c ≡ o
      by none e = reads_none m Z L x c h l (unfold is_arrow in member e)
      by (some y) e =
          let leads = arrow_at-number δ x c l ∙ e in
          let g = arrow_number x c in
          let inside = target-inside δ g leads (256 * (m + 1)) (omega arith) in
          reads-some m Z L x c h l (unfold is_arrow in member e)
          ∙ ap {B = Option State} some (
          ap (λ (i : ℕ). at L (8 * (m + 1) + i)) (place-told x c h (omega arith))
          ∙ targets-there p δ S (length (targets_up_to δ g)) (omega (arith, few))
          ∙ target_at δ g leads (256 * (m + 1)) (omega arith))
