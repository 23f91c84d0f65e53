-- MARKING: one bit more tells of one arrow more. A state's arrows are marked one after the other (`MarkedSome`), and its set then has the
-- letters of all of them; state by state (`MarkedUpTo`) all words become those of the arrows, as numbers of 64 bits are told by their bits.
use mathlib.Core.Path.{◌≡◌, refl, sym, ap, ◌∙◌}
use mathlib.Core.Logic.{◌≢◌, by_cases}
use mathlib.Core.Bool.{Bool, true, false, ◌||◌}
use mathlib.Core.Option.{Option, none, some}
use mathlib.Core.List.{List}
use Prim.Native.Nat.{ℕ, zero, suc, ◌+◌, ◌*◌, ◌/◌, ◌%◌, ◌^◌, ◌≤◌, ◌<◌}
use native.Mathlib.Nat.{zero-div}
use native.Mathlib.Numerals.{add-one}
use native.Mathlib.Decide.{dec_lt, ℕ_discrete}
use native.Mathlib.Omega.{arith}
use lib.ListN.{length, set, replicate, length-set, length-replicate}
use lib.Seq.{get_or-set_same, get_or-set_other, ext_get_or}
use lib.Bits.{bit_or, or_lt}
use lib.Dec.{eqb}
use lib.Pow.{pow-lt, pow_pos}
use borrow.Author.Tests.{eq-eqb, ne_eqb}
use Rattle.words.specs.Lists.{at}
use Rattle.words.specs.Words.{Letter, Word}
use Rattle.words.proofs.Loops.{zeros-at}
use Rattle.oracle.specs.Arrows.{State, Delta}
use Rattle.oracle.specs.SuffixRule.{oracle}
use Rattle.oracle.specs.FileOrder.{extra_targets}
use Rattle.oracle.proofs.Targets.{never}
use Rattle.compact.specs.Compact.{sets_room, arrow_number, is_arrow, set_word, sets_from, bit_at, marked, in_set}
use Rattle.compact.proofs.Bits.{same_bits, or_bit}
use Rattle.compact.proofs.Counting.{shifted_one}
use Rattle.compact.proofs.Targets.{there}
use Rattle.compact.proofs.CompactRows.{sets-size, word_at}
use Rattle.compact.proofs.ReadBack.{word-told, word_small}
use Rattle.compact_fill.specs.Filling.{out_targets, letter_into, FirstForm, Words64, WithBit, NoneOf, WithSet, OwnWords}
use Rattle.compact_fill.proofs.OutArrows.{out-leads, arrow_among}

or_false : (b : Bool) → b || false ≡ b
or_false true = refl
or_false false = refl

or_assoc : (a b c : Bool) → (a || b) || c ≡ a || (b || c)
or_assoc true b c = refl
or_assoc false b c = refl

-- two numbers are the same exactly if a function that tells them apart says so
same_test : (a b c d : ℕ) → (a ≡ b → c ≡ d) → (c ≡ d → a ≡ b) → eqb a b ≡ eqb c d
same_test a b c d f g = by_cases (ℕ_discrete a b)
    (λ e. eq-eqb a b e ∙ sym (eq-eqb c d (f e)))
    (λ e. ne_eqb a b e ∙ sym (ne_eqb c d (λ q. e (g q))))

-- ── One bit ────────────────────────────────────────────────────────────────

pub bit_set : (Z : List ℕ) (g : ℕ) → g / 64 < length Z → WithBit Z g (set Z (g / 64) (bit_or (at Z (g / 64)) (1 * 2 ^ (g % 64) % 2 ^ 64)))
bit_set Z g h = rw (shifted_one (g % 64) (omega arith)) (record {
  size = length-set Z (g / 64) w;
  small = λ s i. by_cases (ℕ_discrete i (g / 64))
      (λ e. rw (e, get_or-set_same Z (g / 64) w 0 h) (or_lt 64 _ _ (s (g / 64)) (pow-lt {i = g % 64} {j = 64} (omega arith))))
      (λ e. rw (get_or-set_other Z (g / 64) i w 0 e) (s i));
  told = λ k. by_cases (ℕ_discrete (k / 64) (g / 64)) (λ e. same k e) (λ e. other k e);
})
  where
    w : ℕ
    w = bit_or (at Z (g / 64)) (2 ^ (g % 64))

    same : (k : ℕ) → k / 64 ≡ g / 64 → marked (set Z (g / 64) w) k ≡ marked Z k || eqb g k
    same k e =
        rw (e, get_or-set_same Z (g / 64) w 0 h)
        (or_bit (at Z (g / 64)) (g % 64) (k % 64)
        ∙ ap (λ (t : Bool). bit_at (at Z (g / 64)) (k % 64) || t) (same_test (g % 64) (k % 64) g k (λ q. omega arith) (λ q. omega arith)))

    other : (k : ℕ) → k / 64 ≢ g / 64 → marked (set Z (g / 64) w) k ≡ marked Z k || eqb g k
    other k e =
        let apart : g ≢ k = λ q. e (sym (ap (λ (i : ℕ). i / 64) q)) in
        rw (get_or-set_other Z (g / 64) (k / 64) w 0 e, ne_eqb g k apart) (sym (or_false (marked Z k)))

-- ── One state ──────────────────────────────────────────────────────────────

-- whether c is among the letters of the first j arrows of x
pub among : Word → State → Letter → ℕ → Bool
among p x c zero = false
among p x c (suc j) = among p x c j || eqb (letter_into p (at (out_targets p x) j)) c

-- the first j arrows of x are marked
pub record MarkedSome (p : Word) (x : State) (Z Z' : List ℕ) (j : ℕ) : Type 0 where
  pub size : length Z' ≡ length Z
  pub small : Words64 Z → Words64 Z'
  pub own : (c : Letter) → c < 256 → in_set Z' x c ≡ in_set Z x c || among p x c j
  pub others : (g : ℕ) → g / 256 ≢ x → marked Z' g ≡ marked Z g

module _ {p : Word} {x : State} {Z : List ℕ} where
  pub marked-none : MarkedSome p x Z Z 0
  unfolding among
  marked-none = record { size = refl; small = λ s. s; own = λ c l. sym (or_false (in_set Z x c)); others = λ g h. refl }

  -- one more
  pub marked-one : {Z' Z'' : List ℕ} {j : ℕ} {d : Letter} → MarkedSome p x Z Z' j → d ≡ letter_into p (at (out_targets p x) j)
      → letter_into p (at (out_targets p x) j) < 256
      → WithBit Z' (arrow_number x d) Z'' → MarkedSome p x Z Z'' (j + 1)
  unfolding among
  marked-one {Z'} {Z''} {j} {d} M e byte K = rw (add-one j) (record {
    size = K.size ∙ M.size;
    small = λ s. K.small (M.small s);
    own = λ c l.
        K.told (arrow_number x c)
        ∙ ap (λ (t : Bool). in_set Z' x c || t) (same_test (arrow_number x d) (arrow_number x c) d c (λ q. omega arith) (λ q. omega arith))
        ∙ ap (λ (i : ℕ). in_set Z' x c || eqb i c) e
        ∙ ap (λ (t : Bool). t || eqb (letter_into p (at (out_targets p x) j)) c) (M.own c l)
        ∙ or_assoc (in_set Z x c) (among p x c j) _;
    others = λ g h. K.told g ∙ rw (ne_eqb (arrow_number x d) g (λ q. h (omega (arith, e)))) (or_false (marked Z' g)) ∙ M.others g h;
  })

-- none of them
among_none : (p : Word) (x : State) (c : Letter) (k : ℕ) → ((j : ℕ) → j < k → letter_into p (at (out_targets p x) j) ≢ c)
    → among p x c k ≡ false
unfolding among
among_none p x c zero f = refl
among_none p x c (suc k) f = rw (among_none p x c k (λ j h. f j (omega arith)), ne_eqb _ c (f k (omega arith)))

-- one of them
among_some : (p : Word) (x : State) (c : Letter) (k j : ℕ) → j < k → letter_into p (at (out_targets p x) j) ≡ c → among p x c k ≡ true
unfolding among
among_some p x c zero j h e = absurd (omega arith)
among_some p x c (suc k) j h e = by_cases (ℕ_discrete j k) (λ q. last q) (λ q. rw (among_some p x c k j (omega arith) e))
  where
    or_true : (b : Bool) → b || true ≡ true
    or_true true = refl
    or_true false = refl

    last : j ≡ k → among p x c k || eqb (letter_into p (at (out_targets p x) k)) c ≡ true
    last q = rw (← q, eq-eqb _ c e) (or_true (among p x c j))

-- all of them are the arrows of x
module _ {p : Word} {L : List ℕ} {m : ℕ} (F : FirstForm p L m) (x : State) (h : x < m) where
  all_among : (c : Letter) → among p x c (length (out_targets p x)) ≡ is_arrow (oracle p x c)
  unfolding is_arrow
  all_among c = by (oracle p x c) refl
    where
      by : (o : Option State) → oracle p x c ≡ o → among p x c (length (out_targets p x)) ≡ is_arrow o
      by none e = among_none p x c _ (λ j l q. never e (rw q at (out-leads F x h j l).leads))
      by (some y) e = let A = arrow_among F x h c y e in among_some p x c _ A.index A.below (rw A.here (sym A.on))

  pub state-marked : {Z Z' : List ℕ} {k : ℕ} → MarkedSome p x Z Z' k → k ≡ length (out_targets p x) → WithSet (oracle p) x Z Z'
  state-marked {Z} M e = record {
    size = M.size;
    small = M.small;
    own = λ c l. M.own c l ∙ ap (λ (t : Bool). in_set Z x c || t) (rw e (all_among c));
    others = M.others;
  }

  -- the spine's alone
  module _ (alone : length (out_targets p x) ≡ 1) where
    pub lone_among : (c : Letter) → is_arrow (oracle p x c) ≡ eqb (letter_into p (x + 1)) c
    unfolding among
    lone_among c =
        let no_extra : length (extra_targets (oracle p) p x) ≡ 0 = omega (arith, alone) in
        rw (add-one x) (sym (rw no_extra at (all_among c)))

    pub lone_marked : {Z Z' : List ℕ} {d : Letter} → d ≡ letter_into p (x + 1) → WithBit Z (arrow_number x d) Z' → WithSet (oracle p) x Z Z'
    lone_marked e K = state-marked (marked-one marked-none (rw (add-one x) at e) (F.bytes _) K) (sym alone)

  -- the spine's and another
  module _ (both : length (out_targets p x) ≡ 2) where
    abbrev other : Letter
    other = letter_into p (at (out_targets p x) 1)

    pub pair_among : (c : Letter) → is_arrow (oracle p x c) ≡ eqb (letter_into p (x + 1)) c || eqb other c
    unfolding among
    pair_among c =
        let one-extra : length (extra_targets (oracle p) p x) ≡ 1 = omega (arith, both) in
        rw (add-one x) (sym (rw one-extra at (all_among c)))

    pub pair_marked : {Z Z₁ Z₂ : List ℕ} {c d : Letter} → c ≡ letter_into p (x + 1) → d ≡ other → WithBit Z (arrow_number x c) Z₁
        → WithBit Z₁ (arrow_number x d) Z₂ → WithSet (oracle p) x Z Z₂
    pair_marked e q K M =
        let first = marked-one marked-none (rw (add-one x) at e) (F.bytes _) K in
        state-marked (marked-one first q (F.bytes _) M) (sym both)

-- ── Words of arrows ────────────────────────────────────────────────────────

-- a word of 64 bits that tells of the arrows of its numbers is the word of these arrows
word_of : (δ : Delta) (Z : List ℕ) (i : ℕ) → at Z i < 2 ^ 64 → ((d : ℕ) → d < 64 → marked Z (64 * i + d) ≡ there δ (64 * i + d))
    → at Z i ≡ set_word δ i
word_of δ Z i small told = same_bits 64 (at Z i) (set_word δ i) small (word_small δ i) (λ d l.
    let word : (64 * i + d) / 64 ≡ i = omega arith in
    let place : (64 * i + d) % 64 ≡ d = omega arith in
    (rw (word, place) at (told d l)) ∙ sym (word-told δ i d l))

module _ {δ : Delta} {x : State} {Z Z' : List ℕ} (empty : NoneOf x Z) (M : WithSet δ x Z Z') where
  -- where the set of x was empty, it tells of its arrows
  own-told : (g : ℕ) → g / 256 ≡ x → marked Z' g ≡ there δ g
  own-told g e =
      let same : arrow_number x (g % 256) ≡ g = omega arith in
      let own = M.own (g % 256) (omega arith) in
      let told : marked Z' (arrow_number x (g % 256)) ≡ is_arrow (δ x (g % 256)) = rw (empty (g % 256) (omega arith)) at own in
      rw same at told ∙ ap (λ (y : ℕ). is_arrow (δ y (g % 256))) (sym e)

  pub own-words : Words64 Z → OwnWords δ x Z'
  own-words small k h = word_of δ Z' (4 * x + k) (M.small small (4 * x + k)) (λ d l. own-told (64 * (4 * x + k) + d) (omega arith))

-- ── All states ─────────────────────────────────────────────────────────────

-- the states below x are marked, and no other
pub record MarkedUpTo (δ : Delta) (m : ℕ) (Z : List ℕ) (x : State) : Type 0 where
  pub size : length Z ≡ sets_room m
  pub small : Words64 Z
  pub done : (g : ℕ) → g / 256 < x → marked Z g ≡ there δ g
  pub ahead : (g : ℕ) → x ≤ g / 256 → marked Z g ≡ false

pub nothing-marked : {δ : Delta} {m : ℕ} {Z : List ℕ} → Z ≡ replicate (sets_room m) 0 → MarkedUpTo δ m Z 0
unfolding bit_at
nothing-marked {δ} {m} {Z} e = rw e (record {
  size = length-replicate (sets_room m) 0;
  small = λ i. rw (zeros-at (sets_room m) i) (pow_pos 64);
  done = λ g h. absurd (omega arith);
  ahead = λ g h. rw (zeros-at (sets_room m) (g / 64), zero-div (2 ^ (g % 64)));
})

module _ {δ : Delta} {m : ℕ} {Z : List ℕ} {x : State} (U : MarkedUpTo δ m Z x) where
  pub next-empty : NoneOf x Z
  next-empty c l = U.ahead (arrow_number x c) (omega arith)

  pub state_more : {Z' : List ℕ} → WithSet δ x Z Z' → MarkedUpTo δ m Z' (x + 1)
  state_more {Z'} M = record {
    size = M.size ∙ U.size;
    small = M.small U.small;
    done = λ g h. by_cases (ℕ_discrete (g / 256) x)
        (λ e. own-told next-empty M g e)
        (λ e. M.others g e ∙ U.done g (omega arith));
    ahead = λ g h. M.others g (λ e. omega arith) ∙ U.ahead g (omega arith);
  }

  pub all-marked : x ≡ m → ((c : Letter) → δ m c ≡ none) → Z ≡ sets_from δ m
  unfolding is_arrow
  all-marked e none_last = ext_get_or 0 Z (sets_from δ m) (U.size ∙ sym (sets-size δ m)) (λ i h. word i (rw U.size at h))
    where
      told : (g : ℕ) → g / 256 ≤ m → marked Z g ≡ there δ g
      told g h = by_cases (dec_lt (g / 256) m)
          (λ l. U.done g (omega arith))
          (λ l.
          let last : g / 256 ≡ m = omega arith in
          U.ahead g (omega arith) ∙ sym (rw last (ap is_arrow (none_last (g % 256)))))

      word : (i : ℕ) → i < sets_room m → at Z i ≡ at (sets_from δ m) i
      word i h = word_of δ Z i (U.small i) (λ d l. told (64 * i + d) (omega arith)) ∙ sym (word_at δ m i h)
