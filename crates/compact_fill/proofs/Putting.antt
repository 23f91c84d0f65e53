-- PUTTING THE TARGETS OF A STATE: arrow by arrow (`PuttingState`), the target goes behind those of the arrows with smaller numbers. No
-- other place is written, so what is put stays. With its starts that is all of a state (`with_state`).
use mathlib.Core.Path.{◌≡◌, refl, sym, ap, ap₂, ◌∙◌}
use mathlib.Core.Logic.{◌≢◌, by_cases}
use mathlib.Core.Bool.{cond}
use mathlib.Core.Option.{Option, some}
use mathlib.Core.List.{List}
use Prim.Native.Nat.{ℕ, suc, pred, ◌+◌, ◌*◌, ◌/◌, ◌%◌, ◌≤◌, ◌<◌}
use native.Mathlib.Numerals.{add-one}
use native.Mathlib.Decide.{dec_lt, ℕ_discrete}
use native.Mathlib.Omega.{arith}
use lib.ListN.{length, set, length-set}
use lib.Seq.{get_or-set_same, get_or-set_other}
use lib.Dec.{ltb}
use borrow.Author.Count.{below_more}
use borrow.Author.Tests.{lt-ltb, le-ltb}
use Rattle.words.specs.Lists.{at}
use Rattle.words.specs.Words.{Letter, Word}
use Rattle.oracle.specs.Arrows.{State, Delta}
use Rattle.oracle.specs.SuffixRule.{oracle}
use Rattle.chains.specs.Letters.{word_in}
use Rattle.compact.specs.Compact.{arrow_number, set_word, targets_up_to, bit_at, how_many}
use Rattle.compact.proofs.Counting.{count-split, count_same}
use Rattle.compact.proofs.Targets.{there, targets-length, targets_rise, target-inside}
use Rattle.compact.proofs.ReadBack.{word-told, arrow_at-number}
use Rattle.compact.proofs.Theorems.{targets_fit}
use Rattle.compact_fill.specs.Filling.{out_targets, letter_into, place_of, first_place, FirstForm}
use Rattle.compact_fill.specs.Filling.{OwnWords, OwnStarts, WithStarts, WithTargets, WithState}
use Rattle.compact_fill.proofs.OutArrows.{spine-first, own-word, first_stays, out-leads, arrow_among}
use Rattle.compact_fill.proofs.Starts.{starts-few, lone_start, pair_start}

one-target : {o : Option State} {y z : State} → o ≡ some y → o ≡ some z → y ≡ z
one-target e f = cc

-- ── One state's targets ────────────────────────────────────────────────────

-- the first j arrows of x have their targets in place
pub record PuttingState (p : Word) (m : ℕ) (x : State) (L L' : List ℕ) (j : ℕ) : Type 0 where
  pub size : length L' ≡ length L
  pub put : (i : ℕ) → i < j → at L' (8 * (m + 1) + place_of p x (letter_into p (at (out_targets p x) i))) ≡ at (out_targets p x) i
  pub before : (i : ℕ) → i < 8 * (m + 1) + first_place (oracle p) x → at L' i ≡ at L i
  pub behind : (i : ℕ) → 8 * (m + 1) + first_place (oracle p) (suc x) ≤ i → at L' i ≡ at L i

module _ {p : Word} {L : List ℕ} {m : ℕ} (F : FirstForm p L m) (x : State) (h : x < m) where
  -- an arrow's number is one of the state's, and its place is within the state's own
  own-place : (c : Letter) (y : State) → c < 256 → oracle p x c ≡ some y
      → (first_place (oracle p) x ≤ place_of p x c) × (place_of p x c < first_place (oracle p) (suc x))
  own-place c y l e = (
    targets_rise (oracle p) (256 * x) (arrow_number x c) (omega arith),
    target-inside (oracle p) (arrow_number x c) (arrow_at-number (oracle p) x c l ∙ e) (256 * suc x) (omega arith),
  )

  -- and within the rows
  pub place_inside : (y : State) → oracle p x (letter_into p y) ≡ some y → place_of p x (letter_into p y) < 2 * (m + 1)
  place_inside y e =
      let within = own-place (letter_into p y) y (F.bytes _) e in
      let all : 256 * suc x ≤ 256 * (length p + 1) = omega (arith, F.long) in
      omega (arith, within.1, targets_rise (oracle p) (256 * suc x) (256 * (length p + 1)) all, targets_fit p, F.long)

  -- where code looks for it: behind the start of its word, and behind the ones of that below its bit
  pub place-counted : (Z : List ℕ) → OwnWords (oracle p) x Z → OwnStarts (oracle p) m x L → {c d : Letter} → d < 256 → c ≡ d
      → at L (4 * (m + 1) + arrow_number x c / 64) + how_many (bit_at (at Z (arrow_number x c / 64))) (arrow_number x c % 64)
      ≡ place_of p x d
  place-counted Z own starts {c} {d} l same = rw same counted
    where
      k : ℕ
      k = d / 64

      bits : ℕ
      bits = arrow_number x d % 64

      word : arrow_number x d / 64 ≡ 4 * x + k
      word = omega arith

      whole : 64 * (4 * x + k) + bits ≡ arrow_number x d
      whole = omega arith

      start : at L (4 * (m + 1) + arrow_number x d / 64) ≡ length (targets_up_to (oracle p) (64 * (4 * x + k)))
      start =
          rw word (starts k (omega arith))

      below : how_many (bit_at (at Z (arrow_number x d / 64))) bits ≡ how_many (λ i. there (oracle p) (64 * (4 * x + k) + i)) bits
      below =
          ap (λ (i : ℕ). how_many (bit_at (at Z i)) bits) word
          ∙ ap (λ (w : ℕ). how_many (bit_at w) bits) (own k (omega arith))
          ∙ count_same (bit_at (set_word (oracle p) (4 * x + k))) _ bits (λ i q. word-told (oracle p) (4 * x + k) i (omega arith))

      counted : at L (4 * (m + 1) + arrow_number x d / 64) + how_many (bit_at (at Z (arrow_number x d / 64))) bits ≡ place_of p x d
      counted =
          let all = rw whole at (count-split (there (oracle p)) (64 * (4 * x + k)) bits) in
          omega (arith, start, below, all, targets-length (oracle p) (64 * (4 * x + k)), targets-length (oracle p) (arrow_number x d))

  -- arrows on different letters have different places
  apart : {c d : Letter} {y z : State} → c < 256 → d < 256 → oracle p x c ≡ some y → oracle p x d ≡ some z → c ≢ d
      → place_of p x c ≢ place_of p x d
  apart {c} {d} k l e f q = by_cases (dec_lt c d)
      (λ u v.
      let first = arrow_at-number (oracle p) x c k ∙ e in
      omega (arith, target-inside (oracle p) (arrow_number x c) first (arrow_number x d) (omega arith)))
      (λ u v.
      let first = arrow_at-number (oracle p) x d l ∙ f in
      omega (arith, target-inside (oracle p) (arrow_number x d) first (arrow_number x c) (omega arith)))

  pub putting-start : PuttingState p m x L L 0
  putting-start = record { size = refl; put = λ i l. absurd (omega arith); before = λ i l. refl; behind = λ i l. refl }

  pub putting_step : {L' : List ℕ} {j y r : ℕ} → PuttingState p m x L L' j → j < length (out_targets p x) → y ≡ at (out_targets p x) j
      → r ≡ place_of p x (letter_into p y) → PuttingState p m x L (set L' (8 * (m + 1) + r) y) (j + 1)
  putting_step {L'} {j} {y} P l e place = rw place (record {
    size = simp length-set P.size;
    put = below_more _ j earlier here;
    before = λ i k. get_or-set_other L' _ i y 0 (λ q. omega (arith, within.0)) ∙ P.before i k;
    behind = λ i k. get_or-set_other L' _ i y 0 (λ q. omega (arith, within.1)) ∙ P.behind i k;
  })
    where
      leads : oracle p x (letter_into p y) ≡ some y
      leads = rw e (out-leads F x h j l).leads

      within : (first_place (oracle p) x ≤ place_of p x (letter_into p y))
          × (place_of p x (letter_into p y) < first_place (oracle p) (suc x))
      within = own-place (letter_into p y) y (F.bytes _) leads

      inside : 8 * (m + 1) + place_of p x (letter_into p y) < length L'
      inside = omega (arith, P.size, F.size, place_inside y leads)

      here : at (set L' (8 * (m + 1) + place_of p x (letter_into p y)) y)
          (8 * (m + 1) + place_of p x (letter_into p (at (out_targets p x) j)))
          ≡ at (out_targets p x) j
      here = rw (← e) (get_or-set_same L' _ y 0 inside)

      earlier : (i : ℕ) → i < j → at (set L' (8 * (m + 1) + place_of p x (letter_into p y)) y)
          (8 * (m + 1) + place_of p x (letter_into p (at (out_targets p x) i))) ≡ at (out_targets p x) i
      earlier i k =
          let o = out-leads F x h i (omega arith) in
          by_cases (ℕ_discrete (letter_into p (at (out_targets p x) i)) (letter_into p y))
          (λ q. rw q (get_or-set_same L' _ y 0 inside) ∙ one-target leads (rw q at o.leads))
          (λ q. get_or-set_other L' _ _ y 0 (λ z. apart (F.bytes _) (F.bytes _) o.leads leads q (omega arith)) ∙ P.put i k)

  -- the first form stays meanwhile
  pub first-kept : {L' : List ℕ} {j : ℕ} → PuttingState p m x L L' j → FirstForm p L' m
  first-kept P = first_stays F P.size (λ i k. P.before i (omega arith))

  -- and so do the starts
  pub starts-kept : {L' : List ℕ} {j : ℕ} → OwnStarts (oracle p) m x L → PuttingState p m x L L' j → OwnStarts (oracle p) m x L'
  starts-kept starts P k l = P.before (4 * (m + 1) + (4 * x + k)) (omega arith) ∙ starts k l

  pub putting-end : {L' : List ℕ} {k : ℕ} → PuttingState p m x L L' k → k ≡ length (out_targets p x) → WithTargets (oracle p) m x L L'
  putting-end P e = record {
    size = P.size;
    put = λ c l y d. let A = arrow_among F x h c y d in
        rw (A.here, ← A.on) at (P.put A.index (omega (arith, A.below, e)));
    before = P.before;
    behind = P.behind;
  }

-- ── One state ──────────────────────────────────────────────────────────────

-- its starts, then its targets
pub with_state : {δ : Delta} {L L₁ L₂ : List ℕ} {m : ℕ} {x : State} → x < m → WithStarts δ m x L L₁ → WithTargets δ m x L₁ L₂
    → WithState δ m x L L₂
with_state {m = m} {x = x} h S T = record {
  size = T.size ∙ S.size;
  starts = λ k l. T.before (4 * (m + 1) + (4 * x + k)) (omega arith) ∙ S.starts k l;
  put = T.put;
  before = λ i l. T.before i (omega arith) ∙ S.before i l;
  between = λ i l u. T.before i u ∙ S.behind i l;
  behind = λ i l. T.behind i l ∙ S.behind i (omega arith);
}

-- where the spine's arrow leaves it alone, that one's target is its first; where another does too, the one on the smaller letter
module _ {p : Word} {L : List ℕ} {m : ℕ} (F : FirstForm p L m) {x : State} (h : x < m) {before : ℕ}
    (counted : before ≡ first_place (oracle p) x) where
  abbrev c : Letter
  c = letter_into p (x + 1)

  abbrev other : State
  other = at (out_targets p x) 1

  abbrev d : Letter
  d = letter_into p other

  byte : (y : State) → letter_into p y ≤ 256
  byte y = omega (arith, F.bytes (pred y))

  abbrev one : ℕ → ℕ → ℕ
  one e k = cond (ltb e k) 1 0

  none_below_itself : (e : ℕ) → one e e ≡ 0
  none_below_itself e = rw (le-ltb e e (omega arith))

  below_all : (y : State) → one (letter_into p y) 256 ≡ 1
  below_all y = rw (lt-ltb (letter_into p y) 256 (F.bytes (pred y)))

  -- what code reads of the second
  pub letter_of : {z : State} {b : Letter} → z ≡ other → b ≡ letter_into p z → b ≡ d
  letter_of to on = on ∙ ap (letter_into p) to

  -- no more than fit before it
  pub few-before : before ≤ 2 * (m + 1)
  few-before = omega (arith, counted, starts-few p (256 * x) F.long (omega arith))

  -- the place of the spine's target is within the rows
  first-inside : place_of p x c < 2 * (m + 1)
  first-inside =
      let same = ap (λ (y : State). place_of p x (letter_into p y)) (add-one x) in
      omega (arith, same, place_inside F x h (suc x) (out-leads F x h 0 (omega arith)).leads)

  module _ (alone : length (out_targets p x) ≡ 1) where
    lone_place : before ≡ place_of p x c
    lone_place = omega (arith, counted, lone_start F h alone c (byte (x + 1)), none_below_itself c)

    pub lone_inside : before < 2 * (m + 1)
    lone_inside = omega (arith, lone_place, first-inside)

    pub lone_next : before + 1 ≡ first_place (oracle p) (suc x)
    lone_next =
        let next : 256 * suc x ≡ arrow_number x 256 = omega arith in
        rw next (omega (arith, counted, lone_start F h alone 256 (omega arith), below_all (x + 1)))

    -- by word, as code asks; 256 is below no letter
    pub lone_word : {e : Letter} → e ≡ c → (i : ℕ) → i < 4
        → before + cond (ltb e (64 * i)) 1 0 + cond (ltb 256 (64 * i)) 1 0 ≡ length (targets_up_to (oracle p) (64 * (4 * x + i)))
    lone_word same i l =
        let number : 64 * (4 * x + i) ≡ arrow_number x (64 * i) = omega arith in
        let nothing : one 256 (64 * i) ≡ 0 = rw (le-ltb 256 (64 * i) (omega arith)) in
        rw (number, same) (omega (arith, counted, lone_start F h alone (64 * i) (omega arith), nothing))

    pub lone_state : {L₁ : List ℕ} → WithStarts (oracle p) m x L L₁ → WithState (oracle p) m x L (set L₁ (8 * (m + 1) + before) (x + 1))
    lone_state S =
        let F₁ = first_stays F S.size (λ i k. S.before i (omega arith)) in
        let put = putting_step F₁ x h (putting-start F₁ x h) (omega (arith, alone)) (spine-first p x 0 refl) lone_place in
        with_state h S (putting-end F₁ x h put (sym alone))

  module _ (both : length (out_targets p x) ≡ 2) where
    -- the places that code finds
    module _ {a b : Letter} (to-spine : a ≡ c) (to-other : b ≡ d) where
      spine-place : {r : ℕ} → r ≡ before + cond (ltb b a) 1 0 → r ≡ place_of p x c
      spine-place e =
          omega (arith, e, ap₂ one to-other to-spine, counted, pair_start F h both c (byte (x + 1)), none_below_itself c)

      other_place : {r : ℕ} → r ≡ before + cond (ltb a b) 1 0 → r ≡ place_of p x d
      other_place e =
          omega (arith, e, ap₂ one to-spine to-other, counted, pair_start F h both d (byte other), none_below_itself d)

      pub spine-inside : {r : ℕ} → r ≡ before + cond (ltb b a) 1 0 → r < 2 * (m + 1)
      spine-inside e = omega (arith, spine-place e, first-inside)

      pub other_inside : {r : ℕ} → r ≡ before + cond (ltb a b) 1 0 → r < 2 * (m + 1)
      other_inside e = omega (arith, other_place e, place_inside F x h other (out-leads F x h 1 (omega (arith, both))).leads)

    pub pair_next : before + 2 ≡ first_place (oracle p) (suc x)
    pair_next =
        let next : 256 * suc x ≡ arrow_number x 256 = omega arith in
        rw next (omega (arith, counted, pair_start F h both 256 (omega arith), below_all (x + 1), below_all other))

    pub pair_word : {a b : Letter} → a ≡ c → b ≡ d → (i : ℕ) → i < 4
        → before + cond (ltb a (64 * i)) 1 0 + cond (ltb b (64 * i)) 1 0 ≡ length (targets_up_to (oracle p) (64 * (4 * x + i)))
    pair_word e q i l =
        let number : 64 * (4 * x + i) ≡ arrow_number x (64 * i) = omega arith in
        rw (number, e, q) (omega (arith, counted, pair_start F h both (64 * i) (omega arith)))

    pub pair_state : {L₁ : List ℕ} {a b r s z : ℕ} → WithStarts (oracle p) m x L L₁ → a ≡ c → b ≡ d
        → r ≡ before + cond (ltb b a) 1 0 → s ≡ before + cond (ltb a b) 1 0 → z ≡ other
        → WithState (oracle p) m x L (set (set L₁ (8 * (m + 1) + r) (x + 1)) (8 * (m + 1) + s) z)
    pair_state S to-spine to-other first second to =
        let F₁ = first_stays F S.size (λ i k. S.before i (omega arith)) in
        let spine = spine-place to-spine to-other first in
        let next = other_place to-spine to-other second ∙ ap (λ (y : State). place_of p x (letter_into p y)) (sym to) in
        let put = putting_step F₁ x h (putting-start F₁ x h) (omega (arith, both)) (spine-first p x 0 refl) spine in
        with_state h S (putting-end F₁ x h (putting_step F₁ x h put (omega (arith, both)) to next) (sym both))

-- ── As code asks ───────────────────────────────────────────────────────────

-- the targets of a state go behind its starts
module _ {p : Word} {L : List ℕ} {m : ℕ} (F : FirstForm p L m) {x : State} (h : x < m)
    {L₁ : List ℕ} (S : WithStarts (oracle p) m x L L₁) where
  pub started : FirstForm p L₁ m
  started = first_stays F S.size (λ i k. S.before i (omega arith))

  pub targets-told : {L₂ : List ℕ} → WithTargets (oracle (word_in L₁ m)) m x L₁ L₂ → WithState (oracle p) m x L L₂
  targets-told T = with_state h S (rw (own-word started) at T)
