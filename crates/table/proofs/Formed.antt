-- A LOOKUP STAYS INSIDE a formed table, and the table of a word is formed. The lookup's cases are said here in the terms that code has, `x
-- + 1` and slot numbers, and what stands behind the table is not read.
use mathlib.Core.Path.{◌≡◌, refl, sym, ◌∙◌}
use mathlib.Core.Logic.{◌≢◌}
use mathlib.Core.Option.{Option, none, some}
use mathlib.Core.List.{List, ◌∷◌, ◌++◌}
use Prim.Native.Nat.{ℕ, zero, suc, ◌+◌, ◌*◌, ◌-◌, ◌≤◌, ◌<◌}
use native.Mathlib.Numerals.{add-one}
use native.Mathlib.Decide.{dec_lt, ℕ_discrete}
use native.Mathlib.Omega.{arith}
use lib.ListN.{length, length-append, get_or-append}
use lib.Dec.{eqb}
use borrow.Author.Tests.{eq-eqb, ne_eqb, lt-ltb, le-ltb}
use Rattle.words.specs.Lists.{at, first}
use Rattle.words.specs.Words.{Letter, Word, part}
use Rattle.words.proofs.Lists.{first_yes, first_not}
use Rattle.words.proofs.Words.{part-cons}
use Rattle.oracle.specs.Arrows.{State, Delta}
use Rattle.oracle.proofs.FileOrder.{before-room, before_at}
use Rattle.table.specs.Table.{table_from, table_of, read_targets, read_arrow}
use Rattle.table.specs.Formed.{Formed}
use Rattle.table.proofs.Rows.{from_size_lem, row_2, row_3}
use Rattle.table.proofs.ReadBack.{Over}
use Rattle.table.proofs.Theorems.{oracle-over}

-- ── Tables are formed ──────────────────────────────────────────────────────

-- the table of every automaton over a short enough word
pub from_formed : (p : Word) {δ : Delta} (S : State → State) → Over p δ → length p < 65535 → Formed (table_from p δ S) (length p)
from_formed p {δ} S O few = record {
  enough = omega (arith, from_size_lem p δ S);
  small = few;
  starts = λ x h. rw (add-one m) (omega (arith, row_2 p δ S x (omega arith), before-room δ p x (suc m) (omega arith), O.fits));
  targets = λ s h. rw (add-one m) (omega (arith, row_3 p δ S s (omega arith), before_at δ p (suc m) s));
}
  where
    m : ℕ
    m = length p

-- so the table of the word
pub table-formed : (p : Word) → length p < 65535 → Formed (table_of p) (length p)
unfolding table_of
table-formed p few = from_formed p _ (oracle-over p) few

-- ── The cases of a lookup ──────────────────────────────────────────────────

-- of k slots from place a on, the first whose target has letter c
abbrev pub first_of : List ℕ → Letter → ℕ → ℕ → Option State
first_of L c a k = first (λ y. eqb (at L y) c) (part L a k)

-- the slots of a state end inside row 3
pub slots-inside : {L : List ℕ} {m : ℕ} → Formed L m → (x : State) → x < m → at L (2 * (m + 1) + x + 1) ≤ m + 1
slots-inside {L} {m} F x h = let e : 2 * (m + 1) + (x + 1) ≡ 2 * (m + 1) + x + 1 = omega arith in rw e at (F.starts (x + 1) (omega arith))

module _ (L : List ℕ) (m : ℕ) (x : State) (c : Letter) where
  -- no arrow leaves the last state, or what is no state
  pub arrow-far : m ≤ x → read_arrow m L x c ≡ none
  unfolding read_arrow
  arrow-far h = rw (le-ltb x m h)

  -- the spine's arrow
  pub arrow-spine : x < m → at L (x + 1) ≡ c → read_arrow m L x c ≡ some (x + 1)
  unfolding read_arrow
  arrow-spine h e = rw (lt-ltb x m h, add-one x, eq-eqb (at L (suc x)) c (rw (add-one x) at e))

  -- else an extra one, from the slots between the state's start and the next one's
  pub arrow-slots : x < m → at L (x + 1) ≢ c
      → read_arrow m L x c ≡ first_of L c (3 * (m + 1) + at L (2 * (m + 1) + x)) (at L (2 * (m + 1) + x + 1) - at L (2 * (m + 1) + x))
  unfolding read_arrow read_targets
  arrow-slots h f =
      let e : 2 * (m + 1) + x + 1 ≡ 2 * suc m + suc x = omega arith in
      rw (lt-ltb x m h, ne_eqb (at L (suc x)) c (rw (add-one x) at f), e, add-one m)

-- slot by slot: s of the slots from b on are passed, and e is where they end
module _ (L : List ℕ) (c : Letter) (b s e : ℕ) where
  one_more : s < e → b + s < length L → part L (b + s) (e - s) ≡ at L (b + s) ∷ part L (b + (s + 1)) (e - (s + 1))
  one_more h l =
      let k : e - s ≡ suc (e - (s + 1)) = omega arith in
      let n : b + (s + 1) ≡ suc (b + s) = omega arith in
      rw (k, n) (part-cons L (b + s) (e - (s + 1)) l)

  -- the slot's target has the letter
  pub slot-hit : s < e → b + s < length L → at L (at L (b + s)) ≡ c → first_of L c (b + s) (e - s) ≡ some (at L (b + s))
  slot-hit h l q = rw (one_more h l) (first_yes _ (at L (b + s)) _ (eq-eqb (at L (at L (b + s))) c q))

  -- it has not: the next slot
  pub slot_next : s < e → b + s < length L → at L (at L (b + s)) ≢ c
      → first_of L c (b + s) (e - s) ≡ first_of L c (b + (s + 1)) (e - (s + 1))
  slot_next h l q = rw (one_more h l) (first_not _ (at L (b + s)) _ (ne_eqb (at L (at L (b + s))) c q))

  -- no slot is left
  pub slot_end_lem : e ≤ s → first_of L c (b + s) (e - s) ≡ none
  unfolding first
  slot_end_lem h = let k : e - s ≡ 0 = omega arith in rw k

-- ── Behind the table ───────────────────────────────────────────────────────

module _ (A R : List ℕ) (m : ℕ) (F : Formed A m) where
  at_more : (i : ℕ) → i < 6 * (m + 1) → at (A ++ R) i ≡ at A i
  at_more i h = get_or-append A R 0 i (omega (arith, F.enough))

  -- what is formed stays formed with more behind it
  pub formed_more : Formed (A ++ R) m
  formed_more = record {
    enough = omega (arith, F.enough, length-append A R);
    small = F.small;
    starts = λ x h. rw (at_more (2 * (m + 1) + x) (omega arith)) (F.starts x h);
    targets = λ s h. rw (at_more (3 * (m + 1) + s) (omega arith)) (F.targets s h);
  }

  slots_more : (c : Letter) (k s : ℕ) → k + s ≤ m + 1 → first_of (A ++ R) c (3 * (m + 1) + s) k ≡ first_of A c (3 * (m + 1) + s) k
  unfolding first
  slots_more c zero s h = refl
  slots_more c (suc k) s h =
      let a = 3 * (m + 1) + s in
      let next : suc a ≡ 3 * (m + 1) + suc s = omega arith in
      let slot : at (A ++ R) a ≡ at A a = at_more a (omega arith) in
      let its_letter : at (A ++ R) (at A a) ≡ at A (at A a) = at_more (at A a) (omega (arith, F.targets s (omega arith))) in
      let l : a < length A = omega (arith, F.enough) in
      rw (
        part-cons (A ++ R) a k (omega (arith, length-append A R)),
        part-cons A a k l,
        slot,
        its_letter,
        next,
        slots_more c k (suc s) (omega arith),
      )

  -- and the same arrows are read
  pub arrow_more : (x : State) (c : Letter) → read_arrow m (A ++ R) x c ≡ read_arrow m A x c
  arrow_more x c = by (dec_lt x m) (ℕ_discrete (at A (x + 1)) c)
    where
      start : ℕ
      start = at A (2 * (m + 1) + x)

      end : ℕ
      end = at A (2 * (m + 1) + x + 1)

      spine : x < m → at (A ++ R) (x + 1) ≡ at A (x + 1)
      spine h = at_more (x + 1) (omega arith)

      slots : end ≤ m + 1 → Dec (start < end)
          → first_of (A ++ R) c (3 * (m + 1) + start) (end - start) ≡ first_of A c (3 * (m + 1) + start) (end - start)
      slots b (yes l) = slots_more c (end - start) start (omega arith)
      slots b (no l) = slot_end_lem (A ++ R) c (3 * (m + 1)) start end (omega arith)
          ∙ sym (slot_end_lem A c (3 * (m + 1)) start end (omega arith))

      by : Dec (x < m) → Dec (at A (x + 1) ≡ c) → read_arrow m (A ++ R) x c ≡ read_arrow m A x c
      by (no h) d = arrow-far (A ++ R) m x c (omega arith) ∙ sym (arrow-far A m x c (omega arith))
      by (yes h) (yes e) = arrow-spine (A ++ R) m x c h (spine h ∙ e) ∙ sym (arrow-spine A m x c h e)
      by (yes h) (no f) =
          let here : at (A ++ R) (2 * (m + 1) + x) ≡ start = at_more (2 * (m + 1) + x) (omega arith) in
          let there : at (A ++ R) (2 * (m + 1) + x + 1) ≡ end = at_more (2 * (m + 1) + x + 1) (omega arith) in
          let same = slots (slots-inside F x h) (dec_lt start end) in
          arrow-slots (A ++ R) m x c h (λ e. f (sym (spine h) ∙ e)) ∙ rw (here, there) same ∙ sym (arrow-slots A m x c h f)
