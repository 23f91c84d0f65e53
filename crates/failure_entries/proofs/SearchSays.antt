-- THE THEOREMS on `failure_search_says`: each refusal exactly where it is tabled, what a refusal leaves, what the code's scan comes to, and
-- that the promise allows one outcome.
use mathlib.Core.Path.{◌≡◌, refl, sym, ap, ◌∙◌}
use mathlib.Core.Bool.{true}
use mathlib.Core.Logic.{◌↔◌}
use mathlib.Core.List.{List, [], ◌∷◌, ◌++◌}
use Prim.Native.Nat.{ℕ, ◌+◌, ◌-◌, ◌≤◌, ◌<◌}
use native.Mathlib.Decide.{dec_lt}
use native.Mathlib.Omega.{arith}
use lib.ListN.{length, take, drop, replicate, length-append, length-drop, length-replicate, length-reverse}
use lib.Seq.{take_at, drop_at, drop-drop}
use borrow.Author.Tests.{lt-ltb, le-ltb}
use Rattle.words.specs.Words.{Word, Place, mirror, occurrences}
use Rattle.words.specs.Limits.{longest_word, longest_text}
use Rattle.finds.specs.Finds.{filled}
use Rattle.failure.specs.FailureSteps.{failure_steps_with}
use Rattle.failure.proofs.Theorems.{search-lists}
use Rattle.failure_table.specs.FailureTable.{failure_room, failure_table, read_ask}
use Rattle.failure_table.specs.FailureFormed.{FailureFormed}
use Rattle.failure_table.proofs.Theorems.{table-size}
use Rattle.failure_search.specs.declared.FailureTally.{FailureTally}
use Rattle.failure_search.specs.Tallies.{failure_tally_of}
use Rattle.failure_search.proofs.Theorems.{mirror-formed, scan_steps}
use Rattle.std.specs.Prelude.{Result}
use Rattle.answers.specs.declared.Refusal.{Refusal}
use Rattle.answers.specs.Answers.{done, refused, refuses_only, one_of}
use Rattle.answers.proofs.Answers.{done_not_refused, answer_of-one}
use Rattle.failure_entries.specs.FailureSearch.{found, FailureOutcome, failure_outcome, failure_searched}
use Rattle.failure_entries.specs.FailureSearch.{failure_search_says}
use Rattle.failure_entries.specs.Cases.{FailureSearchCase}

module _ (word text : Word) (T : List ℕ) (F : List Place) where
  abbrev m : ℕ
  m = length word

  -- ── When each is given ───────────────────────────────────────────────────

  -- a case that applies has its outcome
  pub given : {o : FailureOutcome} → FailureSearchCase word text T F o → failure_search_says word text T F ≡ o
  unfolding failure_search_says
  given (FailureSearchCase.on_empty_word h) = rw (lt-ltb m 1 h)
  given (FailureSearchCase.on_long_word h l) = rw (le-ltb m 1 h, lt-ltb longest_word m l)
  given (FailureSearchCase.on_long_text h l k) = rw (le-ltb m 1 h, le-ltb longest_word m l, lt-ltb longest_text (length text) k)
  given (FailureSearchCase.on_short_room h l k s) =
      rw (le-ltb m 1 h, le-ltb longest_word m l, le-ltb longest_text (length text) k, lt-ltb (length T) (failure_room m) s)
  given (FailureSearchCase.accepted h l k s) =
      rw (le-ltb m 1 h, le-ltb longest_word m l, le-ltb longest_text (length text) k, le-ltb (length T) (failure_room m) s)

  -- every input is of one case
  case : FailureSearchCase word text T F (failure_search_says word text T F)
  case = by (dec_lt m 1) (dec_lt longest_word m) (dec_lt longest_text (length text)) (dec_lt (length T) (failure_room m))
    where
      of : {o : FailureOutcome} → FailureSearchCase word text T F o → FailureSearchCase word text T F (failure_search_says word text T F)
      of c = rw (given c) c

      by : Dec (m < 1) → Dec (longest_word < m) → Dec (longest_text < length text) → Dec (length T < failure_room m)
          → FailureSearchCase word text T F (failure_search_says word text T F)
      by (yes h) d e f = of (FailureSearchCase.on_empty_word h)
      by (no h) (yes l) e f = of (FailureSearchCase.on_long_word (omega arith) l)
      by (no h) (no l) (yes k) f = of (FailureSearchCase.on_long_text (omega arith) (omega arith) k)
      by (no h) (no l) (no k) (yes s) = of (FailureSearchCase.on_short_room (omega arith) (omega arith) (omega arith) s)
      by (no h) (no l) (no k) (no s) = of (FailureSearchCase.accepted (omega arith) (omega arith) (omega arith) (omega arith))

  pub failure_search_is : (o : FailureOutcome) → (failure_search_says word text T F ≡ o) ↔ FailureSearchCase word text T F o
  failure_search_is o = (λ e. rw e at case, given)

  -- it refuses with numbers of the table alone
  pub failure_search-numbers : refuses_only (1 ∷ 2 ∷ 4 ∷ 3 ∷ []) (failure_search_says word text T F).answer ≡ true
  unfolding one_of
  failure_search-numbers = by case
    where
      by : {o : FailureOutcome} → FailureSearchCase word text T F o → refuses_only (1 ∷ 2 ∷ 4 ∷ 3 ∷ []) o.answer ≡ true
      by (FailureSearchCase.on_empty_word h) = refl
      by (FailureSearchCase.on_long_word h l) = refl
      by (FailureSearchCase.on_long_text h l k) = refl
      by (FailureSearchCase.on_short_room h l k s) = refl
      by (FailureSearchCase.accepted h l k s) = refl

  -- a refusal changes nothing
  pub failure_search_refusal_leaves : {n : ℕ} → (failure_search_says word text T F).answer ≡ refused n
      → ((failure_search_says word text T F).tables ≡ T) × ((failure_search_says word text T F).finds ≡ F)
  failure_search_refusal_leaves {n} = by case
    where
      by : {o : FailureOutcome} → FailureSearchCase word text T F o → o.answer ≡ refused n → (o.tables ≡ T) × (o.finds ≡ F)
      by (FailureSearchCase.on_empty_word h) e = (refl, refl)
      by (FailureSearchCase.on_long_word h l) e = (refl, refl)
      by (FailureSearchCase.on_long_text h l k) e = (refl, refl)
      by (FailureSearchCase.on_short_room h l k s) e = (refl, refl)
      by (FailureSearchCase.accepted h l k s) e = done_not_refused e

  -- ── What the code's scan comes to ────────────────────────────────────────

  -- the room that was filled with P, R being what stands behind it
  module _ {P : List ℕ} (R : List ℕ) (filled_in : P ≡ failure_table (mirror word)) (some-letter : 1 ≤ m) where
    lent-table : take (failure_room m) (P ++ R) ≡ failure_table (mirror word)
    lent-table =
        let mirrored : 1 ≤ length (mirror word) = omega (arith, length-reverse word) in
        let size = ap length filled_in ∙ table-size (mirror word) mirrored ∙ ap failure_room (length-reverse word) in
        take_at P R (failure_room m) size ∙ filled_in

    pub lent-formed : m < 65535 → FailureFormed (take (failure_room m) (P ++ R)) m
    lent-formed h = rw lent-table (mirror-formed word some-letter h)

    -- w is the word as it is sought
    pub scan_counts : {w : Word} → w ≡ word → {t : FailureTally} {F' : List Place}
        → t ≡ failure_tally_of (failure_steps_with (read_ask m (take (failure_room m) (P ++ R))) w text)
        → F' ≡ filled (failure_steps_with (read_ask m (take (failure_room m) (P ++ R))) w text).starts F
        → R ≡ drop (failure_room m) T
        → failure_outcome (done t) (P ++ R) F'
        ≡ failure_outcome (done (found word text)) (failure_table (mirror word) ++ drop (failure_room m) T)
        (filled (occurrences word text) F)
    scan_counts sought t f r =
        let t = rw sought at t in
        let f = rw sought at f in
        rw (t, f, lent-table, scan_steps word some-letter text, search-lists word text, filled_in, r)

-- ── Scratch ────────────────────────────────────────────────────────────────

-- the first m entries of T were scratch and are S now, which is zero
module _ (S T : List ℕ) (m : ℕ) (zeros : S ≡ replicate m 0) (enough : failure_room m ≤ length T) where
  size : length S ≡ m
  size = ap length zeros ∙ length-replicate m 0

  -- the room is still enough
  pub scratched_enough : failure_room m ≤ length (S ++ drop m T)
  scratched_enough = omega (arith, size, length-append S (drop m T), length-drop m T)

  -- and behind the table's part nothing changed
  pub scratched_kept : drop (failure_room m) (S ++ drop m T) ≡ drop (failure_room m) T
  scratched_kept = behind (S ++ drop m T) ∙ ap (drop (failure_room m - m)) (drop_at S (drop m T) m size) ∙ sym (behind T)
    where
      split : failure_room m ≡ m + (failure_room m - m)
      split = omega arith

      behind : (L : List ℕ) → drop (failure_room m) L ≡ drop (failure_room m - m) (drop m L)
      behind L = ap (λ (k : ℕ). drop k L) split ∙ sym (drop-drop (failure_room m - m) m L)

-- ── One outcome ────────────────────────────────────────────────────────────

-- two outcomes that the promise of failure_search allows are equal
pub failure_search-one : (word text : Word) (T : List ℕ) (F : List Place) (r s : Result FailureTally Refusal) (A B : List ℕ)
    (G H : List Place)
    → failure_searched r A G ≡ failure_search_says word text T F → failure_searched s B H ≡ failure_search_says word text T F
    → (r ≡ s) × (A ≡ B) × (G ≡ H)
failure_search-one word text T F r s A B G H e f =
    let g : failure_searched r A G ≡ failure_searched s B H = e ∙ sym f in
    (answer_of-one r s (ap (λ o. o.answer) g), ap (λ o. o.tables) g, ap (λ o. o.finds) g)
