-- THE THEOREMS on `compact_search_says`: each refusal exactly where it is tabled, what a refusal leaves, what the code's scan comes to, and
-- that the promise allows one outcome.
use mathlib.Core.Path.{◌≡◌, refl, sym, ap, ◌∙◌}
use mathlib.Core.Bool.{true}
use mathlib.Core.Logic.{◌↔◌}
use mathlib.Core.List.{List, [], ◌∷◌, ◌++◌}
use Prim.Native.Nat.{ℕ, ◌+◌, ◌-◌, ◌≤◌, ◌<◌}
use native.Mathlib.Decide.{dec_lt}
use native.Mathlib.Omega.{arith}
use lib.ListN.{length, take, drop, replicate, length-append, length-drop, length-replicate, length-reverse}
use lib.Seq.{drop_at, drop-drop}
use borrow.Author.Tests.{lt-ltb, le-ltb}
use Rattle.words.specs.Words.{Word, Place, letter, mirror, occurrences}
use Rattle.words.specs.Limits.{longest_word, longest_text}
use Rattle.oracle.specs.SuffixRule.{oracle}
use Rattle.finds.specs.declared.Tally.{Tally}
use Rattle.finds.specs.Finds.{filled}
use Rattle.backward.specs.Steps.{steps, backward}
use Rattle.backward.proofs.Windows.{steps-same}
use Rattle.backward.proofs.Theorems.{search-lists-occurrences}
use Rattle.search.specs.Answers.{tally_of}
use Rattle.compact.specs.Compact.{sets_room, compact_room, compact_sets, compact_table, read_compact}
use Rattle.compact.specs.CompactFormed.{CompactFormed}
use Rattle.compact.proofs.Theorems.{compact_agrees_all, compact_formed}
use Rattle.std.specs.Prelude.{Result}
use Rattle.answers.specs.declared.Refusal.{Refusal}
use Rattle.answers.specs.Answers.{done, refused, refuses_only, one_of}
use Rattle.answers.proofs.Answers.{done_not_refused, answer_of-one}
use Rattle.marks.specs.Search.{found}
use Rattle.compact_entries.specs.CompactSearch.{Outcome, outcome, compact_searched, compact_search_says}
use Rattle.compact_entries.specs.Cases.{CompactSearchCase}
use Rattle.compact_entries.proofs.Rooms.{Rooms, small, enough, rooms, short-told, enough-told, words-front, entries-front}

module _ (word text : Word) (Z T : List ℕ) (F : List Place) where
  abbrev m : ℕ
  m = length word

  -- ── When each is given ───────────────────────────────────────────────────

  -- a case that applies has its outcome
  pub given : {o : Outcome} → CompactSearchCase word text Z T F o → compact_search_says word text Z T F ≡ o
  unfolding compact_search_says
  given (CompactSearchCase.on_empty_word h) = rw (lt-ltb m 1 h)
  given (CompactSearchCase.on_long_word h l) = rw (le-ltb m 1 h, lt-ltb longest_word m l)
  given (CompactSearchCase.on_long_text h l k) = rw (le-ltb m 1 h, le-ltb longest_word m l, lt-ltb longest_text (length text) k)
  given (CompactSearchCase.on_short_room h l k s) =
      rw (le-ltb m 1 h, le-ltb longest_word m l, le-ltb longest_text (length text) k, short-told m Z T s)
  given (CompactSearchCase.accepted h l k s t) =
      rw (le-ltb m 1 h, le-ltb longest_word m l, le-ltb longest_text (length text) k, enough-told m Z T s t)

  -- every input is of one case
  case : CompactSearchCase word text Z T F (compact_search_says word text Z T F)
  case = by (dec_lt m 1) (dec_lt longest_word m) (dec_lt longest_text (length text)) (rooms m Z T)
    where
      of : {o : Outcome} → CompactSearchCase word text Z T F o → CompactSearchCase word text Z T F (compact_search_says word text Z T F)
      of c = rw (given c) c

      by : Dec (m < 1) → Dec (longest_word < m) → Dec (longest_text < length text) → Rooms m Z T
          → CompactSearchCase word text Z T F (compact_search_says word text Z T F)
      by (yes h) d e f = of (CompactSearchCase.on_empty_word h)
      by (no h) (yes l) e f = of (CompactSearchCase.on_long_word (omega arith) l)
      by (no h) (no l) (yes k) f = of (CompactSearchCase.on_long_text (omega arith) (omega arith) k)
      by (no h) (no l) (no k) (small s) = of (CompactSearchCase.on_short_room (omega arith) (omega arith) (omega arith) s)
      by (no h) (no l) (no k) (enough s t) = of (CompactSearchCase.accepted (omega arith) (omega arith) (omega arith) s t)

  pub compact_search_is : (o : Outcome) → (compact_search_says word text Z T F ≡ o) ↔ CompactSearchCase word text Z T F o
  compact_search_is o = (λ e. rw e at case, given)

  -- it refuses with numbers of the table alone
  pub compact_search-numbers : refuses_only (1 ∷ 2 ∷ 4 ∷ 3 ∷ []) (compact_search_says word text Z T F).answer ≡ true
  unfolding one_of
  compact_search-numbers = by case
    where
      by : {o : Outcome} → CompactSearchCase word text Z T F o → refuses_only (1 ∷ 2 ∷ 4 ∷ 3 ∷ []) o.answer ≡ true
      by (CompactSearchCase.on_empty_word h) = refl
      by (CompactSearchCase.on_long_word h l) = refl
      by (CompactSearchCase.on_long_text h l k) = refl
      by (CompactSearchCase.on_short_room h l k s) = refl
      by (CompactSearchCase.accepted h l k s t) = refl

  -- a refusal changes nothing
  pub compact_search_refusal_leaves : {n : ℕ} → (compact_search_says word text Z T F).answer ≡ refused n
      → ((compact_search_says word text Z T F).sets ≡ Z) × ((compact_search_says word text Z T F).tables ≡ T)
      × ((compact_search_says word text Z T F).finds ≡ F)
  compact_search_refusal_leaves {n} = by case
    where
      by : {o : Outcome} → CompactSearchCase word text Z T F o → o.answer ≡ refused n → (o.sets ≡ Z) × (o.tables ≡ T) × (o.finds ≡ F)
      by (CompactSearchCase.on_empty_word h) e = (refl, refl, refl)
      by (CompactSearchCase.on_long_word h l) e = (refl, refl, refl)
      by (CompactSearchCase.on_long_text h l k) e = (refl, refl, refl)
      by (CompactSearchCase.on_short_room h l k s) e = (refl, refl, refl)
      by (CompactSearchCase.accepted h l k s t) e = done_not_refused e

-- ── What the code's scan comes to ──────────────────────────────────────────

-- the steps over the mirrored word's compact rows are the published ones
pub compact_steps : (word text : Word) → ((i : ℕ) → letter (mirror word) i < 256)
    → steps (read_compact (length word) (compact_sets (mirror word)) (compact_table (mirror word))) word text ≡ backward word text
unfolding backward
compact_steps word text bytes =
    steps-same (read_compact (length word) (compact_sets (mirror word)) (compact_table (mirror word))) (oracle (mirror word)) word text
    (λ x c. rw (length-reverse word) at (compact_agrees_all (mirror word) bytes x c))

-- the rooms that were filled with Y and P, R and S being what stands behind them
module _ (word : Word) {Y P : List ℕ} (R S : List ℕ) (filled_in : (Y ≡ compact_sets (mirror word)) × (P ≡ compact_table (mirror word)))
    (bytes : (i : ℕ) → letter (mirror word) i < 256) where
  abbrev size : ℕ
  size = length word

  lent-words : take (sets_room size) (Y ++ R) ≡ compact_sets (mirror word)
  lent-words = rw filled_in.0 (words-front (mirror word) (length-reverse word) R S)

  lent-entries : take (compact_room size) (P ++ S) ≡ compact_table (mirror word)
  lent-entries = rw filled_in.1 (entries-front (mirror word) (length-reverse word) R S)

  pub lent-formed : size < 30000 → CompactFormed (take (sets_room size) (Y ++ R)) (take (compact_room size) (P ++ S)) size
  lent-formed h = rw (lent-words, lent-entries, ← length-reverse word) (compact_formed (mirror word) (rw (length-reverse word) h) bytes)

  -- w is the word as it is sought
  pub scan_counts : (text : Word) (F : List Place) {w : Word} → w ≡ word → {t : Tally} {F' : List Place}
      → t ≡ tally_of (steps (read_compact size (take (sets_room size) (Y ++ R)) (take (compact_room size) (P ++ S))) w text)
      → F' ≡ filled (steps (read_compact size (take (sets_room size) (Y ++ R)) (take (compact_room size) (P ++ S))) w text).starts F
      → {S' : List ℕ} → S ≡ S'
      → outcome (done t) (Y ++ R) (P ++ S) F'
      ≡ outcome (done (found word text)) (compact_sets (mirror word) ++ R) (compact_table (mirror word) ++ S')
      (filled (occurrences word text) F)
  scan_counts text F sought t f kept =
      let t = rw sought at t in
      let f = rw sought at f in rw (
        t,
        f,
        lent-words,
        lent-entries,
        compact_steps word text bytes,
        search-lists-occurrences word text,
        filled_in.0,
        filled_in.1,
        kept,
      )

-- ── Scratch ────────────────────────────────────────────────────────────────

-- the first m entries of T were scratch and are S now, which is zero
module _ (S T : List ℕ) (m : ℕ) (zeros : S ≡ replicate m 0) (room-enough : compact_room m ≤ length T) where
  scratch-size : length S ≡ m
  scratch-size = ap length zeros ∙ length-replicate m 0

  -- the room is still enough
  pub scratched_enough : compact_room m ≤ length (S ++ drop m T)
  scratched_enough = omega (arith, scratch-size, length-append S (drop m T), length-drop m T)

  -- and behind the rows nothing changed
  pub scratched_kept : drop (compact_room m) (S ++ drop m T) ≡ drop (compact_room m) T
  scratched_kept = behind (S ++ drop m T) ∙ ap (drop (compact_room m - m)) (drop_at S (drop m T) m scratch-size) ∙ sym (behind T)
    where
      split : compact_room m ≡ m + (compact_room m - m)
      split = omega arith

      behind : (L : List ℕ) → drop (compact_room m) L ≡ drop (compact_room m - m) (drop m L)
      behind L = ap (λ (k : ℕ). drop k L) split ∙ sym (drop-drop (compact_room m - m) m L)

-- ── One outcome ────────────────────────────────────────────────────────────

-- two outcomes that the promise of compact_search allows are equal
pub compact_search-one : (word text : Word) (Z T : List ℕ) (F : List Place) (r s : Result Tally Refusal) (X Y A B : List ℕ)
    (G H : List Place)
    → compact_searched r X A G ≡ compact_search_says word text Z T F → compact_searched s Y B H ≡ compact_search_says word text Z T F
    → (r ≡ s) × (X ≡ Y) × (A ≡ B) × (G ≡ H)
compact_search-one word text Z T F r s X Y A B G H e f =
    let g : compact_searched r X A G ≡ compact_searched s Y B H = e ∙ sym f in
    (answer_of-one r s (ap (λ o. o.answer) g), ap (λ o. o.sets) g, ap (λ o. o.tables) g, ap (λ o. o.finds) g)
