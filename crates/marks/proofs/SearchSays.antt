-- THE THEOREMS on `search_says`: each refusal exactly where it is tabled, what is listed and counted, what a refusal and a success leave,
-- and that the promise allows one outcome.
use mathlib.Core.Path.{◌≡◌, refl, sym, ap, ◌∙◌}
use mathlib.Core.Bool.{true}
use mathlib.Core.Logic.{◌↔◌}
use mathlib.Core.List.{List, ◌++◌, Memᴰ}
use Prim.Native.Nat.{ℕ, ◌+◌, ◌*◌, ◌-◌, ◌≤◌, ◌<◌}
use native.Mathlib.Decide.{dec_lt}
use native.Mathlib.Omega.{arith}
use lib.ListN.{length, take, drop, replicate, length-append, length-reverse}
use lib.Seq.{take_at, drop_at}
use borrow.Author.Tests.{lt-ltb, le-ltb}
use Rattle.words.specs.Words.{Word, Place, mirror, stands, occurrences}
use Rattle.words.specs.Lists.{Rising}
use Rattle.words.proofs.Occurrences.{occurrence_stands, standing_occurs, occurrences_rise}
use Rattle.oracle.specs.SuffixRule.{oracle}
use Rattle.backward.specs.Steps.{steps, backward}
use Rattle.backward.proofs.Windows.{steps-same}
use Rattle.backward.proofs.Theorems.{search-lists-occurrences, search_letters_most}
use Rattle.table.specs.Table.{room, table_of, read_arrow}
use Rattle.table.specs.Formed.{Formed}
use Rattle.table.specs.Spare.{Spare}
use Rattle.table.proofs.Theorems.{table-size, table-arrow}
use Rattle.table.proofs.Formed.{table-formed}
use Rattle.table.proofs.Spare.{table_spare, spare_more, with_row, spare_kept}
use Rattle.finds.specs.declared.Tally.{Tally}
use Rattle.search.specs.Answers.{tally_of}
use Rattle.finds.specs.Finds.{filled}
use Rattle.words.specs.Limits.{longest_word, longest_text}
use Rattle.std.specs.Prelude.{Result}
use Rattle.answers.specs.declared.Refusal.{Refusal}
use Rattle.answers.specs.Answers.{done, refused, empty_word, long_word, long_text, short_room}
use Rattle.answers.proofs.Answers.{done_not_refused, answer_of-one}
use Rattle.marks.specs.Search.{found, Outcome, outcome, searched, search_says}
use Rattle.marks.specs.Cases.{SearchCase}

mirror-size : (word : Word) → length (table_of (mirror word)) ≡ room (length word)
mirror-size word = table-size (mirror word) ∙ ap room (length-reverse word)

module _ (word text : Word) (T : List ℕ) (F : List Place) where
  abbrev m : ℕ
  m = length word

  -- what a search that is not refused says
  abbrev pub counted : Outcome
  counted = outcome (done (found word text)) (table_of (mirror word) ++ drop (room m) T) (filled (occurrences word text) F)

  -- ── Its cases, in the order of the tests ─────────────────────────────────

  pub says-empty : m < 1 → search_says word text T F ≡ outcome (refused empty_word) T F
  unfolding search_says
  says-empty h = rw (lt-ltb m 1 h)

  pub says-long : 1 ≤ m → longest_word < m → search_says word text T F ≡ outcome (refused long_word) T F
  unfolding search_says
  says-long h l = rw (le-ltb m 1 h, lt-ltb longest_word m l)

  pub says-long_text : 1 ≤ m → m ≤ longest_word → longest_text < length text → search_says word text T F ≡ outcome (refused long_text) T F
  unfolding search_says
  says-long_text h l k = rw (le-ltb m 1 h, le-ltb longest_word m l, lt-ltb longest_text (length text) k)

  pub says-short : 1 ≤ m → m ≤ longest_word → length text ≤ longest_text → length T < room m
      → search_says word text T F ≡ outcome (refused short_room) T F
  unfolding search_says
  says-short h l k s = rw (le-ltb m 1 h, le-ltb longest_word m l, le-ltb longest_text (length text) k, lt-ltb (length T) (room m) s)

  pub says-done : 1 ≤ m → m ≤ longest_word → length text ≤ longest_text → room m ≤ length T → search_says word text T F ≡ counted
  unfolding search_says
  says-done h l k s = rw (le-ltb m 1 h, le-ltb longest_word m l, le-ltb longest_text (length text) k, le-ltb (length T) (room m) s)

  -- ── When each is given ───────────────────────────────────────────────────

  -- every input is of one case
  case : SearchCase word text T F (search_says word text T F)
  case = by (dec_lt m 1) (dec_lt longest_word m) (dec_lt longest_text (length text)) (dec_lt (length T) (room m))
    where
      by : Dec (m < 1) → Dec (longest_word < m) → Dec (longest_text < length text) → Dec (length T < room m)
          → SearchCase word text T F (search_says word text T F)
      by (yes h) d e f = rw (says-empty h) (SearchCase.on_empty_word h)
      by (no h) (yes l) e f = rw (says-long (omega arith) l) (SearchCase.on_long_word (omega arith) l)
      by (no h) (no l) (yes k) f = rw (says-long_text (omega arith) (omega arith) k) (SearchCase.on_long_text (omega arith) (omega arith) k)
      by (no h) (no l) (no k) (yes s) =
          rw (says-short (omega arith) (omega arith) (omega arith) s) (SearchCase.on_short_room (omega arith) (omega arith) (omega arith) s)
      by (no h) (no l) (no k) (no s) =
          rw (says-done (omega arith) (omega arith) (omega arith) (omega arith))
          (SearchCase.accepted (omega arith) (omega arith) (omega arith) (omega arith))

  -- and a case that applies has its outcome
  given : {o : Outcome} → SearchCase word text T F o → search_says word text T F ≡ o
  given (SearchCase.on_empty_word h) = says-empty h
  given (SearchCase.on_long_word h l) = says-long h l
  given (SearchCase.on_long_text h l k) = says-long_text h l k
  given (SearchCase.on_short_room h l k s) = says-short h l k s
  given (SearchCase.accepted h l k s) = says-done h l k s

  pub search_is : (o : Outcome) → (search_says word text T F ≡ o) ↔ SearchCase word text T F o
  search_is o = (λ e. rw e at case, given)

  -- ── What is found and left ───────────────────────────────────────────────

  -- a search that is not refused
  module _ (h : 1 ≤ m) (l : m ≤ longest_word) (k : length text ≤ longest_text) (s : room m ≤ length T) where
    is_counted : search_says word text T F ≡ counted
    is_counted = says-done h l k s

    -- the places that are counted and listed are all at which the word stands within the text, and nothing else, rising, each once
    pub found-exactly : (j : Place) → Memᴰ j (occurrences word text) ↔ ((j + m ≤ length text) × (stands word text j ≡ true))
    found-exactly j = (λ i. occurrence_stands word text j i, λ r. standing_occurs word text j r.0 r.1)

    pub found_rising : Rising 0 (occurrences word text)
    found_rising = occurrences_rise word text

    -- the first entries of the list hold the first of them, the others are as they were
    pub finds-left : (search_says word text T F).finds ≡ filled (occurrences word text) F
    finds-left = ap (λ o. o.finds) is_counted

    -- the letters are the published steps' own, and at most m(n-m+1) where m is at most n
    pub letters_said : (search_says word text T F).answer ≡ done (found word text)
    letters_said = ap (λ o. o.answer) is_counted

    pub letters_most : m ≤ length text → (backward word text).letters ≤ m * (length text - m + 1)
    letters_most b = search_letters_most word text b

    -- the first 6(m+1) entries are the mirrored word's table, and the others are as they were
    pub entries-left : take (room m) (search_says word text T F).tables ≡ table_of (mirror word)
    entries-left =
        ap (λ o. take (room m) o.tables) is_counted
        ∙ take_at (table_of (mirror word)) (drop (room m) T) (room m) (mirror-size word)

    pub others-left : drop (room m) (search_says word text T F).tables ≡ drop (room m) T
    others-left =
        ap (λ o. drop (room m) o.tables) is_counted
        ∙ drop_at (table_of (mirror word)) (drop (room m) T) (room m) (mirror-size word)

  -- a refusal changes nothing
  pub refusal_leaves : {n : ℕ} → (search_says word text T F).answer ≡ refused n
      → ((search_says word text T F).tables ≡ T) × ((search_says word text T F).finds ≡ F)
  refusal_leaves {n} = by case
    where
      by : {o : Outcome} → SearchCase word text T F o → o.answer ≡ refused n → (o.tables ≡ T) × (o.finds ≡ F)
      by (SearchCase.on_empty_word h) e = (refl, refl)
      by (SearchCase.on_long_word h l) e = (refl, refl)
      by (SearchCase.on_long_text h l k) e = (refl, refl)
      by (SearchCase.on_short_room h l k s) e = (refl, refl)
      by (SearchCase.accepted h l k s) e = done_not_refused e

-- ── What the code's scan comes to ──────────────────────────────────────────

-- the steps over the mirrored word's table are the published ones
table-steps : (word text : Word) → steps (read_arrow (length word) (table_of (mirror word))) word text ≡ backward word text
unfolding backward
table-steps word text =
    steps-same (read_arrow (length word) (table_of (mirror word))) (oracle (mirror word)) word text
    (λ x c. rw (length-reverse word) at (table-arrow (mirror word) x c))

-- the room that was filled with P, R being what stands behind it, once the step after a find has left its row r there
module _ (word : Word) {P : List ℕ} (R : List ℕ) (filled_in : P ≡ table_of (mirror word)) {r : List ℕ}
    (zeros : r ≡ replicate (length word) 0) where
  abbrev size : ℕ
  size = length word

  abbrev left : List ℕ
  left = with_row size (P ++ R) r

  -- the part that the scan is lent
  abbrev lent : List ℕ
  lent = take (room size) left

  sized : length P ≡ room size
  sized = ap length filled_in ∙ mirror-size word

  filled-room : take (room size) (P ++ R) ≡ table_of (mirror word)
  filled-room = take_at P R (room size) sized ∙ filled_in

  -- the row is zero again, as it was
  left_is : left ≡ P ++ R
  left_is =
      let spare : Spare (take (room size) (P ++ R)) size = rw (filled-room, ← length-reverse word) (table_spare (mirror word)) in
      spare_kept (spare_more spare) (omega (arith, length-append P R, sized)) zeros

  lent-table : lent ≡ table_of (mirror word)
  lent-table = ap (take (room size)) left_is ∙ filled-room

  pub lent-formed : size < 65535 → Formed lent size
  lent-formed h = rw (lent-table, ← length-reverse word) (table-formed (mirror word) (rw (length-reverse word) h))

  -- w is the word as it is sought
  pub scan_counts : (text : Word) (F : List Place) {w : Word} → w ≡ word → {t : Tally} {F' : List Place}
      → t ≡ tally_of (steps (read_arrow size lent) w text)
      → F' ≡ filled (steps (read_arrow size lent) w text).starts F
      → outcome (done t) left F' ≡ outcome (done (found word text)) (table_of (mirror word) ++ R) (filled (occurrences word text) F)
  scan_counts text F sought t f =
      let t = rw (sought, lent-table, table-steps word text) at t in
      let f = rw (sought, lent-table, table-steps word text) at f in
      rw (t, f, left_is, filled_in, search-lists-occurrences word text)

-- ── One outcome ────────────────────────────────────────────────────────────

-- two outcomes that the promise of search allows are equal
pub search-one : (word text : Word) (T : List ℕ) (F : List Place) (r s : Result Tally Refusal) (A B : List ℕ) (G H : List Place)
    → searched r A G ≡ search_says word text T F → searched s B H ≡ search_says word text T F → (r ≡ s) × (A ≡ B) × (G ≡ H)
search-one word text T F r s A B G H e f =
    let g : searched r A G ≡ searched s B H = e ∙ sym f in
    (answer_of-one r s (ap (λ o. o.answer) g), ap (λ o. o.tables) g, ap (λ o. o.finds) g)
