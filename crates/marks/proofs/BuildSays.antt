-- THE THEOREMS on `build_says`: each refusal exactly where it is tabled, what a refusal and a success leave, and that the promise allows
-- one outcome.
use mathlib.Core.Path.{◌≡◌, refl, sym, ap, ◌∙◌}
use mathlib.Core.Logic.{◌↔◌}
use mathlib.Core.List.{List, ◌++◌}
use Prim.Native.Nat.{ℕ, ◌≤◌, ◌<◌}
use native.Mathlib.Decide.{dec_lt}
use native.Mathlib.Omega.{arith}
use lib.ListN.{length, take, drop}
use lib.Seq.{take_at, drop_at}
use borrow.Author.Tests.{lt-ltb, le-ltb}
use Rattle.words.specs.Words.{Letter, Word}
use Rattle.oracle.specs.Arrows.{State}
use Rattle.oracle.specs.SuffixRule.{oracle}
use Rattle.oracle.specs.Supply.{supply}
use Rattle.table.specs.Table.{room, table_of, read_word, read_arrow, read_supply}
use Rattle.table.proofs.Theorems.{table-size, table-word, table-arrow, table-supply}
use Rattle.words.specs.Limits.{longest_word}
use Rattle.std.specs.Prelude.{Result}
use Rattle.answers.specs.declared.Refusal.{Refusal}
use Rattle.answers.specs.Answers.{done, refused, empty_word, long_word, short_room}
use Rattle.answers.proofs.Answers.{done_not_refused, answer_of-one}
use Rattle.marks.specs.Build.{Outcome, outcome, built, build_says}
use Rattle.marks.specs.Cases.{BuildCase}

module _ (word : Word) (T : List ℕ) where
  abbrev m : ℕ
  m = length word

  -- ── Its cases, in the order of the tests ─────────────────────────────────

  pub says-empty : m < 1 → build_says word T ≡ outcome (refused empty_word) T
  unfolding build_says
  says-empty h = rw (lt-ltb m 1 h)

  pub says-long : 1 ≤ m → longest_word < m → build_says word T ≡ outcome (refused long_word) T
  unfolding build_says
  says-long h l = rw (le-ltb m 1 h, lt-ltb longest_word m l)

  pub says-short : 1 ≤ m → m ≤ longest_word → length T < room m → build_says word T ≡ outcome (refused short_room) T
  unfolding build_says
  says-short h l s = rw (le-ltb m 1 h, le-ltb longest_word m l, lt-ltb (length T) (room m) s)

  pub says-done : 1 ≤ m → m ≤ longest_word → room m ≤ length T → build_says word T ≡ outcome (done m) (table_of word ++ drop (room m) T)
  unfolding build_says
  says-done h l s = rw (le-ltb m 1 h, le-ltb longest_word m l, le-ltb (length T) (room m) s)

  -- the room is lent and filled
  pub says-filled : {L : List ℕ} → L ≡ table_of word → 1 ≤ m → m ≤ longest_word → room m ≤ length T
      → outcome (done m) (L ++ drop (room m) T) ≡ build_says word T
  says-filled e h l s = rw e (sym (says-done h l s))

  -- ── When each is given ───────────────────────────────────────────────────

  -- every input is of one case
  case : BuildCase word T (build_says word T)
  case = by (dec_lt m 1) (dec_lt longest_word m) (dec_lt (length T) (room m))
    where
      by : Dec (m < 1) → Dec (longest_word < m) → Dec (length T < room m) → BuildCase word T (build_says word T)
      by (yes h) d e = rw (says-empty h) (BuildCase.on_empty_word h)
      by (no h) (yes l) e = rw (says-long (omega arith) l) (BuildCase.on_long_word (omega arith) l)
      by (no h) (no l) (yes s) = rw (says-short (omega arith) (omega arith) s) (BuildCase.on_short_room (omega arith) (omega arith) s)
      by (no h) (no l) (no s) =
          rw (says-done (omega arith) (omega arith) (omega arith)) (BuildCase.accepted (omega arith) (omega arith) (omega arith))

  -- and a case that applies has its outcome
  given : {o : Outcome} → BuildCase word T o → build_says word T ≡ o
  given (BuildCase.on_empty_word h) = says-empty h
  given (BuildCase.on_long_word h l) = says-long h l
  given (BuildCase.on_short_room h l s) = says-short h l s
  given (BuildCase.accepted h l s) = says-done h l s

  pub build_is : (o : Outcome) → (build_says word T ≡ o) ↔ BuildCase word T o
  build_is o = (λ e. rw e at case, given)

  -- ── What it leaves ───────────────────────────────────────────────────────

  -- a success: the word, the suffix rule's arrows and 001's supplies are read from the first 6(m+1) entries, and the others are kept
  pub record Left (L : List ℕ) : Type 0 where
    pub entries : take (room m) L ≡ table_of word
    pub word_read : read_word m (take (room m) L) ≡ word
    pub arrows-read : (x : State) (c : Letter) → read_arrow m (take (room m) L) x c ≡ oracle word x c
    pub supplies_read : (x : State) → x ≤ m → read_supply m (take (room m) L) x ≡ supply word x
    pub others : drop (room m) L ≡ drop (room m) T

  pub done-leaves : 1 ≤ m → m ≤ longest_word → room m ≤ length T → Left (build_says word T).tables
  done-leaves h l s = rw (ap (λ o. o.tables) (says-done h l s)) (record {
    entries = front;
    word_read = rw front (table-word word);
    arrows-read = λ x c. rw front (table-arrow word x c);
    supplies_read = λ x b. rw front (table-supply word x b);
    others = drop_at (table_of word) (drop (room m) T) (room m) (table-size word);
  })
    where
      front : take (room m) (table_of word ++ drop (room m) T) ≡ table_of word
      front = take_at (table_of word) (drop (room m) T) (room m) (table-size word)

  -- a refusal changes nothing
  pub refusal_leaves : {n : ℕ} → (build_says word T).answer ≡ refused n → (build_says word T).tables ≡ T
  refusal_leaves {n} = by case
    where
      by : {o : Outcome} → BuildCase word T o → o.answer ≡ refused n → o.tables ≡ T
      by (BuildCase.on_empty_word h) e = refl
      by (BuildCase.on_long_word h l) e = refl
      by (BuildCase.on_short_room h l s) e = refl
      by (BuildCase.accepted h l s) e = done_not_refused e

-- ── One outcome ────────────────────────────────────────────────────────────

-- two outcomes that the promise of build allows are equal
pub build_one : (word : Word) (T : List ℕ) (r s : Result ℕ Refusal) (A B : List ℕ) → built r A ≡ build_says word T
    → built s B ≡ build_says word T → (r ≡ s) × (A ≡ B)
build_one word T r s A B e f =
    let g : built r A ≡ built s B = e ∙ sym f in
    (answer_of-one r s (ap (λ o. o.answer) g), ap (λ o. o.tables) g)
