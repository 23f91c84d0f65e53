-- THE THEOREMS on `failure_build_says`: each refusal exactly where it is tabled, what a refusal and a success leave, and that the promise
-- allows one outcome.
use mathlib.Core.Path.{◌≡◌, refl, sym, ap, ◌∙◌}
use mathlib.Core.Bool.{true}
use mathlib.Core.Logic.{◌↔◌}
use mathlib.Core.List.{List, [], ◌∷◌, ◌++◌}
use Prim.Native.Nat.{ℕ, ◌≤◌, ◌<◌}
use native.Mathlib.Decide.{dec_lt}
use native.Mathlib.Omega.{arith}
use lib.ListN.{length, take, drop}
use lib.Seq.{take_at, drop_at}
use borrow.Author.Tests.{lt-ltb, le-ltb}
use Rattle.words.specs.Words.{Letter, Word}
use Rattle.words.specs.Limits.{longest_word}
use Rattle.oracle.specs.Arrows.{State, target}
use Rattle.table.specs.Table.{read_word}
use Rattle.failure.specs.FailureRule.{failure_of, symbols, failure_rule}
use Rattle.failure_table.specs.FailureTable.{failure_room, failure_table, read_symbol, read_failure}
use Rattle.failure_table.proofs.Theorems.{table-size, word_read, symbol-read, failure-read}
use Rattle.std.specs.Prelude.{Result}
use Rattle.answers.specs.declared.Refusal.{Refusal}
use Rattle.answers.specs.Answers.{done, refused, refuses_only, one_of}
use Rattle.answers.proofs.Answers.{done_not_refused, answer_of-one}
use Rattle.marks.specs.Build.{Outcome, outcome, built}
use Rattle.failure_entries.specs.FailureBuild.{failure_build_says}
use Rattle.failure_entries.specs.Cases.{FailureBuildCase}

module _ (word : Word) (T : List ℕ) where
  abbrev m : ℕ
  m = length word

  -- ── When each is given ───────────────────────────────────────────────────

  -- a case that applies has its outcome
  pub given : {o : Outcome} → FailureBuildCase word T o → failure_build_says word T ≡ o
  unfolding failure_build_says
  given (FailureBuildCase.on_empty_word h) = rw (lt-ltb m 1 h)
  given (FailureBuildCase.on_long_word h l) = rw (le-ltb m 1 h, lt-ltb longest_word m l)
  given (FailureBuildCase.on_short_room h l s) = rw (le-ltb m 1 h, le-ltb longest_word m l, lt-ltb (length T) (failure_room m) s)
  given (FailureBuildCase.accepted h l s) = rw (le-ltb m 1 h, le-ltb longest_word m l, le-ltb (length T) (failure_room m) s)

  -- every input is of one case
  case : FailureBuildCase word T (failure_build_says word T)
  case = by (dec_lt m 1) (dec_lt longest_word m) (dec_lt (length T) (failure_room m))
    where
      of : {o : Outcome} → FailureBuildCase word T o → FailureBuildCase word T (failure_build_says word T)
      of c = rw (given c) c

      by : Dec (m < 1) → Dec (longest_word < m) → Dec (length T < failure_room m) → FailureBuildCase word T (failure_build_says word T)
      by (yes h) d e = of (FailureBuildCase.on_empty_word h)
      by (no h) (yes l) e = of (FailureBuildCase.on_long_word (omega arith) l)
      by (no h) (no l) (yes s) = of (FailureBuildCase.on_short_room (omega arith) (omega arith) s)
      by (no h) (no l) (no s) = of (FailureBuildCase.accepted (omega arith) (omega arith) (omega arith))

  pub failure_build_is : (o : Outcome) → (failure_build_says word T ≡ o) ↔ FailureBuildCase word T o
  failure_build_is o = (λ e. rw e at case, given)

  -- it refuses with numbers of the table alone
  pub failure_build_numbers : refuses_only (1 ∷ 2 ∷ 3 ∷ []) (failure_build_says word T).answer ≡ true
  unfolding one_of
  failure_build_numbers = by case
    where
      by : {o : Outcome} → FailureBuildCase word T o → refuses_only (1 ∷ 2 ∷ 3 ∷ []) o.answer ≡ true
      by (FailureBuildCase.on_empty_word h) = refl
      by (FailureBuildCase.on_long_word h l) = refl
      by (FailureBuildCase.on_short_room h l s) = refl
      by (FailureBuildCase.accepted h l s) = refl

  -- ── What it leaves ───────────────────────────────────────────────────────

  -- the room is lent and filled
  pub says-filled : {L : List ℕ} → L ≡ failure_table word → 1 ≤ m → m ≤ longest_word → failure_room m ≤ length T
      → outcome (done m) (L ++ drop (failure_room m) T) ≡ failure_build_says word T
  says-filled e h l s = rw e (sym (given (FailureBuildCase.accepted h l s)))

  -- a success: the word and the failure rule's arrows of both kinds are read from the first 10(m+1) entries, and the others are kept
  pub record Left (L : List ℕ) : Type 0 where
    pub entries : take (failure_room m) L ≡ failure_table word
    pub reads_word : read_word m (take (failure_room m) L) ≡ word
    pub reads_symbols : (x : State) (c : Letter)
        → read_symbol m (take (failure_room m) L) x c ≡ target (symbols word (failure_rule word)) x c
    pub reads_failures : (x : State) → read_failure m (take (failure_room m) L) x ≡ failure_of (failure_rule word).failures x
    pub others : drop (failure_room m) L ≡ drop (failure_room m) T

  pub done-leaves : 1 ≤ m → m ≤ longest_word → failure_room m ≤ length T → Left (failure_build_says word T).tables
  done-leaves h l s = rw (ap (λ o. o.tables) (given (FailureBuildCase.accepted h l s))) (record {
    entries = front;
    reads_word = rw front (word_read word h);
    reads_symbols = λ x c. rw front (symbol-read word h x c);
    reads_failures = λ x. rw front (failure-read word h x);
    others = drop_at (failure_table word) (drop (failure_room m) T) (failure_room m) (table-size word h);
  })
    where
      front : take (failure_room m) (failure_table word ++ drop (failure_room m) T) ≡ failure_table word
      front = take_at (failure_table word) (drop (failure_room m) T) (failure_room m) (table-size word h)

  -- a refusal changes nothing
  pub failure_build_refusal_leaves : {n : ℕ} → (failure_build_says word T).answer ≡ refused n → (failure_build_says word T).tables ≡ T
  failure_build_refusal_leaves {n} = by case
    where
      by : {o : Outcome} → FailureBuildCase word T o → o.answer ≡ refused n → o.tables ≡ T
      by (FailureBuildCase.on_empty_word h) e = refl
      by (FailureBuildCase.on_long_word h l) e = refl
      by (FailureBuildCase.on_short_room h l s) e = refl
      by (FailureBuildCase.accepted h l s) e = done_not_refused e

-- ── One outcome ────────────────────────────────────────────────────────────

-- two outcomes that the promise of failure_build allows are equal
pub failure_build_one : (word : Word) (T : List ℕ) (r s : Result ℕ Refusal) (A B : List ℕ)
    → built r A ≡ failure_build_says word T → built s B ≡ failure_build_says word T → (r ≡ s) × (A ≡ B)
failure_build_one word T r s A B e f =
    let g : built r A ≡ built s B = e ∙ sym f in
    (answer_of-one r s (ap (λ o. o.answer) g), ap (λ o. o.tables) g)
