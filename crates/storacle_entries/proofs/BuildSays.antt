-- THE THEOREMS on `storacle_build_says`: each refusal exactly where it is tabled, what a refusal and a success leave, and that the promise
-- allows one outcome.
use mathlib.Core.Path.{◌≡◌, refl, sym, ap, ◌∙◌}
use mathlib.Core.Bool.{true}
use mathlib.Core.Logic.{◌↔◌}
use mathlib.Core.List.{List, [], ◌∷◌, ◌++◌}
use Prim.Native.Nat.{ℕ, ◌+◌, ◌*◌, ◌≤◌, ◌<◌}
use native.Mathlib.Nat.{mul-le-mul}
use native.Mathlib.Decide.{dec_lt}
use native.Mathlib.Omega.{arith}
use lib.ListN.{length, take, drop}
use lib.Seq.{take_at, drop_at}
use borrow.Author.Tests.{lt-ltb, le-ltb}
use Rattle.words.specs.Words.{Letter, Word}
use Rattle.words.specs.Limits.{longest_storacle}
use Rattle.oracle.specs.Arrows.{State}
use Rattle.table.specs.Table.{read_word}
use Rattle.storacle.specs.StoracleRule.{storacle}
use Rattle.storacle_table.specs.StoracleTable.{storacle_room, storacle_table, read_storacle}
use Rattle.storacle_table.proofs.Theorems.{table-size, word_read, arrow-read}
use Rattle.std.specs.Prelude.{Result}
use Rattle.answers.specs.declared.Refusal.{Refusal}
use Rattle.answers.specs.Answers.{done, refused, refuses_only, one_of}
use Rattle.answers.proofs.Answers.{done_not_refused, answer_of-one}
use Rattle.marks.specs.Build.{Outcome, outcome, built}
use Rattle.storacle_entries.specs.StoracleBuild.{storacle_build_says}
use Rattle.storacle_entries.specs.Cases.{StoracleBuildCase}

-- the room of a word within a limit of few letters is far below a machine's numbers
pub room_fits : {m limit : ℕ} → m ≤ limit → limit < 10000 → (m + 1) * (m + 6) ≤ 10000 * 10005
room_fits {m} h l = let rows : m + 1 ≤ 10000 = omega arith in let long : m + 6 ≤ 10005 = omega arith in mul-le-mul rows long

module _ (word : Word) (T : List ℕ) where
  abbrev m : ℕ
  m = length word

  -- ── When each is given ───────────────────────────────────────────────────

  -- a case that applies has its outcome
  pub given : {o : Outcome} → StoracleBuildCase word T o → storacle_build_says word T ≡ o
  unfolding storacle_build_says
  given (StoracleBuildCase.on_empty_word h) = rw (lt-ltb m 1 h)
  given (StoracleBuildCase.on_long_word h l) = rw (le-ltb m 1 h, lt-ltb longest_storacle m l)
  given (StoracleBuildCase.on_short_room h l s) = rw (le-ltb m 1 h, le-ltb longest_storacle m l, lt-ltb (length T) (storacle_room m) s)
  given (StoracleBuildCase.accepted h l s) = rw (le-ltb m 1 h, le-ltb longest_storacle m l, le-ltb (length T) (storacle_room m) s)

  -- every input is of one case
  case : StoracleBuildCase word T (storacle_build_says word T)
  case = by (dec_lt m 1) (dec_lt longest_storacle m) (dec_lt (length T) (storacle_room m))
    where
      of : {o : Outcome} → StoracleBuildCase word T o → StoracleBuildCase word T (storacle_build_says word T)
      of c = rw (given c) c

      by : Dec (m < 1) → Dec (longest_storacle < m) → Dec (length T < storacle_room m)
          → StoracleBuildCase word T (storacle_build_says word T)
      by (yes h) d e = of (StoracleBuildCase.on_empty_word h)
      by (no h) (yes l) e = of (StoracleBuildCase.on_long_word (omega arith) l)
      by (no h) (no l) (yes s) = of (StoracleBuildCase.on_short_room (omega arith) (omega arith) s)
      by (no h) (no l) (no s) = of (StoracleBuildCase.accepted (omega arith) (omega arith) (omega arith))

  pub storacle_build_is : (o : Outcome) → (storacle_build_says word T ≡ o) ↔ StoracleBuildCase word T o
  storacle_build_is o = (λ e. rw e at case, given)

  -- it refuses with numbers of the table alone
  pub storacle_build_numbers : refuses_only (1 ∷ 2 ∷ 3 ∷ []) (storacle_build_says word T).answer ≡ true
  unfolding one_of
  storacle_build_numbers = by case
    where
      by : {o : Outcome} → StoracleBuildCase word T o → refuses_only (1 ∷ 2 ∷ 3 ∷ []) o.answer ≡ true
      by (StoracleBuildCase.on_empty_word h) = refl
      by (StoracleBuildCase.on_long_word h l) = refl
      by (StoracleBuildCase.on_short_room h l s) = refl
      by (StoracleBuildCase.accepted h l s) = refl

  -- ── What it leaves ───────────────────────────────────────────────────────

  -- the room is lent and filled
  pub says-filled : {L : List ℕ} → L ≡ storacle_table word → 1 ≤ m → m ≤ longest_storacle → storacle_room m ≤ length T
      → outcome (done m) (L ++ drop (storacle_room m) T) ≡ storacle_build_says word T
  says-filled e h l s = rw e (sym (given (StoracleBuildCase.accepted h l s)))

  -- a success: the word and the rule's arrows are read from the first (m+1)(m+6) entries, and the others are kept
  pub record Left (L : List ℕ) : Type 0 where
    pub entries : take (storacle_room m) L ≡ storacle_table word
    pub reads_word : read_word m (take (storacle_room m) L) ≡ word
    pub reads_arrows : (x : State) (c : Letter) → read_storacle m (take (storacle_room m) L) x c ≡ storacle word x c
    pub others : drop (storacle_room m) L ≡ drop (storacle_room m) T

  pub done-leaves : 1 ≤ m → m ≤ longest_storacle → storacle_room m ≤ length T → Left (storacle_build_says word T).tables
  done-leaves h l s = rw (ap (λ o. o.tables) (given (StoracleBuildCase.accepted h l s))) (record {
    entries = front;
    reads_word = rw front (word_read word);
    reads_arrows = λ x c. rw front (arrow-read word x c);
    others = drop_at (storacle_table word) (drop (storacle_room m) T) (storacle_room m) (table-size word);
  })
    where
      front : take (storacle_room m) (storacle_table word ++ drop (storacle_room m) T) ≡ storacle_table word
      front = take_at (storacle_table word) (drop (storacle_room m) T) (storacle_room m) (table-size word)

  -- a refusal changes nothing
  pub storacle_build_refusal_leaves : {n : ℕ} → (storacle_build_says word T).answer ≡ refused n → (storacle_build_says word T).tables ≡ T
  storacle_build_refusal_leaves {n} = by case
    where
      by : {o : Outcome} → StoracleBuildCase word T o → o.answer ≡ refused n → o.tables ≡ T
      by (StoracleBuildCase.on_empty_word h) e = refl
      by (StoracleBuildCase.on_long_word h l) e = refl
      by (StoracleBuildCase.on_short_room h l s) e = refl
      by (StoracleBuildCase.accepted h l s) e = done_not_refused e

-- ── One outcome ────────────────────────────────────────────────────────────

-- two outcomes that the promise of storacle_build allows are equal
pub storacle_build_one : (word : Word) (T : List ℕ) (r s : Result ℕ Refusal) (A B : List ℕ)
    → built r A ≡ storacle_build_says word T → built s B ≡ storacle_build_says word T → (r ≡ s) × (A ≡ B)
storacle_build_one word T r s A B e f =
    let g : built r A ≡ built s B = e ∙ sym f in
    (answer_of-one r s (ap (λ o. o.answer) g), ap (λ o. o.tables) g)
