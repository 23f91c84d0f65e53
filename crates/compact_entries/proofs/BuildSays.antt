-- THE THEOREMS on `compact_build_says`: each refusal exactly where it is tabled, what a refusal and a success leave, and that the promise
-- allows one outcome.
use mathlib.Core.Path.{◌≡◌, refl, sym, ap, ◌∙◌}
use mathlib.Core.Bool.{true}
use mathlib.Core.Logic.{◌↔◌}
use mathlib.Core.List.{List, [], ◌∷◌, ◌++◌}
use Prim.Native.Nat.{ℕ, ◌≤◌, ◌<◌}
use native.Mathlib.Decide.{dec_lt}
use native.Mathlib.Omega.{arith}
use lib.ListN.{length, take, drop}
use borrow.Author.Tests.{lt-ltb, le-ltb}
use Rattle.words.specs.Words.{Letter, Word}
use Rattle.words.specs.Limits.{longest_word}
use Rattle.oracle.specs.Arrows.{State}
use Rattle.oracle.specs.SuffixRule.{oracle}
use Rattle.oracle.specs.Supply.{supply}
use Rattle.table.specs.Table.{read_word, read_supply}
use Rattle.compact.specs.Compact.{sets_room, compact_room, compact_sets, compact_table, read_compact}
use Rattle.compact.proofs.Theorems.{compact_arrow, compact_word, compact_supply}
use Rattle.std.specs.Prelude.{Result}
use Rattle.answers.specs.declared.Refusal.{Refusal}
use Rattle.answers.specs.Answers.{done, refused, short_room, refuses_only, one_of}
use Rattle.answers.proofs.Answers.{done_not_refused, answer_of-one}
use Rattle.compact_entries.specs.CompactBuild.{Outcome, outcome, compact_built, compact_build_says}
use Rattle.compact_entries.specs.Cases.{TooSmall, CompactBuildCase}
use Rattle.compact_entries.proofs.Rooms.{Rooms, small, enough, rooms, short-told, enough-told}
use Rattle.compact_entries.proofs.Rooms.{words-front, words-rest, entries-front, entries-rest}

module _ (word : Word) (Z T : List ℕ) where
  abbrev m : ℕ
  m = length word

  -- ── When each is given ───────────────────────────────────────────────────

  -- a case that applies has its outcome
  pub given : {o : Outcome} → CompactBuildCase word Z T o → compact_build_says word Z T ≡ o
  unfolding compact_build_says
  given (CompactBuildCase.on_empty_word h) = rw (lt-ltb m 1 h)
  given (CompactBuildCase.on_long_word h l) = rw (le-ltb m 1 h, lt-ltb longest_word m l)
  given (CompactBuildCase.on_short_room h l s) = rw (le-ltb m 1 h, le-ltb longest_word m l, short-told m Z T s)
  given (CompactBuildCase.accepted h l s t) = rw (le-ltb m 1 h, le-ltb longest_word m l, enough-told m Z T s t)

  -- every input is of one case
  case : CompactBuildCase word Z T (compact_build_says word Z T)
  case = by (dec_lt m 1) (dec_lt longest_word m) (rooms m Z T)
    where
      of : {o : Outcome} → CompactBuildCase word Z T o → CompactBuildCase word Z T (compact_build_says word Z T)
      of c = rw (given c) c

      by : Dec (m < 1) → Dec (longest_word < m) → Rooms m Z T → CompactBuildCase word Z T (compact_build_says word Z T)
      by (yes h) d e = of (CompactBuildCase.on_empty_word h)
      by (no h) (yes l) e = of (CompactBuildCase.on_long_word (omega arith) l)
      by (no h) (no l) (small s) = of (CompactBuildCase.on_short_room (omega arith) (omega arith) s)
      by (no h) (no l) (enough s t) = of (CompactBuildCase.accepted (omega arith) (omega arith) s t)

  pub compact_build_is : (o : Outcome) → (compact_build_says word Z T ≡ o) ↔ CompactBuildCase word Z T o
  compact_build_is o = (λ e. rw e at case, given)

  -- 3 is for either room, and for nothing else
  pub short-exactly : 1 ≤ m → m ≤ longest_word → ((compact_build_says word Z T).answer ≡ refused short_room) ↔ TooSmall m Z T
  short-exactly h l = (told, λ s. ap (λ o. o.answer) (given (CompactBuildCase.on_short_room h l s)))
    where
      told : (compact_build_says word Z T).answer ≡ refused short_room → TooSmall m Z T
      told e = by (rooms m Z T)
        where
          by : Rooms m Z T → TooSmall m Z T
          by (small s) = s
          by (enough s t) = done_not_refused (sym (ap (λ o. o.answer) (given (CompactBuildCase.accepted h l s t))) ∙ e)

  -- it refuses with numbers of the table alone
  pub compact_build_numbers : refuses_only (1 ∷ 2 ∷ 3 ∷ []) (compact_build_says word Z T).answer ≡ true
  unfolding one_of
  compact_build_numbers = by case
    where
      by : {o : Outcome} → CompactBuildCase word Z T o → refuses_only (1 ∷ 2 ∷ 3 ∷ []) o.answer ≡ true
      by (CompactBuildCase.on_empty_word h) = refl
      by (CompactBuildCase.on_long_word h l) = refl
      by (CompactBuildCase.on_short_room h l s) = refl
      by (CompactBuildCase.accepted h l s t) = refl

  -- ── What it leaves ───────────────────────────────────────────────────────

  -- the rooms are lent and filled
  pub says-filled : {Y L : List ℕ} → (Y ≡ compact_sets word) × (L ≡ compact_table word) → 1 ≤ m → m ≤ longest_word
      → sets_room m ≤ length Z → compact_room m ≤ length T
      → outcome (done m) (Y ++ drop (sets_room m) Z) (L ++ drop (compact_room m) T) ≡ compact_build_says word Z T
  says-filled e h l s t = rw (e.0, e.1) (sym (given (CompactBuildCase.accepted h l s t)))

  -- a success: the word, the suffix rule's arrows and the supplies are read from the first 4(m+1) words and the first 10(m+1) entries, and
  -- the others are kept
  pub record Left (Y L : List ℕ) : Type 0 where
    pub words : take (sets_room m) Y ≡ compact_sets word
    pub entries : take (compact_room m) L ≡ compact_table word
    pub reads_word : read_word m (take (compact_room m) L) ≡ word
    pub reads_arrows : (x : State) (c : Letter) → c < 256
        → read_compact m (take (sets_room m) Y) (take (compact_room m) L) x c ≡ oracle word x c
    pub reads_supplies : (x : State) → x ≤ m → read_supply m (take (compact_room m) L) x ≡ supply word x
    pub other_words : drop (sets_room m) Y ≡ drop (sets_room m) Z
    pub other_entries : drop (compact_room m) L ≡ drop (compact_room m) T

  pub done-leaves : 1 ≤ m → m ≤ longest_word → sets_room m ≤ length Z → compact_room m ≤ length T
      → Left (compact_build_says word Z T).sets (compact_build_says word Z T).tables
  done-leaves h l s t = rw (given (CompactBuildCase.accepted h l s t)) (record {
    words = front;
    entries = rows;
    reads_word = rw rows (compact_word word);
    reads_arrows = λ x c b. rw (front, rows) (compact_arrow word x c b);
    reads_supplies = λ x b. rw rows (compact_supply word x b);
    other_words = words-rest word refl (drop (sets_room m) Z) (drop (compact_room m) T);
    other_entries = entries-rest word refl (drop (sets_room m) Z) (drop (compact_room m) T);
  })
    where
      front : take (sets_room m) (compact_sets word ++ drop (sets_room m) Z) ≡ compact_sets word
      front = words-front word refl (drop (sets_room m) Z) (drop (compact_room m) T)

      rows : take (compact_room m) (compact_table word ++ drop (compact_room m) T) ≡ compact_table word
      rows = entries-front word refl (drop (sets_room m) Z) (drop (compact_room m) T)

  -- a refusal changes nothing
  pub compact_build_refusal_leaves : {n : ℕ} → (compact_build_says word Z T).answer ≡ refused n
      → ((compact_build_says word Z T).sets ≡ Z) × ((compact_build_says word Z T).tables ≡ T)
  compact_build_refusal_leaves {n} = by case
    where
      by : {o : Outcome} → CompactBuildCase word Z T o → o.answer ≡ refused n → (o.sets ≡ Z) × (o.tables ≡ T)
      by (CompactBuildCase.on_empty_word h) e = (refl, refl)
      by (CompactBuildCase.on_long_word h l) e = (refl, refl)
      by (CompactBuildCase.on_short_room h l s) e = (refl, refl)
      by (CompactBuildCase.accepted h l s t) e = done_not_refused e

-- ── One outcome ────────────────────────────────────────────────────────────

-- two outcomes that the promise of compact_build allows are equal
pub compact_build_one : (word : Word) (Z T : List ℕ) (r s : Result ℕ Refusal) (X Y A B : List ℕ)
    → compact_built r X A ≡ compact_build_says word Z T → compact_built s Y B ≡ compact_build_says word Z T → (r ≡ s) × (X ≡ Y) × (A ≡ B)
compact_build_one word Z T r s X Y A B e f =
    let g : compact_built r X A ≡ compact_built s Y B = e ∙ sym f in
    (answer_of-one r s (ap (λ o. o.answer) g), ap (λ o. o.sets) g, ap (λ o. o.tables) g)
