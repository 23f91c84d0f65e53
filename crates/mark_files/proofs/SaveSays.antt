-- THE THEOREMS on `save_in`, in either edition: each refusal exactly where it is tabled, what a refusal and a success leave, and that the
-- promise allows one outcome.
use mathlib.Core.Path.{◌≡◌, refl, sym, ap, ◌∙◌}
use mathlib.Core.Bool.{false}
use mathlib.Core.Logic.{◌⊎◌, inl, inr, ◌↔◌}
use mathlib.Core.List.{List, ◌++◌}
use Prim.Native.Nat.{ℕ, ◌≤◌, ◌<◌}
use native.Mathlib.Decide.{dec_lt}
use native.Mathlib.Omega.{arith}
use lib.ListN.{length, take, drop, replicate}
use lib.Seq.{take_at, drop_at}
use lib.Dec.{ltb}
use borrow.Author.Tests.{lt-ltb, le-ltb}
use Rattle.words.specs.Words.{Word}
use Rattle.words.specs.Limits.{least_saved, longest_word}
use Rattle.words.proofs.Limits.{saved-some}
use Rattle.table.specs.Table.{room, table_of}
use Rattle.table.proofs.Theorems.{table-size}
use Rattle.saved.specs.File.{spell}
use Rattle.editions.specs.Editions.{Edition, spell_in, most_bytes}
use Rattle.editions.proofs.Theorems.{most_bytes_lem}
use Rattle.std.specs.Prelude.{Result}
use Rattle.answers.specs.declared.Refusal.{Refusal}
use Rattle.answers.specs.Answers.{done, refused, empty_word, long_word, short_word, short_room, short_output}
use Rattle.answers.proofs.Answers.{done_not_refused, answer_of-one}
use Rattle.mark_files.specs.Save.{Outcome, outcome, saved_as, save_in}
use Rattle.mark_files.specs.Cases.{SaveCase}

module _ (e : Edition) (word : Word) (T O : List ℕ) where
  abbrev m : ℕ
  m = length word

  abbrev size : ℕ
  size = length (spell_in e word)

  -- what a save with too little output says, and one that is not refused
  abbrev pub cleared : Outcome
  cleared = outcome (refused short_output) (replicate (room m) 0 ++ drop (room m) T) O

  abbrev pub written : Outcome
  written = outcome (done size) (table_of word ++ drop (room m) T) (spell_in e word ++ drop size O)

  -- ── Its cases, in the order of the tests ─────────────────────────────────

  pub says-empty : m < 1 → save_in e word T O ≡ outcome (refused empty_word) T O
  unfolding save_in
  says-empty h = rw (lt-ltb m 1 h)

  pub says-long : 1 ≤ m → longest_word < m → save_in e word T O ≡ outcome (refused long_word) T O
  unfolding save_in
  says-long h l = rw (le-ltb m 1 h, lt-ltb longest_word m l)

  pub says-one_letter : 1 ≤ m → m ≤ longest_word → m < least_saved → save_in e word T O ≡ outcome (refused short_word) T O
  unfolding save_in
  says-one_letter h l b = rw (le-ltb m 1 h, le-ltb longest_word m l, lt-ltb m least_saved b)

  -- from here on the word may be saved, so it has letters
  module _ (h : least_saved ≤ m) (l : m ≤ longest_word) where
    some : ltb m 1 ≡ false
    some = le-ltb m 1 (omega (arith, saved-some, h))

    pub says-short : length T < room m → save_in e word T O ≡ outcome (refused short_room) T O
    unfolding save_in
    says-short s = rw (some, le-ltb longest_word m l, le-ltb m least_saved h, lt-ltb (length T) (room m) s)

    pub says_full : room m ≤ length T → length O < size → save_in e word T O ≡ cleared
    unfolding save_in
    says_full s o = rw (some, le-ltb longest_word m l, le-ltb m least_saved h, le-ltb (length T) (room m) s, lt-ltb (length O) size o)

    pub says-done : room m ≤ length T → size ≤ length O → save_in e word T O ≡ written
    unfolding save_in
    says-done s o = rw (some, le-ltb longest_word m l, le-ltb m least_saved h, le-ltb (length T) (room m) s, le-ltb (length O) size o)

  -- ── When each is given ───────────────────────────────────────────────────

  -- every input is of one case
  case : SaveCase e word T O (save_in e word T O)
  case = by (dec_lt m 1) (dec_lt longest_word m) (dec_lt m least_saved) (dec_lt (length T) (room m)) (dec_lt (length O) size)
    where
      by : Dec (m < 1) → Dec (longest_word < m) → Dec (m < least_saved) → Dec (length T < room m) → Dec (length O < size)
          → SaveCase e word T O (save_in e word T O)
      by (yes h) d b e f = rw (says-empty h) (SaveCase.on_empty_word h)
      by (no h) (yes l) b e f = rw (says-long (omega arith) l) (SaveCase.on_long_word (omega arith) l)
      by (no h) (no l) (yes b) e f =
          rw (says-one_letter (omega arith) (omega arith) b) (SaveCase.on_short_word (omega arith) (omega arith) b)
      by (no h) (no l) (no b) (yes s) f =
          rw (says-short (omega arith) (omega arith) s) (SaveCase.on_short_room (omega arith) (omega arith) s)
      by (no h) (no l) (no b) (no s) (yes o) =
          rw (says_full (omega arith) (omega arith) (omega arith) o) (SaveCase.on_short_output (omega arith) (omega arith) (omega arith) o)
      by (no h) (no l) (no b) (no s) (no o) =
          rw (says-done (omega arith) (omega arith) (omega arith) (omega arith))
          (SaveCase.accepted (omega arith) (omega arith) (omega arith) (omega arith))

  -- and a case that applies has its outcome
  given : {o : Outcome} → SaveCase e word T O o → save_in e word T O ≡ o
  given (SaveCase.on_empty_word h) = says-empty h
  given (SaveCase.on_long_word h l) = says-long h l
  given (SaveCase.on_short_word h l b) = says-one_letter h l b
  given (SaveCase.on_short_room h l s) = says-short h l s
  given (SaveCase.on_short_output h l s o) = says_full h l s o
  given (SaveCase.accepted h l s o) = says-done h l s o

  pub save_is : (o : Outcome) → (save_in e word T O ≡ o) ↔ SaveCase e word T O o
  save_is o = (λ e. rw e at case, given)

  -- ── What it leaves ───────────────────────────────────────────────────────

  -- a success: the file and nothing behind it, the word's table and nothing behind it
  pub record Left (o : Outcome) : Type 0 where
    pub file : take size o.output ≡ spell_in e word
    pub behind : drop size o.output ≡ drop size O
    pub entries : take (room m) o.tables ≡ table_of word
    pub others : drop (room m) o.tables ≡ drop (room m) T

  pub done-leaves : least_saved ≤ m → m ≤ longest_word → room m ≤ length T → size ≤ length O → Left (save_in e word T O)
  done-leaves h l s o = rw (says-done h l s o) (record {
    file = take_at (spell_in e word) (drop size O) size refl;
    behind = drop_at (spell_in e word) (drop size O) size refl;
    entries = take_at (table_of word) (drop (room m) T) (room m) (table-size word);
    others = drop_at (table_of word) (drop (room m) T) (room m) (table-size word);
  })

  -- a refusal touches no output, and of the room the word's part at most, by zeros
  pub refusal_leaves : {n : ℕ} → (save_in e word T O).answer ≡ refused n
      → ((save_in e word T O).output ≡ O)
      × (((save_in e word T O).tables ≡ T) ⊎ ((save_in e word T O).tables ≡ replicate (room m) 0 ++ drop (room m) T))
  refusal_leaves {n} = by case
    where
      by : {o : Outcome} → SaveCase e word T O o → o.answer ≡ refused n
          → (o.output ≡ O) × ((o.tables ≡ T) ⊎ (o.tables ≡ replicate (room m) 0 ++ drop (room m) T))
      by (SaveCase.on_empty_word h) e = (refl, inl refl)
      by (SaveCase.on_long_word h l) e = (refl, inl refl)
      by (SaveCase.on_short_word h l b) e = (refl, inl refl)
      by (SaveCase.on_short_room h l s) e = (refl, inl refl)
      by (SaveCase.on_short_output h l s o) e = (refl, inr refl)
      by (SaveCase.accepted h l s o) e = done_not_refused e

  -- as much output as the limits promise is never too little
  pub enough-output : most_bytes e ≤ length O → (save_in e word T O).answer ≡ refused short_output → ⊥
  enough-output room = by case
    where
      by : {o : Outcome} → SaveCase e word T O o → o.answer ≡ refused short_output → ⊥
      by (SaveCase.on_empty_word h) e = let z : ◌≡◌ {A = ℕ} 1 12 = cc in omega arith
      by (SaveCase.on_long_word h l) e = let z : ◌≡◌ {A = ℕ} 2 12 = cc in omega arith
      by (SaveCase.on_short_word h l b) e = let z : ◌≡◌ {A = ℕ} 17 12 = cc in omega arith
      by (SaveCase.on_short_room h l s) e = let z : ◌≡◌ {A = ℕ} 3 12 = cc in omega arith
      by (SaveCase.on_short_output h l s o) q = omega (arith, most_bytes_lem e word (omega (arith, saved-some, h)) l)
      by (SaveCase.accepted h l s o) e = done_not_refused e

-- ── What the code's steps come to ──────────────────────────────────────────

-- P is what was filled, and R what stands behind it in the room
module _ (word : Word) {P : List ℕ} (R : List ℕ) (filled_in : P ≡ table_of word) where
  abbrev lent : List ℕ
  lent = take (room (length word)) (P ++ R)

  sized : length P ≡ room (length word)
  sized = ap length filled_in ∙ table-size word

  lent-table : lent ≡ table_of word
  lent-table = take_at P R (room (length word)) sized ∙ filled_in

  pub lent-size : room (length word) ≡ length lent
  lent-size = sym (ap length lent-table ∙ table-size word)

  pub wiped : {C : List ℕ} (O : List ℕ) → C ≡ replicate (length lent) 0
      → outcome (refused short_output) (C ++ drop (room (length word)) (P ++ R)) O
      ≡ outcome (refused short_output) (replicate (room (length word)) 0 ++ R) O
  wiped O c = rw (c, ← lent-size, drop_at P R (room (length word)) sized)

  pub put-out : {n : ℕ} (O : List ℕ) {O' : List ℕ} → n ≡ length (spell word) → O' ≡ spell word ++ drop (length (spell word)) O
      → outcome (done n) (P ++ R) O' ≡ outcome (done (length (spell word))) (table_of word ++ R)
      (spell word ++ drop (length (spell word)) O)
  put-out O n o = rw (n, o, filled_in)

-- ── One outcome ────────────────────────────────────────────────────────────

-- two outcomes that the promise of save allows are equal
pub save_one : (e : Edition) (word : Word) (T O : List ℕ) (r s : Result ℕ Refusal) (A B C D : List ℕ) → saved_as r A C ≡ save_in e word T O
    → saved_as s B D ≡ save_in e word T O → (r ≡ s) × (A ≡ B) × (C ≡ D)
save_one e word T O r s A B C D p q =
    let g : saved_as r A C ≡ saved_as s B D = p ∙ sym q in
    (answer_of-one r s (ap (λ o. o.answer) g), ap (λ o. o.tables) g, ap (λ o. o.output) g)
