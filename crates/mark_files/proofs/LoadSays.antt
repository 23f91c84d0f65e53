-- THE LAWS of `load_says`: its cases in the order of the tests, what stands in the rooms after a success, and that the promise allows one
-- outcome.
use mathlib.Core.Path.{◌≡◌, refl, sym, ap, ◌∙◌}
use mathlib.Core.Bool.{false}
use mathlib.Core.Logic.{inl, inr, ◌↔◌}
use mathlib.Core.List.{List, ◌++◌}
use Prim.Native.Nat.{ℕ, ◌+◌, ◌*◌, ◌≤◌, ◌<◌}
use native.Mathlib.Decide.{dec_lt}
use native.Mathlib.Omega.{arith}
use lib.ListN.{length, take, drop, replicate, length-append}
use lib.Seq.{take_at, length-take-le}
use lib.Dec.{ltb}
use borrow.Author.Tests.{lt-ltb, le-ltb}
use Rattle.words.specs.Words.{Word, part}
use Rattle.words.specs.Limits.{longest_word}
use Rattle.words.proofs.Words.{part_length}
use Rattle.words.proofs.Limits.{words_fit, saved-some}
use Rattle.table.specs.Table.{room, table_of}
use Rattle.table.proofs.Theorems.{table-size}
use Rattle.loaded.specs.Load.{Front, letters, stop, Verdict, right, wrong}
use Rattle.loaded.proofs.Fronts.{LettersIn}
use Rattle.editions.specs.Either.{front_either}
use Rattle.editions.specs.EitherCases.{FrontEither, VerdictEither}
use Rattle.editions.proofs.Ways.{front_either_is, verdict_either_is}
use Rattle.editions.proofs.Theorems.{either_letters}
use Rattle.std.specs.Prelude.{Result, Ok}
use Rattle.answers.specs.declared.Refusal.{Refusal}
use Rattle.answers.specs.Answers.{Answer, done, refused, refused_at, Succeeds, short_room}
use Rattle.answers.proofs.Answers.{answer_of-one}
use Rattle.mark_files.specs.Load.{Outcome, outcome, loaded_as, judged_at, load_within, load_says}
use Rattle.mark_files.specs.Cases.{LoadCase, AfterRefusal}

-- what a file shows up to its letters
abbrev pub shown_front : List ℕ → Front
shown_front file = front_either longest_word file 0

module _ (file R T : List ℕ) where
  -- ── Its cases, in the order of the tests ─────────────────────────────────

  pub says-stop : (n p : ℕ) → shown_front file ≡ stop n p → load_says file R T ≡ outcome (refused_at n p) R T
  unfolding load_within
  says-stop n p e = rw e

  -- an outcome in the first m letters' part of the rooms, with what stands behind it
  abbrev pub put : ℕ → Outcome → Outcome
  put m o = outcome o.answer (o.word ++ drop m R) (o.tables ++ drop (room m) T)

  module _ (m i : ℕ) (e : shown_front file ≡ letters m i) where
    abbrev word : Word
    word = part file i m

    pub says-short_word : length R < m → load_says file R T ≡ outcome (refused short_room) R T
    unfolding load_within
    says-short_word h = rw (e, lt-ltb (length R) m h)

    pub says-short-tables : length T < room m → load_says file R T ≡ outcome (refused short_room) R T
    unfolding load_within
    says-short-tables h = by (dec_lt (length R) m)
      where
        by : Dec (length R < m) → load_says file R T ≡ outcome (refused short_room) R T
        by (yes b) = rw (e, lt-ltb (length R) m b)
        by (no b) =
            let k : ltb (length R) m ≡ false = le-ltb (length R) m (omega arith) in
            rw (e, k, lt-ltb (length T) (room m) h)

    pub says-judged : m ≤ length R → room m ≤ length T → load_says file R T ≡ put m (judged_at file i m)
    unfolding load_within
    says-judged h s = rw (e, le-ltb (length R) m h, le-ltb (length T) (room m) s)

  -- ── When each is given ───────────────────────────────────────────────────

  -- with the letters there and room enough, what the file shows behind them decides
  module _ {m i : ℕ} (f : FrontEither file 0 (letters m i)) (h : m ≤ length R) (t : room m ≤ length T) where
    shown : shown_front file ≡ letters m i
    shown = (front_either_is file 0 (letters m i)).1 f

    letters-size : length (part file i m) ≡ m
    letters-size = part_length file i m (either_letters file shown).0.inside

    says-wrong : {n p : ℕ} → VerdictEither file (i + m) (part file i m) (wrong n p)
        → load_says file R T ≡ outcome (refused_at n p) (replicate m 0 ++ drop m R) (replicate (room m) 0 ++ drop (room m) T)
    says-wrong {n} {p} v = says-judged m i shown h t ∙ rw ((verdict_either_is file (i + m) (part file i m) (wrong n p)).1 v, letters-size)

    says-right : VerdictEither file (i + m) (part file i m) right
        → load_says file R T ≡ outcome (done m) (part file i m ++ drop m R) (table_of (part file i m) ++ drop (room m) T)
    says-right v = says-judged m i shown h t ∙ rw ((verdict_either_is file (i + m) (part file i m) right).1 v, letters-size)

  -- every file is of one case
  case : LoadCase file R T (load_says file R T)
  case = by_front (shown_front file) ((front_either_is file 0 (shown_front file)).0 refl)
    where
      by_verdict : {m i : ℕ} → FrontEither file 0 (letters m i) → m ≤ length R → room m ≤ length T
          → (v : Verdict) → VerdictEither file (i + m) (part file i m) v → LoadCase file R T (load_says file R T)
      by_verdict f h t right v = rw (says-right f h t v) (LoadCase.accepted f h t v)
      by_verdict f h t (wrong n p) v = rw (says-wrong f h t v) (LoadCase.on_arrows_refused f h t v)

      by_room : {m i : ℕ} → FrontEither file 0 (letters m i) → Dec (length R < m) → Dec (length T < room m)
          → LoadCase file R T (load_says file R T)
      by_room {m} {i} f (yes h) t = rw (says-short_word m i ((front_either_is file 0 _).1 f) h) (LoadCase.on_short_room f (inl h))
      by_room {m} {i} f (no h) (yes t) = rw (says-short-tables m i ((front_either_is file 0 _).1 f) t) (LoadCase.on_short_room f (inr t))
      by_room {m} {i} f (no h) (no t) =
          by_verdict f (omega arith) (omega arith) _ ((verdict_either_is file (i + m) (part file i m) _).0 refl)

      by_front : (f : Front) → FrontEither file 0 f → LoadCase file R T (load_says file R T)
      by_front (stop n p) f = rw (says-stop n p ((front_either_is file 0 _).1 f)) (LoadCase.head_refused f)
      by_front (letters m i) f = by_room f (dec_lt (length R) m) (dec_lt (length T) (room m))

  -- and a case that applies has its outcome
  given : {o : Outcome} → LoadCase file R T o → load_says file R T ≡ o
  given (LoadCase.head_refused {n = n} {p = p} f) = says-stop n p ((front_either_is file 0 _).1 f)
  given (LoadCase.on_short_room {m = m} {i = i} f (inl h)) = says-short_word m i ((front_either_is file 0 _).1 f) h
  given (LoadCase.on_short_room {m = m} {i = i} f (inr t)) = says-short-tables m i ((front_either_is file 0 _).1 f) t
  given (LoadCase.on_arrows_refused f h t v) = says-wrong f h t v
  given (LoadCase.accepted f h t v) = says-right f h t v

  pub load_is : (o : Outcome) → (load_says file R T ≡ o) ↔ LoadCase file R T o
  load_is o = (λ e. rw e at case, given)

  -- so each answer, and each number among them, is given exactly when a case that has it applies
  pub load_answers : (a : Answer ℕ)
      → ((load_says file R T).answer ≡ a) ↔ ((R' : List ℕ) × (T' : List ℕ) × LoadCase file R T (outcome a R' T'))
  load_answers a = (λ e. (_, _, rw e at ((load_is _).0 refl)), λ c. ap (λ o. o.answer) (given c.2))

  pub refusal_leaves : (Succeeds (load_says file R T).answer → ⊥) → AfterRefusal R T (load_says file R T).word (load_says file R T).tables
  refusal_leaves = by case
    where
      by : {o : Outcome} → LoadCase file R T o → (Succeeds o.answer → ⊥) → AfterRefusal R T o.word o.tables
      by (LoadCase.head_refused f) d = AfterRefusal.unchanged
      by (LoadCase.on_short_room f r) d = AfterRefusal.unchanged
      by (LoadCase.on_arrows_refused f h t v) d = AfterRefusal.zeroed h t
      by (LoadCase.accepted {m = m} f h t v) d = absurd (d (m, refl))

-- ── In the word's part of the rooms ────────────────────────────────────────

-- the parts of longer rooms that the code lends, and what it gives back
module _ (file R T : List ℕ) {m i : ℕ} (shown : shown_front file ≡ letters m i) (fits : m ≤ length R) (enough : room m ≤ length T) where
  there : LettersIn file m i
  there = (either_letters file shown).0

  lent : length (take m R) ≡ m
  lent = length-take-le m R fits

  pub lent-sized : ((i + length (take m R) ≤ length file) × (length (take (room m) T) ≡ 6 * (length (take m R) + 1)))
      × ((1 ≤ length (take m R)) × (length (take m R) < 65535))
  lent-sized =
      let some : 1 ≤ m = omega (arith, saved-some, there.least) in
      rw lent ((there.inside, length-take-le (room m) T enough), (some, omega (arith, there.most, words_fit)))

  pub given_back : (r : Result ℕ Refusal) {R' T' : List ℕ}
      → loaded_as r R' T' ≡ judged_at file i (length (take m R))
      → loaded_as r (R' ++ drop m R) (T' ++ drop (room m) T) ≡ load_says file R T
  given_back r e = ap (put file R T m) (rw lent at e) ∙ sym (says-judged file R T m i shown fits enough)

-- ── What a success leaves ──────────────────────────────────────────────────

-- a word of m letters stands at the start of R, and its table at the start of T
pub record Standing (m : ℕ) (R T : List ℕ) : Type 0 where
  pub least : 1 ≤ m
  pub most : m ≤ longest_word
  pub inside : m ≤ length R
  pub enough : room m ≤ length T
  pub table : take (room m) T ≡ table_of (take m R)

loaded_stands : (file R T : List ℕ) {m : ℕ} {R' T' : List ℕ} → LoadCase file R T (outcome (done m) R' T') → Standing m R' T'
loaded_stands file R T (LoadCase.accepted {m = m} {i = i} f h t v) =
    let I = (either_letters file (shown file R T f h t)).0 in
    let w = part file i m in
    let size : length w ≡ m = letters-size file R T f h t in
    let table-sized : length (table_of w) ≡ room m = table-size w ∙ ap room size in
    record {
      least = omega (arith, saved-some, I.least);
      most = I.most;
      inside = simp (length-append, size) (omega arith);
      enough = simp (length-append, table-sized) (omega arith);
      table = take_at (table_of w) (drop (room m) T) (room m) table-sized ∙ ap table_of (sym (take_at w (drop m R) m size));
    }

pub told-stands : (file R T : List ℕ) {m : ℕ} {R' T' : List ℕ} → loaded_as (Ok m) R' T' ≡ load_says file R T → Standing m R' T'
told-stands file R T told = loaded_stands file R T ((load_is file R T _).0 (sym told))

-- ── One outcome ────────────────────────────────────────────────────────────

-- two outcomes that the promise of load allows are equal
pub load_one : (file R T : List ℕ) (r s : Result ℕ Refusal) (A B C D : List ℕ) → loaded_as r A C ≡ load_says file R T
    → loaded_as s B D ≡ load_says file R T → (r ≡ s) × (A ≡ B) × (C ≡ D)
load_one file R T r s A B C D e f =
    let g : loaded_as r A C ≡ loaded_as s B D = e ∙ sym f in
    (answer_of-one r s (ap (λ o. o.answer) g), ap (λ o. o.word) g, ap (λ o. o.tables) g)
