-- SUFFIX BY SUFFIX, as code walks them over the table. `Stage`, of the definitions, holds before each suffix: the table is that of the
-- arrows added so far. `Walking` holds before each letter of one: the suffix halts where the walk from here does. That is at the word's
-- end, to which the spine leads once the walk has met it, and no arrow is added; or at a letter that is lacking, and the arrow that is
-- written is the one that the rule adds.
use mathlib.Core.Path.{◌≡◌, refl, sym, ap, ◌∙◌}
use mathlib.Core.Bool.{cond}
use mathlib.Core.Logic.{by_cases}
use mathlib.Core.Option.{none, some}
use mathlib.Core.List.{List}
use Prim.Native.Nat.{ℕ, zero, suc, ◌+◌, ◌-◌, ◌%◌, ◌≤◌, ◌<◌}
use native.Mathlib.Nat.{le_refl, mod-eq_of_lt}
use native.Mathlib.Decide.{dec_lt}
use native.Mathlib.Omega.{arith}
use lib.ListN.{length, drop}
use lib.Seq.{drop-cons, drop-length}
use lib.Dec.{ltb}
use borrow.Author.Tests.{eq-eqb, ne_eqb, lt-ltb, le-ltb}
use Rattle.words.specs.Lists.{at}
use Rattle.words.specs.Words.{Letter, Word, letter}
use Rattle.words.specs.declared.State.{State as Stated}
use Rattle.std.specs.Prelude.{Some, None}
use Rattle.words.proofs.Answers.{arrow-told, arrow-untold}
use Rattle.oracle.specs.Arrows.{State, Delta}
use Rattle.oracle.specs.SuffixRule.{Halt, far}
use Rattle.failure.specs.FailureRule.{path_end, FailureArrows, ask_in, with_failure, with_symbol, repair, after_suffix, failure_rule}
use Rattle.failure.proofs.Paths.{ask-says, stuck-path}
use Rattle.failure.proofs.Added.{symbol_to, failure_to, both_to, OneByOne, added-climbs, added-count}
use Rattle.failure.proofs.Added.{stuck-state, both_stuck, both_state, both_spine}
use Rattle.failure.proofs.Rule.{suffixes_walked}
use Rattle.table.specs.Table.{read_word}
use Rattle.failure_table.specs.declared.Answered.{Answered}
use Rattle.failure_table.specs.FailureTable.{failure_room, failure_table_from, failure_table, read_ask}
use Rattle.failure_table.specs.FailureFormed.{FailureFormed}
use Rattle.failure_table.specs.FailureFreedom.{FailureSet}
use Rattle.failure_table.specs.Building.{answered_as, word_in, with_arrow, slots_with, Stage, AlongSpine}
use Rattle.failure_table.proofs.LaidOut.{LaidOut, laid_word}
use Rattle.failure_table.proofs.ReadBack.{laid, added-set, laid-formed, steps-read}
use Rattle.failure_table.proofs.Repairs.{with_failure_lem, with_symbol_lem}

-- ── Walks as far as arrows go ──────────────────────────────────────────────

module _ (δ : Delta) (p : Word) where
  -- where the walk of the letters behind the first k halts
  abbrev far_from : State → ℕ → Halt
  far_from x k = far δ x k (drop k p)

  -- at the word's end it halts
  far-ends : (x : State) (k : ℕ) → k ≡ length p → far_from x k ≡ record { state = x; up_to = k }
  unfolding far
  far-ends x k e = rw (e, drop-length p, far)

  -- without an arrow too
  far_stops : (x : State) (k : ℕ) → k < length p → δ x (letter p k) ≡ none → far_from x k ≡ record { state = x; up_to = k }
  unfolding far
  far_stops x k h e = rw (drop-cons p k 0 h, far, e)

  -- along an arrow it goes on
  far-goes : (x y : State) (k : ℕ) → k < length p → δ x (letter p k) ≡ some y → far_from x k ≡ far_from y (suc k)
  unfolding far
  far-goes x y k h e = rw (drop-cons p k 0 h, far, e)

  -- from the state that has spelled as many letters, it goes along the spine
  far-spine : ((k : State) → k < length p → δ k (letter p k) ≡ some (suc k)) → (n k : ℕ) → k + n ≡ length p
      → far_from k k ≡ record { state = length p; up_to = length p }
  far-spine f zero k e = let q : k ≡ length p = omega arith in far-ends k k q ∙ rw q
  far-spine f (suc n) k e = far-goes k (suc k) k (omega arith) (f k (omega arith)) ∙ far-spine f n (suc k) (omega arith)

-- where a letter is stuck, the state that was asked last ends the failure path
stuck-last : (p : Word) {A : FailureArrows} {i : ℕ} → OneByOne p A i → (x : State) (c : Letter) → (ask_in p A x c).to ≡ none
    → (ask_in p A x c).last ≡ path_end (failure_to A) (length p) x
unfolding ask_in
stuck-last p {A} G x c e =
    let C = added-climbs p G in
    stuck-path C (symbol_to p A) (length p) (omega arith) ((ask-says C (symbol_to p A) (length p) x c (omega arith)).stuck e)

-- ── One suffix ─────────────────────────────────────────────────────────────

-- where letters lead after suffix i
abbrev leads_after : Word → ℕ → Delta
leads_after p i = both_to p (after_suffix p i)

-- suffix i + 1 halts where the walk from x with k letters spelled does
pub record Walking (p : Word) (i k : ℕ) (x : State) : Type 0 where
  pub within : k ≤ length p
  pub state : x ≤ length p
  pub same : far_from (leads_after p i) p 0 (suc i) ≡ far_from (leads_after p i) p x k

module _ {p : Word} {m : ℕ} {L : List ℕ} {u i : ℕ} (S : Stage p m L u i) where
  abbrev A : FailureArrows
  A = after_suffix p i

  abbrev δ : Delta
  δ = leads_after p i

  one_by_one : OneByOne p A i
  one_by_one = (suffixes_walked p i (omega arith)).one_by_one

  arrow-set : FailureSet p A
  arrow-set = added-set p one_by_one (omega arith)

  laid-here : LaidOut p A L
  laid-here = rw S.table (laid p arrow-set)

  -- the table is formed
  pub stage_formed : FailureFormed L m
  stage_formed = rw (S.table, ← S.long) (laid-formed p arrow-set (omega arith))

  -- it has ten rows
  pub stage_size : length L ≡ failure_room m
  stage_size = rw (← S.long) laid-here.size

  -- and a slot that is free
  pub stage_slots : u + 1 ≤ m
  stage_slots = omega (arith, added-count p one_by_one)

  -- letter k as code reads it
  abbrev byte_of : ℕ → Letter
  byte_of k = at L (k + 1) % 256

  -- its letters are the word's
  stage_entry : (k : ℕ) → k < m → at L (k + 1) ≡ letter p k
  stage_entry k h = let e : k + 1 ≡ suc k = omega arith in rw e (laid-here.letters (suc k) (omega arith))

  stage_letter : (k : ℕ) → k < m → byte_of k ≡ letter p k
  stage_letter k h = rw (stage_entry k h) (mod-eq_of_lt (S.letters k))

  -- what is to be shown of the table behind suffix i + 1
  stage_next : (A' : FailureArrows) {L' : List ℕ} {u' : ℕ} → i + 1 < m → after_suffix p (suc i) ≡ A'
      → L' ≡ failure_table_from p A' → u' ≡ length A'.extra → Stage p m L' u' (i + 1)
  stage_next A' l after table slots =
      let one : i + 1 ≡ suc i = omega arith in
      record {
        long = S.long;
        small = S.small;
        letters = S.letters;
        inside = omega arith;
        table = rw (one, after) table;
        slots = rw (one, after) slots;
      }

  -- no letter is read yet
  pub walking_start : Walking p i (i + 1) 0
  walking_start =
      let e : i + 1 ≡ suc i = omega arith in
      record { within = omega arith; state = omega arith; same = rw e refl }

  -- ── Along the spine ──────────────────────────────────────────────────────

  walking_on : {k : ℕ} {x : State} → Walking p i k x → (n : ℕ) → x + n ≤ m → k + n < m
      → ((j : ℕ) → j < n → at L (x + 1 + j) ≡ at L (k + 1 + j)) → Walking p i (k + n) (x + n)
  walking_on {k} {x} W zero h l alike =
      let c : k + 0 ≡ k = omega arith in
      let d : x + 0 ≡ x = omega arith in
      rw (c, d) W
  walking_on {k} {x} W (suc n) h l alike =
      let before = walking_on W n (omega arith) (omega arith) (λ j g. alike j (omega arith)) in
      let a : x + 1 + n ≡ x + n + 1 = omega arith in
      let b : k + 1 + n ≡ k + n + 1 = omega arith in
      let one : letter p (x + n) ≡ letter p (k + n) =
      sym (stage_entry (x + n) (omega arith)) ∙ (rw (a, b) at (alike n (omega arith))) ∙ stage_entry (k + n) (omega arith) in
      let there = rw one at (both_spine p one_by_one (x + n) (omega arith)) in
      let c : k + suc n ≡ suc (k + n) = omega arith in
      let d : x + suc n ≡ suc (x + n) = omega arith in
      record {
        within = omega arith;
        state = omega arith;
        same = rw (c, d) (before.same ∙ far-goes δ p (x + n) (suc (x + n)) (k + n) (omega arith) there);
      }

  -- the letters that the spine has are walked along it
  pub walking_along : {k n : ℕ} {x : State} → Walking p i k x → AlongSpine L m x k n → Walking p i (k + n) (x + n)
  walking_along W a = walking_on W _ a.state a.inside a.alike

  -- ── A letter more ────────────────────────────────────────────────────────

  module _ {k : ℕ} {x : State} (W : Walking p i k x) (more : k < m) (r : Answered) (says : r
      ≡ answered_as (read_ask m L x (byte_of k))) where
    -- what code was answered is what the arrows say
    said : r ≡ answered_as (ask_in p A x (letter p k))
    said = says ∙ rw (stage_letter k more, S.table, ← S.long, steps-read p arrow-set)

    -- the letter leads on
    pub walking_goes : (y : Stated) → r.leads ≡ Some y → Walking p i (k + 1) y.0
    walking_goes y e =
        let there : δ x (letter p k) ≡ some y.0 = arrow-told _ r.leads y (ap (λ (s : Answered). s.leads) said) e in
        let one : k + 1 ≡ suc k = omega arith in
        record {
          within = omega arith;
          state = both_state p one_by_one x (letter p k) y.0 there;
          same = rw one (W.same ∙ far-goes δ p x y.0 k (omega arith) there);
        }

    -- it leads nowhere, and its arrow is added at j
    module _ (missing : r.leads ≡ None) where
      lacks : δ x (letter p k) ≡ none
      lacks = arrow-untold _ r.leads (ap (λ (s : Answered). s.leads) said) missing

      abbrev j : State
      j = path_end (failure_to A) (length p) x

      last_is : r.last.0 ≡ j
      last_is = ap (λ (s : Answered). s.last.0) said ∙ stuck-last p one_by_one x (letter p k) lacks

      -- the state that was asked last is a state
      pub last-state : r.last.0 ≤ m
      last-state =
          let state = stuck-state p (added-climbs p one_by_one) W.state (both_stuck p one_by_one x (letter p k) lacks) in
          omega (arith, last_is, state)

      after_is : after_suffix p (suc i) ≡ cond (ltb j k) (with_failure j k A) (with_symbol p j k A)
      unfolding after_suffix repair
      after_is =
          let inside : k < length p = omega arith in
          rw (W.same, far_stops δ p x k inside lacks, ne_eqb k (length p) (omega arith))

      -- the arrow that is written is the one that the rule adds
      pub walking_lacks : (L' : List ℕ) (u' : ℕ) → i + 1 < m → u' ≡ slots_with u r.last.0 k → L' ≡ with_arrow L (m + 1) u r.last.0 k
          → Stage p m L' u' (i + 1)
      walking_lacks L' u' h slots written =
          let size : length p + 1 ≡ m + 1 = omega arith in
          let one : k + 1 ≡ suc k = omega arith in
          by_cases (dec_lt j k)
          (λ l.
          let test = lt-ltb j k l in
          let table = with_failure_lem p A j k (omega arith) in
          stage_next (with_failure j k A) h (after_is ∙ rw test)
          (written ∙ rw (last_is, test, S.table, ← size) (sym table))
          (slots ∙ rw (last_is, test) S.slots))
          (λ l.
          let test = le-ltb j k (omega arith) in
          stage_next (with_symbol p j k A) h (after_is ∙ rw test)
          (written ∙ rw (last_is, test, S.table, ← size, S.slots, one) (sym (with_symbol_lem p A j k)))
          (slots ∙ rw (last_is, test, S.slots) (omega arith)))

  -- the suffix is walked to its end
  pub walking_done : {k : ℕ} {x : State} → Walking p i k x → m ≤ k → i + 1 < m → Stage p m L u (i + 1)
  unfolding after_suffix repair
  walking_done {k} {x} W h l =
      let end : k ≡ length p = omega arith in
      stage_next A l (rw (W.same, far-ends δ p x k end, eq-eqb k (length p) end)) S.table S.slots

  -- the walk has come to the spine
  pub walking_spine : {k : ℕ} {x : State} → Walking p i k x → k < m → x ≡ k → i + 1 < m → Stage p m L u (i + 1)
  walking_spine {k} {x} W h e l =
      let m' = length p in
      let q : k + (m' - k) ≡ m' = omega arith in
      let along = far-spine δ p (both_spine p one_by_one) (m' - k) k q in
      let ends = W.same ∙ rw e along ∙ sym (far-ends δ p m' m' refl) in
      walking_done (record { within = le_refl m'; state = le_refl m'; same = ends }) (omega arith) l

  -- ── All suffixes ─────────────────────────────────────────────────────────

  -- the word stands in row 0 all the time
  word_kept : word_in L m ≡ p
  unfolding read_word
  word_kept = rw S.long at (laid_word laid-here)

  -- so code may go by what it reads there
  pub stage_own : Stage (word_in L m) m L u i
  stage_own = rw word_kept S

  -- and what it then says of the next suffix is said of p
  pub stage_on : {L' : List ℕ} {u' : ℕ} → Stage (word_in L m) m L' u' (i + 1) → Stage p m L' u' (i + 1)
  stage_on T = rw word_kept at T

  -- behind the last suffix the table is that of the word
  pub stage_end : m ≤ i + 1 → L ≡ failure_table p
  unfolding failure_table failure_rule
  stage_end h = let e : length p - 1 ≡ i = omega arith in rw e S.table
