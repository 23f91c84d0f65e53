-- THE FAILURE ORACLE, the eighth request of 02, sentence by sentence: each is quoted, and under it stands what says just that.
use mathlib.Core.Path.{◌≡◌, refl, sym, ap, ◌∙◌}
use mathlib.Core.Bool.{true, false}
use mathlib.Core.Logic.{◌↔◌, ◌≢◌}
use mathlib.Core.Option.{Option, none, some}
use mathlib.Core.List.{List, [], ◌∷◌, Memᴰ}
use Prim.Native.Nat.{ℕ, zero, suc, ◌+◌, ◌-◌, ◌*◌, ◌≤◌, ◌<◌}
use lib.ListN.{length, take, drop, replicate}
use Rattle.words.specs.Lists.{from}
use Rattle.words.specs.Words.{Letter, Word, Place, letter, part, mirror, same, stands, occurrences}
use Rattle.words.specs.Limits.{longest_word, longest_text}
use Rattle.border.specs.Borders.{longest_border}
use Rattle.oracle.specs.Arrows.{State, Arrow, target, walk, spine, OneEach}
use Rattle.oracle.specs.SuffixRule.{Halt, far}
use Rattle.oracle.proofs.Walks.{walk_step}
use Rattle.backward.specs.Steps.{backward}
use Rattle.backward.proofs.AfterFind.{after_is}
use Rattle.backward.proofs.Theorems.{search-lists-occurrences}
use Rattle.failure.specs.FailureRule.{failure_of, OneFailure, here, further, ask, Asking, leads, path_end, FailureArrows, symbols, ask_in}
use Rattle.failure.specs.FailureRule.{with_failure, with_symbol, repair, after_suffix, failure_rule, failure_walk}
use Rattle.failure.specs.FailureSteps.{FailureReading, read_both, read_window_both, FailureSweep}
use Rattle.failure.specs.FailureSteps.{no_window, failure_windows, failure_steps_with}
use Rattle.failure.specs.FailureSteps.{failure_steps}
use Rattle.failure.proofs.Windows.{both_fails, both_goes, windows-past, windows-one, windows-enough}
use Rattle.failure.proofs.Theorems as Theorems
use Rattle.table.specs.Table.{read_word}
use Rattle.failure_table.specs.FailureTable.{failure_room, failure_table, read_symbol, read_failure}
use Rattle.failure_table.specs.FailureFreedom.{FailureSet, ReadAsFailure}
use Rattle.failure_table.proofs.FailureFreedom.{failure_freedom}
use Rattle.answers.specs.Answers.{done, refused}
use Rattle.marks.specs.Build.{Outcome}
use Rattle.failure_entries.specs.FailureBuild.{failure_build_says}
use Rattle.failure_entries.specs.FailureSearch.{FailureOutcome, failure_search_says}
use Rattle.failure_entries.specs.Cases.{FailureBuildCase, FailureSearchCase}
use Rattle.failure_entries.proofs.BuildSays as Build
use Rattle.failure_entries.proofs.SearchSays as Search

module _ (p : Word) where
  abbrev m : ℕ
  m = length p

  abbrev symbol : State → Letter → Option State
  symbol = target (symbols p (failure_rule p))

  abbrev fails : State → Option State
  fails = failure_of (failure_rule p).failures

  abbrev asking : Asking
  asking = ask_in p (failure_rule p)

  -- ── 'Add source document 003's algorithm 3: a state may have one failure arrow,' ──

  pub one-failure-arrow : OneFailure (failure_rule p).failures
  one-failure-arrow = Theorems.one-failure p

  -- ── 'taken only when no symbol arrow fits, and it consumes no letter.' ───

  -- a symbol arrow that fits is taken, and no failure arrow
  pub symbol-first : (x y : State) (c : Letter) → symbol x c ≡ some y → asking x c ≡ here x (some y)
  symbol-first = Theorems.symbol-taken p

  -- where none fits, the same letter is asked for in the state to which the failure arrow leads
  pub then_failure : (x z : State) (c : Letter) → symbol x c ≡ none → fails x ≡ some z → asking x c ≡ further (asking z c)
  then_failure = Theorems.failure-taken p

  pub else_nowhere : (x : State) (c : Letter) → symbol x c ≡ none → fails x ≡ none → asking x c ≡ here x none
  else_nowhere = Theorems.neither-taken p

  -- ── 'Walk pi..pm to state j by both kinds; j' ends the failure path from j.' ──

  -- at first there is the spine alone; then the suffixes behind 1 to m - 1 letters, p2..pm to pm, have their turn
  pub spine-first : after_suffix p 0 ≡ record { extra = []; failures = [] }
  unfolding after_suffix
  spine-first = refl

  pub every_suffix : failure_rule p ≡ after_suffix p (m - 1)
  unfolding failure_rule
  every_suffix = refl

  -- the one behind i + 1 letters, over the arrows added for those before
  module _ (i : ℕ) where
    abbrev A : FailureArrows
    A = after_suffix p i

    abbrev halt : Halt
    halt = far (leads (ask_in p A)) 0 (suc i) (drop (suc i) p)

    abbrev j : State
    j = halt.state

    abbrev j' : State
    j' = path_end (failure_of A.failures) m j

    abbrev k : ℕ
    k = halt.up_to

    -- ── 'If k is not m: when k is above j', add failure j' to k, else symbol p(k+1) from j' to k+1.' ──

    pub nothing_to_add : k ≡ m → after_suffix p (suc i) ≡ A
    nothing_to_add = Theorems.whole-suffix p i

    pub add-failure : k ≢ m → j' < k → after_suffix p (suc i) ≡ with_failure j' k A
    add-failure = Theorems.failure-added p i

    pub else_symbol : k ≢ m → k ≤ j' → after_suffix p (suc i) ≡ with_symbol p j' k A
    else_symbol = Theorems.symbol-added p i

  -- ── 'Promise: every factor is walked,' ───────────────────────────────────

  pub factors_walked : (i n : ℕ) → i + n ≤ m → (y : State) × ((failure_walk asking 0 (part p i n)).to ≡ some y)
  factors_walked = Theorems.factor_counted p

  -- ── 'failure paths always end,' ──────────────────────────────────────────

  -- every failure arrow climbs, to a state below m, so that a path of more than m arrows there is not
  pub failures-climb : (x z : State) → fails x ≡ some z → (x < z) × (z < m)
  failures-climb = Theorems.failures-climb p

  -- and the state that ends it has none
  pub paths-end : (x : State) → fails (path_end fails m x) ≡ none
  paths-end = Theorems.failure-paths-end p

  -- ── 'm to 2m-1 arrows in all.' ───────────────────────────────────────────

  abbrev in_all : ℕ
  in_all = length (symbols p (failure_rule p)) + length (failure_rule p).failures

  pub m_to_2m_1 : 1 ≤ m → (m ≤ in_all) × (in_all ≤ 2 * m - 1)
  m_to_2m_1 h = (Theorems.arrows_least p, Theorems.arrows_most p h)

  -- one symbol arrow at most leaves a state on a letter
  pub one_symbol_each : OneEach (symbols p (failure_rule p))
  one_symbol_each = Theorems.one_symbol p

  -- beside the spine they lead to their own state or to a lower one
  pub extra_symbols_fall : (a : Arrow) → Memᴰ a (failure_rule p).extra → a.to ≤ a.source
  extra_symbols_fall = Theorems.extra-falls p

-- ── 'It may have symbol cycles, so reading m letters isn't a find by itself:' ──

-- abadbcaabdbaba, the shortest word that is known for it, and its mirror
abbrev cycling : Word
cycling = 97 ∷ 98 ∷ 97 ∷ 100 ∷ 98 ∷ 99 ∷ 97 ∷ 97 ∷ 98 ∷ 100 ∷ 98 ∷ 97 ∷ 98 ∷ 97 ∷ []

abbrev mirrored : Word
mirrored = 97 ∷ 98 ∷ 97 ∷ 98 ∷ 100 ∷ 98 ∷ 97 ∷ 97 ∷ 99 ∷ 98 ∷ 100 ∷ 97 ∷ 98 ∷ 97 ∷ []

-- abbbbbbbabdbaa
abbrev unlike : Word
unlike = 97 ∷ 98 ∷ 98 ∷ 98 ∷ 98 ∷ 98 ∷ 98 ∷ 98 ∷ 97 ∷ 98 ∷ 100 ∷ 98 ∷ 97 ∷ 97 ∷ []

abbrev cycles : State → Letter → Option State
cycles = target (symbols cycling (failure_rule cycling))

-- its symbol arrow from 13 on b leads to 13
pub symbol_cycle_lem : cycles 13 98 ≡ some 13
unfolding from target spine far failure_of ask path_end ask_in repair after_suffix failure_rule
symbol_cycle_lem = refl

-- so any number of b's is walked from there
pub round_and_round : (n : ℕ) → walk cycles 13 (replicate n 98) ≡ some 13
unfolding walk
round_and_round zero = refl
round_and_round (suc n) = walk_step cycles 98 (replicate n 98) 13 13 symbol_cycle_lem ∙ round_and_round n

-- and where it is the mirrored word, a text as long as the word is read whole that is another one
pub read_whole_no_find : ((read_window_both (ask_in cycling (failure_rule cycling)) mirrored unlike 0).failed ≡ none)
    × (mirror mirrored ≡ cycling) × (length unlike ≡ length mirrored) × (stands mirrored unlike 0 ≡ false)
unfolding from same stands target spine far failure_of ask path_end ask_in repair after_suffix failure_rule read_both
read_whole_no_find = (refl, refl, refl, refl)

module _ (w t : Word) where
  abbrev reading : Asking
  reading = ask_in (mirror w) (failure_rule (mirror w))

  -- ── 'the search with it compares the word, lists what demand 2 lists,' ────

  pub lists_demand_2 : ((failure_steps w t).starts ≡ occurrences w t) × ((failure_steps w t).starts ≡ (backward w t).starts)
  lists_demand_2 = (Theorems.search-lists w t, Theorems.search-lists w t ∙ sym (search-lists-occurrences w t))

  -- ── 'and moves one place after m letters without a find, else as demand 2 does.' ──

  -- the windows from place 0 on; k bounds how many there are, and any bound that is enough says the same
  pub from_the_start : failure_steps w t ≡ failure_windows reading w t (suc (length t)) 0
  unfolding failure_steps failure_steps_with
  from_the_start = refl

  pub any_bound : (k k' : ℕ) (s : Place) → length t < k + s → length t < k' + s
      → failure_windows reading w t k s ≡ failure_windows reading w t k' s
  any_bound = windows-enough reading w t

  -- one that ends behind the text is none
  pub past_the_text : (k : ℕ) (s : Place) → length t < s + length w → failure_windows reading w t k s ≡ no_window
  past_the_text = windows-past reading w t

  -- the window at s, within the text
  module _ (s : Place) (k : ℕ) (inside : s + length w ≤ length t) where
    abbrev read : FailureReading
    read = read_window_both reading w t s

    -- what the windows from s on say: this one's counts, a list, and the windows from s' on
    abbrev and_then : (List Place → List Place) → Place → FailureSweep
    and_then list s' =
        let later = failure_windows reading w t k s' in
        record {
          starts = list later.starts;
          letters = read.letters + later.letters;
          failures = read.failures + later.failures;
        }

    pub moves_after_a_find : 1 ≤ length w → read.failed ≡ none → stands w t s ≡ true
        → failure_windows reading w t (suc k) s ≡ and_then (λ l. s ∷ l) (s + (length w - longest_border w))
    moves_after_a_find h e d = rw (e, d, after_is w h) at (windows-one reading w t k s inside)

    pub moves_one_place : read.failed ≡ none → stands w t s ≡ false
        → failure_windows reading w t (suc k) s ≡ and_then (λ l. l) (s + 1)
    moves_one_place e d = rw (e, d) at (windows-one reading w t k s inside)

    pub moves_behind : (f : Place) → read.failed ≡ some f → failure_windows reading w t (suc k) s ≡ and_then (λ l. l) (f + 1)
    moves_behind f e = rw e at (windows-one reading w t k s inside)

  -- ── 'It reports two counts, letters read and failure arrows taken, comparisons left out.' ──

  -- a letter that leads on: it counts one, and the failure arrows taken on it count; a letter that fails just so
  pub letter-counts : (s : Place) (k : ℕ) (x y : State) → leads reading x (letter t (s + k)) ≡ some y
      → let r = read_both reading t s k y in
      ((read_both reading t s (suc k) x).letters ≡ suc r.letters)
      × ((read_both reading t s (suc k) x).failures ≡ (reading x (letter t (s + k))).taken + r.failures)
  letter-counts s k x y e =
      let q = both_goes reading t s k x y e in
      (ap (λ r. r.letters) q, ap (λ r. r.failures) q)

  pub failing-letter-counts : (s : Place) (k : ℕ) (x : State) → leads reading x (letter t (s + k)) ≡ none
      → ((read_both reading t s (suc k) x).letters ≡ 1)
      × ((read_both reading t s (suc k) x).failures ≡ (reading x (letter t (s + k))).taken)
  failing-letter-counts s k x e =
      let q = both_fails reading t s k x e in
      (ap (λ r. r.letters) q, ap (λ r. r.failures) q)

  -- in all at most m (n - m + 1) letters, and none of a text shorter than the word
  pub letters_most : length w ≤ length t → (failure_steps w t).letters ≤ length w * (length t - length w + 1)
  letters_most = Theorems.search_letters_most w t

  -- and at most m failure arrows for each of them
  pub failures_most : (failure_steps w t).failures ≤ length w * (failure_steps w t).letters
  failures_most = Theorems.search_failures_most w t

  pub short_text_unread : length t < length w → failure_steps w t ≡ no_window
  short_text_unread = Theorems.search-short w t

-- ── 'It needs 10(m+1) entries (3); 01's room rules read that size here.' ────

pub ten_rows : (m : ℕ) → failure_room m ≡ 10 * (m + 1)
ten_rows m = refl

-- building: 1, 2, 3 in this order; a refusal changes nothing
module _ (word : Word) (T : List ℕ) where
  abbrev need : ℕ
  need = failure_room (length word)

  pub build_exactly_when : (o : Outcome) → (failure_build_says word T ≡ o) ↔ FailureBuildCase word T o
  build_exactly_when = Build.failure_build_is word T

  pub build_refusal_leaves : {n : ℕ} → (failure_build_says word T).answer ≡ refused n → (failure_build_says word T).tables ≡ T
  build_refusal_leaves = Build.failure_build_refusal_leaves word T

  -- a success answers m; its entries depend on the word alone, the others are kept
  module _ (some-letter : 1 ≤ length word) (few : length word ≤ longest_word) (enough : need ≤ length T) where
    abbrev entries : List ℕ
    entries = take need (failure_build_says word T).tables

    pub build_answers : (failure_build_says word T).answer ≡ done (length word)
    build_answers = ap (λ (o : Outcome). o.answer) ((build_exactly_when _).1 (FailureBuildCase.accepted some-letter few enough))

    pub word_alone_lem : (entries ≡ failure_table word) × (drop need (failure_build_says word T).tables ≡ drop need T)
    word_alone_lem = let L = Build.done-leaves word T some-letter few enough in (L.entries, L.others)

    -- the word and every arrow of either kind is read from them
    pub all_read : (read_word (length word) entries ≡ word)
        × ((x : State) (c : Letter) → read_symbol (length word) entries x c ≡ target (symbols word (failure_rule word)) x c)
        × ((x : State) → read_failure (length word) entries x ≡ failure_of (failure_rule word).failures x)
    all_read = let L = Build.done-leaves word T some-letter few enough in (L.reads_word, L.reads_symbols, L.reads_failures)

-- and the rule by which they are read does not work them out of the word: any such arrows are read from some table
pub any_arrows_read : (p : Word) (A : FailureArrows) → FailureSet p A → (L : List ℕ) × ReadAsFailure p A L
any_arrows_read = failure_freedom

-- searching: 1, 2, 4, 3 in this order; a refusal changes nothing
module _ (word text : Word) (T : List ℕ) (F : List Place) where
  pub search_exactly_when : (o : FailureOutcome) → (failure_search_says word text T F ≡ o) ↔ FailureSearchCase word text T F o
  search_exactly_when = Search.failure_search_is word text T F

  pub search_refusal_leaves : {n : ℕ} → (failure_search_says word text T F).answer ≡ refused n
      → ((failure_search_says word text T F).tables ≡ T) × ((failure_search_says word text T F).finds ≡ F)
  search_refusal_leaves = Search.failure_search_refusal_leaves word text T F

  -- a success answers with demand 2's number of finds and both counts of its steps
  pub search-answers : 1 ≤ length word → length word ≤ longest_word → length text ≤ longest_text → failure_room (length word) ≤ length T
      → (failure_search_says word text T F).answer ≡ done (record {
        count = length (occurrences word text);
        letters = (failure_steps word text).letters;
        failures = (failure_steps word text).failures;
      })
  search-answers h l k s = ap (λ (o : FailureOutcome). o.answer) ((search_exactly_when _).1 (FailureSearchCase.accepted h l k s))
