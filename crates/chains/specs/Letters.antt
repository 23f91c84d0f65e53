-- ADDING LETTERS to a table of chains: what one climb and one letter do to it, and what all letters make of it. Nothing here is of interest
-- once the table is laid out.
--
--   Ready L n t u k     a climb from k can go all its way: its states have chains, and slots enough are free
--   Climbing ..         it has come to k, which has no arrow on the letter
--   Climbs ..           what a climb does, a case for each way in which it goes on or ends
--   Resting ..          what a climb has done that has not ended: it can go on, and where it ends from there it ends from k
--   ClimbSays .. r      what the answer r says of a climb
--   Begun L n t u       letter t + 1 can be added
--   Added ..            what adding it does, a case for state 0 and one for the others
--   FirstState a t c r  r is the first of the states 1 to t that has the letter c, or none where none has
--   Firsts a t F        F has the first state of each letter
--   Blank L m           a word of m letters stands in row 0, and nothing elsewhere
--   ChainsOf B m L u    L has the chains and supplies of the word that stands in B, in u slots
use Rattle.std.specs.Prelude.{◌≡◌, ◌≢◌, List, reverse, ℕ, suc, ◌+◌, ◌*◌, ◌-◌, ◌≤◌, ◌<◌, length, set, get_or}
use Rattle.std.proofs.Math.Option.{some}
use Rattle.words.specs.Lists.{at}
use Rattle.words.specs.Words.{Letter, Word, part}
use Rattle.words.specs.Answers.{MaybeState}
use Rattle.std.specs.Prelude.{Some, None}
use Rattle.oracle.specs.Arrows.{State}
use Rattle.oracle.specs.SuffixPath.{SuffixPath}
use Rattle.oracle.specs.SuffixRule.{oracle}
use Rattle.oracle.specs.Supply.{supply}
use Rattle.oracle.specs.FileOrder.{extra_targets, targets_before}
use Rattle.chains.specs.Chains.{Chain, Chained, Looks, pushed}
use Rattle.words.specs.declared.State.{State as Stated}
use Rattle.std.proofs.Common.{ControlFlow, Break, Continue}

pub record Ready (L : List ℕ) (n t u : ℕ) (k : State) : Type 0 where
  pub chained : Chained L n
  pub inside : suc t < n
  pub below : k < t
  pub down : (x : State) → x ≤ t → at L (n + x) ≤ x - 1
  pub heads : (x : State) → x < n → at L (2 * n + x) ≤ u
  pub path : List State
  pub suffix : SuffixPath (λ x. at L (n + x)) k path
  pub free : u + suc (length path) ≤ t

-- the letter is c, and z the arrow of state 0 on it
pub record Climbing (n t : ℕ) (c : Letter) (z : MaybeState) (L : List ℕ) (u : ℕ) (k : State) : Type 0 where
  pub ready : Ready L n t u k
  pub zero : Looks L n t 0 c z
  pub missing : Looks L n t k c None

-- from L with u slots used, at k, to L' with u' slots used, the new state's supply being y
pub data Climbs (n t : ℕ) (c : Letter) : List ℕ → ℕ → State → List ℕ → ℕ → State → Type 0 where
  finds : {L L' : List ℕ} {u u' : ℕ} {k y : State} → Looks L n t k c (Some (record { 0 = y })) → L' ≡ L → u' ≡ u
      → Climbs n t c L u k L' u' y
  runs_out : {L L' : List ℕ} {u u' : ℕ} {k y : State} → k ≡ 0 → y ≡ 0 → Looks L n t k c None
      → L' ≡ pushed L n u k (suc t) → u' ≡ suc u → Climbs n t c L u k L' u' y
  goes_on : {L L' : List ℕ} {u u' : ℕ} {k y : State} → 0 < k → Looks L n t k c None
      → Climbs n t c (pushed L n u k (suc t)) (suc u) (at L (n + k)) L' u' y → Climbs n t c L u k L' u' y

-- from L with u slots used, at k, to L₁ with u₁ slots used, at k₁
pub record Resting (n t : ℕ) (c : Letter) (z : MaybeState) (L : List ℕ) (u : ℕ) (k : State) (L₁ : List ℕ) (u₁ : ℕ) (k₁ : State)
    : Type 0 where
  pub there : Climbing n t c z L₁ u₁ k₁
  pub onward : {L' : List ℕ} {u' : ℕ} {y : State} → Climbs n t c L₁ u₁ k₁ L' u' y → Climbs n t c L u k L' u' y

-- a rest is at a smaller state
abbrev pub ClimbSays : ℕ → ℕ → Letter → MaybeState → List ℕ → ℕ → State → List ℕ → ℕ → ControlFlow Stated Stated → Type 0
ClimbSays n t c z L u k L' u' (Break y) = Climbs n t c L u k L' u' y.0
ClimbSays n t c z L u k L' u' (Continue k') = (k'.0 < k) × Resting n t c z L u k L' u' k'.0

pub record Begun (L : List ℕ) (n t u : ℕ) : Type 0 where
  pub chained : Chained L n
  pub inside : suc t < n
  pub down : (x : State) → x ≤ t → at L (n + x) ≤ x - 1
  pub heads : (x : State) → x < n → at L (2 * n + x) ≤ u
  pub letter : at L (suc t) < 256
  pub path : List State
  pub suffix : SuffixPath (λ x. at L (n + x)) t path
  pub free : u + length path ≤ t

pub data Added (n t : ℕ) (L : List ℕ) (u : ℕ) (L' : List ℕ) (u' : ℕ) : Type 0 where
  first-letter : t ≡ 0 → L' ≡ L → u' ≡ u → Added n t L u L' u'
  later_letter : (L₁ : List ℕ) (y : State) → 0 < t → Climbs n t (at L (suc t)) L u (at L (n + t)) L₁ u' y
      → L' ≡ set L₁ (n + suc t) y → Added n t L u L' u'

pub data FirstState (a : State → Letter) (t : ℕ) (c : Letter) (r : MaybeState) : Type 0 where
  unseen : r ≡ None → ((x : State) → 0 < x → x ≤ t → a x ≢ c) → FirstState a t c r
  seen : (y : State) → r ≡ Some (record { 0 = y }) → 0 < y → y ≤ t → a y ≡ c → ((x : State) → 0 < x → x < y → a x ≢ c) → FirstState a t c r

-- what F has for c
abbrev pub first_state : List MaybeState → Letter → MaybeState
first_state F c = get_or F c None

pub record Firsts (a : State → Letter) (t : ℕ) (F : List MaybeState) : Type 0 where
  pub size : length F ≡ 256
  pub says : (c : Letter) → c < 256 → FirstState a t c (first_state F c)

pub record Blank (L : List ℕ) (m : ℕ) : Type 0 where
  pub size : length L ≡ 6 * suc m
  pub corner : at L 0 ≡ 0
  pub letters : (i : ℕ) → i ≤ m → at L i < 256
  pub empty : (i : ℕ) → m < i → at L i ≡ 0

-- the word that stands in row 0
abbrev pub word_in : List ℕ → ℕ → Word
word_in B m = part B 1 m

pub record ChainsOf (B : List ℕ) (m : ℕ) (L : List ℕ) (u : ℕ) : Type 0 where
  pub chained : Chained L (suc m)
  pub slots : u < suc m
  pub heads : (x : State) → x < suc m → at L (2 * suc m + x) ≤ u
  pub letters : (i : ℕ) → i < suc m → at L i ≡ at B i
  pub no_supply : at L (suc m) ≡ 0
  pub supplies : (x : State) → x < m → supply (word_in B m) (suc x) ≡ some (at L (suc m + suc x))
  pub targets : (x : State) → x < suc m
      → Chain L (suc m) (at L (2 * suc m + x)) (reverse (extra_targets (oracle (word_in B m)) (word_in B m) x))
  pub counted : length (targets_before (oracle (word_in B m)) (word_in B m) (suc m)) ≡ u
  pub unlaid : (i : ℕ) → i < suc m → at L (3 * suc m + i) ≡ 0
