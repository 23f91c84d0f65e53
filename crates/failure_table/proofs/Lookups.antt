-- THE READING RULE, CASE BY CASE: what it says of a state's failure arrow, of the slots from one on, and of a state's symbol arrow. Each
-- law unfolds the rule once and decides its tests. The entries that the rule looks at have names here.
use mathlib.Core.Path.{◌≡◌, refl}
use mathlib.Core.Logic.{◌≢◌, by_cases}
use mathlib.Core.Option.{none, some}
use mathlib.Core.List.{List}
use Prim.Native.Nat.{ℕ, zero, suc, ◌+◌, ◌*◌, ◌≤◌, ◌<◌}
use native.Mathlib.Decide.{ℕ_discrete, dec_lt}
use native.Mathlib.Omega.{arith}
use borrow.Author.Tests.{eq-eqb, ne_eqb, lt-ltb, le-ltb, le-leb, lt-leb}
use Rattle.words.specs.Lists.{at}
use Rattle.words.specs.Words.{Letter}
use Rattle.oracle.specs.Arrows.{State}
use Rattle.failure_table.specs.FailureTable.{read_failure, seek, read_symbol}

module _ (m : ℕ) (L : List ℕ) where
  -- where the failure arrow of x leads
  abbrev pub failure_entry : State → ℕ
  failure_entry x = at L (m + 1 + x)

  -- the first slot of x
  abbrev pub first_slot : State → ℕ
  first_slot x = at L (2 * (m + 1) + x)

  -- the slot behind s
  abbrev pub next_slot : ℕ → ℕ
  next_slot s = at L (3 * (m + 1) + s)

  -- the target of slot s
  abbrev pub slot_target : ℕ → State
  slot_target s = at L (4 * (m + 1) + s)

  -- and its letter
  abbrev pub slot_letter : ℕ → Letter
  slot_letter s = at L (slot_target s)

  -- ── Failure arrows ───────────────────────────────────────────────────────

  -- a state whose entry is 0 has no failure arrow
  pub failure-none : (x : State) → x ≤ m → failure_entry x ≡ 0 → read_failure m L x ≡ none
  unfolding read_failure
  failure-none x h e = rw (le-leb x m h, eq-eqb (failure_entry x) 0 e)

  -- any other entry is where it leads
  pub failure-some : (x : State) → x ≤ m → failure_entry x ≢ 0 → read_failure m L x ≡ some (failure_entry x)
  unfolding read_failure
  failure-some x h e = rw (le-leb x m h, ne_eqb (failure_entry x) 0 e)

  -- what is no state has none
  pub failure-far : (x : State) → m < x → read_failure m L x ≡ none
  unfolding read_failure
  failure-far x h = rw (lt-leb x m h)

  -- ── Slots ────────────────────────────────────────────────────────────────

  module _ (c : Letter) where
    -- slot 0 is none, and the others have the letter or have it not
    pub slot_cases : {C : Type 0} (s : ℕ) → (s ≡ 0 → C) → (s ≢ 0 → slot_letter s ≡ c → C) → (s ≢ 0 → slot_letter s ≢ c → C) → C
    slot_cases s ended here later = by_cases (ℕ_discrete s 0) ended (λ f. by_cases (ℕ_discrete (slot_letter s) c) (here f) (later f))

    -- where there is no slot, no arrow is found
    pub seek-none : (g s : ℕ) → s ≡ 0 → seek m L c g s ≡ none
    unfolding seek
    seek-none zero s e = refl
    seek-none (suc g) s e = rw (eq-eqb s 0 e)

    -- a slot with the letter has the arrow
    pub seek-here : (g s : ℕ) → s ≢ 0 → slot_letter s ≡ c → seek m L c (suc g) s ≡ some (slot_target s)
    unfolding seek
    seek-here g s f e = rw (ne_eqb s 0 f, eq-eqb (slot_letter s) c e)

    -- one without it leaves the search to those behind it
    pub seek-later : (g s : ℕ) → s ≢ 0 → slot_letter s ≢ c → seek m L c (suc g) s ≡ seek m L c g (next_slot s)
    unfolding seek
    seek-later g s f e = rw (ne_eqb s 0 f, ne_eqb (slot_letter s) c e)

  -- ── Symbol arrows ────────────────────────────────────────────────────────

  module _ (x : State) (c : Letter) where
    -- the spine has an arrow from x on c
    abbrev pub OnSpine : Type 0
    OnSpine = (x < m) × (at L (x + 1) ≡ c)

    -- it has one or has none
    pub spine_cases : {C : Type 0} → (OnSpine → C) → ((OnSpine → ⊥) → C) → C
    spine_cases on off = by_cases (dec_lt x m)
        (λ l. by_cases (ℕ_discrete (at L (x + 1)) c) (λ e. on (l, e)) (λ e. off (λ r. e r.1)))
        (λ l. off (λ r. l r.0))

    -- where it has one, that is read
    pub symbol-spine : x ≤ m → OnSpine → read_symbol m L x c ≡ some (x + 1)
    unfolding read_symbol
    symbol-spine h r = rw (le-leb x m h, lt-ltb x m r.0, eq-eqb (at L (x + 1)) c r.1)

    -- where it has none, the slots of x say
    pub symbol-slots : x ≤ m → (OnSpine → ⊥) → read_symbol m L x c ≡ seek m L c (suc m) (first_slot x)
    unfolding read_symbol
    symbol-slots h f =
        let bound : m + 1 ≡ suc m = omega arith in
        by_cases (dec_lt x m)
        (λ l. rw (le-leb x m h, lt-ltb x m l, ne_eqb (at L (x + 1)) c (λ e. f (l, e)), bound))
        (λ l. rw (le-leb x m h, le-ltb x m (omega arith), bound))

    -- no arrow leaves what is no state
    pub symbol-far : m < x → read_symbol m L x c ≡ none
    unfolding read_symbol
    symbol-far h = rw (lt-leb x m h)
