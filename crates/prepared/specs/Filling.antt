-- HOW IT IS FILLED: what each step leaves. Nothing here is of interest once all is prepared.
--
--   Zeros n l           l has n entries, all zero
--   Empty D             D has 16,384 entries, and none tells an arrow
--   Apart C k e         columns of k entries that end before e; a letter whose column is not at 0 shares no entry of it
--   Told C D x f        the entries for state x tell the arrows f
--   Put .. r            D' is D with the arrow from x to y in it, where r is Ok
--   PutState .. r       D' is D with all arrows of x in it, where r is Ok and D has none of x
--   Copied C D F n      of so many letters, F has what the first entry of the column tells, a state below the entry that tells no arrow
--   Marked P c d P'     P' is P with the flag for d behind c, if d is a byte
--   MarkedState ..      P' is P with the flags behind c for all letters on which an arrow leaves x
use Rattle.std.specs.Prelude.{◌≡◌, ◌≢◌, ⊤, cond, Result, IsOk, List, ℕ, ◌+◌, ◌≤◌, ◌<◌, length, eqb, Bool, true, false}
use Rattle.std.specs.Option.{ForSome}
use Rattle.std.proofs.Math.Option.{Option, none, some}
use Rattle.words.specs.Lists.{at}
use Rattle.words.specs.Words.{Letter}
use Rattle.oracle.specs.Arrows.{State}
use Rattle.table.specs.Table.{read_arrow}
use Rattle.words.specs.Answers.{MaybeState, arrow_to}
use Rattle.prepared.specs.Prepared.{told, leads, spot, is_set}
use Rattle.prepared.specs.declared.NoColumn.{NoColumn}

pub record Zeros (n : ℕ) (l : List ℕ) : Type 0 where
  pub size : length l ≡ n
  pub zeros : (i : ℕ) → at l i ≡ 0

pub record Empty (D : List ℕ) : Type 0 where
  pub size : length D ≡ 16384
  pub untold : (i : ℕ) → i < 16384 → at D i ≡ 65535

pub record Apart (C : List ℕ) (k e : ℕ) : Type 0 where
  pub size : length C ≡ 256
  pub inside : (c : Letter) → c < 256 → at C c + k ≤ e
  pub apart : (c d : Letter) → c < 256 → d < 256 → c ≢ d → at C c ≢ 0 → (x y : State) → x < k → y < k → at C c + x ≢ at C d + y

abbrev pub Told : List ℕ → List ℕ → State → (Letter → Option State) → Type 0
Told C D x f = (c : Letter) → c < 256 → told (at D (at C c + x)) ≡ f c

-- the entries for the other states stay
abbrev pub OthersKept : List ℕ → ℕ → List ℕ → State → List ℕ → Type 0
OthersKept C k D x D' = (y : State) → y < k → y ≢ x → (c : Letter) → c < 256 → at D' (at C c + y) ≡ at D (at C c + y)

-- whether an arrow could be put
abbrev pub Outcome : Type 0
Outcome = Result ⊤ NoColumn

pub record Put (L C : List ℕ) (k : ℕ) (D : List ℕ) (x y : State) (D' : List ℕ) (r : Outcome) : Type 0 where
  pub size : length D' ≡ length D
  pub others : OthersKept C k D x D'
  pub over : IsOk r → Told C D' x (λ c. cond (eqb (at L y) c) (some y) (told (at D (at C c + x))))

pub record PutState (L : List ℕ) (m : ℕ) (C : List ℕ) (k : ℕ) (D : List ℕ) (x : State) (D' : List ℕ) (r : Outcome) : Type 0 where
  pub size : length D' ≡ length D
  pub others : OthersKept C k D x D'
  pub arrows : IsOk r → Told C D x (λ _. none) → Told C D' x (read_arrow m L x)

pub record Copied (C D : List ℕ) (F : List MaybeState) (n : ℕ) : Type 0 where
  pub size : length F ≡ 256
  pub same : (c : Letter) → c < n → leads F c ≡ arrow_to (told (at D (at C c)))
  pub small : (c : Letter) → c < n → ForSome (leads F c) (λ x. x.0 < 65535)

-- a flag that is set stays set
abbrev pub FlagsKept : List Bool → List Bool → Type 0
FlagsKept P P' = (i : ℕ) → is_set P' i ≡ false → is_set P i ≡ false

pub record Marked (P : List Bool) (c d : Letter) (P' : List Bool) : Type 0 where
  pub size : length P' ≡ length P
  pub kept : FlagsKept P P'
  pub set : d < 256 → is_set P' (spot c d) ≡ true

pub record MarkedState (L : List ℕ) (m : ℕ) (x : State) (P : List Bool) (c : Letter) (P' : List Bool) : Type 0 where
  pub size : length P' ≡ length P
  pub kept : FlagsKept P P'
  pub clear : (d : Letter) → d < 256 → is_set P' (spot c d) ≡ false → read_arrow m L x d ≡ none
