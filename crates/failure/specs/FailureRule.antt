-- THE FAILURE RULE: 003, algorithm 3, as 02 restates it. A state may have one failure arrow, which is taken only where no symbol arrow
-- fits, and consumes no letter. As with the suffix rule, 02's i = 2 to m is i = 1 to m - 1 here, and its k is the same number.
--
--   Failure              a failure arrow, from a state to a state
--   Fails                where the failure arrow of a state leads, if it has one
--   failure_of F         the Fails of a list of failure arrows
--   OneFailure F         one failure arrow at most leaves a state
--   Asked                what becomes of one letter: where it leads, the last state that was asked for it, the failure arrows taken
--   Asking               the Asked of a letter in a state
--   ask δ φ g            with the symbol arrows δ and the failure arrows φ, along at most g of these
--   leads σ              where letters lead, by both kinds of arrow
--   path_end φ g x       the end of the failure path from x, of at most g arrows
--   FailureArrows        what the rule adds to the spine: extra symbol arrows and failure arrows, the last one first
--   symbols p A          all symbol arrows: the extra ones and the spine
--   ask_in p A           the Asking of all arrows
--   repair p A h         the arrows A with the one that a walk halted at h lacks
--   after_suffix p i     the arrows added for the suffixes 1 to i
--   failure_rule p       those of all suffixes
--   Walked               where a walk by both kinds ends, if every letter has its arrow, and the failure arrows that it takes
--   failure_walk σ x v   the walk of v from x
--
-- Failure arrows climb and stay below m (a theorem), so no failure path has more than m of them.
--
-- 02, 'Failure oracle'.
use Rattle.std.specs.Prelude.{◌≡◌, cond, List, [], ◌∷◌, ◌++◌, ℕ, zero, suc, ◌+◌, ◌-◌, length, drop, eqb, ltb}
use Rattle.std.proofs.Math.Option.{Option, none, some}
use Rattle.words.specs.Words.{Letter, Word, letter}
use Rattle.oracle.specs.Arrows.{State, Arrow, arrow, Delta, target, spine}
use Rattle.oracle.specs.SuffixRule.{Halt, far}

-- ── Failure arrows ─────────────────────────────────────────────────────────

pub record Failure : Type 0 where
  pub source : State
  pub to : State

abbrev pub failure : State → State → Failure
failure x y = record { source = x; to = y }

abbrev pub Fails : Type 0
Fails = State → Option State

unfoldable pub failure_of : List Failure → Fails
failure_of [] x = none
failure_of (f ∷ F) x = cond (eqb f.source x) (some f.to) (failure_of F x)

unfoldable pub OneFailure : List Failure → Type 0
OneFailure [] = Unit {0}
OneFailure (f ∷ F) = (failure_of F f.source ≡ none) × OneFailure F

-- ── One letter ─────────────────────────────────────────────────────────────

pub record Asked : Type 0 where
  pub to : Option State
  pub last : State
  pub taken : ℕ

abbrev pub Asking : Type 0
Asking = State → Letter → Asked

-- x itself says where the letter leads
abbrev pub here : State → Option State → Asked
here x o = record { to = o; last = x; taken = 0 }

-- a failure arrow is taken before
abbrev pub further : Asked → Asked
further a = record { to = a.to; last = a.last; taken = suc a.taken }

unfoldable pub ask : Delta → Fails → ℕ → Asking
ask δ φ zero x c = here x (δ x c)
ask δ φ (suc g) x c = elim (δ x c) [
  | some y ↦ here x (some y)
  | none ↦ elim (φ x) [ none ↦ here x none | some z ↦ further (ask δ φ g z c) ]
]

abbrev pub leads : Asking → Delta
leads σ x c = (σ x c).to

unfoldable pub path_end : Fails → ℕ → State → State
path_end φ zero x = x
path_end φ (suc g) x = elim (φ x) [ none ↦ x | some z ↦ path_end φ g z ]

-- ── The rule ───────────────────────────────────────────────────────────────

pub record FailureArrows : Type 0 where
  pub extra : List Arrow
  pub failures : List Failure

abbrev pub symbols : Word → FailureArrows → List Arrow
symbols p A = A.extra ++ spine p

unfoldable pub ask_in : Word → FailureArrows → Asking
ask_in p A = ask (target (symbols p A)) (failure_of A.failures) (length p)

-- a failure arrow from x to k; a symbol arrow from x to k + 1 on the letter between k and k + 1
abbrev pub with_failure : State → ℕ → FailureArrows → FailureArrows
with_failure x k A = record { extra = A.extra; failures = failure x k ∷ A.failures }

abbrev pub with_symbol : Word → State → ℕ → FailureArrows → FailureArrows
with_symbol p x k A = record { extra = arrow x (letter p k) (suc k) ∷ A.extra; failures = A.failures }

-- halted with the letters up to k spelled: j ends the failure path from the state of the halt
unfoldable pub repair : Word → FailureArrows → Halt → FailureArrows
repair p A h =
    let k = h.up_to in
    let j = path_end (failure_of A.failures) (length p) h.state in
    cond (eqb k (length p)) A (cond (ltb j k) (with_failure j k A) (with_symbol p j k A))

unfoldable pub after_suffix : Word → ℕ → FailureArrows
after_suffix p zero = record { extra = []; failures = [] }
after_suffix p (suc i) = let A = after_suffix p i in repair p A (far (leads (ask_in p A)) 0 (suc i) (drop (suc i) p))

unfoldable pub failure_rule : Word → FailureArrows
failure_rule p = after_suffix p (length p - 1)

-- ── Walks ──────────────────────────────────────────────────────────────────

pub record Walked : Type 0 where
  pub to : Option State
  pub taken : ℕ

unfoldable pub failure_walk : Asking → State → Word → Walked
failure_walk σ x [] = record { to = some x; taken = 0 }
failure_walk σ x (c ∷ v) =
    let a = σ x c in
    elim a.to [
      | none ↦ record { to = none; taken = a.taken }
      | some y ↦ let r = failure_walk σ y v in record { to = r.to; taken = a.taken + r.taken }
    ]
