-- A WINDOW'S LAST LETTERS, with what is prepared: the last one has no arrow from state 0, or the one before it none from the state reached;
-- or the rest is read from there. For each, what holds before the next window.
use mathlib.Core.Path.{◌≡◌, refl, ap, ◌∙◌}
use mathlib.Core.Option.{none, some}
use mathlib.Core.List.{List}
use Prim.Native.Nat.{ℕ, ◌+◌, ◌-◌, ◌≤◌}
use native.Mathlib.Omega.{arith}
use lib.ListN.{length}
use Rattle.words.specs.Lists.{at}
use Rattle.words.specs.Words.{Word, Place}
use Rattle.oracle.specs.Arrows.{State, Delta}
use Rattle.backward.specs.Steps.{read_down}
use Rattle.search.specs.Answers.{MaybePlace}
use Rattle.std.specs.Prelude.{Some}
use Rattle.search.specs.Answers.{reading_of}
use Rattle.search.proofs.Readings.{StillToRead, all_to_read, rest_read, letter-fails, letter-goes}
use Rattle.search.proofs.SoFar.{SoFar, so_far_miss}

-- the last letter of the window at s, and the one before it
abbrev pub last_letter : Word → Word → Place → ℕ
last_letter w t s = at t (s + length w - 1)

abbrev pub letter_before : Word → Word → Place → ℕ
letter_before w t s = at t (s + length w - 2)

module _ (w t : Word) (s : Place) (δ : Delta) (two : 2 ≤ length w) where
  abbrev c : ℕ
  c = last_letter w t s

  abbrev d : ℕ
  d = letter_before w t s

  last-place : s + (length w - 1) ≡ s + length w - 1
  last-place = omega arith

  next_place : s + (length w - 1 - 1) ≡ s + length w - 2
  next_place = omega arith

  -- the last letter leads to a state
  goes_on : {x : State} → δ 0 c ≡ some x → StillToRead δ t s (length w) 0 (length w - 1) x
  goes_on arrow = letter-goes all_to_read (λ z. omega arith) (ap (λ (i : ℕ). δ 0 (at t i)) last-place ∙ arrow)

  -- the rest answers for the window
  pub rest-says : {x : State} → δ 0 c ≡ some x → {r : MaybePlace} → r ≡ reading_of (read_down δ t s (length w - 1) x)
      → r ≡ reading_of (read_down δ t s (length w) 0)
  rest-says arrow says = rest_read (goes_on arrow) says

  module _ {G₀ G : List ℕ} {count letters : ℕ} (I : SoFar δ w t G₀ G s count letters) (h : s + length w ≤ length t) where
    -- where the window failed, so many letters before its end, the next one starts behind that
    misses_at : {f read : ℕ} → f + read ≡ s + length w → 1 ≤ read → Some (record { 0 = f }) ≡ reading_of (read_down δ t s (length w) 0)
        → SoFar δ w t G₀ G (f + 1) count (letters + read)
    misses_at {f} {read} e one says =
        let letters-read : s + length w - f ≡ read = omega arith in
        rw letters-read at (so_far_miss I h _ says (record { 0 = f }) refl)

    -- the last letter has no arrow
    pub last_misses : δ 0 c ≡ none → SoFar δ w t G₀ G (s + length w) count (letters + 1)
    last_misses none-there =
        let here = ap (λ (i : ℕ). δ 0 (at t i)) last-place ∙ none-there in
        let past : s + (length w - 1) + 1 ≡ s + length w = omega arith in
        rw past at (misses_at {read = 1} (omega arith) (omega arith) (letter-fails (all_to_read {m = length w}) (λ z. omega arith) here))

    -- the one before it has none
    pub next_misses : {x : State} → δ 0 c ≡ some x → δ x d ≡ none → SoFar δ w t G₀ G (s + length w - 1) count (letters + 2)
    next_misses {x} arrow none-there =
        let here = ap (λ (i : ℕ). δ x (at t i)) next_place ∙ none-there in
        let past : s + (length w - 1 - 1) + 1 ≡ s + length w - 1 = omega arith in
        rw past at (misses_at {read = 2} (omega arith) (omega arith) (letter-fails (goes_on arrow) (λ z. omega arith) here))
