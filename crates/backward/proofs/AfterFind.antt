-- The move after an occurrence, in laws: it moves, at most the word's length, never past the next occurrence, nor could it be longer; it is
-- m less the longest border, and the same for a word and its mirror. No other proof looks into `after_find`.
use mathlib.Core.Path.{◌≡◌, refl}
use mathlib.Core.Bool.{true}
use mathlib.Core.Logic.{by_cases}
use mathlib.Core.List.{[], ◌∷◌}
use Prim.Native.Nat.{◌+◌, ◌-◌, ◌≤◌, ◌<◌}
use native.Mathlib.Decide.{dec_le}
use native.Mathlib.Omega.{arith}
use lib.ListN.{length, length-reverse}
use Rattle.words.specs.Words.{Word, Place, mirror, stands}
use Rattle.border.specs.Borders.{longest_border}
use Rattle.border.proofs.Theorems.{border_shorter, border_closes, border_longest, border_mirror}
use Rattle.border.proofs.Theorems.{overlap_closes, overlapped, overlapped-first, overlapped-second}
use Rattle.backward.specs.Steps.{after_find}

-- the window moves
pub after_moves : (w : Word) → 1 ≤ after_find w
unfolding after_find
after_moves [] = omega arith
after_moves (c ∷ w) = omega (arith, border_shorter (c ∷ w))

-- it moves by the length of the word at most
pub after_most : (w : Word) → 1 ≤ length w → after_find w ≤ length w
unfolding after_find
after_most [] h = h
after_most (c ∷ w) h = omega arith

-- from an occurrence at s it does not move past a later one at j: two that overlap share a border
pub after_safe : (w t : Word) (s j : Place) → stands w t s ≡ true → stands w t j ≡ true → s < j → s + after_find w ≤ j
unfolding after_find
after_safe [] t s j e g h = omega arith
after_safe (c ∷ w) t s j e g h = by_cases (dec_le (length (c ∷ w)) (j - s))
    (λ apart. omega arith)
    (λ near.
    let there : j ≡ s + (j - s) = omega arith in
    let shared = overlap_closes (c ∷ w) t s (j - s) (omega arith) e (rw there at g) in
    omega (arith, border_longest (c ∷ w) (length (c ∷ w) - (j - s)) (omega arith) shared))

-- m less the longest border
pub after_is : (w : Word) → 1 ≤ length w → after_find w ≡ length w - longest_border w
unfolding after_find
after_is [] h = absurd (omega arith)
after_is (c ∷ w) h = refl

-- no longer move is safe: in some text the word stands that far from itself
pub after_reached : (w : Word) → 1 ≤ length w → (t : Word) × (stands w t 0 ≡ true) × (stands w t (after_find w) ≡ true)
after_reached w h =
    let k = longest_border w in
    let fits : k ≤ length w = omega (arith, border_shorter w) in
    (overlapped w k fits, overlapped-first w k fits, rw (after_is w h) (overlapped-second w k fits (border_closes w)))

-- it is the same for the mirror
pub after-mirror : (w : Word) → after_find w ≡ after_find (mirror w)
after-mirror [] = refl
after-mirror (c ∷ w) =
    let size = length-reverse (c ∷ w) in
    omega (arith, after_is (c ∷ w) (omega arith), after_is (mirror (c ∷ w)) (omega arith), border_mirror (c ∷ w))
