-- THE RIDES OF SOME FINDS: those of two lists of finds are those of the one and then of the other; one find has one ride or none, as the
-- code's answer says; and there are no more rides than finds.
use mathlib.Core.Path.{◌≡◌, ap, ◌∙◌}
use mathlib.Core.List.{List, [], ◌∷◌, ◌++◌, map}
use Prim.Native.Nat.{◌-◌, ◌≤◌}
use native.Mathlib.Omega.{arith}
use lib.ListN.{length, length-map}
use lib.Dec.{leb}
use Rattle.words.specs.Lists.{only}
use Rattle.words.specs.Words.{Word, Place}
use Rattle.words.proofs.Lists.{test_cases, only_append, only_few, map-append}
use Rattle.std.specs.Prelude.{Option, Some, None}
use Rattle.rides.specs.Rides.{ride_end, kind_of, in_header, Ride, ride_at, rides_at}
use Rattle.rides.specs.Answers.{kind_named, kind_number, header_of}
use Rattle.rides.specs.declared.Header.{Header}

-- the ride that the code's answer tells of, if it does
abbrev pub ride_in : Option Header → List Ride
ride_in (Some h) = record { start = h.start.0; kind = kind_number h.kind } ∷ []
ride_in None = []

module _ (t : Word) where
  pub rides-append : (l r : List Place) → rides_at t (l ++ r) ≡ rides_at t l ++ rides_at t r
  unfolding rides_at
  rides-append l r =
      ap (map (λ q. ride_at t (q - 8))) (only_append (in_header t) l r)
      ∙ map-append (λ q. ride_at t (q - 8)) (only (in_header t) l) (only (in_header t) r)

  pub rides-few : (l : List Place) → length (rides_at t l) ≤ length l
  unfolding rides_at
  rides-few l = omega (arith, only_few (in_header t) l, length-map (only (in_header t) l) (λ q. ride_at t (q - 8)))

  kind-back : (s : Place) → kind_number (kind_named (kind_of t s)) ≡ kind_of t s
  unfolding kind_of
  kind-back s = test_cases (leb (ride_end t s) (length t)) (λ h. rw h) (λ h. rw h)

  pub ride_told : (q : Place) {r : Option Header} → r ≡ header_of t q → rides_at t (q ∷ []) ≡ ride_in r
  unfolding rides_at only
  ride_told q e = rw e (test_cases (in_header t q) (λ h. rw (h, kind-back (q - 8))) (λ h. rw h))
