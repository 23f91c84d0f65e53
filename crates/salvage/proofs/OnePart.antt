-- THE FINDS OF ONE PART, one after the other: before each, the rides of the finds before it are listed behind those that were there. One
-- more find adds its own ride or none.
use mathlib.Core.Path.{◌≡◌, refl, sym, ap, ◌∙◌}
use mathlib.Core.List.{List, [], ◌∷◌, ◌++◌, map}
use Prim.Native.Nat.{ℕ, suc, ◌+◌, ◌≤◌, ◌<◌}
use native.Mathlib.Nat.{add-zero}
use native.Mathlib.Omega.{arith}
use lib.ListN.{length, take, length-append, length-map, length-take}
use lib.Seq.{take-suc, take_all}
use Rattle.words.specs.Lists.{at, only}
use Rattle.words.specs.Words.{Word, Place}
use Rattle.words.proofs.Lists.{map-append}
use Rattle.rides.specs.Rides.{Ride, rides_at}
use Rattle.rides.proofs.Listing.{rides-append, rides-few}
use Rattle.salvage.specs.Listing.{Adds, behind_place}
use Rattle.salvage.proofs.Adding.{adds_none, adds_more}

-- the rides of the finds F of the part that begins at a
abbrev pub rides_in : Word → Place → List Place → List Ride
rides_in t a F = rides_at t (map (behind_place a) F)

-- before find i, where n rides were listed before the part
pub record Upto (t : Word) (a : Place) (F : List Place) (n : ℕ) (A B A' B' : List ℕ) (i listed : ℕ) : Type 0 where
  pub inside : i ≤ length F
  pub sizes : (length A' ≡ length A) × (length B' ≡ length B)
  pub number : listed ≡ n + length (rides_in t a (take i F))
  pub added : Adds (rides_in t a (take i F)) n A B A' B'

module _ {t : Word} {a : Place} {F : List Place} {n : ℕ} {A B : List ℕ} where
  pub upto_start : Upto t a F n A B A B 0 n
  unfolding rides_at only
  upto_start = record { inside = omega arith; sizes = (refl, refl); number = sym (add-zero n); added = adds_none n A B }

  module _ {A' B' : List ℕ} {i listed : ℕ} (before : Upto t a F n A B A' B' i listed) where
    -- no more rides are listed than finds were looked at
    pub upto_few : listed ≤ n + i
    upto_few =
        omega (
          arith,
          before.number,
          before.inside,
          rides-few t (map (behind_place a) (take i F)),
          length-map (take i F) (behind_place a),
          length-take i F,
        )

    module _ (more : i < length F) where
      abbrev q : Place
      q = a + at F i

      one_more : rides_in t a (take (i + 1) F) ≡ rides_in t a (take i F) ++ rides_at t (q ∷ [])
      one_more =
          let e : i + 1 ≡ suc i = omega arith in
          ap (λ (k : ℕ). rides_in t a (take k F)) e
          ∙ ap (rides_in t a) (take-suc F i 0 more)
          ∙ ap (rides_at t) (map-append (behind_place a) (take i F) (at F i ∷ []))
          ∙ rides-append t (map (behind_place a) (take i F)) (q ∷ [])

      pub upto_next : {A'' B'' : List ℕ} {listed' : ℕ} → length A'' ≡ length A' → length B'' ≡ length B'
          → listed' ≡ listed + length (rides_at t (q ∷ []))
          → Adds (rides_at t (q ∷ [])) listed A' B' A'' B'' → Upto t a F n A B A'' B'' (i + 1) listed'
      upto_next k l e x = record {
        inside = omega arith;
        sizes = (k ∙ before.sizes.0, l ∙ before.sizes.1);
        number = rw one_more
            (omega (arith, e, before.number, length-append (rides_in t a (take i F)) (rides_at t (q ∷ []))));
        added = rw one_more (adds_more before.added (rw before.number at x));
      }

    pub upto_end : length F ≤ i → (listed ≡ n + length (rides_in t a F)) × Adds (rides_in t a F) n A B A' B'
    upto_end h = let all = take_all i F h in (rw all at before.number, rw all at before.added)
