-- WHAT THE TESTS OF A HEADER COME TO, one law for each way out of the code that reads one; and that no declared size is too large for 64
-- bits to add to.
use mathlib.Core.Path.{◌≡◌, refl}
use mathlib.Core.Bool.{Bool, true, false, ◌||◌}
use mathlib.Core.Logic.{◌↔◌, ◌⊎◌, inl, inr, ⊎_elim}
use Prim.Native.Nat.{ℕ, ◌+◌, ◌-◌, ◌≤◌, ◌<◌}
use native.Mathlib.Omega.{arith}
use lib.ListN.{length}
use lib.Dec.{eqb}
use Rattle.std.specs.Prelude.{Some, None}
use borrow.Author.Tests.{eqb-true, eq-eqb, le-leb, lt-leb}
use Rattle.words.specs.Words.{Word, Place, letter}
use Rattle.words.proofs.Lists.{test_cases}
use Rattle.rides.specs.Rides.{allowed, header_size, data_size, header_inside, in_header, ride_end, kind_of}
use Rattle.rides.specs.Answers.{header_of}
use Rattle.rides.specs.declared.Kind.TheVariants.{Cut, Whole}

pub allowed-exactly : (n : ℕ) → (allowed n ≡ true) ↔ ((n ≡ 12) ⊎ (n ≡ 14))
unfolding allowed
allowed-exactly n = (
  λ e. test_cases (eqb n 12) (λ h. inl (eqb-true n 12 h)) (λ h. inr (eqb-true n 14 (rw h at e))),
  ⊎_elim (λ q. rw (eq-eqb n 12 q)) (λ q. or_right (eqb n 12) (eq-eqb n 14 q)),
)
  where
    or_right : (x : Bool) {y : Bool} → y ≡ true → x || y ≡ true
    or_right true h = refl
    or_right false h = h

-- such a header has at least the bytes up to `.FIT`'s last
pub allowed-size : (n : ℕ) → allowed n ≡ true → (12 ≤ n) × (n ≤ 14)
allowed-size n e = ⊎_elim (λ q. (omega arith, omega arith)) (λ q. (omega arith, omega arith)) ((allowed-exactly n).0 e)

-- ── Where a header is not listed ───────────────────────────────────────────

module _ (t : Word) (q : Place) where
  abbrev s : Place
  s = q - 8

  pub too_early : q < 8 → header_of t q ≡ None
  unfolding in_header
  too_early h = simp (lt-leb 8 q h)

  pub other_size : 8 ≤ q → allowed (header_size t s) ≡ false → header_of t q ≡ None
  unfolding in_header header_inside
  other_size late e = simp (le-leb 8 q late, e)

  module _ (late : 8 ≤ q) (size : allowed (header_size t s) ≡ true) where
    pub behind_the_end : length t < s + header_size t s → header_of t q ≡ None
    unfolding in_header header_inside
    behind_the_end h = simp (le-leb 8 q late, size, lt-leb (s + header_size t s) (length t) h)

    -- ── Where it is ────────────────────────────────────────────────────────

    module _ (inside : s + header_size t s ≤ length t) where
      listed : in_header t q ≡ true
      unfolding in_header header_inside
      listed = simp (le-leb 8 q late, size, le-leb (s + header_size t s) (length t) inside)

      pub listed-cut : length t < ride_end t s → header_of t q ≡ Some (record { start = record { 0 = s }; kind = Cut })
      unfolding kind_of
      listed-cut h = simp (listed, lt-leb (ride_end t s) (length t) h)

      pub listed-whole : ride_end t s ≤ length t → header_of t q ≡ Some (record { start = record { 0 = s }; kind = Whole })
      unfolding kind_of
      listed-whole h = simp (listed, le-leb (ride_end t s) (length t) h)

-- ── The declared size ──────────────────────────────────────────────────────

pub data_size-fits : (t : Word) (s : Place) → ((i : ℕ) → letter t i < 256) → data_size t s < 4294967296
unfolding data_size
data_size-fits t s byte = omega (arith, byte (s + 4), byte (s + 5), byte (s + 6), byte (s + 7))
