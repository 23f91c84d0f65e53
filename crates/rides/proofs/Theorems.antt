-- THE THEOREMS on rides: which headers are listed, in which order, and with which kind. The starts are the finds in headers, less 8, and
-- what is listed at all is read off the tests.
use mathlib.Core.Path.{◌≡◌, refl, sym, ap, ◌∙◌}
use mathlib.Core.Bool.{true}
use mathlib.Core.Logic.{◌↔◌, by_cases}
use mathlib.Core.List.Memᴰ
use mathlib.Core.List.{List, [], ◌∷◌, map, Memᴰ}
use Prim.Native.Nat.{◌+◌, ◌-◌, ◌≤◌, ◌<◌}
use native.Mathlib.Decide.{dec_lt, dec_le}
use native.Mathlib.Omega.{arith}
use lib.ListN.{length, length-map}
use lib.Dec.{leb}
use borrow.Author.Tests.{le-leb, lt-leb, leb-true}
use Rattle.words.specs.Lists.{only, Rising}
use Rattle.words.specs.Words.{Word, Place, stands, occurrences}
use Rattle.words.proofs.Lists.{and_true, only_in, in_only}
use Rattle.words.proofs.Occurrences.{stands-inside, occurrence_stands, standing_occurs, occurrences_rise}
use Rattle.rides.specs.Rides.{dot_fit, allowed, header_size, header_inside, in_header, ride_end, cut, whole, kind_of}
use Rattle.rides.specs.Rides.{Ride, ride_at, rides_at, rides, starts, kinds, HeaderAt}
use Rattle.rides.proofs.Headers.{allowed-exactly}
use Rattle.rides.proofs.Rising.{only_rises, less_rises}

pub dot_fit-length : length dot_fit ≡ 4
unfolding dot_fit
dot_fit-length = refl

-- both columns are as long as the list of rides
pub starts-length : (R : List Ride) → length (starts R) ≡ length R
starts-length R = length-map R (λ (r : Ride). r.start)

pub kinds-length : (R : List Ride) → length (kinds R) ≡ length R
kinds-length R = length-map R (λ (r : Ride). r.kind)

-- ── The kind ───────────────────────────────────────────────────────────────

module _ (t : Word) (s : Place) where
  pub kind-whole : ride_end t s ≤ length t → kind_of t s ≡ whole
  unfolding kind_of
  kind-whole h = rw (le-leb (ride_end t s) (length t) h)

  pub kind-cut : length t < ride_end t s → kind_of t s ≡ cut
  unfolding kind_of
  kind-cut h = rw (lt-leb (ride_end t s) (length t) h)

  -- whole exactly where header, data and check end within the text
  pub whole-exactly : (kind_of t s ≡ whole) ↔ (ride_end t s ≤ length t)
  whole-exactly = (inside, kind-whole)
    where
      inside : kind_of t s ≡ whole → ride_end t s ≤ length t
      inside e = by_cases (dec_le (ride_end t s) (length t)) (λ h. h) (λ h. absurd (omega (arith, e, kind-cut (omega arith))))

  pub cut-exactly : (kind_of t s ≡ cut) ↔ (length t < ride_end t s)
  cut-exactly = (past, kind-cut)
    where
      past : kind_of t s ≡ cut → length t < ride_end t s
      past e = by_cases (dec_lt (length t) (ride_end t s)) (λ h. h) (λ h. absurd (omega (arith, e, kind-whole (omega arith))))

-- ── Which headers are listed ───────────────────────────────────────────────

map-map : {A B C : Type 0} (f : B → C) (g : A → B) (l : List A) → map f (map g l) ≡ map (λ a. f (g a)) l
map-map f g [] = refl
map-map {C = C} f g (a ∷ l) = ap {B = List C} (λ k. f (g a) ∷ k) (map-map f g l)

module _ (t : Word) where
  -- `.FIT` at q is in a header exactly if 8 letters stand before it and the header that begins there has its size and is inside
  in_header_lem : (q : Place) → in_header t q ≡ true → stands dot_fit t q ≡ true → (8 ≤ q) × HeaderAt t (q - 8)
  unfolding in_header header_inside
  in_header_lem q e m =
      let a = and_true {a = leb 8 q} e in
      let b = and_true {a = allowed (header_size t (q - 8))} a.1 in
      let late : 8 ≤ q = leb-true 8 q a.0 in
      let back : q - 8 + 8 ≡ q = omega arith in (
        late,
        record {
          mark = rw back m;
          size = (allowed-exactly (header_size t (q - 8))).0 b.0;
          inside = leb-true (q - 8 + header_size t (q - 8)) (length t) b.1;
        },
      )

  headed_in : (s : Place) → HeaderAt t s → in_header t (s + 8) ≡ true
  unfolding in_header header_inside
  headed_in s h =
      let back : s + 8 - 8 ≡ s = omega arith in
      let size = (allowed-exactly (header_size t s)).1 h.size in
      rw (back, le-leb 8 (s + 8) (omega arith), size, le-leb (s + header_size t s) (length t) h.inside)

  -- the starts are the finds in headers, less 8
  starts_are : starts (rides t) ≡ map (λ q. q - 8) (only (in_header t) (occurrences dot_fit t))
  unfolding rides rides_at
  starts_are = map-map (λ (r : Ride). r.start) (λ q. ride_at t (q - 8)) (only (in_header t) (occurrences dot_fit t))

  -- each ride is that of its start
  pub rides_are : rides t ≡ map (ride_at t) (starts (rides t))
  unfolding rides rides_at
  rides_are =
      let found = only (in_header t) (occurrences dot_fit t) in
      sym (
      ap (map (ride_at t)) (map-map (λ (r : Ride). r.start) (λ q. ride_at t (q - 8)) found)
      ∙ map-map (ride_at t) (λ q. q - 8) found
      )

  finds_in : {q : Place} → Memᴰ q (only (in_header t) (occurrences dot_fit t)) → (8 ≤ q) × HeaderAt t (q - 8)
  finds_in {q} m =
      let r = only_in (in_header t) (occurrences dot_fit t) m in
      in_header_lem q r.1 (occurrence_stands dot_fit t q r.0).1

  -- a place is listed exactly if a header begins there
  pub listed-exactly : (s : Place) → Memᴰ s (starts (rides t)) ↔ HeaderAt t s
  listed-exactly s = rw starts_are (
    λ m. let r = Memᴰ.of_map (λ q. q - 8) (only (in_header t) (occurrences dot_fit t)) m in rw r.2 at (finds_in r.1).1,
    λ h.
        let back : s + 8 - 8 ≡ s = omega arith in
        let fits = stands-inside dot_fit t (s + 8) (omega (arith, dot_fit-length)) h.mark in
        let there = standing_occurs dot_fit t (s + 8) fits h.mark in
        rw back at (Memᴰ.map (λ q. q - 8) (in_only (in_header t) (occurrences dot_fit t) there (headed_in s h))),
  )

  pub starts_rise : Rising 0 (starts (rides t))
  starts_rise = rw starts_are (less_rises 8 (λ q m. (finds_in m).0) (only_rises (in_header t) (occurrences_rise dot_fit t)))

  -- a ride is listed exactly if a header begins at its start, and its kind is that of the header
  pub ride_exactly : (r : Ride) → Memᴰ r (rides t) ↔ (HeaderAt t r.start × (r.kind ≡ kind_of t r.start))
  ride_exactly r = (
    λ m.
        let a = Memᴰ.of_map (ride_at t) (starts (rides t)) (rw rides_are at m) in
        (rw (ap (λ (r : Ride). r.start) a.2) at ((listed-exactly a.0).0 a.1), told a.0 a.2),
    λ h. rw rides_are (rw (← h.1) at (Memᴰ.map (ride_at t) ((listed-exactly r.start).1 h.0))),
  )
    where
      told : (s : Place) → ride_at t s ≡ r → r.kind ≡ kind_of t r.start
      told s e = rw (← e)
