-- A TEXT IN PARTS that overlap by three letters. The finds of a part, counted from the text's start, are those of the text that begin in it
-- (`part-finds`); so the finds of all parts are those of the text, none lost and none doubled.
use mathlib.Core.Path.{◌≡◌, refl, sym, ap, ◌∙◌}
use mathlib.Core.List.{List, ◌++◌, map}
use Prim.Native.Nat.{ℕ, suc, ◌+◌, ◌-◌, ◌≤◌, ◌<◌, min}
use native.Mathlib.Nat.{add-zero, zero-add}
use native.Mathlib.Omega.{arith}
use lib.ListN.{length, take, length-append, length-take}
use Rattle.words.specs.Lists.{at, from, only}
use Rattle.words.specs.Words.{Word, Place, part, stands, occurrences}
use Rattle.words.proofs.Lists.{only_append, only_few, only_same, only_shift, from_append, from_length, entry_in}
use Rattle.words.specs.Limits.{longest_text}
use Rattle.words.proofs.Limits.{texts_fit}
use Rattle.words.proofs.Words.{part_length, part_of_part}
use Rattle.words.proofs.Occurrences.{occurrence_stands}
use Rattle.finds.specs.Finds.{filled}
use Rattle.finds.proofs.Theorems.{filled-all}
use Rattle.finds.proofs.Filling.{filled-length}
use Rattle.rides.specs.Rides.{dot_fit, rides_at, rides}
use Rattle.rides.proofs.Listing.{rides-append, rides-few}
use Rattle.salvage.specs.Listing.{longest_part, most_finds, InLists, Adds, Within, behind_place}
use Rattle.salvage.proofs.Adding.{listed-none}
use Rattle.rides.proofs.Theorems.{dot_fit-length}
use Rattle.salvage.proofs.Spacing.{finds-few}

-- ── The finds of a part ────────────────────────────────────────────────────

module _ (v t : Word) (a k : ℕ) (inside : a + k ≤ length t) where
  part-stands : (q : Place) → q + length v ≤ k → stands v (part t a k) q ≡ stands v t (a + q)
  unfolding stands
  part-stands q h = rw (part_of_part t a k q (length v) inside h)

  pub part-finds : map (behind_place a) (occurrences v (part t a k)) ≡ only (stands v t) (from a (suc k - length v))
  unfolding occurrences
  part-finds =
      let n = suc k - length v in
      let same = only_same (stands v (part t a k)) (λ q. stands v t (a + q)) 0 n (λ q _ l. part-stands q (omega arith)) in
      rw (part_length t a k inside, same) (rw (add-zero a) at (sym (only_shift (stands v t) a 0 n)))

-- ── One part after the other ───────────────────────────────────────────────

-- the finds of the text before place a
abbrev pub found_before : Word → Place → List Place
found_before t a = only (stands dot_fit t) (from 0 a)

-- the part from a to e was searched: n finds were counted, and the list for them, which was F, is F'
pub record Searched (t : Word) (F F' : List ℕ) (a e n : ℕ) : Type 0 where
  pub least : a + 4 ≤ e
  pub most : e ≤ length t
  pub short : e ≤ a + longest_part
  pub counted : n ≡ length (occurrences dot_fit (part t a (e - a)))
  pub filled_in : F' ≡ filled (occurrences dot_fit (part t a (e - a))) F

-- where a part that begins at a ends, of which the text leaves n letters
pub part_ends : (a n : ℕ) {k : ℕ} → a + 4 ≤ n → k ≡ min (n - a) longest_part → (a + 4 ≤ a + k) × (a + k ≤ n) × (a + k ≤ a + longest_part)
part_ends a n more e = (omega arith, omega arith, omega arith)

-- before the part that begins at a: F is the list for the finds of a part, A and B are the caller's lists, which were S and K
pub record Before (t : Word) (S K F A B : List ℕ) (a count : ℕ) : Type 0 where
  pub inside : a ≤ suc (length t) - 4
  pub sizes : (length F ≡ most_finds) × (length A ≡ length S) × (length B ≡ length K)
  pub number : count ≡ length (rides_at t (found_before t a))
  pub listed : InLists (rides_at t (found_before t a)) S K A B

module _ {t : Word} {S K F : List ℕ} where
  pub before-start : length F ≡ most_finds → Before t S K F S K 0 0
  unfolding from only rides_at
  before-start e = record { inside = omega arith; sizes = (e, refl, refl); number = refl; listed = listed-none S K }

  module _ {A B : List ℕ} {a count : ℕ} (before : Before t S K F A B a count) where
    before-few : count ≤ a
    before-few = omega (arith, before.number, rides-few t (found_before t a), only_few (stands dot_fit t) (from 0 a), from_length 0 a)

    module _ {e n : ℕ} {F' : List ℕ} (search : Searched t F F' a e n) where
      abbrev p : Word
      p = part t a (e - a)

      p-length : length p ≡ e - a
      p-length = part_length t a (e - a) (omega (arith, search.least, search.most))

      size : length F' ≡ length F
      size = ap length search.filled_in ∙ filled-length (occurrences dot_fit p) F

      -- the list has room for all of them
      pub part-few : n ≤ length F'
      part-few = omega (arith, search.counted, finds-few p, p-length, search.short, before.sizes.0, size)

      -- and no number of rides passes 32 bits
      pub part-fits : length t ≤ longest_text → count + length (take n F') < 4294967295
      part-fits h = omega (arith, texts_fit, before-few, before.inside, length-take n F', size, before.sizes.0)

      -- so what is lent of it is the finds
      pub part-lent : take n F' ≡ occurrences dot_fit p
      part-lent =
          let enough : length (occurrences dot_fit p) ≤ length F = omega (arith, part-few, size, search.counted) in
          rw (search.filled_in, search.counted) (filled-all (occurrences dot_fit p) F enough)

      pub part-within : Within t a (take n F')
      part-within = record { four = λ i l. inside-at i (rw part-lent at l) }
        where
          inside-at : (i : ℕ) → i < length (occurrences dot_fit p) → a + at (take n F') i + 4 ≤ length t
          inside-at i l =
              let found = occurrence_stands dot_fit p (at (occurrences dot_fit p) i) (entry_in (occurrences dot_fit p) i 0 l) in
              rw part-lent (omega (arith, found.0, p-length, dot_fit-length, search.least, search.most))

      -- with this part's finds behind those before, the finds up to the next part are known
      next-found : found_before t (e - 3) ≡ found_before t a ++ map (behind_place a) (take n F')
      next-found =
          let k : e - 3 ≡ a + (suc (e - a) - length dot_fit) = omega (arith, dot_fit-length, search.least) in
          let own = ap (map (behind_place a)) part-lent ∙ part-finds dot_fit t a (e - a) (omega (arith, search.least, search.most)) in
          rw (k, from_append 0 a (suc (e - a) - length dot_fit), zero-add a, own)
          (only_append (stands dot_fit t) (from 0 a) (from a (suc (e - a) - length dot_fit)))

      next-rides : rides_at t (found_before t (e - 3)) ≡ rides_at t (found_before t a) ++ rides_at t (map (behind_place a) (take n F'))
      next-rides = ap (rides_at t) next-found ∙ rides-append t (found_before t a) (map (behind_place a) (take n F'))

      pub before-next : {A' B' : List ℕ} {count' : ℕ} → length A' ≡ length A → length B' ≡ length B
          → count' ≡ count + length (rides_at t (map (behind_place a) (take n F')))
          → Adds (rides_at t (map (behind_place a) (take n F'))) count A B A' B' → Before t S K F' A' B' (e - 3) count'
      before-next k l c x =
          let R = rides_at t (found_before t a) in
          let X = rides_at t (map (behind_place a) (take n F')) in record {
            inside = omega (arith, search.least, search.most);
            sizes = (size ∙ before.sizes.0, k ∙ before.sizes.1, l ∙ before.sizes.2);
            number = rw next-rides (omega (arith, c, before.number, length-append R X));
            listed = rw next-rides (x.behind R S K (sym before.number) before.listed);
          }

    -- no further part fits
    all-rides : length t < a + 4 → rides_at t (found_before t a) ≡ rides t
    unfolding rides occurrences
    all-rides h = let e : suc (length t) - length dot_fit ≡ a = omega (arith, before.inside, dot_fit-length) in rw e

    pub before-end : length t < a + 4 → (count ≡ length (rides t)) × InLists (rides t) S K A B
    before-end h = (rw (all-rides h) at before.number, rw (all-rides h) at before.listed)
