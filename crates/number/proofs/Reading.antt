-- READING GROUP BY GROUP: what holds before each byte that code reads. What the file shows is what the bytes ahead show behind those read
-- so far, whose groups make `value`; the next group counts `unit`.
use mathlib.Core.Path.{◌≡◌, refl, sym, ap, ◌∙◌}
use mathlib.Core.Bool.{true, false}
use mathlib.Core.List.{List, ◌∷◌}
use Prim.Native.Nat.{ℕ, zero, suc, ◌+◌, ◌-◌, ◌*◌, ◌%◌, ◌≤◌, ◌<◌}
use native.Mathlib.Nat.{mul-le-mul_left}
use native.Mathlib.Numerals.{add-one}
use native.Mathlib.Omega.{arith}
use lib.ListN.{length, drop, drop_of_length-le}
use lib.Seq.{drop-cons}
use Rattle.words.specs.Lists.{at}
use Rattle.number.specs.Number.{greatest, refuses, Seen, number, ends, refused, with_group, see, see_number, placed, number_at}
use Rattle.std.specs.Prelude.{Ok, Err}
use Rattle.answers.specs.declared.Flaw.TheVariants.{EndsEarly, Misspelled}
use Rattle.number.proofs.Spelling.{top, top_least}
use Rattle.number.proofs.Seeing.{Passes, refuses-told, see-refused, see-last, see-follows}

-- what is seen, with the groups so far
abbrev pub after : ℕ → ℕ → Seen → Seen
after value unit (number v n) = number (value + unit * v) n
after value unit ends = ends
after value unit (refused n) = refused n

after_none : (g : Seen) → g ≡ after 0 1 g
after_none (number v n) = let e : v ≡ 0 + 1 * v = omega arith in ap (λ w. number w n) e
after_none ends = refl
after_none (refused n) = refl

after_group : (value unit x : ℕ) (g : Seen) → after value unit (with_group x g) ≡ after (value + unit * x) (unit * 128) g
after_group value unit x (number v n) = let e : value + unit * (x + 128 * v) ≡ value + unit * x + unit * 128 * v = omega arith in rw e
after_group value unit x ends = refl
after_group value unit x (refused n) = refl

-- from place a, at place i; `more` groups may follow the next
pub record Reading (s : List ℕ) (a i value unit : ℕ) : Type 0 where
  pub begun : a ≤ i
  pub same : number_at s a ≡ placed s a (after value unit (see (i - a) (drop i s)))
  pub more : ℕ
  pub places : i - a + more ≡ 4
  pub scale : unit * top more ≡ suc greatest
  pub below : value < unit

-- nothing is read
pub read-start : (s : List ℕ) (a : ℕ) → Reading s a a 0 1
unfolding top number_at see_number
read-start s a = record { begun = omega arith; same = start; more = 4; places = omega arith; scale = refl; below = omega arith }
  where
    start : placed s a (see 0 (drop a s)) ≡ placed s a (after 0 1 (see (a - a) (drop a s)))
    start = let e : a - a ≡ 0 = omega arith in rw e (ap (placed s a) (after_none (see 0 (drop a s))))

module _ {s : List ℕ} {a i value unit : ℕ} (R : Reading s a i value unit) where
  -- the file ends
  pub read-end : length s ≤ i → Err (record { flaw = EndsEarly; place = length s }) ≡ number_at s a
  unfolding see
  read-end h = sym (R.same ∙ rw (drop_of_length-le s h))

  module _ (h : i < length s) where
    -- the answer, from what the bytes ahead show
    shown : {g : Seen} → see (i - a) (at s i ∷ drop (suc i) s) ≡ g → placed s a (after value unit g) ≡ number_at s a
    shown e = sym (R.same ∙ rw (drop-cons s i 0 h, e))

    -- the byte is refused
    pub read-refused : refuses (i - a) (at s i) ≡ true → Err (record { flaw = Misspelled; place = i }) ≡ number_at s a
    read-refused e = let p : a + (i - a) ≡ i = omega (arith, R.begun) in rw p at (shown (see-refused (i - a) (at s i) (drop (suc i) s) e))

    module _ (passed : refuses (i - a) (at s i) ≡ false) where
      p : Passes (i - a) (at s i)
      p = refuses-told passed

      -- the byte ends the number
      pub read-last : at s i < 128 → Ok (record { value = value + unit * (at s i % 128); next = record { at = i + 1 } }) ≡ number_at s a
      read-last l =
          let e : at s i % 128 ≡ at s i = omega arith in
          let q : i + 1 ≡ a + suc (i - a) = omega (arith, R.begun) in
          rw (e, q) (shown (see-last (drop (suc i) s) p l))

      low : (k : ℕ) → i - a + k ≡ 4 → at s i % 128 < top k
      unfolding top
      low zero e = omega (arith, p.small (omega arith))
      low (suc k) e = omega (arith, top_least k)

      -- no sum passes the greatest number
      pub read_fits : value + unit * (at s i % 128) ≤ greatest
      read_fits = omega (arith, mul-le-mul_left unit (low R.more R.places), R.scale, R.below)

      -- another byte follows
      pub read_next : 128 ≤ at s i → (unit * 128 ≤ greatest) × Reading s a (i + 1) (value + unit * (at s i % 128)) (unit * 128)
      unfolding top
      read_next l = by R.more R.places R.scale
        where
          by : (k : ℕ) → i - a + k ≡ 4 → unit * top k ≡ suc greatest
              → (unit * 128 ≤ greatest) × Reading s a (i + 1) (value + unit * (at s i % 128)) (unit * 128)
          by zero q e = absurd (omega (arith, p.small (omega arith)))
          by (suc k) q e =
              let n : i + 1 - a ≡ suc (i - a) = omega (arith, R.begun) in
              let w : unit * 128 * 16 ≤ unit * 128 * top k = mul-le-mul_left (unit * 128) (top_least k) in
              let g : unit * suc (at s i % 128) ≤ unit * 128 = mul-le-mul_left unit (omega arith) in (
                omega arith,
                record {
                  begun = omega (arith, R.begun);
                  same = sym (shown (see-follows (drop (suc i) s) p l))
                      ∙ rw (n, add-one i) (ap (placed s a) (after_group value unit (at s i % 128) (see (suc (i - a)) (drop (suc i) s))));
                  more = k;
                  places = omega arith;
                  scale = omega arith;
                  below = omega (arith, R.below);
                },
              )
