-- THE CHECK OF A STRING OF BYTES, CRC-16/ARC, bit by bit from its polynomial: reflected A001, start 0. The lowest bit of a byte goes first.
--
--   polynomial          A001, the powers below 16 of x^16 + x^15 + x^2 + 1, the lowest power in the highest bit
--   shifted r           the register r one place down; a 1 that falls out takes the polynomial with it
--   shifts k r          k times that
--   fed r u             the register r after the bits u: each is exclusive-ored into the lowest place, and one shift follows
--   digits k b          the k lowest bits of b, lowest first
--   bits_of l           the bits of the bytes l, in the order in which they are fed
--   check l             the check of l
--   half_bytes          the table: entry n is what four shifts make of n
--   xored x y           exclusive-or, entry by entry
--   low c, high c       the two bytes of a check
--   sealed l            l with its check behind it, low byte first
--   Near x y w          x and y differ in nothing but at most w bits next to each other
--
-- 02, 'Edition 2 with a check'.
use Rattle.std.specs.Prelude.{◌≡◌, List, [], ◌∷◌, ◌++◌, ℕ, zero, suc, ◌*◌, ◌/◌, ◌%◌, ◌≤◌, length}
use Rattle.std.specs.Int.Bits.{bit_xor}

abbrev pub polynomial : ℕ
polynomial = 40961

unfoldable pub shifted : ℕ → ℕ
shifted r = bit_xor (r / 2) (r % 2 * polynomial)

unfoldable pub shifts : ℕ → ℕ → ℕ
shifts zero r = r
shifts (suc k) r = shifts k (shifted r)

unfoldable pub fed : ℕ → List ℕ → ℕ
fed r [] = r
fed r (d ∷ u) = fed (shifted (bit_xor r d)) u

unfoldable pub digits : ℕ → ℕ → List ℕ
digits zero b = []
digits (suc k) b = b % 2 ∷ digits k (b / 2)

unfoldable pub bits_of : List ℕ → List ℕ
bits_of [] = []
bits_of (b ∷ l) = digits 8 b ++ bits_of l

unfoldable pub check : List ℕ → ℕ
check l = fed 0 (bits_of l)

unfoldable pub xored : List ℕ → List ℕ → List ℕ
xored [] y = []
xored (a ∷ x) [] = []
xored (a ∷ x) (b ∷ y) = bit_xor a b ∷ xored x y

abbrev pub half_bytes : List ℕ
half_bytes =
    0 ∷ 52225 ∷ 55297 ∷ 5120 ∷ 61441 ∷ 15360 ∷ 10240 ∷ 58369 ∷ 40961 ∷ 27648 ∷ 30720 ∷ 46081 ∷ 20480 ∷ 39937 ∷ 34817 ∷ 17408 ∷ []

abbrev pub low : ℕ → ℕ
low c = c % 256

abbrev pub high : ℕ → ℕ
high c = c / 256

unfoldable pub sealed : List ℕ → List ℕ
sealed l = l ++ low (check l) ∷ high (check l) ∷ []

-- u stands in one where v stands in the other
pub record Near (x y : List ℕ) (w : ℕ) : Type 0 where
  pub before : List ℕ
  pub u : List ℕ
  pub v : List ℕ
  pub after : List ℕ
  pub first : bits_of x ≡ before ++ (u ++ after)
  pub second : bits_of y ≡ before ++ (v ++ after)
  pub size : length u ≡ length v
  pub narrow : length u ≤ w
