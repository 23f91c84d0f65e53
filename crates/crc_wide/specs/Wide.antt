-- SEVERAL BYTES AT ONCE, in a register of 64 bits. Shifting is carry-less multiplication: k shifts of v are v times what k shifts make of
-- 1, but for a multiple of the polynomial, which further shifts take away. No table is read for it.
--
--   fold8 v ..          v times what 8, 16 and 48 shifts make of 1
--   past k f x          k shifts of x, but for a multiple of the polynomial, f being the fold by k
--   taken_six acc c     the register after the six bytes whose number is c
--   taken_byte acc b    the register after the byte b
--   sixteen_past x      sixteen shifts of x, but for a multiple of the polynomial
use Rattle.std.specs.Prelude.{ℕ, ◌*◌, ◌/◌, ◌%◌, ◌^◌}
use Rattle.std.specs.Int.Bits.{bit_xor}

unfoldable pub fold8 : ℕ → ℕ
fold8 v = bit_xor (bit_xor (bit_xor (bit_xor v (v * 2 ^ 6)) (v * 2 ^ 7)) (v * 2 ^ 14)) (v * 2 ^ 15)

unfoldable pub fold16 : ℕ → ℕ
fold16 v = bit_xor (bit_xor v (v * 2 ^ 12)) (v * 2 ^ 15)

unfoldable pub fold48 : ℕ → ℕ
fold48 v = bit_xor (bit_xor (bit_xor (bit_xor v (v * 2 ^ 8)) (v * 2 ^ 12)) (v * 2 ^ 14)) (v * 2 ^ 15)

abbrev pub past : ℕ → (ℕ → ℕ) → ℕ → ℕ
past k f x = bit_xor (x / 2 ^ k) (f (x % 2 ^ k))

unfoldable pub taken_six : ℕ → ℕ → ℕ
taken_six acc c = bit_xor (past 48 fold48 acc) (c * 2 ^ 16)

unfoldable pub taken_byte : ℕ → ℕ → ℕ
taken_byte acc b = bit_xor (past 8 fold8 acc) (b * 2 ^ 56)

unfoldable pub sixteen_past : ℕ → ℕ
sixteen_past x = past 16 fold16 x
