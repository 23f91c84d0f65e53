-- THE STEP: it keeps exclusive-or, halves an even number, and takes no register of 16 bits but 0 to 0.
use mathlib.Core.Path.{◌≡◌, refl, sym, ap, ap₂, ◌∙◌}
use Prim.Native.Nat.{ℕ, zero, suc, ◌*◌, ◌/◌, ◌%◌, ◌^◌, ◌<◌}
use native.Mathlib.Nat.{mod-lt, mul-one, div-add-mod'}
use native.Mathlib.Omega.{arith}
use lib.Bits.{bit_xor, xor_shr, xor_mod, xor_zero_r, xor_lt, xor_shifted, shifted_half, shifted_even}
use lib.Pow.{pow_pos, split}
use Rattle.crc.specs.Check.{polynomial, shifted, shifts}
use Rattle.crc.proofs.Xor.{two_pos, bit, xor_swap, xor_same}

abbrev Times : ℕ → ℕ → Type 0
Times x y = bit_xor x y * polynomial ≡ bit_xor (x * polynomial) (y * polynomial)

times : {x y : ℕ} → x < 2 → y < 2 → Times x y
times {x} {y} hx hy = bit (λ x. Times x y) (bit (Times 0) refl refl hy) (bit (Times 1) refl refl hy) hx

pub shifted_linear : (a b : ℕ) → shifted (bit_xor a b) ≡ bit_xor (shifted a) (shifted b)
unfolding shifted
shifted_linear a b =
    ap₂ (λ x y. bit_xor x (y * polynomial)) (xor_shr a b 1) (xor_mod a b 1)
    ∙ ap (bit_xor (bit_xor (a / 2) (b / 2))) (times (mod-lt a two_pos) (mod-lt b two_pos))
    ∙ xor_swap (a / 2) (b / 2) (a % 2 * polynomial) (b % 2 * polynomial)

pub shifts_linear : (k a b : ℕ) → shifts k (bit_xor a b) ≡ bit_xor (shifts k a) (shifts k b)
unfolding shifts
shifts_linear zero a b = refl
shifts_linear (suc k) a b = ap (shifts k) (shifted_linear a b) ∙ shifts_linear k (shifted a) (shifted b)

-- an even number is halved
shifted_even_half : (v k : ℕ) → shifted (v * 2 ^ suc k) ≡ v * 2 ^ k
unfolding shifted
shifted_even_half v k = ap₂ (λ x y. bit_xor x (y * polynomial)) (shifted_half v k) (shifted_even v k) ∙ xor_zero_r (v * 2 ^ k)

pub shifts_back : (k v : ℕ) → shifts k (v * 2 ^ k) ≡ v
unfolding shifts
shifts_back zero v = mul-one v
shifts_back (suc k) v = ap (shifts k) (shifted_even_half v k) ∙ shifts_back k v

-- a number by its k low bits and the rest
pub parts : (k r : ℕ) → r ≡ bit_xor (r / 2 ^ k * 2 ^ k) (r % 2 ^ k)
parts k r = sym (split r k) ∙ sym (xor_shifted (r / 2 ^ k) k (r % 2 ^ k) (mod-lt r (pow_pos k)))

-- only the k low bits take part in k shifts
pub shifts-parts : (k r : ℕ) → shifts k r ≡ bit_xor (r / 2 ^ k) (shifts k (r % 2 ^ k))
shifts-parts k r =
    ap (shifts k) (parts k r) ∙ shifts_linear k (r / 2 ^ k * 2 ^ k) (r % 2 ^ k)
    ∙ ap (λ x. bit_xor x (shifts k (r % 2 ^ k))) (shifts_back k (r / 2 ^ k))

-- ── Registers of 16 bits ───────────────────────────────────────────────────

pub shifted-small : (r : ℕ) → r < 65536 → shifted r < 65536
unfolding shifted
shifted-small r h =
    let bound = mod-lt r two_pos in
    let whole = div-add-mod' r 2 in
    xor_lt 16 (r / 2) (r % 2 * polynomial) (omega (arith, whole)) (omega (arith, bound))

pub shifts-small : (k r : ℕ) → r < 65536 → shifts k r < 65536
unfolding shifts
shifts-small zero r h = h
shifts-small (suc k) r h = shifts-small k (shifted r) (shifted-small r h)

-- the polynomial has the highest bit, which no halved register has
shifted-zero : (r : ℕ) → r < 65536 → shifted r ≡ 0 → r ≡ 0
unfolding shifted
shifted-zero r h e =
    let same = xor_same (r / 2) (r % 2 * polynomial) e in
    let bound = mod-lt r two_pos in
    omega (arith, same, bound, div-add-mod' r 2)

pub shifts-zero : (k r : ℕ) → r < 65536 → shifts k r ≡ 0 → r ≡ 0
unfolding shifts
shifts-zero zero r h e = e
shifts-zero (suc k) r h e = shifted-zero r h (shifts-zero k (shifted r) (shifted-small r h) e)
