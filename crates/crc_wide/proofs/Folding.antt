-- FOLDING: a fold keeps exclusive-or, as shifting does, and two maps that keep it agree where they agree at the powers of 2. So a computed
-- test at 8, 16 and 48 powers shows what the folds are worth (`fold8_law` and its neighbours); what is taken into the register follows.
use mathlib.Core.Path.{◌≡◌, refl, sym, ap, ap₂, ◌∙◌}
use mathlib.Core.Bool.{Bool, true, false, ◌&&◌}
use Prim.Native.Nat.{ℕ, zero, suc, ◌+◌, ◌*◌, ◌/◌, ◌%◌, ◌^◌, ◌<◌}
use native.Mathlib.Nat.{mod-lt, add-zero, zero-add, suc-add, add_comm, zero-mul, one-mul, mul_comm, pow-suc, div-lt_iff_lt-mul}
use lib.Arith.{lt-one}
use lib.Bits.{bit_xor, xor_block}
use lib.Dec.{T, eqb, eqb→eq}
use lib.Pow.{pow_pos}
use Rattle.crc.specs.Check.{shifted, shifts}
use Rattle.crc.proofs.Xor.{bit, xor_swap}
use Rattle.crc.proofs.Shifts.{shifts_linear, shifts_back, parts, shifts-parts}
use Rattle.crc_wide.specs.Wide.{fold8, fold16, fold48, past, taken_six, taken_byte, sixteen_past}

-- ── Maps that keep exclusive-or ────────────────────────────────────────────

abbrev Linear : (ℕ → ℕ) → Type 0
Linear f = (a b : ℕ) → f (bit_xor a b) ≡ bit_xor (f a) (f b)

same : Linear (λ v. v)
same a b = refl

-- a power of 2 more
and : (f : ℕ → ℕ) (k : ℕ) → Linear f → Linear (λ v. bit_xor (f v) (v * 2 ^ k))
and f k F a b =
    let scaled : bit_xor a b * 2 ^ k ≡ bit_xor (a * 2 ^ k) (b * 2 ^ k) =
    sym (ap₂ bit_xor (sym (add-zero (a * 2 ^ k))) (sym (add-zero (b * 2 ^ k))) ∙ xor_block k a b 0 0 (pow_pos k) (pow_pos k)
    ∙ add-zero (bit_xor a b * 2 ^ k)) in
    ap₂ bit_xor (F a b) scaled ∙ xor_swap (f a) (f b) (a * 2 ^ k) (b * 2 ^ k)

-- the test at the k lowest powers of 2
unfoldable alike : (ℕ → ℕ) → (ℕ → ℕ) → ℕ → Bool
alike f g zero = true
alike f g (suc k) = eqb (f (2 ^ k)) (g (2 ^ k)) && alike f g k

left : (a b : Bool) → T (a && b) → T a
left true b t = tt
left false b t = t

right : (a b : Bool) → T (a && b) → T b
right true b t = t
right false b t = absurd t

module _ (f g : ℕ → ℕ) (F : Linear f) (G : Linear g) (z : f 0 ≡ g 0) where
  agree : (k : ℕ) → T (alike f g k) → (v : ℕ) → v < 2 ^ k → f v ≡ g v
  unfolding alike
  agree zero t v h = ap f (lt-one h) ∙ z ∙ ap g (sym (lt-one h))
  agree (suc k) t v h =
      let q = v / 2 ^ k in
      let r = v % 2 ^ k in
      let few : q < 2 = (div-lt_iff_lt-mul (pow_pos k)).1 (rw (pow-suc 2 k, mul_comm (2 ^ k) 2) at h) in
      let top : f (q * 2 ^ k) ≡ g (q * 2 ^ k) =
      bit (λ x. f (x * 2 ^ k) ≡ g (x * 2 ^ k)) (rw (zero-mul (2 ^ k)) z)
      (rw (one-mul (2 ^ k)) (eqb→eq _ _ (left (eqb (f (2 ^ k)) (g (2 ^ k))) (alike f g k) t))) few in
      let rest = agree k (right (eqb (f (2 ^ k)) (g (2 ^ k))) (alike f g k) t) r (mod-lt v (pow_pos k)) in
      ap f (parts k v)
      ∙ F (q * 2 ^ k) r
      ∙ ap₂ bit_xor top rest
      ∙ sym (G (q * 2 ^ k) r)
      ∙ ap g (sym (parts k v))

-- ── What the folds are worth ───────────────────────────────────────────────

-- behind j shifts, the fold f of a number of k bits is k shifts of it
abbrev Worth : ℕ → ℕ → (ℕ → ℕ) → Type 0
Worth j k f = (v : ℕ) → v < 2 ^ k → shifts j (f v) ≡ shifts (k + j) v

worth : (j k : ℕ) (f : ℕ → ℕ) → Linear f → shifts j (f 0) ≡ shifts (k + j) 0 → T (alike (λ v. shifts j (f v)) (shifts (k + j)) k)
    → Worth j k f
worth j k f F z t v h =
    agree (λ v. shifts j (f v)) (shifts (k + j)) (λ a b. ap (shifts j) (F a b) ∙ shifts_linear j (f a) (f b)) (shifts_linear (k + j))
    z k t v h

fold8_law : Worth 64 8 fold8
unfolding fold8 alike shifts shifted
fold8_law =
    let one : ℕ → ℕ = λ v. bit_xor v (v * 2 ^ 6) in
    let two : ℕ → ℕ = λ v. bit_xor (one v) (v * 2 ^ 7) in
    let three : ℕ → ℕ = λ v. bit_xor (two v) (v * 2 ^ 14) in
    worth 64 8 fold8 (and three 15 (and two 14 (and one 7 (and (λ v. v) 6 same)))) refl tt

fold16_law : Worth 16 16 fold16
unfolding fold16 alike shifts shifted
fold16_law =
    let one : ℕ → ℕ = λ v. bit_xor v (v * 2 ^ 12) in
    worth 16 16 fold16 (and one 15 (and (λ v. v) 12 same)) refl tt

fold48_law : Worth 64 48 fold48
unfolding fold48 alike shifts shifted
fold48_law =
    let one : ℕ → ℕ = λ v. bit_xor v (v * 2 ^ 8) in
    let two : ℕ → ℕ = λ v. bit_xor (one v) (v * 2 ^ 12) in
    let three : ℕ → ℕ = λ v. bit_xor (two v) (v * 2 ^ 14) in
    worth 64 48 fold48 (and three 15 (and two 14 (and one 12 (and (λ v. v) 8 same)))) refl tt

-- ── Past k shifts ──────────────────────────────────────────────────────────

pub shifts-add : (j k r : ℕ) → shifts (j + k) r ≡ shifts k (shifts j r)
unfolding shifts
shifts-add zero k r = ap (λ n. shifts n r) (zero-add k)
shifts-add (suc j) k r = ap (λ n. shifts n r) (suc-add j k) ∙ shifts-add j k (shifted r)

past_law : (j k : ℕ) (f : ℕ → ℕ) → Worth j k f → (x : ℕ) → shifts j (past k f x) ≡ shifts (k + j) x
past_law j k f law x =
    let hi = x / 2 ^ k in
    let v = x % 2 ^ k in
    shifts_linear j hi (f v)
    ∙ ap (bit_xor (shifts j hi)) (law v (mod-lt x (pow_pos k)) ∙ shifts-add k j v)
    ∙ sym (shifts_linear j hi (shifts k v))
    ∙ ap (shifts j) (sym (shifts-parts k x))
    ∙ sym (shifts-add k j x)

-- ── What is taken ──────────────────────────────────────────────────────────

-- k bits, c, go into the top of a register of j + k
taken_law : (j k : ℕ) (f : ℕ → ℕ) → Worth (j + k) k f → (acc c : ℕ)
    → shifts (j + k) (bit_xor (past k f acc) (c * 2 ^ j)) ≡ shifts k (bit_xor (shifts (j + k) acc) c)
taken_law j k f law acc c =
    let old : shifts (j + k) (past k f acc) ≡ shifts k (shifts (j + k) acc) =
    past_law (j + k) k f law acc ∙ ap (λ n. shifts n acc) (add_comm k (j + k)) ∙ shifts-add (j + k) k acc in
    let new : shifts (j + k) (c * 2 ^ j) ≡ shifts k c = shifts-add j k (c * 2 ^ j) ∙ ap (shifts k) (shifts_back j c) in
    shifts_linear (j + k) (past k f acc) (c * 2 ^ j)
    ∙ ap₂ bit_xor old new
    ∙ sym (shifts_linear k (shifts (j + k) acc) c)

pub six_law : (acc c : ℕ) → shifts 64 (taken_six acc c) ≡ shifts 48 (bit_xor (shifts 64 acc) c)
unfolding taken_six
six_law acc c = taken_law 16 48 fold48 fold48_law acc c

pub byte_law : (acc b : ℕ) → shifts 64 (taken_byte acc b) ≡ shifts 8 (bit_xor (shifts 64 acc) b)
unfolding taken_byte
byte_law acc b = taken_law 56 8 fold8 fold8_law acc b

-- ── Settling ───────────────────────────────────────────────────────────────

pub sixteen_law : (k x : ℕ) → shifts (32 + k) x ≡ shifts (16 + k) (sixteen_past x)
unfolding sixteen_past
sixteen_law k x =
    shifts-add 32 k x
    ∙ ap (shifts k) (sym (past_law 16 16 fold16 fold16_law x))
    ∙ sym (shifts-add 16 k (past 16 fold16 x))
