-- THE TABLE'S RULE: entry n is what four shifts make of n, shown by one computation over the whole table.
use mathlib.Core.Path.{◌≡◌, refl, sym, ap, ◌∙◌}
use mathlib.Core.List.{List, [], ◌∷◌}
use Prim.Native.Nat.{ℕ, zero, suc, ◌+◌, ◌/◌, ◌%◌, ◌<◌}
use native.Mathlib.Nat.{add-zero, mod-lt}
use native.Mathlib.Omega.{arith}
use lib.Bits.{bit_xor}
use lib.Dec.{lit<}
use lib.ListN.{get_or}
use Rattle.crc.specs.Check.{shifted, shifts, half_bytes}
use Rattle.crc.proofs.Shifts.{shifts-parts, shifts-small}

-- f i, f (i + 1), .., k of them
pub made : (ℕ → ℕ) → ℕ → ℕ → List ℕ
made f i zero = []
made f i (suc k) = f i ∷ made f (suc i) k

made_at : (f : ℕ → ℕ) (i k n : ℕ) → n < k → get_or (made f i k) n 0 ≡ f (i + n)
unfolding made
made_at f i zero n h = absurd (omega arith)
made_at f i (suc k) zero h = ap f (sym (add-zero i))
made_at f i (suc k) (suc n) h = made_at f (suc i) k n (omega arith) ∙ ap f (omega arith)

pub table-rule : half_bytes ≡ made (shifts 4) 0 16
unfolding shifts shifted made
table-rule = refl

pub table_at : (n : ℕ) → n < 16 → get_or half_bytes n 0 ≡ shifts 4 n
table_at n h = ap (λ l. get_or l n 0) table-rule ∙ made_at (shifts 4) 0 16 n h ∙ ap (shifts 4) (omega arith)

-- sixteen bits
pub table-small : (r : ℕ) → get_or half_bytes (r % 16) 0 < 65536
table-small r =
    let few : r % 16 < 16 = mod-lt r (lit< tt) in
    rw (table_at (r % 16) few) (shifts-small 4 (r % 16) (omega arith))

-- four shifts by the table
pub four : (r : ℕ) → bit_xor (r / 16) (get_or half_bytes (r % 16) 0) ≡ shifts 4 r
four r = ap (bit_xor (r / 16)) (table_at (r % 16) (mod-lt r (lit< tt))) ∙ sym (shifts-parts 4 r)
