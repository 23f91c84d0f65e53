-- `failure_table::fill_mirror` meets its contract: a mirror's letters are bytes too.
use mathlib.Core.Logic.{by_cases}
use Prim.Native.Nat.{ℕ, ◌<◌}
use native.Mathlib.Decide.{dec_lt}
use native.Mathlib.Omega.{arith}
use lib.ListN.{length, length-reverse, get_or-eq_default}
use Rattle.std.proofs.lemmas.Grind.{common_steps}
use Rattle.words.specs.Words.{Word, letter, mirror}
use Rattle.table.proofs.Copying.{mirror-small}
use Rattle.failure_table.proofs.fill_mirror.Goals as goal

-- a letter past the mirror is zero
bytes : (w : Word) → ((i : ℕ) → letter w i < 256) → (i : ℕ) → letter (mirror w) i < 256
bytes w small i = by_cases (dec_lt i (length w)) (mirror-small w small i)
    (λ f. omega (arith, get_or-eq_default (mirror w) 0 {n = i} (omega (arith, length-reverse w))))

pub finish-requires-clause-bytes : goal.finish-requires-clause-bytes
finish-requires-clause-bytes c k =
    grind (arith, common_steps, c.put_mirror.ensures, bytes c.args.word.now (λ i. omega (arith, c.type_inv.word i)) k)
