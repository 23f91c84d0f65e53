-- THE THEOREMS that tie the search's loop to 02's steps: over the table of the mirrored word it makes exactly the steps of the search with
-- the failure oracle, since that table is read as the oracle's arrows. A mirror is as long as its word.
use mathlib.Core.Path.{◌≡◌, ap}
use Prim.Native.Nat.{◌≤◌, ◌<◌}
use native.Mathlib.Omega.{arith}
use lib.ListN.{length, length-reverse}
use Rattle.words.specs.Words.{Word, mirror, occurrences}
use Rattle.failure.specs.FailureRule.{Asking}
use Rattle.failure.specs.FailureSteps.{failure_steps_with, failure_steps}
use Rattle.failure.proofs.Theorems.{search-lists}
use Rattle.failure_table.specs.FailureTable.{failure_table, read_ask}
use Rattle.failure_table.specs.FailureFormed.{FailureFormed}
use Rattle.failure_table.proofs.Theorems.{table-formed, ask-read}

module _ (w : Word) (some-letter : 1 ≤ length w) where
  mirrored : 1 ≤ length (mirror w)
  mirrored = omega (arith, length-reverse w)

  -- the table of the mirror is formed
  pub mirror-formed : length w < 65535 → FailureFormed (failure_table (mirror w)) (length w)
  mirror-formed h = rw (length-reverse w) at (table-formed (mirror w) mirrored (omega (arith, length-reverse w)))

  -- the loop makes the steps of the search
  pub scan_steps : (t : Word) → failure_steps_with (read_ask (length w) (failure_table (mirror w))) w t ≡ failure_steps w t
  unfolding failure_steps
  scan_steps t = ap (λ (σ : Asking). failure_steps_with σ w t) (rw (length-reverse w) at (ask-read (mirror w) mirrored))

  -- so it lists the occurrences
  pub scan_lists : (t : Word) → (failure_steps_with (read_ask (length w) (failure_table (mirror w))) w t).starts ≡ occurrences w t
  scan_lists t = rw (scan_steps t) (search-lists w t)
