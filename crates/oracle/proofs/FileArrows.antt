-- The extra arrows of a word, as its file has them: each leaves a state below the last, climbs by at least 2, and ends within the word's
-- states.
use mathlib.Core.List.{Memᴰ}
use Prim.Native.Nat.{◌+◌, ◌≤◌, ◌<◌}
use lib.ListN.{length}
use Rattle.words.specs.Words.{Word}
use Rattle.oracle.specs.SuffixRule.{oracle}
use Rattle.oracle.specs.FileOrder.{Extra, file_arrows}
use Rattle.oracle.proofs.FileOrder.{extra-target, extra-before}

pub record Climbing (p : Word) (a : Extra) : Type 0 where
  pub below : a.source < length p
  pub climbs : a.source + 2 ≤ a.to
  pub inside : a.to ≤ length p

pub file-arrow-climbs : (p : Word) {a : Extra} → Memᴰ a (file_arrows p) → Climbing p a
unfolding file_arrows
file-arrow-climbs p {a} m =
    let r = extra-before (oracle p) p (length p) m in
    let t = extra-target (oracle p) p a.source r.1 in
    record { below = r.0; climbs = t.0; inside = t.1 }
