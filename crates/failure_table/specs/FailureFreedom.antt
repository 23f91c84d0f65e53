-- What 01 asks of the reading rule's freedom, for the failure oracle: over any one word, every such set of arrows is read from some table
-- of 10(m+1) entries, so the rule cannot know the arrows from the word.
--
--   FailureSet p A       A is a set of arrows over p: at most m extra symbol arrows, which lead from states to states above 0 and give no
--                        state two arrows on a letter, the spine counted; and failure arrows that climb and stay below m, one at most from
--                        a state
--   ReadAsFailure p A L  the table L has 10(m+1) entries of 16 bits, and by the rule the word p, the spine with the extra arrows of A and
--                        nothing else, and the failure arrows of A and no others are read from it
--
-- 01, 'When the library says no', its last sentence; 02, 'Failure oracle'.
use Rattle.std.specs.Prelude.{◌≡◌, ℕ, pred, ◌≤◌, ◌<◌, length}
use mathlib.Core.List.{List, Memᴰ}
use Rattle.words.specs.Lists.{at}
use Rattle.words.specs.Words.{Letter, Word, letter}
use Rattle.oracle.specs.Arrows.{State, Arrow, target, OneEach}
use Rattle.failure.specs.FailureRule.{Failure, failure_of, OneFailure, FailureArrows, symbols}
use Rattle.table.specs.Table.{read_word}
use Rattle.failure_table.specs.FailureTable.{failure_room, read_symbol, read_failure}

-- an extra arrow carries the letter of the state that it leads to
pub record FailureSet (p : Word) (A : FailureArrows) : Type 0 where
  pub few : length A.extra ≤ length p
  pub sources : (a : Arrow) → Memᴰ a A.extra → a.source ≤ length p
  pub above : (a : Arrow) → Memᴰ a A.extra → 0 < a.to
  pub inside : (a : Arrow) → Memᴰ a A.extra → a.to ≤ length p
  pub letters : (a : Arrow) → Memᴰ a A.extra → a.on ≡ letter p (pred a.to)
  pub one_each : OneEach (symbols p A)
  pub climbs : (f : Failure) → Memᴰ f A.failures → (f.source < f.to) × (f.to < length p)
  pub one-failure : OneFailure A.failures

pub record ReadAsFailure (p : Word) (A : FailureArrows) (L : List ℕ) : Type 0 where
  pub size : length L ≡ failure_room (length p)
  pub word : read_word (length p) L ≡ p
  pub symbol_arrows : (x : State) (c : Letter) → read_symbol (length p) L x c ≡ target (symbols p A) x c
  pub failure_arrows : (x : State) → read_failure (length p) L x ≡ failure_of A.failures x
  pub entries : length p < 65535 → ((i : ℕ) → letter p i < 65536) → (i : ℕ) → at L i < 65536
