-- What 01 asks of the reading rule's freedom, for the storacle: over any one word, every such set of arrows is read from some table of
-- (m+1)(m+6) entries, so the rule cannot know the arrows from the word.
--
--   StoracleSet p A       A is a set of arrows over p: they lead from states to states above 0, whose letter they carry, and give no state
--                         two arrows on a letter
--   ReadAsStoracle p A L  the table L has (m+1)(m+6) entries of 16 bits, and by the rule the word p, the arrows of A and no others are
--                         read from it
--
-- 01, 'When the library says no', its last sentence; 02, 'Storacle'.
use Rattle.std.specs.Prelude.{◌≡◌, ℕ, pred, ◌≤◌, ◌<◌, length}
use mathlib.Core.List.{List, Memᴰ}
use Rattle.words.specs.Lists.{at}
use Rattle.words.specs.Words.{Letter, Word, letter}
use Rattle.oracle.specs.Arrows.{State, Arrow, target, OneEach}
use Rattle.table.specs.Table.{read_word}
use Rattle.storacle_table.specs.StoracleTable.{storacle_room, read_storacle}

pub record StoracleSet (p : Word) (A : List Arrow) : Type 0 where
  pub sources : (a : Arrow) → Memᴰ a A → a.source ≤ length p
  pub above : (a : Arrow) → Memᴰ a A → 0 < a.to
  pub inside : (a : Arrow) → Memᴰ a A → a.to ≤ length p
  pub letters : (a : Arrow) → Memᴰ a A → a.on ≡ letter p (pred a.to)
  pub one_each : OneEach A

pub record ReadAsStoracle (p : Word) (A : List Arrow) (L : List ℕ) : Type 0 where
  pub size : length L ≡ storacle_room (length p)
  pub word : read_word (length p) L ≡ p
  pub arrows : (x : State) (c : Letter) → read_storacle (length p) L x c ≡ target A x c
  pub entries : length p < 65536 → ((i : ℕ) → letter p i < 65536) → (i : ℕ) → at L i < 65536
