-- What 01 asks of the reading rule's freedom: which sets of extra arrows, with which supplies, some table must be read as.
--
--   ExtraSet p E    E is a set of at most m - 1 extra arrows over p that climb by at least 2 and give no state two arrows on a letter, the
--                   spine counted
--   Lower p S       S gives each state above 0 a smaller state
--   ReadAs p E S L  the table L has 6(m+1) entries of 16 bits, and by the rule the word p, the spine with E and nothing else, and the
--                   supplies S are read from it
--
-- 01, 'When the library says no', its last sentence.
use Rattle.std.specs.Prelude.{◌≡◌, ℕ, pred, ◌+◌, ◌-◌, ◌≤◌, ◌<◌, length}
use Rattle.std.proofs.Math.Option.{none, some}
use mathlib.Core.List.{List, ◌++◌, Memᴰ}
use Rattle.words.specs.Lists.{at}
use Rattle.words.specs.Words.{Letter, Word, letter}
use Rattle.oracle.specs.Arrows.{State, Arrow, target, spine, OneEach}
use Rattle.table.specs.Table.{room, read_word, read_arrow, read_supply}

-- an extra arrow carries its target's letter
pub record ExtraSet (p : Word) (E : List Arrow) : Type 0 where
  pub few : length E ≤ length p - 1
  pub climbs : (a : Arrow) → Memᴰ a E → a.source + 2 ≤ a.to
  pub inside : (a : Arrow) → Memᴰ a E → a.to ≤ length p
  pub letters : (a : Arrow) → Memᴰ a E → a.on ≡ letter p (pred a.to)
  pub one_each : OneEach (E ++ spine p)

abbrev pub Lower : Word → (State → State) → Type 0
Lower p S = (x : State) → 0 < x → x ≤ length p → S x < x

pub record ReadAs (p : Word) (E : List Arrow) (S : State → State) (L : List ℕ) : Type 0 where
  pub size : length L ≡ room (length p)
  pub word : read_word (length p) L ≡ p
  pub arrows : (x : State) (c : Letter) → read_arrow (length p) L x c ≡ target (E ++ spine p) x c
  pub no_supply : read_supply (length p) L 0 ≡ none
  pub supplies : (x : State) → 0 < x → x ≤ length p → read_supply (length p) L x ≡ some (S x)
  pub entries : length p < 65535 → ((i : ℕ) → letter p i < 65536) → (i : ℕ) → at L i < 65536
