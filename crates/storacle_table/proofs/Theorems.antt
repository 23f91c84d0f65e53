-- THE THEOREMS on the table of a word: by its reading rule the word and every arrow of the storacle are read from it, and no others. The
-- rule's arrows are a set as `StoracleSet` has it, and the table of every such set is read as that set.
use mathlib.Core.Path.{◌≡◌, sym}
use mathlib.Core.List.{List}
use Prim.Native.Nat.{ℕ}
use native.Mathlib.Omega.{arith}
use lib.ListN.{length}
use Rattle.words.specs.Words.{Letter, Word}
use Rattle.oracle.specs.Arrows.{State, Arrow}
use Rattle.storacle.specs.StoracleRule.{storacle_rule, storacle}
use Rattle.storacle.proofs.Stitched.{Stitched, stitched-first, stitched-one_each}
use Rattle.storacle.proofs.Theorems.{rule-stitched}
use Rattle.table.specs.Table.{read_word}
use Rattle.storacle_table.specs.StoracleTable.{storacle_room, storacle_table_from, storacle_table, read_storacle}
use Rattle.storacle_table.specs.StoracleFreedom.{StoracleSet}
use Rattle.storacle_table.proofs.Laid.{Laid, laid_word}
use Rattle.storacle_table.proofs.ReadBack.{all_laid, arrows-read}

-- arrows that are added one by one are a set of arrows over the word
pub stitched-set : {p : Word} {A : List Arrow} → Stitched p A → StoracleSet p A
stitched-set S = record {
  sources = λ a i. let F = stitched-first S i in omega (arith, F.later, F.state);
  above = λ a i. omega (arith, (stitched-first S i).later);
  inside = λ a i. (stitched-first S i).state;
  letters = λ a i. sym (stitched-first S i).incoming;
  one_each = stitched-one_each S;
}

-- and laid out in their table
pub stitched-laid : {p : Word} {A : List Arrow} {L : List ℕ} → Stitched p A → L ≡ storacle_table_from p A → Laid p A L
stitched-laid {p} {A} S e = rw e (all_laid p A (stitched-set S))

module _ (p : Word) where
  pub rule-set : StoracleSet p (storacle_rule p)
  rule-set = stitched-set (rule-stitched p)

  pub table-size : length (storacle_table p) ≡ storacle_room (length p)
  unfolding storacle_table
  table-size = (all_laid p (storacle_rule p) rule-set).size

  -- the word is read from it
  pub word_read : read_word (length p) (storacle_table p) ≡ p
  unfolding storacle_table
  word_read = laid_word (all_laid p (storacle_rule p) rule-set)

  -- so are the arrows
  pub arrow-read : (x : State) (c : Letter) → read_storacle (length p) (storacle_table p) x c ≡ storacle p x c
  unfolding storacle_table
  arrow-read = arrows-read p rule-set
