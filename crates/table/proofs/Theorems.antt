-- THE THEOREMS on the table of a word, for every word of whatever length, each a sentence about the definitions alone: the table has 6(m+1)
-- entries, and the rule reads from it the word, the suffix rule's arrows and 001's supplies.
use mathlib.Core.Path.{◌≡◌, sym, ◌∙◌}
use mathlib.Core.Option.{some, get_or}
use Prim.Native.Nat.{ℕ, zero, suc, ◌≤◌, ◌<◌}
use native.Mathlib.Omega.{arith}
use lib.ListN.{length}
use Rattle.words.specs.Lists.{at}
use Rattle.words.specs.Words.{Letter, Word, letter}
use Rattle.oracle.specs.Arrows.{State}
use Rattle.oracle.specs.SuffixRule.{oracle}
use Rattle.oracle.specs.LetterRule.{letter_rule}
use Rattle.oracle.specs.Supply.{supply}
use Rattle.oracle.specs.FileOrder.{extra_targets}
use Rattle.oracle.proofs.Chain.{Supplied, on_below}
use Rattle.oracle.proofs.LetterRule.{supplies}
use Rattle.oracle.proofs.FileOrder.{oracle_extras_fit}
use Rattle.oracle.proofs.Theorems.{oracle-supplied, supply_lower, no_supply}
use Rattle.table.specs.Table.{room, table_of, read_word, read_targets, read_arrow, read_supply}
use Rattle.table.proofs.Rows.{from_size_lem, from_small}
use Rattle.table.proofs.ReadBack.{Over, reads_word, reads-supply, reads_no_supply, reads-targets, reads-arrow}

module _ (p : Word) where
  -- the suffix rule's arrows are an automaton over the word
  pub oracle-over : Over p (oracle p)
  oracle-over = record { spine = O.spine; into = into; fits = omega (arith, oracle_extras_fit p (suc (length p))) }
    where
      O : Supplied (length p) (letter p) (oracle p) (supplies (letter_rule p))
      O = oracle-supplied p

      into : (x : State) (c : Letter) (y : State) → oracle p x c ≡ some y
          → (z : State) × (y ≡ suc z) × (z < length p) × (c ≡ letter p z) × (x ≤ z)
      into x c y e = let v = O.into x c y e in (v.z, v.to, v.inside, v.letter, on_below O (omega (arith, v.inside)) v.on)

  -- 6(m+1) entries
  pub table-size : length (table_of p) ≡ room (length p)
  unfolding table_of
  table-size = from_size_lem p (oracle p) _

  -- each of 16 bits, where letters are and m is below 65535
  pub table-entries : length p < 65535 → ((i : ℕ) → letter p i < 65536) → (i : ℕ) → at (table_of p) i < 65536
  unfolding table_of
  table-entries few letters = from_small p (oracle p) _ few letters supplies oracle-over.fits
    where
      supplies : (x : ℕ) → x < length p → get_or (supply p (suc x)) 0 < 65536
      supplies x h = let s = supply_lower p (suc x) (omega arith) h in rw s.1 (omega (arith, s.2))

  -- the word is read from it
  pub table-word : read_word (length p) (table_of p) ≡ p
  unfolding table_of
  table-word = reads_word p (oracle p) _

  -- the extra targets of each state, in the file's order
  pub table-targets : (x : State) → x < length p → read_targets (length p) (table_of p) x ≡ extra_targets (oracle p) p x
  unfolding table_of
  table-targets = reads-targets p oracle-over _

  -- every arrow
  pub table-arrow : (x : State) (c : Letter) → read_arrow (length p) (table_of p) x c ≡ oracle p x c
  unfolding table_of
  table-arrow = reads-arrow p oracle-over _

  -- every supply; state 0 has none
  pub table-supply : (x : State) → x ≤ length p → read_supply (length p) (table_of p) x ≡ supply p x
  unfolding table_of
  table-supply zero h = reads_no_supply (length p) _ ∙ sym (no_supply p)
  table-supply (suc x) h =
      let s = supply_lower p (suc x) (omega arith) h in
      reads-supply p (oracle p) _ (suc x) (omega arith) h ∙ rw s.1
