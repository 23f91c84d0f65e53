-- THE THEOREMS on the table of a word: it is formed, and by its reading rule the word, every symbol arrow and every failure arrow of the
-- failure oracle are read from it. The rule's arrows are a set as `FailureSet` has it, and the table of every such set is read as that set.
use mathlib.Core.Path.{◌≡◌}
use Prim.Native.Nat.{◌-◌, ◌≤◌, ◌<◌}
use native.Mathlib.Omega.{arith}
use lib.ListN.{length}
use Rattle.words.specs.Words.{Letter, Word}
use Rattle.oracle.specs.Arrows.{State, target}
use Rattle.failure.specs.FailureRule.{failure_of, symbols, ask_in, failure_rule}
use Rattle.failure.proofs.Rule.{suffixes_walked}
use Rattle.table.specs.Table.{read_word}
use Rattle.failure_table.specs.FailureTable.{failure_room, failure_table, read_symbol, read_failure, read_ask}
use Rattle.failure_table.specs.FailureFormed.{FailureFormed}
use Rattle.failure_table.specs.FailureFreedom.{FailureSet}
use Rattle.failure_table.proofs.LaidOut.{laid_word}
use Rattle.failure_table.proofs.ReadBack.{laid, added-set, laid-formed, symbols-read, failures-read, steps-read}

module _ (p : Word) (some-letter : 1 ≤ length p) where
  -- the rule's arrows are a set of arrows over the word
  pub rule-set : FailureSet p (failure_rule p)
  unfolding failure_rule
  rule-set = added-set p (suffixes_walked p (length p - 1) (omega arith)).one_by_one (omega arith)

  -- the table has ten rows
  pub table-size : length (failure_table p) ≡ failure_room (length p)
  unfolding failure_table
  table-size = (laid p rule-set).size

  -- a lookup in it stays inside
  pub table-formed : length p < 65535 → FailureFormed (failure_table p) (length p)
  unfolding failure_table
  table-formed small = laid-formed p rule-set small

  -- the word is read from it
  pub word_read : read_word (length p) (failure_table p) ≡ p
  unfolding failure_table
  word_read = laid_word (laid p rule-set)

  -- so are the symbol arrows
  pub symbol-read : (x : State) (c : Letter) → read_symbol (length p) (failure_table p) x c ≡ target (symbols p (failure_rule p)) x c
  unfolding failure_table
  symbol-read x c = symbols-read p rule-set x c

  -- and the failure arrows
  pub failure-read : (x : State) → read_failure (length p) (failure_table p) x ≡ failure_of (failure_rule p).failures x
  unfolding failure_table
  failure-read x = failures-read p rule-set x

  -- so what becomes of a letter by the table is what becomes of it by the rule's arrows
  pub ask-read : read_ask (length p) (failure_table p) ≡ ask_in p (failure_rule p)
  unfolding failure_table
  ask-read = steps-read p rule-set
