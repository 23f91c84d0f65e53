-- WHAT TAKING A PIECE WITH LENT BYTES SAYS: the whole outcome as a function of what is lent.
--
--   Outcome               the answer, the number of finds where there is one, the bytes and the list as they are left
--   took r B F            the outcome of code that answers r and leaves the bytes B and the list F
--   is_done a             whether a is an answer, and no refusal
--   leaves B o            what the outcome o of taking comes to where the bytes B are lent
--   take_bytes_says B v F what it must be: 16 where fewer bytes are lent than a searcher has; else as taking with the searcher that has the
--                         first bytes says, whose bytes are changed by a success only, and those behind them never
--
-- 02, 'Uploads in pieces'; demand 1.
use Rattle.std.specs.Prelude.{Bool, true, false, cond, List, ◌++◌, ℕ, length, take, drop, ltb, Result}
use Rattle.words.specs.Words.{Word, Place}
use Rattle.answers.specs.declared.Refusal.{Refusal}
use Rattle.answers.specs.Answers.{Answer, done, refused, refused_at, size_answer, unmade}
use Rattle.stream.specs.Taking
use Rattle.stream.specs.Taking.{take_says}
use Rattle.searcher_bytes.specs.Packing.{searcher_bytes, packed, unpacked}

pub record Outcome : Type 0 where
  pub answer : Answer ℕ
  pub bytes : List ℕ
  pub list : List Place

abbrev pub outcome : Answer ℕ → List ℕ → List Place → Outcome
outcome a B F = record { answer = a; bytes = B; list = F }

abbrev pub took : Result ℕ Refusal → List ℕ → List Place → Outcome
took r B F = outcome (size_answer r) B F

abbrev pub is_done : Answer ℕ → Bool
is_done (done n) = true
is_done (refused n) = false
is_done (refused_at n p) = false

abbrev pub leaves : List ℕ → Taking.Outcome → Outcome
leaves B o = outcome o.answer (cond (is_done o.answer) (packed o.next ++ drop searcher_bytes B) B) o.list

unfoldable pub take_bytes_says : List ℕ → Word → List Place → Outcome
take_bytes_says B v F =
    cond (ltb (length B) searcher_bytes) (outcome (refused unmade) B F)
    (leaves B (take_says (unpacked (take searcher_bytes B)) v F))
