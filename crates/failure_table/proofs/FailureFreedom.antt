-- THE RULE'S FREEDOM: over any one word, every set of arrows as `FailureSet` has it is read from some table of 10(m+1) entries, so the rule
-- cannot know the arrows from the word. The table is the one that `failure_table_from` lays out. That its entries are small goes by what is
-- written: letters, targets and slots.
use mathlib.Core.Path.{refl}
use mathlib.Core.List.{List, [], ◌∷◌, Memᴰ}
use Prim.Native.Nat.{ℕ, zero, suc, ◌+◌, ◌*◌, ◌<◌}
use native.Mathlib.Omega.{arith}
use lib.ListN.{length, set}
use Rattle.words.specs.Lists.{at}
use Rattle.words.specs.Words.{Word, letter}
use Rattle.words.proofs.Lists.{Small, set-small}
use Rattle.oracle.specs.Arrows.{Arrow}
use Rattle.failure.specs.FailureRule.{Failure, FailureArrows}
use Rattle.failure_table.specs.FailureTable.{word_alone, slotted, lay_failures, lay_arrows, failure_table_from}
use Rattle.failure_table.specs.FailureFreedom.{FailureSet, ReadAsFailure}
use Rattle.failure_table.proofs.LaidOut.{laid_word, alone_at}
use Rattle.failure_table.proofs.ReadBack.{laid, symbols-read, failures-read}

module _ (b : ℕ) where
  alone-small : (p : Word) → ((i : ℕ) → letter p i < b) → 0 < b → Small b (word_alone p)
  alone-small p letters h zero = rw (alone_at p 0) h
  alone-small p letters h (suc i) = rw (alone_at p (suc i)) (letters i)

  failures-small : (n : ℕ) (F : List Failure) (L : List ℕ) → ((f : Failure) → Memᴰ f F → f.to < b) → Small b L
      → Small b (lay_failures n F L)
  unfolding lay_failures
  failures-small n [] L to S = S
  failures-small n (f ∷ F) L to S =
      let before = failures-small n F L (λ g i. to g (Memᴰ.tail i)) S in
      set-small b (lay_failures n F L) (n + f.source) f.to before (to f (Memᴰ.head refl))

  arrows-small : (n : ℕ) (E : List Arrow) (L : List ℕ) → ((a : Arrow) → Memᴰ a E → a.to < b) → length E < b → Small b L
      → Small b (lay_arrows n E L)
  unfolding lay_arrows slotted
  arrows-small n [] L to few S = S
  arrows-small n (a ∷ E) L to few S =
      let K = lay_arrows n E L in
      let first = at K (2 * n + a.source) in
      let slot = length E + 1 in
      let with_target = set K (4 * n + slot) a.to in
      let with_next = set with_target (3 * n + slot) first in
      let before = arrows-small n E L (λ c i. to c (Memᴰ.tail i)) (omega arith) S in
      let target_small = set-small b K (4 * n + slot) a.to before (to a (Memᴰ.head refl)) in
      let next_small = set-small b with_target (3 * n + slot) first target_small (before (2 * n + a.source)) in
      set-small b with_next (2 * n + a.source) slot next_small (omega arith)

-- for every word and every such set there is a table that is read as the set
pub failure_freedom : (p : Word) (A : FailureArrows) → FailureSet p A → (L : List ℕ) × ReadAsFailure p A L
unfolding failure_table_from
failure_freedom p A X = (
  failure_table_from p A,
  record {
    size = (laid p X).size;
    word = laid_word (laid p X);
    symbol_arrows = symbols-read p X;
    failure_arrows = failures-read p X;
    entries = λ few letters.
        arrows-small 65536 (length p + 1) A.extra _ (λ a i. omega (arith, X.inside a i)) (omega arith)
        (failures-small 65536 (length p + 1) A.failures _ (λ f i. omega (arith, X.climbs f i))
        (alone-small 65536 p letters (omega arith)));
  },
)
