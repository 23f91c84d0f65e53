-- TWO TABLES OVER ONE WORD, ab: one has the extra arrow 0 to 2 and the supply 0 of state 2, the other has no extra arrow and the supply 1.
-- So no rule that works arrows or supplies out of the word reads both.
use mathlib.Core.Path.{◌≡◌, refl}
use mathlib.Core.Option.{none, some}
use mathlib.Core.List.Memᴰ
use mathlib.Core.List.{List, [], ◌∷◌}
use Prim.Native.Nat.{ℕ, pred}
use native.Mathlib.Omega.{arith}
use Rattle.words.specs.Lists.{from}
use Rattle.words.specs.Words.{Word}
use Rattle.oracle.specs.Arrows.{Arrow, arrow, target, spine, OneEach}
use Rattle.table.specs.Table.{read_word, read_arrow, read_supply}
use Rattle.table.specs.Freedom.{ExtraSet, ReadAs}
use Rattle.table.proofs.Freedom.{freedom}

abbrev pub ab : Word
ab = 97 ∷ 98 ∷ []

abbrev leap : Arrow
leap = arrow 0 98 2

with_leap : ExtraSet ab (leap ∷ [])
unfolding from target spine OneEach
with_leap = record {
  few = omega arith;
  climbs = λ a i. rw (Memᴰ.eq_of_singleton i) (omega arith);
  inside = λ a i. rw (Memᴰ.eq_of_singleton i) (omega arith);
  letters = λ a i. rw (Memᴰ.eq_of_singleton i);
  one_each = (refl, (refl, (refl, tt)));
}

without : ExtraSet ab []
unfolding from target spine OneEach
without = record {
  few = omega arith;
  climbs = λ a i. absurd (Memᴰ.not-nil i);
  inside = λ a i. absurd (Memᴰ.not-nil i);
  letters = λ a i. absurd (Memᴰ.not-nil i);
  one_each = (refl, (refl, tt));
}

one : (L : List ℕ) × ReadAs ab (leap ∷ []) (λ x. 0) L
one = freedom ab (leap ∷ []) (λ x. 0) with_leap (λ x h b. h)

two : (L : List ℕ) × ReadAs ab [] pred L
two = freedom ab [] pred without (λ x h b. omega arith)

pub two_tables : (L : List ℕ) × (L' : List ℕ) × (read_word 2 L ≡ ab) × (read_word 2 L' ≡ ab)
    × (read_arrow 2 L 0 98 ≡ some 2) × (read_arrow 2 L' 0 98 ≡ none) × (read_supply 2 L 2 ≡ some 0) × (read_supply 2 L' 2 ≡ some 1)
unfolding from target spine
two_tables = (
  one.0,
  two.0,
  one.1.word,
  two.1.word,
  one.1.arrows 0 98,
  two.1.arrows 0 98,
  one.1.supplies 2 (omega arith) (omega arith),
  two.1.supplies 2 (omega arith) (omega arith),
)
