-- THE RULE'S FREEDOM: a table is read as any set of extra arrows over the word that 01 asks for, with any supplies that fall. It is the one
-- that `table_from` lays out; what has to be shown is that the spine with such a set is an automaton over the word.
use mathlib.Core.Path.{◌≡◌}
use mathlib.Core.Logic.{◌⊎◌, inl, inr}
use mathlib.Core.Option.{some}
use mathlib.Core.List.Memᴰ
use mathlib.Core.List.{List, ◌++◌, Memᴰ}
use Prim.Native.Nat.{ℕ, suc, pred, ◌+◌, ◌≤◌, ◌<◌}
use native.Mathlib.Nat.{le_refl}
use native.Mathlib.Omega.{arith}
use lib.ListN.{length}
use Rattle.words.specs.Words.{Letter, Word, letter}
use Rattle.oracle.specs.Arrows.{State, Arrow, arrow, Delta, target, spine}
use Rattle.oracle.specs.FileOrder.{targets_before}
use Rattle.oracle.proofs.Targets.{target_member, member_target}
use Rattle.oracle.proofs.SuffixRule.{spine-target}
use Rattle.oracle.proofs.FileOrder.{extras_fit, spine_member, climbing_extra}
use Rattle.table.specs.Table.{table_from}
use Rattle.table.specs.Freedom.{ExtraSet, Lower, ReadAs}
use Rattle.table.proofs.Rows.{from_size_lem, from_small}
use Rattle.table.proofs.ReadBack.{Over, reads_word, reads-supply, reads_no_supply, reads-arrow}

module _ (p : Word) (E : List Arrow) (X : ExtraSet p E) where
  abbrev A : List Arrow
  A = E ++ spine p

  extra-over : Over p (target A)
  extra-over = record { spine = on_spine; into = λ x c y e. into x c y (Memᴰ.append_cases E (target_member A x c y e)); fits = fits }
    where
      on_spine : (i : State) → i < length p → target A i (letter p i) ≡ some (suc i)
      on_spine i h =
          let there = target_member (spine p) i (letter p i) (suc i) (spine-target p i h) in
          member_target A X.one_each (Memᴰ.append_right E there)

      into : (x : State) (c : Letter) (y : State) → Memᴰ (arrow x c y) E ⊎ Memᴰ (arrow x c y) (spine p)
          → (z : State) × (y ≡ suc z) × (z < length p) × (c ≡ letter p z) × (x ≤ z)
      into x c y (inl m) =
          let up : x + 2 ≤ y = X.climbs _ m in
          let in_p : y ≤ length p = X.inside _ m in
          (pred y, omega arith, omega arith, X.letters _ m, omega arith)
      into x c y (inr m) = let r = spine_member p m in (x, r.2, r.0, r.1, le_refl x)

      extra : (x y : State) → x + 2 ≤ y → y ≤ length p → target A x (letter p (pred y)) ≡ some y
          → Memᴰ (arrow x (letter p (pred y)) y) E
      extra x y h b e = climbing_extra p E (target_member A x (letter p (pred y)) y e) h

      fits : length (targets_before (target A) p (suc (length p))) ≤ suc (length p)
      fits = omega (arith, X.few, extras_fit (target A) p E extra (suc (length p)))

-- for every word, every such set and all such supplies there is a table that is read as them
pub freedom : (p : Word) (E : List Arrow) (S : State → State) → ExtraSet p E → Lower p S → (L : List ℕ) × ReadAs p E S L
freedom p E S X lower = (
  table_from p δ S,
  record {
    size = from_size_lem p δ S;
    word = reads_word p δ S;
    arrows = reads-arrow p O S;
    no_supply = reads_no_supply (length p) (table_from p δ S);
    supplies = reads-supply p δ S;
    entries = λ few letters. from_small p δ S few letters (λ x h. omega (arith, lower (suc x) (omega arith) h)) O.fits;
  },
)
  where
    δ : Delta
    δ = target (E ++ spine p)

    O : Over p δ
    O = extra-over p E X
