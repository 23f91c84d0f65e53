-- TWO ROOMS: whether one of them is too small, as a test and as a statement; and what stands in each once its front has been filled.
use mathlib.Core.Path.{◌≡◌, refl, ap, ◌∙◌}
use mathlib.Core.Logic.{inl, inr, ⊎_elim, by_cases}
use mathlib.Core.Bool.{Bool, true, false, ◌||◌}
use mathlib.Core.List.{List, ◌++◌}
use Prim.Native.Nat.{ℕ, ◌≤◌}
use native.Mathlib.Decide.{dec_lt}
use native.Mathlib.Omega.{arith}
use lib.ListN.{length, take, drop}
use lib.Seq.{take_at, drop_at}
use lib.Dec.{ltb}
use borrow.Author.Tests.{lt-ltb, le-ltb}
use Rattle.words.specs.Words.{Word}
use Rattle.compact.specs.Compact.{sets_room, compact_room, compact_sets, compact_table}
use Rattle.compact.proofs.Theorems.{compact_sets-size, compact_table-size}
use Rattle.compact_entries.specs.CompactBuild.{compact_short}
use Rattle.compact_entries.specs.Cases.{TooSmall}

or_true : (a : Bool) → a || true ≡ true
or_true true = refl
or_true false = refl

module _ (m : ℕ) (Z T : List ℕ) where
  pub short-told : TooSmall m Z T → compact_short m Z T ≡ true
  short-told = ⊎_elim
      (λ h. rw (lt-ltb (length Z) (sets_room m) h))
      (λ h. rw (lt-ltb (length T) (compact_room m) h) (or_true (ltb (length Z) (sets_room m))))

  pub enough-told : sets_room m ≤ length Z → compact_room m ≤ length T → compact_short m Z T ≡ false
  enough-told h l = rw (le-ltb (length Z) (sets_room m) h, le-ltb (length T) (compact_room m) l)

  -- one is too small, or both are large enough
  pub data Rooms : Type 0 where
    small : TooSmall m Z T → Rooms
    enough : sets_room m ≤ length Z → compact_room m ≤ length T → Rooms

  pub rooms : Rooms
  rooms = by_cases (dec_lt (length Z) (sets_room m))
      (λ h. small (inl h))
      (λ h. by_cases (dec_lt (length T) (compact_room m)) (λ l. small (inr l)) (λ l. enough (omega arith) (omega arith)))

-- ── Filled ─────────────────────────────────────────────────────────────────

-- the words' and the entries' fronts hold the compact rows of p, a word of m letters, and the rest is R and S
module _ (p : Word) {m : ℕ} (long : length p ≡ m) (R S : List ℕ) where
  words_size : length (compact_sets p) ≡ sets_room m
  words_size = compact_sets-size p ∙ ap sets_room long

  entries-size : length (compact_table p) ≡ compact_room m
  entries-size = compact_table-size p ∙ ap compact_room long

  pub words-front : take (sets_room m) (compact_sets p ++ R) ≡ compact_sets p
  words-front = take_at (compact_sets p) R (sets_room m) words_size

  pub words-rest : drop (sets_room m) (compact_sets p ++ R) ≡ R
  words-rest = drop_at (compact_sets p) R (sets_room m) words_size

  pub entries-front : take (compact_room m) (compact_table p ++ S) ≡ compact_table p
  entries-front = take_at (compact_table p) S (compact_room m) entries-size

  pub entries-rest : drop (compact_room m) (compact_table p ++ S) ≡ S
  entries-rest = drop_at (compact_table p) S (compact_room m) entries-size
