-- READING A WINDOW as code does it, letter by letter from the window's end: what is still to be read fails where the whole window does, so
-- the loop breaks with the window's answer. Before that, what such an answer says of the window.
use mathlib.Core.Path.{◌≡◌, refl, sym, ap, ◌∙◌}
use mathlib.Core.Logic.{◌≢◌}
use mathlib.Core.Option.{Option, none, some}
use Prim.Native.Nat.{ℕ, suc, ◌+◌, ◌-◌, ◌≤◌, ◌<◌}
use native.Mathlib.Nat.{le_refl}
use native.Mathlib.Omega.{arith}
use Rattle.words.specs.Words.{Word, letter}
use Rattle.words.specs.declared.Place.{Place}
use Rattle.oracle.specs.Arrows.{State, Delta}
use Rattle.backward.specs.Steps.{read_down}
use Rattle.backward.proofs.Reading.{read_done, read-fails, read_goes}
use Rattle.prepared.specs.Prepared.{told}
use Rattle.prepared.proofs.Told.{tells_none, tells-some}
use Rattle.search.specs.Answers.{MaybePlace}
use Rattle.std.specs.Prelude.{Some, None}
use Rattle.search.specs.Answers.{failed_at, reading_of}

-- ── What an answer says ────────────────────────────────────────────────────

-- the window failed
pub failed-told : (o : Option ℕ) (r : MaybePlace) (f : Place) → r ≡ failed_at o → r ≡ Some f → o ≡ some f.0
failed-told none r f says e = cc
failed-told (some g) r f says e = cc

-- it was read whole
pub whole-told : (o : Option ℕ) (r : MaybePlace) → r ≡ failed_at o → r ≡ None → o ≡ none
whole-told none r says e = refl
whole-told (some g) r says e = cc

-- ── Letter by letter ───────────────────────────────────────────────────────

-- of the m letters at s, which are read from the state `from`, the first `left` are still to be read, from state x: they end as all do
pub record StillToRead (δ : Delta) (t : Word) (s m : ℕ) (from : State) (left : ℕ) (x : State) : Type 0 where
  pub within : left ≤ m
  pub same : (read_down δ t s m from).failed ≡ (read_down δ t s left x).failed

module _ {δ : Delta} {t : Word} {s m : ℕ} {from : State} where
  -- all of them
  pub all_to_read : StillToRead δ t s m from m from
  all_to_read = record { within = le_refl m; same = refl }

  module _ {left : ℕ} {x : State} (R : StillToRead δ t s m from left x) where
    -- no letter is left
    pub none_to_read : left ≡ 0 → None ≡ reading_of (read_down δ t s m from)
    none_to_read e = let q = rw (e, read_done δ t s x) at R.same in rw q

    -- another reading ends with them
    pub rest_read : {r : MaybePlace} → r ≡ reading_of (read_down δ t s left x) → r ≡ reading_of (read_down δ t s m from)
    rest_read says = says ∙ ap failed_at (sym R.same)

    module _ (more : left ≢ 0) where
      one : left ≡ suc (left - 1)
      one = omega arith

      -- the last of them has no arrow
      pub letter-fails : δ x (letter t (s + (left - 1))) ≡ none
          → Some (record { 0 = s + (left - 1) }) ≡ reading_of (read_down δ t s m from)
      letter-fails e = let q = rw (one, read-fails δ t s (left - 1) x e) at R.same in rw q

      -- it has one
      pub letter-goes : {y : State} → δ x (letter t (s + (left - 1))) ≡ some y → StillToRead δ t s m from (left - 1) y
      letter-goes {y} e = record {
        within = omega (arith, R.within);
        same = rw (one, read_goes δ t s (left - 1) x y e) at R.same;
      }

-- ── Entry by entry ─────────────────────────────────────────────────────────

-- an entry was read, and the first `left` letters are still to be read from the state that it tells; or it tells none, and the letter
-- behind them has no arrow
pub record EntryRead (δ : Delta) (t : Word) (s m : ℕ) (from : State) (left entry : ℕ) : Type 0 where
  pub within : left ≤ m
  pub small : entry < 65536
  pub ends : entry ≡ 65535 → Some (record { 0 = s + left }) ≡ reading_of (read_down δ t s m from)
  pub goes : entry ≢ 65535 → StillToRead δ t s m from left entry

module _ {δ : Delta} {t : Word} {s m : ℕ} {from : State} where
  -- none was read yet
  pub entry-start : from < 65536 → from ≢ 65535 → EntryRead δ t s m from m from
  entry-start h f = record { within = le_refl m; small = h; ends = λ e. absurd (f e); goes = λ _. all_to_read }

  -- one more
  pub entry_next
      : {left : ℕ} {x : State} → StillToRead δ t s m from left x → left ≢ 0 → {v : ℕ} → v < 65536
      → told v ≡ δ x (letter t (s + (left - 1))) → EntryRead δ t s m from (left - 1) v
  entry_next R more h tells = record {
    within = omega (arith, R.within);
    small = h;
    ends = λ e. letter-fails R more (tells_none tells e);
    goes = λ f. letter-goes R more (tells-some tells f);
  }
