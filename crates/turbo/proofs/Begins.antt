-- Where the reading forward begins, once the window was read down to c: told by how that reading went.
use mathlib.Core.Path.{◌≡◌}
use Prim.Native.Nat.{ℕ, ◌+◌, ◌-◌, ◌≤◌, ◌<◌}
use native.Mathlib.Omega.{arith}
use Rattle.words.specs.Words.{Word, Place}
use Rattle.words.specs.declared.Place.{Place as Placed}
use Rattle.oracle.specs.Arrows.{Delta}
use Rattle.backward.specs.Steps.{read_down}
use Rattle.backward.proofs.Reading.{FailedAt, failed-place, whole-letters}
use Rattle.search.specs.Answers.{MaybePlace}
use Rattle.std.specs.Prelude.{Some, None}
use Rattle.search.specs.Answers.{reading_of}
use Rattle.search.proofs.Readings.{failed-told, whole-told}
use Rattle.turbo.specs.Readings.{begins_at}

module _ (δ : Delta) (t : Word) {c end : Place} (fits : c ≤ end) (h : ℕ) {r : MaybePlace}
    (says : r ≡ reading_of (read_down δ t c (end - c) 0)) where
  -- all its letters were read
  pub begins_whole : r ≡ None
      → record { place = record { 0 = c }; keep = h; letters = end - c } ≡ begins_at c h (read_down δ t c (end - c) 0)
  begins_whole e =
      let told = whole-told (read_down δ t c (end - c) 0).failed r says e in
      rw (told, whole-letters δ t c (end - c) 0 told)

  module _ {f : Placed} (e : r ≡ Some f) where
    -- a letter failed
    failed : FailedAt c (end - c) f.0 (read_down δ t c (end - c) 0).letters
    failed = failed-place δ t c (end - c) 0 f.0 (failed-told _ r f says e)

    pub failed-before : f.0 < end
    failed-before = omega (arith, failed.before-end)

    pub begins-failed
        : record { place = record { 0 = f.0 + 1 }; keep = 0; letters = end - f.0 } ≡ begins_at c h (read_down δ t c (end - c) 0)
    begins-failed =
        let told = failed-told (read_down δ t c (end - c) 0).failed r f says e in
        let read : (read_down δ t c (end - c) 0).letters ≡ end - f.0 = omega (arith, failed.counted) in
        rw (told, read)
