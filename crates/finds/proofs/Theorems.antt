-- What the caller's list holds once the finds l are written: by `filled`, the first of them and then what stood there before.
use mathlib.Core.Path.{◌≡◌, refl, ap, ◌∙◌}
use mathlib.Core.List.{List, ◌++◌}
use Prim.Native.Nat.{ℕ, ◌+◌, ◌-◌, ◌≤◌, ◌<◌}
use native.Mathlib.Omega.{arith}
use lib.ListN.{length, take, drop, get_or, length-take, get_or-append}
use lib.Seq.{take_all, take_at, get_or-take, get_or-drop, get_or-append-add}
use Rattle.finds.specs.Finds.{filled}

-- an entry that a find is for holds it
pub filled-find : (l F : List ℕ) (i : ℕ) → i < length l → i < length F → get_or (filled l F) i 0 ≡ get_or l i 0
unfolding filled
filled-find l F i h b =
    let n : i < length (take (length F) l) = simp length-take (omega arith) in
    get_or-append (take (length F) l) (drop (length l) F) 0 i n ∙ get_or-take (length F) l i 0 b

-- the others are as they were
pub filled-kept : (l F : List ℕ) (i : ℕ) → length l ≤ i → i < length F → get_or (filled l F) i 0 ≡ get_or F i 0
unfolding filled
filled-kept l F i h b =
    let n : length (take (length F) l) ≡ length l = simp length-take (omega arith) in
    let e : i ≡ length (take (length F) l) + (i - length l) = omega arith in
    let k : length l + (i - length l) ≡ i = omega arith in
    ap (λ j. get_or (take (length F) l ++ drop (length l) F) j 0) e
    ∙ get_or-append-add (take (length F) l) (drop (length l) F) (i - length l) 0
    ∙ get_or-drop (length l) F (i - length l) 0
    ∙ ap (λ j. get_or F j 0) k

-- a list that is long enough begins with all of them
pub filled-all : (l F : List ℕ) → length l ≤ length F → take (length l) (filled l F) ≡ l
unfolding filled
filled-all l F h = rw (take_all (length F) l h) (take_at l (drop (length l) F) (length l) refl)
