-- What a list holds once l is written into it, n of it at most: the first of l, and then what stood there before.
use mathlib.Core.Path.{◌≡◌, ◌∙◌}
use mathlib.Core.List.{List}
use Prim.Native.Nat.{ℕ, ◌≤◌, ◌<◌, min}
use native.Mathlib.Omega.{arith}
use lib.ListN.{length, take, get_or, length-take}
use lib.Seq.{get_or-take}
use Rattle.finds.proofs.Theorems.{filled-find, filled-kept}
use Rattle.two_lists.specs.TwoLists.{filled_to}

module _ (n : ℕ) (l F : List ℕ) (i : ℕ) (inside : i < length F) where
  -- an entry that something is for holds it
  pub filled_to-find : i < length l → i < n → get_or (filled_to n l F) i 0 ≡ get_or l i 0
  unfolding filled_to
  filled_to-find h k =
      let b : i < length (take n l) = simp length-take (omega arith) in
      filled-find (take n l) F i b inside ∙ get_or-take n l i 0 k

  -- the others are as they were: those behind the last of l, and those that n does not reach
  pub filled_to-kept : min n (length l) ≤ i → get_or (filled_to n l F) i 0 ≡ get_or F i 0
  unfolding filled_to
  filled_to-kept h = filled-kept (take n l) F i (simp length-take h) inside
