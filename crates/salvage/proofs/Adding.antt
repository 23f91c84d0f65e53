-- RIDES ADDED TO THE LISTS: none, one, or some and then others. What is listed behind R is listed behind any R of that length, so that the
-- laws do not know what was listed before.
use mathlib.Core.Path.{◌≡◌, ◌∙◌}
use mathlib.Core.List.{List, [], ◌∷◌, ◌++◌, append_assoc, append-nil}
use Prim.Native.Nat.{ℕ, ◌+◌}
use lib.ListN.{length, length-append, length-map}
use Rattle.words.proofs.Lists.{map-append}
use Rattle.two_lists.specs.TwoLists.{Both}
use Rattle.two_lists.proofs.Filling.{both_nil}
use Rattle.rides.specs.Rides.{Ride, starts, kinds}
use Rattle.salvage.specs.Listing.{InLists, Adds}

pub listed-none : (S K : List ℕ) → InLists [] S K S K
listed-none S K = both_nil S K

pub adds_none : (n : ℕ) (A B : List ℕ) → Adds [] n A B A B
adds_none n A B = record { behind = λ R S K e b. rw (append-nil R) b }

pub adds_more : {X Y : List Ride} {n : ℕ} {A B A' B' A'' B'' : List ℕ}
    → Adds X n A B A' B' → Adds Y (n + length X) A' B' A'' B'' → Adds (X ++ Y) n A B A'' B''
adds_more {X} {Y} {n} x y = record {
  behind = λ R S K e b. rw (← append_assoc R X Y) (y.behind (R ++ X) S K (length-append R X ∙ rw e) (x.behind R S K e b));
}

-- what two_lists::note promises is that it adds one ride, of the kind that it was given
pub adds_one : {r : Ride} {k n : ℕ} {A B A' B' : List ℕ} → k ≡ r.kind
    → ((l j S K : List ℕ) → length l ≡ n → length j ≡ n → Both l j S K A B → Both (l ++ (r.start ∷ [])) (j ++ (k ∷ [])) S K A' B')
    → Adds (r ∷ []) n A B A' B'
adds_one {r} {k} kind f = record {
  behind = λ R S K e b.
      rw (map-append (λ (r : Ride). r.start) R (r ∷ []), map-append (λ (r : Ride). r.kind) R (r ∷ []), ← kind)
      (f (starts R) (kinds R) S K (length-map R _ ∙ e) (length-map R _ ∙ e) b);
}
