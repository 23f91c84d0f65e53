-- LAYING OUT THE COLUMNS, letter by letter: each is written behind those before it, so these stay as they are, and so does the empty one.
-- A letter without an arrow from state 0 has none, and that is what the empty column tells. There is room for the columns that are counted
-- (`room_there`).
use mathlib.Core.Path.{◌≡◌, sym, ap, ◌∙◌}
use mathlib.Core.Logic.{◌≢◌, by_cases}
use mathlib.Core.Option.{none}
use mathlib.Core.List.{List}
use mathlib.Core.Bool.{Bool, true, false}
use Prim.Native.Nat.{ℕ, ◌+◌, ◌-◌, ◌*◌, ◌≤◌, ◌<◌}
use native.Mathlib.Nat.{mul-le-mul_left}
use native.Mathlib.Numerals.{add-one}
use native.Mathlib.Decide.{ℕ_discrete}
use native.Mathlib.Omega.{arith}
use lib.ListN.{length, set, take, replicate, length-set, length-replicate, get_or-append, get_or-replicate}
use lib.Seq.{length-take-le, get_or-set_same, get_or-set_other, get_or-take}
use borrow.Author.Count.{below_more}
use borrow.Rule.Slice.PartMut.{mid_of, put_mid, same_len_mid, mid_len}
use Rattle.words.specs.Lists.{at}
use Rattle.words.specs.Words.{Letter}
use Rattle.words.proofs.Lists.{at-behind}
use Rattle.oracle.specs.Arrows.{State, Delta}
use Rattle.prepared.specs.Prepared.{told}
use Rattle.prepared.proofs.Told.{told_none}
use Rattle.compact.specs.Compact.{how_many}
use Rattle.compact.proofs.Counting.{count-passes}
use Rattle.compact_search.specs.Preparing.{Column, Untold}

-- ── Room ───────────────────────────────────────────────────────────────────

-- before letter i there are the empty column and one for each letter that passes the test f, of so many rows
module _ (f : ℕ → Bool) (rows : ℕ) where
  module _ {next i : ℕ} (e : next ≡ rows * (how_many f i + 1)) where
    -- it does not pass
    pub counted_same : f i ≡ false → next ≡ rows * (how_many f (i + 1) + 1)
    unfolding how_many
    counted_same q = rw (add-one i, q) (omega (arith, e))

    -- it does, and there is room for its column
    module _ (q : f i ≡ true) where
      pub counted_column : next + rows ≡ rows * (how_many f (i + 1) + 1)
      unfolding how_many
      counted_column = rw (add-one i, q) (omega (arith, e))

      pub room_there : rows * (how_many f 256 + 1) ≤ 1024 → i < 256 → next + rows ≤ 1024
      room_there room h =
          let more : how_many f i + 2 ≤ how_many f 256 + 1 = omega (arith, count-passes f i 256 h q) in
          omega (arith, e, mul-le-mul_left rows more)

-- ── The columns ────────────────────────────────────────────────────────────

-- the entries as they are made
pub untold-made : (n : ℕ) → Untold n (replicate n 65535)
untold-made n = record { size = length-replicate {A = ℕ} n 65535; untold = λ i h. get_or-replicate n i 65535 0 h }

-- the letters before i are passed, and the next column starts at `next`
pub record Laying (δ : Delta) (rows : ℕ) (C D : List ℕ) (next i : ℕ) : Type 0 where
  pub letters : length C ≡ 256
  pub entries : length D ≡ 1024
  pub behind : rows ≤ next
  pub most : next ≤ 1024
  pub before : (c : Letter) → at C c + rows ≤ next
  pub ahead : (c : Letter) → i ≤ c → at C c ≡ 0
  pub empty : (x : State) → x < rows → at D x ≡ 65535
  pub arrows : (c : Letter) → c < i → (x : State) → x < rows → told (at D (at C c + x)) ≡ δ x c

module _ {δ : Delta} {rows : ℕ} {C D : List ℕ} where
  module _ {next i : ℕ} (Y : Laying δ rows C D next i) where
    -- the next one has no arrow, as the empty column tells
    pub laying_none : ((x : State) → δ x i ≡ none) → Laying δ rows C D next (i + 1)
    laying_none no_arrow = record {
      letters = Y.letters;
      entries = Y.entries;
      behind = Y.behind;
      most = Y.most;
      before = Y.before;
      ahead = λ c h. Y.ahead c (omega arith);
      empty = Y.empty;
      arrows = below_more _ i Y.arrows (λ x h.
          let here : at C i + x ≡ x = omega (arith, Y.ahead i (omega arith)) in
          rw here (told_none (at D x) (Y.empty x h) ∙ sym (no_arrow x)));
    }

    -- it has one, and its column is written
    module _ {E : List ℕ} (byte : i < 256) (fits : next + rows ≤ 1024) (lent : length E ≡ length (mid_of next (next + rows - next) D))
        (column : Column δ i E) where
      abbrev written : List ℕ
      written = put_mid next (next + rows - next) D E

      long : length E ≡ rows
      long = lent ∙ mid_len next (next + rows) D (omega (arith, Y.entries)) ∙ omega arith

      start-long : length (take next D) ≡ next
      start-long = length-take-le next D (omega (arith, Y.most, Y.entries))

      -- what stood before it stays
      kept : (j : ℕ) → j < next → at written j ≡ at D j
      kept j h = get_or-append (take next D) _ 0 j (omega (arith, start-long)) ∙ get_or-take next D j 0 h

      -- and behind that are its entries
      new : (x : State) → x < rows → at written (next + x) ≡ at E x
      new x h = at-behind (take next D) _ next x start-long ∙ get_or-append E _ 0 x (omega (arith, long))

      other_letter : (c : Letter) → c ≢ i → at (set C i next) c ≡ at C c
      other_letter c f = get_or-set_other C i c next 0 f

      this_letter : at (set C i next) i ≡ next
      this_letter = get_or-set_same C i next 0 (omega (arith, Y.letters))

      pub laying_column : Laying δ rows (set C i next) written (next + rows) (i + 1)
      laying_column = record {
        letters = simp length-set Y.letters;
        entries = same_len_mid next (next + rows - next) D E lent ∙ Y.entries;
        behind = omega (arith, Y.behind);
        most = fits;
        before = λ c. by_cases (ℕ_discrete c i)
            (λ q. rw q (omega (arith, this_letter)))
            (λ f. omega (arith, other_letter c f, Y.before c));
        ahead = λ c h. other_letter c (λ q. omega arith) ∙ Y.ahead c (omega arith);
        empty = λ x h. kept x (omega (arith, Y.behind)) ∙ Y.empty x h;
        arrows = below_more _ i
            (λ c h x l.
            let here = other_letter c (λ q. omega arith) in
            rw here (ap told (kept (at C c + x) (omega (arith, Y.before c))) ∙ Y.arrows c h x l))
            (λ x l. rw this_letter (ap told (new x l) ∙ column.arrows x (omega (arith, long))));
      }
