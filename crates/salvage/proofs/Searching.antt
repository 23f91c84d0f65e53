-- THE SEARCH FOR `.FIT` with the table of its mirror: it may be asked for, and it finds what stands in the text.
use mathlib.Core.Path.{◌≡◌, refl, sym, ap, ◌∙◌}
use mathlib.Core.List.{List}
use Prim.Native.Nat.{ℕ, ◌+◌, ◌-◌, ◌≤◌, ◌<◌}
use native.Mathlib.Omega.{arith}
use lib.ListN.{length, length-reverse}
use Rattle.words.specs.Words.{Word, Place, part, mirror, same, occurrences}
use Rattle.border.specs.Borders.{longest_border, longest, closes}
use Rattle.oracle.specs.SuffixRule.{oracle}
use Rattle.backward.specs.Steps.{after_find, steps, backward}
use Rattle.backward.proofs.Windows.{steps-same}
use Rattle.backward.proofs.Theorems.{search-lists-occurrences}
use Rattle.table.specs.Table.{table_of, read_arrow}
use Rattle.table.specs.Formed.{Formed}
use Rattle.table.proofs.Theorems.{table-arrow}
use Rattle.table.proofs.Formed.{table-formed}
use Rattle.finds.specs.declared.Tally.{Tally}
use Rattle.finds.specs.Finds.{filled}
use Rattle.search.specs.Answers.{tally_of}
use Rattle.rides.specs.Rides.{dot_fit}
use Rattle.rides.proofs.Theorems.{dot_fit-length}
use Rattle.salvage.specs.Listing.{longest_part}
use Rattle.salvage.proofs.Parts.{Searched}

-- no end of it is a beginning
dot_fit_step : after_find dot_fit ≡ 4
unfolding after_find dot_fit longest_border longest closes same
dot_fit_step = refl

dot_fit-steps : (t : Word) → steps (read_arrow (length dot_fit) (table_of (mirror dot_fit))) dot_fit t ≡ backward dot_fit t
unfolding backward
dot_fit-steps t =
    steps-same (read_arrow (length dot_fit) (table_of (mirror dot_fit))) (oracle (mirror dot_fit)) dot_fit t
    (λ x c. rw (length-reverse dot_fit) at (table-arrow (mirror dot_fit) x c))

-- the word w and the table L that are lent
module _ {w L : List ℕ} (word : w ≡ dot_fit) (table : L ≡ table_of (mirror dot_fit)) where
  pub sought_asks : (1 ≤ length w) × (length w < 65536) × (4 ≡ after_find w)
  sought_asks = rw word (omega (arith, dot_fit-length), omega (arith, dot_fit-length), sym dot_fit_step)

  pub scan_formed : Formed L (length w)
  scan_formed =
      let few = table-formed (mirror dot_fit) (omega (arith, length-reverse dot_fit, dot_fit-length)) in
      rw (word, table, ← length-reverse dot_fit) few

  starts-found : (t : Word) → (steps (read_arrow (length w) L) w t).starts ≡ occurrences dot_fit t
  starts-found t = rw (word, table, dot_fit-steps t) (search-lists-occurrences dot_fit t)

  pub searched : {t : Word} {F F' : List ℕ} {a e : ℕ} {r : Tally} → (a + 4 ≤ e) × (e ≤ length t) × (e ≤ a + longest_part)
      → (r ≡ tally_of (steps (read_arrow (length w) L) w (part t a (e - a))))
      × (F' ≡ filled (steps (read_arrow (length w) L) w (part t a (e - a))).starts F)
      → Searched t F F' a e r.count
  searched {t} {F} {a = a} {e = e} ends said =
      let found = starts-found (part t a (e - a)) in record {
        least = ends.0;
        most = ends.1;
        short = ends.2;
        counted = ap (λ (r : Tally). r.count) said.0 ∙ ap length found;
        filled_in = said.1 ∙ ap (λ (l : List Place). filled l F) found;
      }
