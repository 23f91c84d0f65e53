-- THE STEP AFTER A FIND, the second request of 02, sentence by sentence: each is quoted, and under it stands what says just that.
use mathlib.Core.Path.{◌≡◌}
use mathlib.Core.List.{◌∷◌}
use mathlib.Core.Option.{none}
use Prim.Native.Nat.{ℕ, suc, ◌+◌, ◌-◌, ◌*◌, ◌≤◌, ◌<◌}
use native.Mathlib.Omega.{arith}
use lib.ListN.{length}
use Rattle.words.specs.Words.{Word, Place, part, mirror, occurrences}
use Rattle.words.proofs.Words.{same_true, same_refl}
use Rattle.words.proofs.Occurrences.{stands-part, part-stands}
use Rattle.border.specs.Borders.{closes, longest_border}
use Rattle.border.proofs.Theorems.{border_shorter, border_closes, border_longest}
use Rattle.border.proofs.Theorems as Border
use Rattle.oracle.specs.Arrows.{Delta}
use Rattle.oracle.specs.SuffixRule.{oracle}
use Rattle.backward.specs.Steps.{read_window, after_find, next_window, windows, backward}
use Rattle.backward.proofs.AfterFind.{after_is, after_safe, after_reached}
use Rattle.backward.proofs.Windows.{windows-one, whole-stands}
use Rattle.backward.proofs.Reading.{whole-letters}
use Rattle.backward.proofs.Theorems.{oracle_walker, search-lists-occurrences, search_letters_most}

module _ (w : Word) (some-letter : 1 ≤ length w) where
  abbrev m : ℕ
  m = length w

  abbrev b : ℕ
  b = longest_border w

  -- ── 'That was lazy of me: the next occurrence can't start sooner than m less the longest proper border (a word that is both a
  --    beginning and an end of the mark, shorter than it, perhaps empty).' ──

  -- the longest border is a beginning and an end, shorter than the mark, and no other such word is longer
  pub border_is_longest : (b < m) × (part w 0 b ≡ part w (m - b) b) × ((k : ℕ) → k < m → part w 0 k ≡ part w (m - k) k → k ≤ b)
  unfolding closes
  border_is_longest = (
    omega (arith, border_shorter w),
    same_true _ _ (border_closes w),
    λ k h e. border_longest w k h (rw e (same_refl (part w (m - k) k))),
  )

  -- an occurrence behind one at s starts at s + (m - b) at the soonest
  pub next_occurrence : (t : Word) (s j : Place) → part t s m ≡ w → part t j m ≡ w → s < j → s + (m - b) ≤ j
  next_occurrence t s j e g h = rw (after_is w some-letter) at (after_safe w t s j (part-stands w t s e) (part-stands w t j g) h)

  -- in some text one starts there, so that no longer step would do
  pub no_longer_step : (t : Word) × (part t 0 m ≡ w) × (part t (m - b) m ≡ w)
  no_longer_step =
      let r = after_reached w some-letter in
      (r.0, stands-part w r.0 0 r.1, rw (after_is w some-letter) at (stands-part w r.0 (after_find w) r.2))

  -- ── 'Use that step.' ─────────────────────────────────────────────────────

  -- whatever the arrows, a window at s that is read whole gives the find s and m letters, and the next window starts at s + (m - b)
  pub step_is_used : (δ : Delta) (t : Word) (s : Place) (k : ℕ) → s + m ≤ length t → (read_window δ w t s).failed ≡ none
      → windows δ w t (suc k) s
      ≡ (let later = windows δ w t k (s + (m - b)) in record { starts = s ∷ later.starts; letters = m + later.letters })
  step_is_used δ t s k h e = rw (e, whole-letters δ t s m 0 e, after_is w some-letter) at (windows-one δ w t k s h)

  -- with the oracle's arrows, no occurrence starts between that find and the next window
  pub none_between : (t : Word) (s : Place) → s + m ≤ length t → (read_window (oracle (mirror w)) w t s).failed ≡ none
      → (j : Place) → s < j → j < next_window w s none → part t j m ≡ w → ⊥
  none_between t s h e j after before g =
      omega (arith, after_safe w t s j (whole-stands (oracle_walker w t) t s h e) (part-stands w t j g) after)

-- a search with a file knows the mirror of what it looks for: its border is the same
pub mirror_has_the_same : (w : Word) → longest_border w ≡ longest_border (mirror w)
mirror_has_the_same = Border.border_mirror

-- ── 'Lists stay the same;' ─────────────────────────────────────────────────

-- by the amended steps too the list is that of all places where the word stands, rising
pub list_stays : (w t : Word) → (backward w t).starts ≡ occurrences w t
list_stays = search-lists-occurrences

-- ── 'letters read change, and aba in ababa becomes 6.' ─────────────────────

-- the example is computed in `examples`; the bound of 01 stays
pub letters_at_most : (w t : Word) → length w ≤ length t → (backward w t).letters ≤ length w * (length t - length w + 1)
letters_at_most = search_letters_most
