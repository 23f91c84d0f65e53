-- ONLY WHAT IS KEPT MATTERS. A text t of which h letters are kept ends with the first h letters of the word; so t and v behind it are some
-- letters, and behind them `heard w h v`. What the whole ends with, and is short of the word, starts no sooner than these: else more than h
-- letters would have been kept. So what is kept of the whole is kept of what was heard, and the occurrences that are not yet in t are those
-- in what was heard.
use mathlib.Core.Path.{◌≡◌, sym, ap, ◌∙◌}
use mathlib.Core.Bool.{true}
use mathlib.Core.List.{List, ◌++◌, map, append_assoc}
use Prim.Native.Nat.{ℕ, suc, ◌+◌, ◌-◌, ◌≤◌, ◌<◌}
use native.Mathlib.Nat.{zero-add, add-zero}
use native.Mathlib.Decide.{dec_le}
use native.Mathlib.Omega.{arith}
use lib.ListN.{length, take, drop, length-append, length-drop, get_or-append}
use lib.Seq.{length-take-le, take-length, take-add, take-append-le, drop-append-le, drop-append-add}
use Rattle.words.specs.Lists.{from, only}
use Rattle.words.specs.Words.{Word, Place, letter, part, stands, occurrences}
use Rattle.words.proofs.Lists.{from_append, only_append, only_same, only_shift}
use Rattle.words.proofs.Words.{same_true, part_length}
use Rattle.words.proofs.Occurrences.{stands-letters, since, since-later}
use Rattle.border.specs.Borders.{closes}
use Rattle.border.proofs.Closing.{Closing}
use Rattle.pieces.specs.Kept.{kept, heard}
use Rattle.pieces.proofs.Kept.{kept-closes, kept_shorter, kept-within, kept-longest, kept_behind_lem}

module _ (w t v : Word) (some-letter : 1 ≤ length w) where
  abbrev h : ℕ
  h = kept w t

  abbrev late : Word
  late = heard w h v

  -- so many letters of t stand before those that are kept
  abbrev pub before : Place
  before = length t - h

  fits : (h < length w) × (before + h ≡ length t)
  fits = (kept_shorter w t some-letter, omega (arith, kept-within w t some-letter))

  ends_with : part t before h ≡ part w 0 h
  unfolding closes
  ends_with = sym (same_true _ _ (kept-closes w t))

  -- ── The whole is some letters, and behind them what was heard ────────────

  split : t ≡ take before t ++ part w 0 h
  split =
      sym (take-length t)
      ∙ ap (λ (n : ℕ). take n t) (sym fits.1)
      ∙ take-add before h t
      ∙ ap (λ (p : Word). take before t ++ p) ends_with

  whole_is : t ++ v ≡ take before t ++ late
  whole_is = ap (λ (u : Word). u ++ v) split ∙ append_assoc (take before t) (part w 0 h) v

  front_length : length (take before t) ≡ before
  front_length = length-take-le before t (omega (arith, fits.1))

  late-length : length late ≡ h + length v
  late-length = length-append (part w 0 h) v ∙ omega (arith, part_length w 0 h (omega (arith, fits.0)))

  whole_length : length (t ++ v) ≡ before + length late
  whole_length = length-append t v ∙ omega (arith, fits.1, late-length)

  -- ── What the whole ends with ─────────────────────────────────────────────

  -- what the whole ends with, cut where t ends
  closing_cut : {k : ℕ} → length v ≤ k → Closing w k (t ++ v) → Closing w (k - length v) t
  closing_cut {k} more C = record { start = C.start; sum = sum; same = same }
    where
      sum : C.start + (k - length v) ≡ length t
      sum = omega (arith, C.sum, length-append t v)

      same : (i : ℕ) → i < k - length v → letter t (C.start + i) ≡ letter w i
      same i l = sym (get_or-append t v 0 (C.start + i) (omega (arith, sum))) ∙ C.same i (omega arith)

  -- it starts no sooner than what is kept
  closing_late : {k : ℕ} → k < length w → Closing w k (t ++ v) → k ≤ length late
  closing_late {k} short C = by (dec_le (length v) k)
    where
      by : Dec (length v ≤ k) → k ≤ length late
      by (yes more) = omega (arith, late-length, kept-longest w t (omega arith) (closing_cut more C))
      by (no less) = omega (arith, late-length)

  -- ── What is kept ─────────────────────────────────────────────────────────

  pub kept-goes_on : kept w (t ++ v) ≡ kept w late
  kept-goes_on =
      ap (kept w) whole_is
      ∙ kept_behind_lem w (take before t) late some-letter (λ k l C. closing_late l (rw whole_is C))

  -- ── What is found ────────────────────────────────────────────────────────

  -- the first place at which the word no longer ends within t
  abbrev new : Place
  new = suc (length t) - length w

  stands_old : (j : Place) → j + length w ≤ length t → stands w (t ++ v) j ≡ stands w t j
  unfolding stands
  stands_old j l = rw (drop-append-le j t v (omega arith), take-append-le (length w) (drop j t) v (omega (arith, length-drop j t)))

  stands-late : (q : Place) → stands w (t ++ v) (before + q) ≡ stands w late q
  unfolding stands
  stands-late q =
      let dropped : drop (before + q) (t ++ v) ≡ drop q late =
      ap (drop (before + q)) whole_is
      ∙ ap (λ (n : ℕ). drop (n + q) (take before t ++ late)) (sym front_length)
      ∙ drop-append-add (take before t) late q in
      rw dropped

  none_between : (j : Place) → new ≤ j → j < before → stands w (t ++ v) j ≡ true → ⊥
  none_between j l u e = omega (arith, kept-longest w t (omega arith) hangs_over, fits.1)
    where
      hangs_over : Closing w (length t - j) t
      hangs_over = record {
        start = j;
        sum = omega (arith, fits.1);
        same = λ i b. sym (get_or-append t v 0 (j + i) (omega arith)) ∙ stands-letters w (t ++ v) j e i (omega arith);
      }

  heard-finds : since w (t ++ v) before ≡ map (λ q. before + q) (occurrences w late)
  unfolding occurrences
  heard-finds =
      let n : suc (length (t ++ v)) - (before + length w) ≡ suc (length late) - length w = omega (arith, whole_length) in
      rw n ((rw (add-zero before) at (only_shift (stands w (t ++ v)) before 0 (suc (length late) - length w)))
      ∙ ap (map (λ q. before + q)) (only_same (λ q. stands w (t ++ v) (before + q)) (stands w late) 0 _ (λ j a b. stands-late j)))

  pub finds_go_on : occurrences w (t ++ v) ≡ occurrences w t ++ map (λ q. before + q) (occurrences w late)
  unfolding occurrences
  finds_go_on =
      let rest = suc (length (t ++ v)) - (new + length w) in
      let n : suc (length (t ++ v)) - length w ≡ new + rest = omega (arith, length-append t v) in
      let past : new ≤ before = omega (arith, fits.0, fits.1) in
      rw (n, from_append 0 new rest, only_append (stands w (t ++ v)) (from 0 new) (from (0 + new) rest), zero-add new)
      (ap (λ (l : List Place). l ++ since w (t ++ v) new)
      (only_same (stands w (t ++ v)) (stands w t) 0 new (λ j a b. stands_old j (omega arith)))
      ∙ ap (λ (l : List Place). only (stands w t) (from 0 new) ++ l)
      (since-later w (t ++ v) new before past none_between ∙ heard-finds))
