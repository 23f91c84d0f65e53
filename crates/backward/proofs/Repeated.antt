-- A TEXT OF ONE REPEATED LETTER, and a word of the same: the word stands everywhere, so no window fails, and each is read whole; its
-- longest border is all of it but a letter, so the window moves by one place. So m letters are read at each place, and the bound on the
-- letters is reached.
use mathlib.Core.Path.{◌≡◌, sym, ap, ◌∙◌}
use mathlib.Core.Bool.{true}
use mathlib.Core.Option.{none}
use Prim.Native.Nat.{ℕ, suc, ◌+◌, ◌-◌, ◌*◌, ◌≤◌, ◌<◌}
use native.Mathlib.Nat.{le_refl, mul-zero, mul-suc}
use native.Mathlib.Omega.{arith}
use lib.ListN.{length, replicate, length-replicate, get_or-replicate}
use Rattle.words.specs.Words.{Letter, Word, Place, mirror, stands}
use Rattle.words.proofs.Lists.{none_where}
use Rattle.words.proofs.Occurrences.{letters_stand}
use Rattle.border.specs.Borders.{longest_border}
use Rattle.border.proofs.Closing.{closing_closes}
use Rattle.border.proofs.Theorems.{border_shorter, border_longest}
use Rattle.oracle.specs.SuffixRule.{oracle}
use Rattle.backward.specs.Steps.{Sweep, read_window, after_find, windows, steps, backward}
use Rattle.backward.proofs.Reading.{failed-place, whole-letters}
use Rattle.backward.proofs.AfterFind.{after_is}
use Rattle.backward.proofs.Windows.{next, with_window, windows-induction, failed_loses_none}
use Rattle.backward.proofs.Theorems.{oracle_walker}

module _ (a : Letter) (m n : ℕ) (some-letter : 1 ≤ m) where
  abbrev w : Word
  w = replicate m a

  abbrev t : Word
  t = replicate n a

  sizes : (length w ≡ m) × (length t ≡ n)
  sizes = (length-replicate {A = ℕ} m a, length-replicate {A = ℕ} n a)

  stands_everywhere : (s : Place) → s + m ≤ n → stands w t s ≡ true
  stands_everywhere s h =
      letters_stand w t s (omega (arith, sizes.0, sizes.1)) (λ i l.
      get_or-replicate n (s + i) a 0 (omega (arith, sizes.0)) ∙ sym (get_or-replicate m i a 0 (omega (arith, sizes.0))))

  moves_by_one : after_find w ≡ 1
  moves_by_one = omega (arith, after_is w (omega (arith, sizes.0)), border_shorter w, longest, sizes.0)
    where
      longest : m - 1 ≤ longest_border w
      longest = border_longest w (m - 1) (omega (arith, sizes.0)) (closing_closes w w (m - 1) (omega (arith, sizes.0)) (record {
        start = 1;
        sum = omega (arith, sizes.0);
        same = λ i l. get_or-replicate m (1 + i) a 0 (omega arith) ∙ sym (get_or-replicate m i a 0 (omega arith));
      }))

  never_fails : (s : Place) → s + m ≤ n → (read_window (oracle (mirror w)) w t s).failed ≡ none
  never_fails s h = none_where _ (λ f e.
      let p = failed-place (oracle (mirror w)) t s (length w) 0 f e in
      failed_loses_none (oracle_walker w t) t s (omega (arith, sizes.0, sizes.1)) f e s (le_refl s) p.not_before
      (stands_everywhere s h))

  windows-read : (k : ℕ) (s : Place) → n < k + s → (windows (oracle (mirror w)) w t k s).letters ≡ m * (suc n - (s + m))
  windows-read k s h = windows-induction (oracle (mirror w)) w t (λ s r. r.letters ≡ m * (suc n - (s + m))) past one k s
      (omega (arith, sizes.1))
    where
      past : (s : Place) → length t < s + length w → 0 ≡ m * (suc n - (s + m))
      past s l = let none_left : suc n - (s + m) ≡ 0 = omega (arith, sizes.0, sizes.1) in rw none_left (sym (mul-zero m))

      one : (s : Place) (later : Sweep) → s + length w ≤ length t
          → later.letters ≡ m * (suc n - (next (oracle (mirror w)) w t s + m))
          → (with_window (oracle (mirror w)) w t s later).letters ≡ m * (suc n - (s + m))
      one s later l rec =
          let whole = never_fails s (omega (arith, sizes.0, sizes.1)) in
          let read = whole-letters (oracle (mirror w)) t s (length w) 0 whole in
          let left : suc n - (s + m) ≡ suc (suc n - (s + 1 + m)) = omega (arith, sizes.0, sizes.1) in
          let rest : later.letters ≡ m * (suc n - (s + 1 + m)) = rw (whole, moves_by_one) at rec in
          let all = mul-suc m (suc n - (s + 1 + m)) in
          rw left (omega (arith, read, sizes.0, rest, all))

  -- m letters at each of the places from 0 to n - m
  pub repeated-letters : m ≤ n → (backward w t).letters ≡ m * (n - m + 1)
  unfolding backward steps
  repeated-letters h =
      let bound : n < suc (length t) + 0 = omega (arith, sizes.1) in
      let places : suc n - (0 + m) ≡ n - m + 1 = omega arith in
      windows-read (suc (length t)) 0 bound ∙ ap (λ (k : ℕ). m * k) places
