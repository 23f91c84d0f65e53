-- All windows of the Turbo search. With any arrows whatever, at most 2n letters are read: each window reads backward no more than from c to
-- its end, and forward from c or behind it to where the next window has its c, which is no sooner than that end. With arrows that walk
-- every part of the mirrored word, exactly the occurrences are listed: from c - h on, by one induction over the windows.
use mathlib.Core.Path.{◌≡◌, refl, sym, ap, ◌∙◌, fun_ext}
use mathlib.Core.Logic.{by_cases}
use mathlib.Core.Option.{some}
use mathlib.Core.List.{List, ◌++◌}
use Prim.Native.Nat.{ℕ, zero, suc, ◌+◌, ◌-◌, ◌*◌, ◌≤◌, ◌<◌}
use native.Mathlib.Nat.{le_refl}
use native.Mathlib.Decide.{dec_le}
use native.Mathlib.Omega.{arith}
use lib.ListN.{length}
use borrow.Author.Tests.{le-leb, lt-leb}
use Rattle.words.specs.Words.{Letter, Word, Place, occurrences}
use Rattle.words.proofs.Lists.{option_cases}
use Rattle.words.proofs.Occurrences.{since-start, since-past, since-later}
use Rattle.oracle.specs.Arrows.{State, Delta}
use Rattle.backward.specs.Steps.{Sweep, nothing}
use Rattle.backward.proofs.Reading.{failed-place, reading_letters_most}
use Rattle.backward.proofs.Windows.{Walker, reading_loses_none}
use Rattle.turbo_steps.specs.Turbo.{kept_at, window_end, read_back, next_low, next_place, read_forth, turbo_windows, turbo_steps}
use Rattle.turbo_steps.proofs.Between.{kept-short, kept-past, kept_fresh}
use Rattle.turbo_steps.proofs.Forward.{Reads, forward-counts, still_ahead, forward-starts}

-- ── One window ─────────────────────────────────────────────────────────────

module _ (δ : Delta) (w t : Word) (low c : Place) where
  -- what the later windows say, with what this one adds
  abbrev pub with_window : Sweep → Sweep
  with_window later =
      let back = read_back δ w t low c in
      let forth = read_forth δ w t low c in
      record { starts = forth.starts ++ later.starts; letters = back.letters + (forth.letters + later.letters) }

  -- a window that ends behind the text is none
  pub windows-past : (k : ℕ) → length t < window_end w t low c → turbo_windows δ w t k low c ≡ nothing
  unfolding turbo_windows
  windows-past zero h = refl
  windows-past (suc k) h = rw (lt-leb (window_end w t low c) (length t) h)

  -- one that ends within the text is read
  pub windows-one : (k : ℕ) → window_end w t low c ≤ length t
      → turbo_windows δ w t (suc k) low c ≡ with_window (turbo_windows δ w t k (next_low δ w t low c) (read_forth δ w t low c).place)
  unfolding turbo_windows
  windows-one k h = rw (le-leb (window_end w t low c) (length t) h)

  -- how it goes on
  pub record Moves : Type 0 where
    pub longer : c < window_end w t low c
    pub below : next_low δ w t low c ≤ next_place δ w t low c
    pub on : c ≤ next_place δ w t low c
    pub within : next_place δ w t low c ≤ window_end w t low c
    pub read : (read_back δ w t low c).letters + c ≤ window_end w t low c
    pub reads : Reads w t (next_low δ w t low c) (window_end w t low c) (next_place δ w t low c) (read_forth δ w t low c)

  pub window_moves : 1 ≤ length w → low ≤ c → c ≤ length t → window_end w t low c ≤ length t → Moves
  window_moves some-letter l u h = option_cases (read_back δ w t low c).failed
      (λ e. moves (rw e l) (rw e (le_refl c)) (rw e (omega (arith, longer))))
      (λ f e.
      let p = failed-place δ t c (window_end w t low c - c) 0 f e in
      moves (rw e (le_refl _)) (rw e (omega (arith, p.not_before))) (rw e (omega (arith, p.before-end, longer))))
    where
      longer : c < window_end w t low c
      longer = omega (arith, kept-short w t low c some-letter, kept-past w t low c l u some-letter)

      moves : next_low δ w t low c ≤ next_place δ w t low c → c ≤ next_place δ w t low c → next_place δ w t low c ≤ window_end w t low c
          → Moves
      moves a b d = record {
        longer = longer;
        below = a;
        on = b;
        within = d;
        read = omega (arith, reading_letters_most δ t c (window_end w t low c - c) 0, longer);
        reads = let c' = next_place δ w t low c in
            forward-counts w t (next_low δ w t low c) (window_end w t low c) h (length t - c') c' (omega (arith, d));
      }

-- what holds past the last window, and of one more window where it held, holds of all windows
windows-induction
    : (δ : Delta) (w t : Word) (P : Place → Place → Sweep → Type 0) → 1 ≤ length w
    → ((low c : Place) → c ≤ length t → length t < window_end w t low c → P low c nothing)
    → ((low c : Place) (later : Sweep) → low ≤ c → c ≤ length t → window_end w t low c ≤ length t → Moves δ w t low c
    → P (next_low δ w t low c) (read_forth δ w t low c).place later → P low c (with_window δ w t low c later))
    → (k : ℕ) (low c : Place) → length t < k + c → low ≤ c → c ≤ length t → P low c (turbo_windows δ w t k low c)
windows-induction δ w t P some-letter past one zero low c f l u = absurd (omega arith)
windows-induction δ w t P some-letter past one (suc k) low c f l u = by_cases (dec_le (window_end w t low c) (length t))
    (λ h.
    let M = window_moves δ w t low c some-letter l u h in
    let R = M.reads in
    let later = windows-induction δ w t P some-letter past one k _ (read_forth δ w t low c).place (omega (arith, R.past, M.longer))
    (omega (arith, M.below, R.counted)) R.inside in
    rw (windows-one δ w t low c k h) (one low c _ l u h M later))
    (λ h. rw (windows-past δ w t low c (suc k) (omega arith)) (past low c u (omega arith)))

-- ── The letters ────────────────────────────────────────────────────────────

-- at most 2n letters are read, with any arrows whatever
pub steps-letters : (δ : Delta) (w t : Word) → 1 ≤ length w → (turbo_steps δ w t).letters ≤ 2 * length t
unfolding turbo_steps
steps-letters δ w t some-letter = omega (arith, windows-letters (suc (length t)) 0 0 (omega arith) (le_refl 0) (omega arith))
  where
    -- the windows from c on read what is left twice at most
    windows-letters : (k : ℕ) (low c : Place) → length t < k + c → low ≤ c → c ≤ length t
        → (turbo_windows δ w t k low c).letters + 2 * c ≤ 2 * length t
    windows-letters = windows-induction δ w t (λ low c r. r.letters + 2 * c ≤ 2 * length t) some-letter
        (λ low c u h. omega arith)
        (λ low c later l u h M rec. let R = M.reads in omega (arith, rec, R.counted, R.past, M.read, M.on))

-- in a text shorter than the word nothing is read and nothing found
pub steps-short : (δ : Delta) (w t : Word) → length t < length w → turbo_steps δ w t ≡ nothing
unfolding turbo_steps
steps-short δ w t h = windows-past δ w t 0 0 (suc (length t)) (omega arith)

-- ── The list ───────────────────────────────────────────────────────────────

module _ {w : Word} {δ : Delta} (W : Walker w δ) (t : Word) (some-letter : 1 ≤ length w) where
  -- the backward reading loses nothing
  back_loses_none : (low c : Place) → low ≤ c → c ≤ length t → window_end w t low c ≤ length t → Moves δ w t low c
      → still_ahead w t low some-letter c ≡ still_ahead w t (next_low δ w t low c) some-letter (next_place δ w t low c)
  back_loses_none low c l u h M = option_cases (read_back δ w t low c).failed (λ e. rw e) failed
    where
      k : ℕ
      k = window_end w t low c - c

      failed : (f : Place) → (read_back δ w t low c).failed ≡ some f
          → still_ahead w t low some-letter c ≡ still_ahead w t (next_low δ w t low c) some-letter (next_place δ w t low c)
      failed f e =
          let p = failed-place δ t c k 0 f e in
          let b = M.longer in
          let fresh : f + 1 - kept_at w t (f + 1) (f + 1) ≡ f + 1 = omega (arith, kept_fresh w t (f + 1) some-letter (omega arith)) in
          rw (e, fresh) (since-later w t (c - kept_at w t low c) (f + 1) (omega (arith, p.not_before))
          (λ j a d g. reading_loses_none W.parts t c k (omega arith) f e j (omega arith) (omega arith) g))

  -- the windows from c on list the occurrences from c - h on
  windows-list : (k : ℕ) (low c : Place) → length t < k + c → low ≤ c → c ≤ length t
      → (turbo_windows δ w t k low c).starts ≡ still_ahead w t low some-letter c
  windows-list = windows-induction δ w t (λ low c r. r.starts ≡ still_ahead w t low some-letter c) some-letter
      (λ low c u h. sym (since-past w t (c - kept_at w t low c) (omega arith)))
      (λ low c later l u h M rec.
      let place = next_place δ w t low c in
      ap (λ (r : List Place). (read_forth δ w t low c).starts ++ r) rec
      ∙ sym (forward-starts w t (next_low δ w t low c) some-letter (window_end w t low c) (length t - place) place
      (omega (arith, M.within)) M.below)
      ∙ sym (back_loses_none low c l u h M))

  -- the search lists the occurrences
  pub steps-list : (turbo_steps δ w t).starts ≡ occurrences w t
  unfolding turbo_steps
  steps-list =
      let start : 0 - kept_at w t 0 0 ≡ 0 = omega arith in
      (rw start at (windows-list (suc (length t)) 0 0 (omega arith) (le_refl 0) (omega arith))) ∙ since-start w t

-- ── The arrows ─────────────────────────────────────────────────────────────

-- arrows that lead to the same states make the same search
pub steps-same : (δ ε : Delta) (w t : Word) → ((x : State) (c : Letter) → δ x c ≡ ε x c) → turbo_steps δ w t ≡ turbo_steps ε w t
steps-same δ ε w t f = ap (λ (d : Delta). turbo_steps d w t) (fun_ext (λ x. fun_ext (f x)))
