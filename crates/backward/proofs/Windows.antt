-- The whole search, window after window. With an automaton that walks every part of the mirrored word and nothing else of the word's
-- length, it lists exactly the occurrences; with any arrows whatever, it reads at most the word's length of letters for each place of a
-- window. Both go by one induction over the windows: past the last, nothing; else one window and the later ones.
use mathlib.Core.Path.{◌≡◌, refl, sym, ap, ◌∙◌, fun_ext}
use mathlib.Core.Bool.{true}
use mathlib.Core.Logic.{by_cases}
use mathlib.Core.Option.{Option, none, some}
use mathlib.Core.List.{List, ◌∷◌}
use Prim.Native.Nat.{ℕ, zero, suc, ◌+◌, ◌-◌, ◌*◌, ◌≤◌, ◌<◌}
use native.Mathlib.Nat.{zero-add, mul-le-mul_left}
use native.Mathlib.Decide.{dec_le}
use native.Mathlib.Omega.{arith}
use lib.ListN.{length, length-reverse}
use borrow.Author.Tests.{le-leb, lt-leb}
use Rattle.words.specs.Words.{Letter, Word, Place, part, mirror, stands, occurrences}
use Rattle.words.proofs.Lists.{option_cases}
use Rattle.words.proofs.Words.{part_length, part_of_part, mirror_injective, mirror-part}
use Rattle.words.proofs.Occurrences.{stands-part, part-stands, stands-inside, since, since-start, since-past, since-here, since-later}
use Rattle.oracle.specs.Arrows.{State, Delta, walk}
use Rattle.oracle.proofs.Targets.{never}
use Rattle.backward.specs.Steps.{Sweep, nothing, listed, read_down, read_window, after_find, next_window, windows, steps}
use Rattle.backward.proofs.Reading.{FailedAt, failed-place, reading_letters_most, whole-walked, failed-walk}
use Rattle.backward.proofs.AfterFind.{after_moves, after_safe, after-mirror}

-- ── One window ─────────────────────────────────────────────────────────────

-- an automaton walks each part of the mirrored word
pub record WalksParts (w : Word) (δ : Delta) : Type 0 where
  pub part-walked : (a n : ℕ) → a + n ≤ length w → (y : State) × (walk δ 0 (part (mirror w) a n) ≡ some y)

-- all that the search asks of it: that, and that of the words of its length it walks only the mirrored word
pub record Walker (w : Word) (δ : Delta) : Type 0 where
  pub parts : WalksParts w δ
  pub no_other : (v : Word) (y : State) → walk δ 0 v ≡ some y → length v ≡ length w → v ≡ mirror w

module _ {w : Word} {δ : Delta} (parts : WalksParts w δ) (t : Word) (s : Place) where
  -- a reading of k letters from s on fails: up to the failing letter, no place at which the word stands lets it end behind the reading
  pub reading_loses_none : (k : ℕ) → s + k ≤ length t → (f : Place) → (read_down δ t s k 0).failed ≡ some f
      → (j : Place) → s + k ≤ j + length w → j ≤ f → stands w t j ≡ true → ⊥
  reading_loses_none k inside f e j l h g = never (rw same at read) walked.1
    where
      place : FailedAt s k f (read_down δ t s k 0).letters
      place = failed-place δ t s k 0 f e

      n : ℕ
      n = s + k - f

      read : walk δ 0 (mirror (part t f n)) ≡ none
      read = failed-walk δ t s k 0 f inside e

      same : part t f n ≡ part w (f - j) n
      same =
          let i = stands-inside w t j (omega (arith, place)) g in
          let q : f ≡ j + (f - j) = omega arith in
          let p = part_of_part t j (length w) (f - j) n i (omega (arith, place)) in
          ap (λ (a : Place). part t a n) q
          ∙ sym p
          ∙ ap (λ (v : Word). part v (f - j) n) (stands-part w t j g)

      walked : (y : State) × (walk δ 0 (mirror (part w (f - j) n)) ≡ some y)
      walked =
          let b = j + length w - (s + k) in
          rw (mirror-part w (f - j) n b (omega (arith, place))) (parts.part-walked b n (omega (arith, place)))

module _ {w : Word} {δ : Delta} (W : Walker w δ) (t : Word) (s : Place) (inside : s + length w ≤ length t) where
  -- the word stands nowhere from a window's start to its failing letter
  pub failed_loses_none : (f : Place) → (read_window δ w t s).failed ≡ some f
      → (j : Place) → s ≤ j → j ≤ f → stands w t j ≡ true → ⊥
  failed_loses_none f e j l = reading_loses_none W.parts t s (length w) inside f e j (omega arith)

  -- the word stands where a window is read without failing
  pub whole-stands : (read_window δ w t s).failed ≡ none → stands w t s ≡ true
  whole-stands e =
      let v = part t s (length w) in
      let r = whole-walked δ t s (length w) 0 inside e in
      let size : length (mirror v) ≡ length w = length-reverse v ∙ part_length t s (length w) inside in
      part-stands w t s (mirror_injective v w (W.no_other (mirror v) r.0 r.1 size))

-- ── All windows ────────────────────────────────────────────────────────────

module _ (δ : Delta) (w t : Word) where
  -- where the window behind the one at s starts
  abbrev pub next : Place → Place
  next s = next_window w s (read_window δ w t s).failed

  -- what the later windows say, with what the one at s adds
  abbrev pub with_window : Place → Sweep → Sweep
  with_window s later =
      let r = read_window δ w t s in
      record { starts = listed s r.failed later.starts; letters = r.letters + later.letters }

  -- every window starts behind the one before
  pub next_moves : (s : Place) → s < next s
  next_moves s = option_cases (read_window δ w t s).failed
      (λ e. rw e (omega (arith, after_moves w)))
      (λ f e. let p = failed-place δ t s (length w) 0 f e in rw e (omega arith))

  -- a window that ends behind the text is none
  pub windows-past : (k : ℕ) (s : Place) → length t < s + length w → windows δ w t k s ≡ nothing
  unfolding windows
  windows-past zero s h = refl
  windows-past (suc k) s h = rw (lt-leb (s + length w) (length t) h)

  -- one that ends within the text is read
  pub windows-one : (k : ℕ) (s : Place) → s + length w ≤ length t → windows δ w t (suc k) s ≡ with_window s (windows δ w t k (next s))
  unfolding windows
  windows-one k s h = rw (le-leb (s + length w) (length t) h)

  -- what holds past the last window, and of one more window where it held, holds of all windows
  pub windows-induction
      : (P : Place → Sweep → Type 0)
      → ((s : Place) → length t < s + length w → P s nothing)
      → ((s : Place) (later : Sweep) → s + length w ≤ length t → P (next s) later → P s (with_window s later))
      → (k : ℕ) (s : Place) → length t < k + s → P s (windows δ w t k s)
  windows-induction P past one zero s h = rw (windows-past zero s (omega arith)) (past s (omega arith))
  windows-induction P past one (suc k) s h = by_cases (dec_le (s + length w) (length t))
      (λ l. rw (windows-one k s l) (one s _ l (windows-induction P past one k _ (omega (arith, next_moves s)))))
      (λ l. rw (windows-past (suc k) s (omega arith)) (past s (omega arith)))

  -- the bound on the windows does not matter, if it is enough
  pub windows-enough : (k k' : ℕ) (s : Place) → length t < k + s → length t < k' + s → windows δ w t k s ≡ windows δ w t k' s
  windows-enough k k' s h = windows-induction AsAnyBound (λ s l k' h. sym (windows-past k' s l)) one k s h k'
    where
      AsAnyBound : Place → Sweep → Type 0
      AsAnyBound s r = (k' : ℕ) → length t < k' + s → r ≡ windows δ w t k' s

      one : (s : Place) (later : Sweep) → s + length w ≤ length t → AsAnyBound (next s) later → AsAnyBound s (with_window s later)
      one s later l rec zero h = absurd (omega arith)
      one s later l rec (suc k') h = ap (with_window s) (rec k' (omega (arith, next_moves s))) ∙ sym (windows-one k' s l)

-- ── The letters ────────────────────────────────────────────────────────────

module _ (δ : Delta) (w t : Word) where
  -- the windows from s on read at most m letters at each of the places from s to n - m
  windows-letters : (k : ℕ) (s : Place) → length t < k + s → (windows δ w t k s).letters ≤ length w * (suc (length t) - (s + length w))
  windows-letters = windows-induction δ w t Few (λ s l. omega arith) one
    where
      ahead : Place → ℕ
      ahead s = suc (length t) - (s + length w)

      Few : Place → Sweep → Type 0
      Few s r = r.letters ≤ length w * ahead s

      one : (s : Place) (later : Sweep) → s + length w ≤ length t → Few (next δ w t s) later → Few s (with_window δ w t s later)
      one s later l h =
          let u : suc (ahead (next δ w t s)) ≤ ahead s = omega (arith, next_moves δ w t s) in
          omega (arith, mul-le-mul_left (length w) u, reading_letters_most δ t s (length w) 0)

  -- all windows: at each of the places from 0 to n - m
  pub steps-letters : (steps δ w t).letters ≤ length w * (suc (length t) - length w)
  unfolding steps
  steps-letters = rw (zero-add (length w)) at (windows-letters (suc (length t)) 0 (omega arith))

  -- so at most m (n - m + 1) letters are read
  pub steps_letters_most : length w ≤ length t → (steps δ w t).letters ≤ length w * (length t - length w + 1)
  steps_letters_most h = let e : suc (length t) - length w ≡ length t - length w + 1 = omega arith in rw e at steps-letters

  -- in a text shorter than the word nothing is read and nothing found
  pub steps-short : length t < length w → steps δ w t ≡ nothing
  unfolding steps
  steps-short h = windows-past δ w t (suc (length t)) 0 (omega arith)

-- ── The list ───────────────────────────────────────────────────────────────

module _ {w : Word} {δ : Delta} (W : Walker w δ) (t : Word) where
  -- the windows from s on list the occurrences from s on
  windows-list : (k : ℕ) (s : Place) → length t < k + s → (windows δ w t k s).starts ≡ since w t s
  windows-list = windows-induction δ w t (λ s r. r.starts ≡ since w t s)
      (λ s h. sym (since-past w t s h))
      (λ s later l. one s l (read_window δ w t s).failed refl later.starts)
    where
      one
          : (s : Place) → s + length w ≤ length t → (o : Option Place) → (read_window δ w t s).failed ≡ o
          → (later : List Place) → later ≡ since w t (next_window w s o) → listed s o later ≡ since w t s
      one s l (some f) e later rec =
          let place = failed-place δ t s (length w) 0 f e in
          rec ∙ sym (since-later w t s _ (omega arith) (λ j h u. failed_loses_none W t s l f e j h (omega arith)))
      one s l none e later rec =
          let here = whole-stands W t s l e in
          let moved : suc s ≤ s + after_find w = omega (arith, after_moves w) in
          let skipped = since-later w t (suc s) _ moved (λ j h u there. omega (arith, after_safe w t s j here there h)) in
          ap (λ (p : List Place). s ∷ p) (rec ∙ sym skipped) ∙ sym (since-here w t s l here)

  -- the search lists the occurrences
  pub steps-list : (steps δ w t).starts ≡ occurrences w t
  unfolding steps
  steps-list = windows-list (suc (length t)) 0 (omega arith) ∙ since-start w t

-- ── The arrows ─────────────────────────────────────────────────────────────

-- arrows that lead to the same states make the same search
pub steps-same : (δ ε : Delta) (w t : Word) → ((x : State) (c : Letter) → δ x c ≡ ε x c) → steps δ w t ≡ steps ε w t
steps-same δ ε w t f = ap (λ (d : Delta). steps d w t) (fun_ext (λ x. fun_ext (f x)))

-- with the same arrows a search for the mirror makes the same windows
pub steps-mirror : (δ : Delta) (w t : Word) → steps δ w t ≡ steps δ (mirror w) t
unfolding steps windows
steps-mirror δ w t = go (suc (length t)) 0
  where
    next-same : (s : Place) (o : Option Place) → next_window w s o ≡ next_window (mirror w) s o
    next-same s none = ap (λ (a : ℕ). s + a) (after-mirror w)
    next-same s (some f) = refl

    go : (k : ℕ) (s : Place) → windows δ w t k s ≡ windows δ (mirror w) t k s
    go zero s = refl
    go (suc k) s =
        let o = (read_window δ w t s).failed in
        rw (length-reverse w, next-same s o, go k (next_window (mirror w) s o))
