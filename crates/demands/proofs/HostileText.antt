-- LINEAR ON HOSTILE TEXT, the fifth request of 02, sentence by sentence: each is quoted, and under it stands what says just that.
use mathlib.Core.Path.{◌≡◌, refl, ap}
use mathlib.Core.Bool.{true}
use mathlib.Core.Logic.{◌↔◌, ◌⊎◌}
use mathlib.Core.Option.{none, some}
use mathlib.Core.List.{List}
use Prim.Native.Nat.{ℕ, suc, ◌+◌, ◌-◌, ◌*◌, ◌≤◌, ◌<◌}
use native.Mathlib.Omega.{arith}
use lib.ListN.{length, replicate}
use Rattle.words.specs.Lists.{Rising}
use Rattle.words.specs.Words.{Letter, Word, Place, part, occurrences}
use Rattle.words.specs.Limits.{longest_word, longest_text}
use Rattle.border.specs.Borders.{longest_border}
use Rattle.oracle.specs.Arrows.{Delta}
use Rattle.table.specs.Table.{room}
use Rattle.answers.specs.Answers.{done, refused}
use Rattle.backward.specs.Steps.{read_down, Sweep, nothing, backward}
use Rattle.backward.proofs.Reading.{failed-place, whole-letters}
use Rattle.backward.proofs.Repeated.{repeated-letters}
use Rattle.turbo_steps.specs.Turbo.{kept_at, ends_at, forward, window_end, read_back, next_low, next_place, read_forth}
use Rattle.turbo_steps.specs.Turbo.{turbo_windows, turbo}
use Rattle.turbo_steps.proofs.Between.{kept-short, kept-past, kept_fresh, kept-ends, kept_is_longest}
use Rattle.turbo_steps.proofs.Forward.{forward-counts, forward_why, forward_while}
use Rattle.turbo_steps.proofs.Windows as Windows
use Rattle.turbo_steps.proofs.Theorems.{turbo-lists-occurrences, turbo_rises, turbo_letters_most, turbo-after_find, turbo-short}
use Rattle.marks.specs.Search.{Outcome, search_says}
use Rattle.linear.specs.Turbo.{turbo_says}
use Rattle.linear.specs.Cases.{TurboCase}
use Rattle.linear.proofs.TurboSays.{turbo_is, turbo-leaves, turbo-refused, turbo_refusal_leaves}

-- ── 'A text of one repeated letter makes the search read each letter many times.' ──

-- a word of m such letters: the backward search reads m at each place, as many as it can
pub read_many_times : (a : Letter) (m n : ℕ) → 1 ≤ m → m ≤ n → (backward (replicate m a) (replicate n a)).letters ≡ m * (n - m + 1)
read_many_times = repeated-letters

module _ (w t : Word) (some-letter : 1 ≤ length w) where
  abbrev m : ℕ
  m = length w

  abbrev n : ℕ
  n = length t

  -- ── 'It keeps a forward place c and the length h of the longest beginning of the word, short of all of it, that ends there and starts
  --    no sooner than the last f+1.' ──

  module _ (low c : Place) (below : low ≤ c) (inside : c ≤ n) where
    abbrev h : ℕ
    h = kept_at w t low c

    -- low is the last f+1: a beginning of h letters ends at c and starts no sooner, and no longer one that is short of the word does
    pub h_is_longest : (h < m) × (low + h ≤ c) × (part t (c - h) h ≡ part w 0 h)
        × ((k : ℕ) → k < m → low + k ≤ c → part t (c - k) k ≡ part w 0 k → k ≤ h)
    h_is_longest = (
      kept-short w t low c some-letter,
      kept-past w t low c below inside some-letter,
      kept-ends w t low c below inside some-letter,
      kept_is_longest w t low c below inside,
    )

    -- ── 'The window starts at c-h.' ────────────────────────────────────────

    pub window_starts : window_end w t low c ≡ c - h + m
    window_starts = refl

    -- ── 'Read backward from its end, but never below c.' ───────────────────

    -- it is the backward search's reading, of the letters from c to the window's end
    pub reads_back : (δ : Delta) → read_back δ w t low c ≡ read_down δ t c (window_end w t low c - c) 0
    reads_back δ = refl

    -- with any arrows: a letter that fails is none below c; and where none fails, the letters from c to the window's end were read
    pub never_below : (δ : Delta) (f : Place) → (read_back δ w t low c).failed ≡ some f
        → (c ≤ f) × ((read_back δ w t low c).letters ≡ window_end w t low c - f)
    never_below δ f e =
        let longer : c ≤ window_end w t low c = omega (arith, h_is_longest.0, h_is_longest.1) in
        let p = failed-place δ t c (window_end w t low c - c) 0 f e in
        (p.not_before, omega (arith, p.counted))

    pub down_to_c : (δ : Delta) → (read_back δ w t low c).failed ≡ none → (read_back δ w t low c).letters ≡ window_end w t low c - c
    down_to_c δ e = whole-letters δ t c (window_end w t low c - c) 0 e

    -- ── 'On a missing arrow at f, set c to f+1 and h to 0.' ────────────────

    pub set-behind : (δ : Delta) (f : Place) → window_end w t low c ≤ n → (read_back δ w t low c).failed ≡ some f
        → (next_place δ w t low c ≡ f + 1) × (next_low δ w t low c ≡ f + 1)
        × (kept_at w t (next_low δ w t low c) (next_place δ w t low c) ≡ 0)
    set-behind δ f l e =
        let p = failed-place δ t c (window_end w t low c - c) 0 f e in
        let inside' : f + 1 ≤ n = omega (arith, p.before-end, h_is_longest.0, h_is_longest.1) in
        rw e (refl, refl, kept_fresh w t (f + 1) some-letter inside')

  -- ── 'Then, missing or not, read forward from c to the end of the window just read, keeping c and h, and on while 2h is at least m and
  --    text remains;' ──

  -- it reads every letter from c to where it stops, at the window's end e or behind it; it stops at the text's end, or where 2h is less
  -- than m, and at no place before, as 2h was at least m there
  pub reads-forward : (low e c : Place) → e ≤ n → c ≤ n → let r = forward w t low e (n - c) c in
      (r.letters ≡ r.place - c) × (e ≤ r.place) × (r.place ≤ n) × ((r.place ≡ n) ⊎ (2 * kept_at w t low r.place < m))
      × ((p : Place) → c ≤ p → e ≤ p → p < r.place → m ≤ 2 * kept_at w t low p)
  reads-forward low e c l u =
      let R = forward-counts w t low e l (n - c) c (omega arith) in
      let left : n - c + c ≡ n = omega arith in
      (omega (arith, R.counted), R.past, R.inside, forward_why w t low e (n - c) c left, forward_while w t low e (n - c) c left)

  -- ── 'after a find h is the longest border.' ──────────────────────────────

  pub after_a_find : (low c : Place) → low ≤ c → c < n → ends_at w t low (suc c) ≡ true → kept_at w t low (suc c) ≡ longest_border w
  after_a_find = turbo-after_find w t some-letter

  -- ── 'Stop when the window passes the text's end.' ────────────────────────

  pub stops : (δ : Delta) (k : ℕ) (low c : Place) → n < window_end w t low c → turbo_windows δ w t k low c ≡ nothing
  stops δ k low c = Windows.windows-past δ w t low c k

  -- ── 'Finds equal demand 2's.' ────────────────────────────────────────────

  pub finds_equal : (turbo w t).starts ≡ occurrences w t
  finds_equal = turbo-lists-occurrences w t some-letter

  pub finds_rise : Rising 0 (turbo w t).starts
  finds_rise = turbo_rises w t some-letter

  -- ── 'Letters read, backward and forward, are the count of these steps and at most 2n.' ──

  -- of one window and those behind it
  pub window_letters : (δ : Delta) (k : ℕ) (low c : Place) → window_end w t low c ≤ n
      → (turbo_windows δ w t (suc k) low c).letters
      ≡ (read_back δ w t low c).letters
      + ((read_forth δ w t low c).letters + (turbo_windows δ w t k (next_low δ w t low c) (read_forth δ w t low c).place).letters)
  window_letters δ k low c h = ap (λ (r : Sweep). r.letters) (Windows.windows-one δ w t low c k h)

  pub at_most_2n : (turbo w t).letters ≤ 2 * n
  at_most_2n = turbo_letters_most w t some-letter

-- ── The entry ──────────────────────────────────────────────────────────────

module _ (w t : Word) (T : List ℕ) (F : List Place) where
  -- a search by it is refused where a search is, with that number: 1, 2, 4, 3 in this order
  pub refused_as_a_search : {k : ℕ} → ((turbo_says w t T F).answer ≡ refused k) ↔ ((search_says w t T F).answer ≡ refused k)
  refused_as_a_search = turbo-refused w t T F

  pub exactly_when : (o : Outcome) → (turbo_says w t T F ≡ o) ↔ TurboCase w t T F o
  exactly_when = turbo_is w t T F

  -- a refusal changes nothing
  pub refusal_leaves : {k : ℕ} → (turbo_says w t T F).answer ≡ refused k
      → ((turbo_says w t T F).tables ≡ T) × ((turbo_says w t T F).finds ≡ F)
  refusal_leaves = turbo_refusal_leaves w t T F

  -- room and list are left as a search leaves them
  pub leaves_as_a_search : ((turbo_says w t T F).tables ≡ (search_says w t T F).tables)
      × ((turbo_says w t T F).finds ≡ (search_says w t T F).finds)
  leaves_as_a_search = turbo-leaves w t T F

  -- where it is not refused it answers with demand 2's number of finds, and the letters of its steps
  pub answers : 1 ≤ length w → length w ≤ longest_word → length t ≤ longest_text → room (length w) ≤ length T
      → (turbo_says w t T F).answer ≡ done (record { count = length (occurrences w t); letters = (turbo w t).letters })
  answers h l k s = ap (λ (o : Outcome). o.answer) ((turbo_is w t T F _).1 (TurboCase.accepted h l k s))

-- a text shorter than the word is not read at all
pub short_text_unread : (w t : Word) → length t < length w → turbo w t ≡ nothing
short_text_unread = turbo-short
