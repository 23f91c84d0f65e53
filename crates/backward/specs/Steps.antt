-- THE BACKWARD SEARCH, step by step as 01 states it, with 02's step after a find. The window starts at place s; its letters are read from
-- the last to the first, walking the oracle of the mirrored word from state 0.
--
--   Reading              where a window's reading failed, if it did, and the letters it read
--   read_all             no letter is left
--   fails_at f           the letter at f fails; it counts as read
--   one_more r           one letter is read, and then the others as r says
--   read_down δ t s k x  reads the letters at s + k - 1 down to s, from state x
--   read_window δ w t s  reads the window of w's length that starts at s, from state 0
--   after_find w         how far the window moves after an occurrence of w: m less the longest border
--   next_window w s f    where the window goes from s, f the place of the failing letter if there is one
--   Sweep                the starts of the occurrences, rising, and all letters read
--   nothing              the sweep of no window
--   listed s f l         the starts l with s before them, where f says that no letter failed
--   windows δ w t k s    the windows from s on; k bounds how many there are
--   steps δ w t          all windows, with the arrows δ
--   backward w t         the search: with the oracle of the mirrored word
--
-- 01, 'The backward search'; 02, 'The step after a find'; demand 2.
use Rattle.std.specs.Prelude.{cond, List, [], ◌∷◌, ℕ, zero, suc, ◌+◌, ◌-◌, length, leb}
use Rattle.std.proofs.Math.Option.{Option, none, some}
use Rattle.words.specs.Words.{Word, Place, letter, mirror}
use Rattle.border.specs.Borders.{longest_border}
use Rattle.oracle.specs.Arrows.{State, Delta}
use Rattle.oracle.specs.SuffixRule.{oracle}

pub record Reading : Type 0 where
  pub failed : Option Place
  pub letters : ℕ

abbrev pub read_all : Reading
read_all = record { failed = none; letters = 0 }

abbrev pub fails_at : Place → Reading
fails_at f = record { failed = some f; letters = 1 }

abbrev pub one_more : Reading → Reading
one_more r = record { failed = r.failed; letters = suc r.letters }

unfoldable pub read_down : Delta → Word → Place → ℕ → State → Reading
read_down δ t s zero x = read_all
read_down δ t s (suc k) x = elim (δ x (letter t (s + k))) [ none ↦ fails_at (s + k) | some y ↦ one_more (read_down δ t s k y) ]

abbrev pub read_window : Delta → Word → Word → Place → Reading
read_window δ w t s = read_down δ t s (length w) 0

-- the empty word, which no entry takes, moves on by one
unfoldable pub after_find : Word → ℕ
after_find [] = 1
after_find (c ∷ w) = length (c ∷ w) - longest_border (c ∷ w)

abbrev pub next_window : Word → Place → Option Place → Place
next_window w s none = s + after_find w
next_window w s (some f) = f + 1

pub record Sweep : Type 0 where
  pub starts : List Place
  pub letters : ℕ

abbrev pub nothing : Sweep
nothing = record { starts = []; letters = 0 }

abbrev pub listed : Place → Option Place → List Place → List Place
listed s none l = s ∷ l
listed s (some f) l = l

unfoldable pub windows : Delta → Word → Word → ℕ → Place → Sweep
windows δ w t zero s = nothing
windows δ w t (suc k) s =
    let r = read_window δ w t s in
    let later = windows δ w t k (next_window w s r.failed) in
    cond (leb (s + length w) (length t))
    (record { starts = listed s r.failed later.starts; letters = r.letters + later.letters })
    nothing

-- every window starts at another of the places 0 to n, so n + 1 bounds them
unfoldable pub steps : Delta → Word → Word → Sweep
steps δ w t = windows δ w t (suc (length t)) 0

unfoldable pub backward : Word → Word → Sweep
backward w t = steps (oracle (mirror w)) w t
