-- THE TURBO SEARCH, step by step as 02 states it, after 001's Turbo-BOM. It keeps a forward place c, and the length h of the longest
-- beginning of the word, short of all of it, that ends there and starts no sooner than `low`, which is the last f + 1. The window starts at
-- c - h. It is read backward, as the backward search reads its window, but never below c; then forward, from c or from behind the failing
-- letter.
--
--   between t low c           the letters of t from place low up to place c
--   kept_at w t low c         h: the longest beginning of w, short of all of it, that ends at c and starts no sooner than low
--   ends_at w t low c         whether w itself ends at c and starts no sooner than low
--   found_at w t low c        the find that ends at c, where there is one
--   Advance                   what a reading forward finds, the place where it stops, and the letters it read
--   stops_at c                no letter more is read
--   one_letter l r            one letter is read, at which the finds l end, and then the others as r says
--   goes_on w t low e c       whether a letter more is read at c: up to e, and on while 2h is at least m
--   forward w t low e k c     reads forward from c, where k letters of the text are left
--   window_end w t low c      where the window ends that starts at c - h
--   read_back δ w t low c     its letters, read from its end down to c
--   behind x f                x, or the place behind the failing letter where there is one
--   next_low δ w t low c, next_place δ w t low c
--                             low and c behind that reading
--   read_forth δ w t low c    its letters, read forward from there
--   turbo_windows δ w t k low c
--                             the windows from c on; k bounds how many there are
--   turbo_steps δ w t         all windows, with the arrows δ
--   turbo w t                 the search: with the oracle of the mirrored word
--
-- 02, 'Linear on hostile text'.
use Rattle.std.specs.Prelude.{Bool, cond, ◌&&◌, ◌||◌, List, [], ◌∷◌, ◌++◌, ℕ, zero, suc, ◌+◌, ◌-◌, ◌*◌, length, leb, ltb}
use Rattle.std.proofs.Math.Option.{Option, none, some}
use Rattle.words.specs.Words.{Word, Place, part, mirror, stands}
use Rattle.oracle.specs.Arrows.{Delta}
use Rattle.oracle.specs.SuffixRule.{oracle}
use Rattle.pieces.specs.Kept.{kept}
use Rattle.backward.specs.Steps.{Reading, read_down, Sweep, nothing}

-- ── What is kept and what is found at a place ──────────────────────────────

abbrev pub between : Word → Place → Place → Word
between t low c = part t low (c - low)

abbrev pub kept_at : Word → Word → Place → Place → ℕ
kept_at w t low c = kept w (between t low c)

abbrev pub ends_at : Word → Word → Place → Place → Bool
ends_at w t low c = leb (low + length w) c && stands w t (c - length w)

abbrev pub found_at : Word → Word → Place → Place → List Place
found_at w t low c = cond (ends_at w t low c) ((c - length w) ∷ []) []

-- ── Forward ────────────────────────────────────────────────────────────────

pub record Advance : Type 0 where
  pub starts : List Place
  pub place : Place
  pub letters : ℕ

abbrev pub stops_at : Place → Advance
stops_at c = record { starts = []; place = c; letters = 0 }

abbrev pub one_letter : List Place → Advance → Advance
one_letter l r = record { starts = l ++ r.starts; place = r.place; letters = suc r.letters }

abbrev pub goes_on : Word → Word → Place → Place → Place → Bool
goes_on w t low e c = ltb c e || leb (length w) (2 * kept_at w t low c)

unfoldable pub forward : Word → Word → Place → Place → ℕ → Place → Advance
forward w t low e zero c = stops_at c
forward w t low e (suc k) c =
    cond (goes_on w t low e c) (one_letter (found_at w t low (suc c)) (forward w t low e k (suc c))) (stops_at c)

-- ── Windows ────────────────────────────────────────────────────────────────

abbrev pub window_end : Word → Word → Place → Place → Place
window_end w t low c = c - kept_at w t low c + length w

abbrev pub read_back : Delta → Word → Word → Place → Place → Reading
read_back δ w t low c = read_down δ t c (window_end w t low c - c) 0

abbrev pub behind : Place → Option Place → Place
behind x none = x
behind x (some f) = f + 1

abbrev pub next_low : Delta → Word → Word → Place → Place → Place
next_low δ w t low c = behind low (read_back δ w t low c).failed

abbrev pub next_place : Delta → Word → Word → Place → Place → Place
next_place δ w t low c = behind c (read_back δ w t low c).failed

abbrev pub read_forth : Delta → Word → Word → Place → Place → Advance
read_forth δ w t low c =
    let c' = next_place δ w t low c in
    forward w t (next_low δ w t low c) (window_end w t low c) (length t - c') c'

unfoldable pub turbo_windows : Delta → Word → Word → ℕ → Place → Place → Sweep
turbo_windows δ w t zero low c = nothing
turbo_windows δ w t (suc k) low c =
    let back = read_back δ w t low c in
    let forth = read_forth δ w t low c in
    let later = turbo_windows δ w t k (next_low δ w t low c) forth.place in
    cond (leb (window_end w t low c) (length t))
    (record { starts = forth.starts ++ later.starts; letters = back.letters + (forth.letters + later.letters) })
    nothing

-- every window has another of the places 0 to n as c, so n + 1 bounds them
unfoldable pub turbo_steps : Delta → Word → Word → Sweep
turbo_steps δ w t = turbo_windows δ w t (suc (length t)) 0 0

unfoldable pub turbo : Word → Word → Sweep
turbo w t = turbo_steps (oracle (mirror w)) w t
