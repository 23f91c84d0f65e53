-- What a lookup asks of compact rows so that it needs no test of its own: m is small, words and entries are enough, each word's targets
-- start behind those of the words before it and end within their rows, all are states, the spine's arrows are there, no arrow leaves the
-- last state, and a letter on which none leaves state 0 has none.
--
--   CompactFormed Z L m    so are the words Z and the entries L, for m letters
--   OnesBelow w i c r      r of the ones of w are for letters below c, where its bits are for the letters from 64i on
use Rattle.std.specs.Prelude.{◌≡◌, false, List, ℕ, ◌+◌, ◌-◌, ◌*◌, ◌≤◌, ◌<◌, length}
use Rattle.std.proofs.Math.Option.{none, some}
use Rattle.words.specs.Lists.{at}
use Rattle.words.specs.Words.{Letter}
use Rattle.oracle.specs.Arrows.{State}
use Rattle.compact.specs.Compact.{sets_room, compact_room, bit_at, in_set, how_many, read_compact}

pub record CompactFormed (Z L : List ℕ) (m : ℕ) : Type 0 where
  pub small : m < 30000
  pub words : sets_room m ≤ length Z
  pub enough : compact_room m ≤ length L
  pub starts : (x : State) → x ≤ m → (k : ℕ) → k < 4
      → at L (4 * (m + 1) + (4 * x + k)) ≡ at L (4 * (m + 1) + 4 * x) + how_many (in_set Z x) (64 * k)
  pub fits : (x : State) → x ≤ m → at L (4 * (m + 1) + 4 * x) + how_many (in_set Z x) 256 ≤ 2 * (m + 1)
  pub targets : (i : ℕ) → i < 2 * (m + 1) → at L (8 * (m + 1) + i) ≤ m
  pub spine : (x : State) → x < m → read_compact m Z L x (at L (x + 1)) ≡ some (x + 1)
  pub last : (c : Letter) → c < 256 → in_set Z m c ≡ false
  pub firsts : (x : State) (c : Letter) → read_compact m Z L 0 c ≡ none → read_compact m Z L x c ≡ none

pub record OnesBelow (w i c r : ℕ) : Type 0 where
  pub nothing : c ≤ 64 * i → r ≡ 0
  pub whole : 64 * i + 64 ≤ c → r ≡ how_many (bit_at w) 64
  pub part : 64 * i ≤ c → c ≤ 64 * i + 64 → r ≡ how_many (bit_at w) (c - 64 * i)
