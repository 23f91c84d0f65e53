-- RIDES BY THEIR HEADERS. A header is 12 or 14 bytes: its first byte is that size, bytes 4 to 7 hold the size of the data, low byte first,
-- and bytes 8 to 11 are `.FIT`. Data and a check of two bytes follow it; the check's value is not looked at.
--
--   dot_fit            the word `.FIT`
--   allowed n          whether a header may have n bytes: 12 or 14
--   header_size t s    the first byte of a header that begins at s: how many bytes it has
--   data_size t s      how many bytes of data it declares
--   header_inside t s  whether it may have that size and is wholly inside the text; `.FIT` is asked for apart
--   in_header t q      whether `.FIT` at q is in such a header: 8 bytes stand before it, and the header begins there
--   ride_end t s       where header, data and check end, by what the header declares
--   cut, whole         the kinds
--   kind_of t s        whole where header, data and check end within the text, else cut
--   Ride               where a header begins, and its ride's kind
--   ride_at t s        the ride of the header that begins at s
--   rides_at t l       the rides of those of the places l of `.FIT` that are in a header
--   rides t            all of them
--   starts R, kinds R  the two columns of a list of rides
--   HeaderAt t s       a header begins at s: `.FIT` stands 8 places on, the first byte is 12 or 14, and so many bytes are within the text
--   SameBut t u s      two texts of one length differ nowhere but in bytes 4 to 7 from s on, and no other header has one of these bytes
--                      among its first 12
--
-- 02, 'Salvage lister'.
use Rattle.std.specs.Prelude.{◌≡◌, Bool, true, cond, ◌&&◌, ◌||◌, ◌⊎◌, ◌≢◌, List, [], ◌∷◌, map, ℕ, ◌+◌, ◌-◌, ◌*◌, ◌≤◌, ◌<◌, length, eqb, leb}
use Rattle.words.specs.Lists.{only}
use Rattle.words.specs.Words.{Word, Place, letter, stands, occurrences}

unfoldable pub dot_fit : Word
dot_fit = 46 ∷ 70 ∷ 73 ∷ 84 ∷ []

unfoldable pub allowed : ℕ → Bool
allowed n = eqb n 12 || eqb n 14

abbrev pub header_size : Word → Place → ℕ
header_size t s = letter t s

unfoldable pub data_size : Word → Place → ℕ
data_size t s = letter t (s + 4) + 256 * (letter t (s + 5) + 256 * (letter t (s + 6) + 256 * letter t (s + 7)))

unfoldable pub header_inside : Word → Place → Bool
header_inside t s = allowed (header_size t s) && leb (s + header_size t s) (length t)

unfoldable pub in_header : Word → Place → Bool
in_header t q = leb 8 q && header_inside t (q - 8)

abbrev pub ride_end : Word → Place → ℕ
ride_end t s = s + header_size t s + data_size t s + 2

abbrev pub cut : ℕ
cut = 0

abbrev pub whole : ℕ
whole = 1

unfoldable pub kind_of : Word → Place → ℕ
kind_of t s = cond (leb (ride_end t s) (length t)) whole cut

pub record Ride : Type 0 where
  pub start : Place
  pub kind : ℕ

abbrev pub ride_at : Word → Place → Ride
ride_at t s = record { start = s; kind = kind_of t s }

unfoldable pub rides_at : Word → List Place → List Ride
rides_at t l = map (λ q. ride_at t (q - 8)) (only (in_header t) l)

unfoldable pub rides : Word → List Ride
rides t = rides_at t (occurrences dot_fit t)

abbrev pub starts : List Ride → List Place
starts R = map (λ (r : Ride). r.start) R

abbrev pub kinds : List Ride → List ℕ
kinds R = map (λ (r : Ride). r.kind) R

pub record HeaderAt (t : Word) (s : Place) : Type 0 where
  pub mark : stands dot_fit t (s + 8) ≡ true
  pub size : (header_size t s ≡ 12) ⊎ (header_size t s ≡ 14)
  pub inside : s + header_size t s ≤ length t

pub record SameBut (t u : Word) (s : Place) : Type 0 where
  pub lengths : length t ≡ length u
  pub letters : (i : Place) → (i < s + 4) ⊎ (s + 8 ≤ i) → letter t i ≡ letter u i
  pub alone : (r : Place) → r ≢ s → s + 4 < r + 12 → r < s + 8 → (HeaderAt t r → ⊥) × (HeaderAt u r → ⊥)
