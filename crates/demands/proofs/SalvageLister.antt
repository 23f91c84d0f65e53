-- THE SALVAGE LISTER, the tenth request of 02, sentence by sentence: each is quoted, and under it stands what says just that.
use mathlib.Core.Path.{◌≡◌, refl, sym, ap, ◌∙◌}
use mathlib.Core.Bool.{true}
use mathlib.Core.Logic.{◌↔◌, ◌⊎◌, inl, inr, ⊎_elim, ◌≢◌}
use mathlib.Core.List.{List, [], ◌∷◌, Memᴰ}
use Prim.Native.Nat.{ℕ, zero, suc, ◌+◌, ◌-◌, ◌*◌, ◌≤◌, ◌<◌, min}
use native.Mathlib.Omega.{arith}
use lib.ListN.{length, get_or}
use Rattle.words.specs.Lists.{Rising}
use Rattle.words.specs.Words.{Word, Place, letter, stands}
use Rattle.words.specs.Limits.{longest_text}
use Rattle.words.proofs.Limits.{word_limit}
use Rattle.words.proofs.Occurrences.{stands-letters, letters_stand}
use Rattle.two_lists.specs.TwoLists.{fit_both}
use Rattle.two_lists.proofs.Theorems.{filled_to-find, filled_to-kept}
use Rattle.rides.specs.Rides.{dot_fit, data_size, ride_end, kind_of, Ride, ride_at, rides_at, rides, starts, kinds}
use Rattle.rides.specs.Rides.{HeaderAt, SameBut}
use Rattle.rides.proofs.Theorems.{dot_fit-length, starts-length, kinds-length, whole-exactly, cut-exactly}
use Rattle.rides.proofs.Theorems.{listed-exactly, ride_exactly, starts_rise}
use Rattle.rides.proofs.Headers.{too_early}
use Rattle.rides.proofs.Listing.{ride_told}
use Rattle.rides.proofs.Depending.{twelve_decide, starts-same, kind-kept, beyond_same}
use Rattle.answers.specs.Answers.{done, refused}
use Rattle.marks.specs.Search.{search_says}
use Rattle.marks.proofs.SearchSays as Search
use Rattle.salvage.specs.Salvage.{dot_fit_room, Outcome, salvage_says}
use Rattle.salvage.specs.Cases.{SalvageCase, accepted}
use Rattle.salvage.proofs.SalvageSays as Salvage

-- ── 'By the public FIT protocol description, a header is 12 or 14 bytes, its first byte is that size, bytes 4 to 7 hold the data size, low
-- byte first, and bytes 8 to 11 are `.FIT`;' ──

module _ (t : Word) (s : Place) where
  pub header_is : HeaderAt t s
      ↔ (((letter t s ≡ 12) ⊎ (letter t s ≡ 14)) × (s + letter t s ≤ length t)
      × (letter t (s + 8) ≡ 46) × (letter t (s + 9) ≡ 70) × (letter t (s + 10) ≡ 73) × (letter t (s + 11) ≡ 84))
  unfolding dot_fit
  header_is = (
    λ h. (h.size, h.inside, byte h 0 (omega arith), byte h 1 (omega arith), byte h 2 (omega arith), byte h 3 (omega arith)),
    λ b. record {
      mark = letters_stand dot_fit t (s + 8) (least b.0 b.1) (spelled b.2 b.3 b.4 b.5);
      size = b.0;
      inside = b.1;
    },
  )
    where
      byte : HeaderAt t s → (i : ℕ) → i < 4 → letter t (s + (8 + i)) ≡ letter dot_fit i
      byte h i l =
          let e : s + 8 + i ≡ s + (8 + i) = omega arith in
          rw e at (stands-letters dot_fit t (s + 8) h.mark i l)

      least : (letter t s ≡ 12) ⊎ (letter t s ≡ 14) → s + letter t s ≤ length t → s + 8 + 4 ≤ length t
      least (inl e) h = omega (arith, e)
      least (inr e) h = omega (arith, e)

      spelled : letter t (s + 8) ≡ 46 → letter t (s + 9) ≡ 70 → letter t (s + 10) ≡ 73 → letter t (s + 11) ≡ 84
          → (i : ℕ) → i < 4 → letter t (s + 8 + i) ≡ letter dot_fit i
      spelled p q r o zero l = let e : s + 8 + 0 ≡ s + 8 = omega arith in rw e p
      spelled p q r o (suc zero) l = let e : s + 8 + 1 ≡ s + 9 = omega arith in rw e q
      spelled p q r o (suc (suc zero)) l = let e : s + 8 + 2 ≡ s + 10 = omega arith in rw e r
      spelled p q r o (suc (suc (suc zero))) l = let e : s + 8 + 3 ≡ s + 11 = omega arith in rw e o
      spelled p q r o (suc (suc (suc (suc i)))) l = absurd (omega arith)

  pub low_byte_first : data_size t s
      ≡ letter t (s + 4) + 256 * letter t (s + 5) + 65536 * letter t (s + 6) + 16777216 * letter t (s + 7)
  unfolding data_size
  low_byte_first = omega arith

  -- ── 'data and a two-byte check follow.' ──────────────────────────────────

  pub data_and_check_follow : ride_end t s ≡ s + letter t s + data_size t s + 2
  data_and_check_follow = refl

module _ (t : Word) where
  -- ── 'For each `.FIT` at q of at least 8, with byte q-8 equal to 12 or 14 and the header wholly inside the text, list q-8 and one
  -- kind:' ──

  pub each_listed : (q : Place) → stands dot_fit t q ≡ true → 8 ≤ q → (letter t (q - 8) ≡ 12) ⊎ (letter t (q - 8) ≡ 14)
      → q - 8 + letter t (q - 8) ≤ length t → Memᴰ (ride_at t (q - 8)) (rides t)
  each_listed q m h size inside =
      let back : q - 8 + 8 ≡ q = omega arith in
      (ride_exactly t (ride_at t (q - 8))).1 (record { mark = rw back m; size = size; inside = inside }, refl)

  -- and nothing else is: a listed place has a header, and the kind of that header's ride
  pub nothing_else : (r : Ride) → Memᴰ r (rides t) → HeaderAt t r.start × (r.kind ≡ kind_of t r.start)
  nothing_else r = (ride_exactly t r).0

  -- rising, each once
  pub rising : Rising 0 (starts (rides t))
  rising = starts_rise t

  -- where no header begins nothing is listed, whether `.FIT` stands 8 places on or not
  pub no_header_not_listed : (s : Place) → (HeaderAt t s → ⊥) → Memᴰ s (starts (rides t)) → ⊥
  no_header_not_listed s none m = none ((listed-exactly t s).0 m)

  -- so not where the first byte is another
  pub other_byte_not_listed : (s : Place) → letter t s ≢ 12 → letter t s ≢ 14 → Memᴰ s (starts (rides t)) → ⊥
  other_byte_not_listed s a b = no_header_not_listed s (λ h. ⊎_elim a b h.size)

  -- and `.FIT` below place 8 lists nothing
  pub early_not_listed : (q : Place) → q < 8 → rides_at t (q ∷ []) ≡ []
  early_not_listed q h = ride_told t q (sym (too_early t q h))

  -- nor does a header that the text's end cuts
  pub cut_header_not_listed : (s : Place) → length t < s + letter t s → Memᴰ s (starts (rides t)) → ⊥
  cut_header_not_listed s h m = let i = ((listed-exactly t s).0 m).inside in omega (arith, h, i)

  -- ── 'whole (1) when header, data and check end within the text, else cut (0).' ──

  pub whole_when : (s : Place) → (kind_of t s ≡ 1) ↔ (s + letter t s + data_size t s + 2 ≤ length t)
  whole_when s = whole-exactly t s

  pub else_cut : (s : Place) → (kind_of t s ≡ 0) ↔ (length t < s + letter t s + data_size t s + 2)
  else_cut s = cut-exactly t s

-- ── 'Never believe the size further than that.' ─────────────────────────────

-- t and u differ in the size that the header at s declares and nowhere else, and no other header has one of these four bytes among its
-- first 12, so that they are a size and nothing else
module _ {t u : Word} {s : Place} (same : SameBut t u s) (T : List ℕ) (S : List Place) (K : List ℕ) where
  -- the answer, the tables and the starts are the same, whatever it says
  pub size_tells_nothing_else : ((salvage_says t T S K).answer ≡ (salvage_says u T S K).answer)
      × ((salvage_says t T S K).tables ≡ (salvage_says u T S K).tables) × ((salvage_says t T S K).starts ≡ (salvage_says u T S K).starts)
  size_tells_nothing_else = Salvage.starts_decide t u T S K same.lengths (starts-same same)

  -- and so is the kind that the rule gives to every other ride
  pub other_kinds_stay : (r : Place) → r ≢ s → HeaderAt t r → kind_of t r ≡ kind_of u r
  other_kinds_stay = kind-kept same

  -- where it passes the text's end in both, the outcome is one
  pub beyond_is_beyond : length t < ride_end t s → length u < ride_end u s → salvage_says t T S K ≡ salvage_says u T S K
  beyond_is_beyond a b = Salvage.rides_decide t u T S K same.lengths (beyond_same same a b)

-- ── 'Starts and kinds fill two lists as in 01, the shorter deciding;' ───────

module _ (t : Word) (T : List ℕ) (S : List Place) (K : List ℕ) (short : length t ≤ longest_text) (enough : dot_fit_room ≤ length T) where
  abbrev left : Outcome
  left = salvage_says t T S K

  abbrev n : ℕ
  n = length (rides t)

  -- the number of rides is exact
  pub counted : left.answer ≡ done n
  counted = (Salvage.done-leaves t T S K short enough).answer

  -- so many fit; the first of them are in both lists
  pub shorter_decides : fit_both S K ≡ min (length S) (length K)
  shorter_decides = refl

  pub first-listed : (i : ℕ) → i < n → i < fit_both S K
      → (get_or left.starts i 0 ≡ get_or (starts (rides t)) i 0) × (get_or left.kinds i 0 ≡ get_or (kinds (rides t)) i 0)
  first-listed i h k =
      let L = Salvage.done-leaves t T S K short enough in (
        ap (λ (l : List Place). get_or l i 0) L.starts
            ∙ filled_to-find (fit_both S K) (starts (rides t)) S i (omega arith) (omega (arith, starts-length (rides t))) k,
        ap (λ (l : List ℕ). get_or l i 0) L.kinds
            ∙ filled_to-find (fit_both S K) (kinds (rides t)) K i (omega arith) (omega (arith, kinds-length (rides t))) k,
      )

  -- and the others are as they were, in both
  pub others_stay : (i : ℕ) → min (fit_both S K) n ≤ i
      → (i < length S → get_or left.starts i 0 ≡ get_or S i 0) × (i < length K → get_or left.kinds i 0 ≡ get_or K i 0)
  others_stay i h =
      let L = Salvage.done-leaves t T S K short enough in (
        λ b. ap (λ (l : List Place). get_or l i 0) L.starts
            ∙ filled_to-kept (fit_both S K) (starts (rides t)) S i b (omega (arith, starts-length (rides t))),
        λ b. ap (λ (l : List ℕ). get_or l i 0) L.kinds
            ∙ filled_to-kept (fit_both S K) (kinds (rides t)) K i b (omega (arith, kinds-length (rides t))),
      )

  -- the tables are as a search for `.FIT` leaves them
  pub as_after_a_search : (F : List Place) → left.tables ≡ (search_says dot_fit t T F).tables
  as_after_a_search F =
      let search =
      Search.says-done dot_fit t T F (omega (arith, dot_fit-length)) (omega (arith, dot_fit-length, word_limit)) short enough in
      ap (λ o. o.tables) (Salvage.given t T S K (accepted short enough)) ∙ sym (ap (λ o. o.tables) search)

-- ── 'text over the limit is 4, then short tables are 3.' ────────────────────

module _ (t : Word) (T : List ℕ) (S : List Place) (K : List ℕ) where
  pub exactly_when : (o : Outcome) → (salvage_says t T S K ≡ o) ↔ SalvageCase t T S K o
  exactly_when = Salvage.salvage_is t T S K

  -- short are those below the need of a word of four letters
  pub four-letters : dot_fit_room ≡ 6 * (4 + 1)
  four-letters = Salvage.dot_fit_room_lem

  -- a refusal changes nothing
  pub refusal_leaves : {n : ℕ} → (salvage_says t T S K).answer ≡ refused n
      → ((salvage_says t T S K).tables ≡ T) × ((salvage_says t T S K).starts ≡ S) × ((salvage_says t T S K).kinds ≡ K)
  refusal_leaves = Salvage.salvage_refusal_leaves t T S K

-- ── 'The check value isn't tested.' ─────────────────────────────────────────

-- whether a header is listed and its ride's kind: its first 12 bytes and the text's length decide that, so the check behind it does not
pub twelve_bytes_decide : (t u : Word) (s : Place) → length t ≡ length u → ((i : ℕ) → i < 12 → letter t (s + i) ≡ letter u (s + i))
    → (Memᴰ (ride_at t s) (rides t) ↔ Memᴰ (ride_at u s) (rides u)) × (kind_of t s ≡ kind_of u s)
twelve_bytes_decide t u s n bytes =
    let d = twelve_decide t u s n bytes in (
      (
        λ m. (ride_exactly u (ride_at u s)).1 (d.0.0 ((ride_exactly t (ride_at t s)).0 m).0, refl),
        λ m. (ride_exactly t (ride_at t s)).1 (d.0.1 ((ride_exactly u (ride_at u s)).0 m).0, refl),
      ),
      d.1,
    )
