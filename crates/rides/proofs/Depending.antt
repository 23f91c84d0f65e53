-- ON WHAT A LISTING DEPENDS. Whether a header is listed depends on the text's length, its first byte and its `.FIT`; its ride's kind also
-- on the size that it declares. So where two texts differ in a declared size alone, they have the same headers, and only that ride's kind
-- may differ.
use mathlib.Core.Path.{◌≡◌, refl, sym, ap, ◌∙◌}
use mathlib.Core.Logic.{◌↔◌, ◌⊎◌, inl, inr, ⊎_elim, ◌≢◌, by_cases}
use mathlib.Core.List.{List, [], ◌∷◌, map, Memᴰ}
use Prim.Native.Nat.{ℕ, ◌+◌, ◌≤◌, ◌<◌}
use native.Mathlib.Nat.{add-zero}
use native.Mathlib.Decide.{dec_le, ℕ_discrete}
use native.Mathlib.Omega.{arith}
use lib.ListN.{length}
use Rattle.words.specs.Words.{Word, Place, letter}
use Rattle.words.proofs.Occurrences.{stands-inside, stands-letters, letters_stand}
use Rattle.rides.specs.Rides.{dot_fit, data_size, ride_end, kind_of, ride_at, rides, starts, HeaderAt, SameBut}
use Rattle.rides.proofs.Rising.{rising_same}
use Rattle.rides.proofs.Theorems.{dot_fit-length, kind-cut, rides_are, listed-exactly, starts_rise}

-- whether a header begins at r: on the text's length, its first byte and its `.FIT`
pub header_depends : (t u : Word) (r : Place) → length t ≡ length u → letter t r ≡ letter u r
    → ((i : ℕ) → i < 4 → letter t (r + 8 + i) ≡ letter u (r + 8 + i)) → HeaderAt t r → HeaderAt u r
header_depends t u r n first mark h = record {
  mark = letters_stand dot_fit u (r + 8) inside spelled;
  size = rw (← first) h.size;
  inside = rw (← first, ← n) h.inside;
}
  where
    spelled : (i : ℕ) → i < length dot_fit → letter u (r + 8 + i) ≡ letter dot_fit i
    spelled i l = sym (mark i (omega (arith, l, dot_fit-length))) ∙ stands-letters dot_fit t (r + 8) h.mark i l

    inside : r + 8 + length dot_fit ≤ length u
    inside = rw (← n) (stands-inside dot_fit t (r + 8) (omega (arith, dot_fit-length)) h.mark)

-- what a header's first 12 bytes and the text's length decide: whether it is one, and its ride's kind; so nothing behind them does, neither
-- the data nor the check
module _ (t u : Word) (r : Place) (n : length t ≡ length u) (bytes : (i : ℕ) → i < 12 → letter t (r + i) ≡ letter u (r + i)) where
  first-same : letter t r ≡ letter u r
  first-same = rw (add-zero r) at (bytes 0 (omega arith))

  mark-same : (i : ℕ) → i < 4 → letter t (r + 8 + i) ≡ letter u (r + 8 + i)
  mark-same i l = let e : r + (8 + i) ≡ r + 8 + i = omega arith in rw e at (bytes (8 + i) (omega arith))

  kind-same : kind_of t r ≡ kind_of u r
  unfolding kind_of data_size
  kind-same = rw (n, first-same, bytes 4 (omega arith), bytes 5 (omega arith), bytes 6 (omega arith), bytes 7 (omega arith))

  pub twelve_decide : (HeaderAt t r ↔ HeaderAt u r) × (kind_of t r ≡ kind_of u r)
  twelve_decide = (
    (header_depends t u r n first-same mark-same, header_depends u t r (sym n) (sym first-same) (λ i l. sym (mark-same i l))),
    kind-same,
  )

-- ── Texts that differ in a declared size ───────────────────────────────────

module _ {t u : Word} {s : Place} (same : SameBut t u s) where
  back : SameBut u t s
  back = record {
    lengths = sym same.lengths;
    letters = λ i h. sym (same.letters i h);
    alone = λ r n a b. let e = same.alone r n a b in (e.1, e.0);
  }

  -- either r is s, or its first 12 bytes are none of the four, or no header begins there
  apart : (r : Place) → HeaderAt t r → (r ≡ s) ⊎ ((r + 12 ≤ s + 4) ⊎ (s + 8 ≤ r))
  apart r h =
      by_cases (ℕ_discrete r s) inl (λ n. inr (by_cases (dec_le (r + 12) (s + 4)) inl (λ a. inr (by_cases (dec_le (s + 8) r) (λ b. b)
      (λ b. absurd ((same.alone r n (omega arith) (omega arith)).0 h))))))

  header_kept : (r : Place) → HeaderAt t r → HeaderAt u r
  header_kept r h = ⊎_elim here (⊎_elim before behind) (apart r h)
    where
      kept : letter t r ≡ letter u r → ((i : ℕ) → i < 4 → letter t (r + 8 + i) ≡ letter u (r + 8 + i)) → HeaderAt u r
      kept first mark = header_depends t u r same.lengths first mark h

      here : r ≡ s → HeaderAt u r
      here e = kept (same.letters r (inl (omega arith))) (λ i l. same.letters (r + 8 + i) (inr (omega arith)))

      before : r + 12 ≤ s + 4 → HeaderAt u r
      before a = kept (same.letters r (inl (omega arith))) (λ i l. same.letters (r + 8 + i) (inl (omega arith)))

      behind : s + 8 ≤ r → HeaderAt u r
      behind a = kept (same.letters r (inr a)) (λ i l. same.letters (r + 8 + i) (inr (omega arith)))

  -- another header's kind stays
  pub kind-kept : (r : Place) → r ≢ s → HeaderAt t r → kind_of t r ≡ kind_of u r
  kind-kept r n h = ⊎_elim (λ e. absurd (n e)) (λ a. (twelve_decide t u r same.lengths (letters-kept a)).1) (apart r h)
    where
      letters-kept : (r + 12 ≤ s + 4) ⊎ (s + 8 ≤ r) → (i : ℕ) → i < 12 → letter t (r + i) ≡ letter u (r + i)
      letters-kept a i l = same.letters (r + i) (⊎_elim (λ b. inl (omega arith)) (λ b. inr (omega arith)) a)

-- what is mapped may be mapped otherwise, where that is the same for every member
map_same : {A B : Type 0} (f g : A → B) (l : List A) → ((a : A) → Memᴰ a l → f a ≡ g a) → map f l ≡ map g l
map_same f g [] h = refl
map_same f g (a ∷ l) h = rw (h a (Memᴰ.head refl), map_same f g l (λ b m. h b (Memᴰ.tail m)))

module _ {t u : Word} {s : Place} (same : SameBut t u s) where
  pub starts-same : starts (rides t) ≡ starts (rides u)
  starts-same = rising_same (starts_rise t) (starts_rise u) (λ r. (
    λ m. (listed-exactly u r).1 (header_kept same r ((listed-exactly t r).0 m)),
    λ m. (listed-exactly t r).1 (header_kept (back same) r ((listed-exactly u r).0 m)),
  ))

  -- where both rides, too, have one kind, nothing differs
  rides_agree : kind_of t s ≡ kind_of u s → rides t ≡ rides u
  rides_agree e =
      rides_are t
      ∙ map_same (ride_at t) (ride_at u) (starts (rides t)) (λ r m. ride_kept r ((listed-exactly t r).0 m))
      ∙ ap (map (ride_at u)) starts-same
      ∙ sym (rides_are u)
    where
      kind-same : (r : Place) → HeaderAt t r → kind_of t r ≡ kind_of u r
      kind-same r h = by_cases (ℕ_discrete r s) (λ q. rw q e) (λ n. kind-kept same r n h)

      ride_kept : (r : Place) → HeaderAt t r → ride_at t r ≡ ride_at u r
      ride_kept r h = ap (λ (k : ℕ). record { start = r; kind = k }) (kind-same r h)

  pub beyond_same : length t < ride_end t s → length u < ride_end u s → rides t ≡ rides u
  beyond_same a b = rides_agree (kind-cut t s a ∙ sym (kind-cut u s b))
