-- READING FORWARD as code does it, letter by letter. The numbers stay in bounds whatever is kept. And whatever place `low` it is before
-- which what is kept may not start, what was found since the reading began and what is still ahead of it are all that `forward` finds: that
-- is `Follows`. One letter more is one letter behind what is kept, so `border::extend` decides; `next` is that step, for a letter at which
-- the word ends and for one at which it does not.
use mathlib.Core.Path.{◌≡◌, refl, sym, ap, ◌∙◌}
use mathlib.Core.Bool.{Bool, true, false, cond, ◌||◌}
use mathlib.Core.Logic.{◌⊎◌, inl, inr, ◌≢◌}
use mathlib.Core.List.{List, [], ◌∷◌, ◌++◌, append_assoc, append-nil}
use Prim.Native.Nat.{ℕ, zero, suc, ◌+◌, ◌-◌, ◌*◌, ◌≤◌, ◌<◌}
use native.Mathlib.Nat.{le_refl, add-zero}
use native.Mathlib.Omega.{arith}
use lib.ListN.{length, take, length-append}
use lib.Seq.{length-take-le, get_or-take}
use lib.Dec.{leb, ltb}
use borrow.Author.Tests.{lt-ltb, le-ltb, lt-leb}
use Rattle.words.specs.Words.{Word, Place, letter, part}
use Rattle.words.proofs.Lists.{test_cases}
use Rattle.words.proofs.Words.{part_length}
use Rattle.border.specs.Borders.{longest_border, borders, longest_end, Known}
use Rattle.border.proofs.Theorems.{border_shorter}
use Rattle.border.proofs.Filling.{borders-length, borders-known}
use Rattle.finds.specs.Finds.{filled}
use Rattle.pieces.specs.Kept.{heard}
use Rattle.pieces.proofs.Kept.{kept-within}
use Rattle.pieces.proofs.OneLetter.{short-kept, whole_length}
use Rattle.pieces.proofs.Running.{other_letter}
use Rattle.turbo_steps.specs.Turbo.{kept_at, ends_at, found_at, Advance, stops_at, one_letter, forward}
use Rattle.turbo_steps.proofs.Between.{short-keeps, short_ends_not, whole-keeps, whole-ends}
use Rattle.turbo_steps.proofs.Forward.{forward-done, forward_stops, forward-reads}
use Rattle.turbo.specs.Readings.{StopsAs}

-- ── The test of the loop ───────────────────────────────────────────────────

module _ (m h n e c : ℕ) (fits : e ≤ n) where
  goes : c < cond (leb m (2 * h)) n e → (c < n) × (ltb c e || leb m (2 * h) ≡ true)
  goes = test_cases {C = c < cond (leb m (2 * h)) n e → (c < n) × (ltb c e || leb m (2 * h) ≡ true)} (leb m (2 * h))
      (λ q. rw q (λ l. (l, or_true (ltb c e))))
      (λ q. rw q (λ l. (omega arith, rw (lt-ltb c e l))))
    where
      or_true : (b : Bool) → b || true ≡ true
      or_true true = refl
      or_true false = refl

  stops : cond (leb m (2 * h)) n e ≤ c → (n ≤ c) ⊎ (ltb c e || leb m (2 * h) ≡ false)
  stops = test_cases {C = cond (leb m (2 * h)) n e ≤ c → (n ≤ c) ⊎ (ltb c e || leb m (2 * h) ≡ false)} (leb m (2 * h))
      (λ q. rw q (λ l. inl l))
      (λ q. rw q (λ l. inr (rw (le-ltb c e l))))

-- ── The reading so far ─────────────────────────────────────────────────────

-- it began at c₀ with so many finds and the list F₀, and has come to c
pub record Follows (w t : Word) (low e c₀ : Place) (count₀ : ℕ) (F₀ F : List ℕ) (c h count : ℕ) : Type 0 where
  pub more : List Place
  pub below : low ≤ c
  pub keeps : h ≡ kept_at w t low c
  pub place : (forward w t low e (length t - c) c).place ≡ (forward w t low e (length t - c₀) c₀).place
  pub starts : more ++ (forward w t low e (length t - c) c).starts ≡ (forward w t low e (length t - c₀) c₀).starts
  pub number : count ≡ count₀ + length more
  pub list : (l G : List ℕ) → length l ≡ count₀ → F₀ ≡ filled l G → F ≡ filled (l ++ more) G

pub record Going (w t : Word) (e c₀ : Place) (h₀ count₀ : ℕ) (F₀ F : List ℕ) (c h count : ℕ) : Type 0 where
  pub inside : c ≤ length t
  pub short : h < length w
  pub within : h ≤ c
  pub few : count ≤ c
  pub same_size : length F ≡ length F₀
  pub follows : (low : Place) → low ≤ c₀ → h₀ ≡ kept_at w t low c₀ → Follows w t low e c₀ count₀ F₀ F c h count

-- a list with nothing noted behind it
same-list : {F : List ℕ} (l G : List ℕ) → F ≡ filled l G → F ≡ filled (l ++ []) G
same-list l G q = q ∙ ap (λ (x : List ℕ). filled x G) (sym (append-nil l))

pub going_start : {w t : Word} {e c h count : ℕ} {F : List ℕ} → c ≤ length t → h < length w → h ≤ c → count ≤ c
    → Going w t e c h count F F c h count
going_start i s f n = record {
  inside = i;
  short = s;
  within = f;
  few = n;
  same_size = refl;
  follows = λ low b k. record {
    more = [];
    below = b;
    keeps = k;
    place = refl;
    starts = refl;
    number = omega arith;
    list = λ l G z q. same-list l G q;
  };
}

module _ {w t : Word} {e c₀ h₀ count₀ : ℕ} {F₀ F : List ℕ} {c h count : ℕ} (I : Going w t e c₀ h₀ count₀ F₀ F c h count)
    (fits : e ≤ length t) where
  -- ── It stops ─────────────────────────────────────────────────────────────

  pub going_stops : {to : ℕ} → to ≡ cond (leb (length w) (2 * h)) (length t) e → to ≤ c
      → StopsAs w t e c₀ h₀ count₀ F₀ (record { place = record { 0 = c }; keep = h; count = count }) F
  going_stops says l = record {
    few = I.few;
    as_forward = λ low b k. stopped low (I.follows low b k) (stops (length w) h (length t) e c fits (rw says at l));
  }
    where
      here : (low : Place) → Follows w t low e c₀ count₀ F₀ F c h count → (length t ≤ c) ⊎ (ltb c e || leb (length w) (2 * h) ≡ false)
          → forward w t low e (length t - c) c ≡ stops_at c
      here low f (inl z) = let none : length t - c ≡ 0 = omega arith in rw none (forward-done w t low e c)
      here low f (inr q) = forward_stops w t low e (length t - c) c (rw f.keeps at q)

      stopped : (low : Place) → Follows w t low e c₀ count₀ F₀ F c h count
          → (length t ≤ c) ⊎ (ltb c e || leb (length w) (2 * h) ≡ false)
          → let o = forward w t low e (length t - c₀) c₀ in
          (c ≡ o.place)
          × (h ≡ kept_at w t low o.place)
          × (count ≡ count₀ + length o.starts)
          × ((l G : List ℕ) → length l ≡ count₀ → F₀ ≡ filled l G → F ≡ filled (l ++ o.starts) G)
      stopped low f d =
          let q = here low f d in
          let place : c ≡ (forward w t low e (length t - c₀) c₀).place = sym (ap (λ (r : Advance). r.place) q) ∙ f.place in
          let starts : f.more ≡ (forward w t low e (length t - c₀) c₀).starts =
          sym (append-nil f.more) ∙ sym (ap (λ (r : Advance). f.more ++ r.starts) q) ∙ f.starts in
          (place, rw (← place) f.keeps, rw (← starts) f.number, rw (← starts) f.list)

  -- ── One letter more ──────────────────────────────────────────────────────

  module _ {to : ℕ} (says : to ≡ cond (leb (length w) (2 * h)) (length t) e) (l : c < to) where
    goes_on : (c < length t) × (ltb c e || leb (length w) (2 * h) ≡ true)
    goes_on = goes (length w) h (length t) e c fits (rw says at l)

    pub going_more : c < length t
    going_more = goes_on.0

    abbrev x : Word
    x = heard w h (letter t c ∷ [])

    next : (ends : List Place) {h' count' : ℕ} {F' : List ℕ} → length ends ≤ 1 → h' < length w → h' ≤ c + 1
        → ((low : Place) → low ≤ c → h ≡ kept_at w t low c → (h' ≡ kept_at w t low (suc c)) × (found_at w t low (suc c) ≡ ends))
        → count' ≡ count + length ends → length F' ≡ length F
        → ((l G : List ℕ) → length l ≡ count → F ≡ filled l G → F' ≡ filled (l ++ ends) G)
        → Going w t e c₀ h₀ count₀ F₀ F' (c + 1) h' count'
    next ends {h'} {count'} {F'} few short within told counted size noted = record {
      inside = omega (arith, going_more);
      short = short;
      within = within;
      few = omega (arith, I.few, counted);
      same_size = size ∙ I.same_size;
      follows = λ low b k. one low (I.follows low b k);
    }
      where
        one : (low : Place) → Follows w t low e c₀ count₀ F₀ F c h count → Follows w t low e c₀ count₀ F₀ F' (c + 1) h' count'
        one low f =
            let z : c + 1 ≡ suc c = omega arith in
            let left : length t - c ≡ suc (length t - suc c) = omega (arith, going_more) in
            let is = told low f.below f.keeps in
            let rest = length t - suc c in
            let read : forward w t low e (length t - c) c ≡ one_letter (found_at w t low (suc c)) (forward w t low e rest (suc c)) =
            rw left (forward-reads w t low e rest c (rw f.keeps at goes_on.1)) in
            let place = rw read at f.place in
            let starts = rw (read, is.1) at f.starts in
            rw z (record {
              more = f.more ++ ends;
              below = omega (arith, f.below);
              keeps = is.0;
              place = place;
              starts = append_assoc f.more ends _ ∙ starts;
              number = counted ∙ omega (arith, f.number, length-append f.more ends);
              list = λ l G n q.
                  noted (l ++ f.more) G (length-append l f.more ∙ omega (arith, f.number)) (f.list l G n q)
                  ∙ ap (λ (x : List ℕ). filled x G) (append_assoc l f.more ends);
            })

    module _ {long : ℕ} (longest : long ≡ longest_end w x) where
      -- not all of the word ends with it
      pub going_short : long < length w → Going w t e c₀ h₀ count₀ F₀ F (c + 1) long count
      going_short less =
          next [] (omega arith) less (omega (arith, grown, I.within)) told (omega arith) refl (λ l G n q. same-list l G q)
        where
          shorter : longest_end w x < length w
          shorter = rw longest at less

          grown : long ≤ suc h
          grown =
              let size = length-append (part w 0 h) (letter t c ∷ []) in
              let kept = short-kept w h I.short (letter t c) shorter in
              omega (arith, longest, kept, kept-within w x (omega (arith, I.short)), size, part_length w 0 h (omega (arith, I.short)))

          told : (low : Place) → low ≤ c → h ≡ kept_at w t low c → (long ≡ kept_at w t low (suc c)) × (found_at w t low (suc c) ≡ [])
          told low b k =
              let less' = rw k at shorter in
              let some-letter : 1 ≤ length w = omega (arith, I.short) in
              let ends : ends_at w t low (suc c) ≡ false = test_cases (ends_at w t low (suc c))
              (λ q. absurd (short_ends_not w t some-letter b going_more less' q)) (λ q. q) in
              (longest ∙ (rw k (sym (short-keeps w t some-letter b going_more less'))), rw ends)

      module _ (all : length w ≤ long) where
        whole : length w ≤ longest_end w x
        whole = rw longest at all

        size : suc h ≡ length w
        size = whole_length w h I.short (letter t c) whole

        -- the word fits into what was read
        pub going_inside : length w ≤ c + 1
        going_inside = omega (arith, size, I.within)

        -- all of it does, and the find is noted
        pub going_find : {border count' : ℕ} {F' : List ℕ} → border ≡ longest_border w → count' ≡ count + 1 → length F' ≡ length F
            → ((l G : List ℕ) → length l ≡ count → F ≡ filled l G → F' ≡ filled (l ++ ((c + 1 - length w) ∷ [])) G)
            → Going w t e c₀ h₀ count₀ F₀ F' (c + 1) border count'
        going_find {border} is =
            let lower : border ≤ length w - 1 = omega (arith, is, border_shorter w) in
            next ((c + 1 - length w) ∷ []) (omega arith) (omega (arith, size)) (omega (arith, going_inside)) told
          where
            told : (low : Place) → low ≤ c → h ≡ kept_at w t low c
                → (border ≡ kept_at w t low (suc c)) × (found_at w t low (suc c) ≡ (c + 1 - length w) ∷ [])
            told low b k =
                let all' = rw k at whole in
                let some-letter : 1 ≤ length w = omega (arith, I.short) in
                let z : c + 1 ≡ suc c = omega arith in
                (is ∙ sym (whole-keeps w t some-letter b going_more all'), rw (z, whole-ends w t some-letter b going_more all'))

-- ── Letters that are skipped ───────────────────────────────────────────────

-- letters that are not the word's first leave nothing kept where nothing was
going_others : {w t : Word} {e c₀ h₀ count₀ : ℕ} {F₀ F : List ℕ} {count : ℕ} (k c : ℕ) → Going w t e c₀ h₀ count₀ F₀ F c 0 count
    → e ≤ length t → c + k ≤ e → ((i : ℕ) → c ≤ i → i < c + k → letter t i ≢ letter w 0) → Going w t e c₀ h₀ count₀ F₀ F (c + k) 0 count
going_others zero c I fits l other = rw (add-zero c) I
going_others {w} {t} {e} {c₀} {h₀} {count₀} {F₀} {F} {count} (suc k) c I fits l other =
    let here : letter w 0 ≢ letter t c = λ q. other c (le_refl c) (omega arith) (sym q) in
    let less : e ≡ cond (leb (length w) (2 * 0)) (length t) e = rw (lt-leb (length w) (2 * 0) (omega (arith, I.short))) in
    let one = going_short I fits less (omega arith) (sym (other_letter w (letter t c) here)) (omega (arith, I.short)) in
    let n : c + 1 + k ≡ c + suc k = omega arith in
    rw n at (going_others k (c + 1) one fits (omega arith) (λ i a b. other i (omega arith) (omega arith)))

-- and so do those that are skipped, up to the window's next that is the word's first
pub going_skip : {w t : Word} {e c₀ h₀ count₀ : ℕ} {F₀ F : List ℕ} {count : ℕ} {c r : ℕ} → Going w t e c₀ h₀ count₀ F₀ F c 0 count
    → e ≤ length t → (c ≤ r) × (r ≤ length (take e t)) × ((i : ℕ) → c ≤ i → i < r → letter (take e t) i ≢ letter w 0)
    → Going w t e c₀ h₀ count₀ F₀ F r 0 count
going_skip {w} {t} {e} {c = c} {r} I fits skipped =
    let size = length-take-le e t fits in
    let n : c + (r - c) ≡ r = omega (arith, skipped.0) in
    rw n at (going_others (r - c) c I fits (omega (arith, skipped.0, skipped.1, size)) other)
  where
    other : (i : ℕ) → c ≤ i → i < c + (r - c) → letter t i ≢ letter w 0
    other i a b q =
        let inside : i < e = omega (arith, skipped.0, skipped.1, length-take-le e t fits) in
        skipped.2 i a (omega (arith, skipped.0)) (get_or-take e t i 0 inside ∙ q)
