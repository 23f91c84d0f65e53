-- THE ROW, as `fill` writes it: the first entries are there, and the next follows from the one before, as a border of one letter more is a
-- border with the letter behind it.
use mathlib.Core.Path.{◌≡◌, refl, sym, ap, ◌∙◌}
use mathlib.Core.List.{List, [], ◌∷◌, ◌++◌}
use Prim.Native.Nat.{ℕ, zero, suc, ◌+◌, ◌-◌, ◌≤◌, ◌<◌}
use native.Mathlib.Decide.{ℕ_discrete}
use native.Mathlib.Omega.{arith}
use lib.ListN.{length, set, length-set, length-map}
use lib.Seq.{get_or-set_same, get_or-set_other, ext_get_or}
use Rattle.words.specs.Lists.{at, from}
use Rattle.words.specs.Words.{Word, letter, part}
use Rattle.words.proofs.Lists.{from_length, map_from_at}
use Rattle.words.proofs.Words.{part-whole}
use Rattle.border.specs.Borders.{longest_border, borders, longest_end, Known}
use Rattle.border.proofs.Beginnings.{EndsIn, ends_through, shorter_ends, ends-longer, ends-before}
use Rattle.border.proofs.Beginnings.{beginning_shorter, beginning_ends, beginning_longest, end-longest, end_none}

-- ── One letter more ────────────────────────────────────────────────────────

module _ (w : Word) (n : ℕ) (pos : 0 < n) (inside : n < length w) where
  abbrev before : ℕ
  before = longest_border (part w 0 n)

  abbrev after : ℕ
  after = longest_border (part w 0 (suc n))

  small : before ≤ n - 1
  small = beginning_shorter w n (omega arith)

  -- an end of the longest border with the letter behind it is a border of one letter more
  longer : (j : ℕ) → EndsIn w before j → letter w j ≡ letter w n → suc j ≤ after
  longer j E e = beginning_longest w (suc n) inside (omega (arith, E.sum, small))
      (ends-longer w (ends_through w (beginning_ends w n (omega arith)) E) (sym e))

  pub next_border : longest_end w (part w 0 before ++ (letter w n ∷ [])) ≡ after
  next_border = by after refl (beginning_ends w (suc n) inside)
    where
      by : (b : ℕ) → after ≡ b → EndsIn w (suc n) b → longest_end w (part w 0 before ++ (letter w n ∷ [])) ≡ b
      by zero q E = end_none w before (omega (arith, small)) (letter w n) (λ j l F e. omega (arith, longer j F e))
      by (suc b) q E =
          let shorter = ends-before w E in
          let here : b < n = omega (arith, beginning_shorter w (suc n) inside) in
          let within = beginning_longest w n (omega arith) here shorter.0 in
          let ends = shorter_ends w (beginning_ends w n (omega arith)) shorter.0 within in
          end-longest w before (omega (arith, small)) (letter w n) b (omega arith) ends (sym shorter.1)
          (λ j l F e. omega (arith, longer j F e))

-- ── The row ────────────────────────────────────────────────────────────────

pub borders-length : (w : Word) → length (borders w) ≡ length w
unfolding borders
borders-length w = length-map (from 1 (length w)) (λ k. longest_border (part w 0 k)) ∙ from_length 1 (length w)

pub borders-known : (w : Word) → Known w (borders w) (length w)
unfolding borders
borders-known w = record { entry = entry }
  where
    entry : (j : ℕ) → j < length w → at (borders w) j ≡ longest_border (part w 0 (suc j))
    entry j h =
        let q : 1 + j ≡ suc j = omega arith in
        map_from_at (λ k. longest_border (part w 0 k)) 1 (length w) j 0 h
        ∙ ap (λ (k : ℕ). longest_border (part w 0 k)) q

-- the last entry is the word's own
pub borders-last : (w : Word) → 1 ≤ length w → at (borders w) (length w - 1) ≡ longest_border w
borders-last w h =
    let q : suc (length w - 1) ≡ length w = omega arith in
    (borders-known w).entry (length w - 1) (omega arith)
    ∙ ap (λ (k : ℕ). longest_border (part w 0 k)) q
    ∙ ap longest_border (part-whole w)

-- the first k entries are there, and b is the last of them
pub record Filling (w : Word) (row : List ℕ) (b k : ℕ) : Type 0 where
  pub some_there : 0 < k
  pub inside : k ≤ length w
  pub size : length row ≡ length w
  pub known : Known w row k
  pub last : b ≡ longest_border (part w 0 k)

pub filling_start : {w : Word} (row : List ℕ) → 1 ≤ length w → length row ≡ length w → Filling w (set row 0 0) 0 1
filling_start {w} row h e = record {
  some_there = omega arith;
  inside = h;
  size = length-set row 0 0 ∙ e;
  known = record { entry = entry };
  last = none;
}
  where
    none : 0 ≡ longest_border (part w 0 1)
    none = omega (arith, beginning_shorter w 1 h)

    entry : (j : ℕ) → j < 1 → at (set row 0 0) j ≡ longest_border (part w 0 (suc j))
    entry j l = let q : j ≡ 0 = omega arith in rw q (get_or-set_same row 0 0 0 (omega arith) ∙ none)

module _ {w : Word} {row : List ℕ} {b k : ℕ} (F : Filling w row b k) where
  pub last_shorter : b < k
  last_shorter = omega (arith, F.some_there, F.last, beginning_shorter w k F.inside)

  pub last-known : Known w row b
  last-known = record { entry = λ j l. F.known.entry j (omega (arith, last_shorter)) }

  module _ (more : k < length w) {c : ℕ} (found : c ≡ longest_end w (part w 0 b ++ (letter w k ∷ []))) where
    next_is_lem : c ≡ longest_border (part w 0 (suc k))
    next_is_lem = found ∙ rw F.last (next_border w k F.some_there more)

    pub next_shorter : c ≤ k
    next_shorter = omega (arith, next_is_lem, beginning_shorter w (suc k) more)

    pub filling_next : Filling w (set row k c) c (k + 1)
    filling_next = record {
      some_there = omega arith;
      inside = omega arith;
      size = length-set row k c ∙ F.size;
      known = record { entry = λ j l. by j l (ℕ_discrete j k) };
      last = let one : suc k ≡ k + 1 = omega arith in next_is_lem ∙ ap (λ (n : ℕ). longest_border (part w 0 n)) one;
    }
      where
        by : (j : ℕ) → j < k + 1 → Dec (j ≡ k) → at (set row k c) j ≡ longest_border (part w 0 (suc j))
        by j l (yes e) = rw e (get_or-set_same row k c 0 (omega (arith, F.size)) ∙ next_is_lem)
        by j l (no e) = get_or-set_other row k j c 0 e ∙ F.known.entry j (omega arith)

  pub filling_end : length w ≤ k → row ≡ borders w
  filling_end h = ext_get_or 0 row (borders w) (F.size ∙ sym (borders-length w))
      (λ i l. F.known.entry i (omega (arith, F.size)) ∙ sym ((borders-known w).entry i (omega (arith, F.size))))
