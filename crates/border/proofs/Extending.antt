-- FALLING ALONG BORDERS, as `extend` does it: the beginning at hand is an end of the first letters, and no longer one has the letter behind
-- it. A beginning that has it is the answer; else the next is its longest border, as every shorter end is one of its borders.
use mathlib.Core.Path.{◌≡◌, sym, ap, ◌∙◌}
use mathlib.Core.Logic.{◌≢◌}
use mathlib.Core.List.{List, [], ◌∷◌, ◌++◌}
use Prim.Native.Nat.{ℕ, suc, ◌+◌, ◌-◌, ◌≤◌, ◌<◌}
use native.Mathlib.Omega.{arith}
use lib.ListN.{length}
use Rattle.words.specs.Lists.{at}
use Rattle.words.specs.Words.{Word, Letter, letter, part}
use Rattle.border.specs.Borders.{longest_border, longest_end, Known}
use Rattle.border.proofs.Beginnings.{EndsIn, ends_through, shorter_ends}
use Rattle.border.proofs.Beginnings.{beginning_shorter, beginning_ends, beginning_longest, end-longest, end_none}

pub record Falling (w : Word) (n : ℕ) (c : Letter) (h : ℕ) : Type 0 where
  pub ends : EndsIn w n h
  pub most : (k : ℕ) → k < length w → EndsIn w n k → letter w k ≡ c → k ≤ h

module _ {w : Word} {n : ℕ} {c : Letter} {h : ℕ} (inside : n < length w) (F : Falling w n c h) where
  pub falling_low : h ≤ n
  falling_low = omega (arith, F.ends.sum)

  pub falling_end : letter w h ≡ c → h + 1 ≡ longest_end w (part w 0 n ++ (c ∷ []))
  falling_end e = omega (arith, end-longest w n (omega arith) c h (omega (arith, falling_low)) F.ends e F.most)

  pub falling_none : h ≡ 0 → letter w h ≢ c → 0 ≡ longest_end w (part w 0 n ++ (c ∷ []))
  falling_none z d = sym (end_none w n (omega arith) c none)
    where
      none : (j : ℕ) → j < length w → EndsIn w n j → letter w j ≡ c → ⊥
      none j l E e = let q : h ≡ j = omega (arith, F.most j l E e) in d (ap (letter w) q ∙ e)

  module _ {row : List ℕ} (K : Known w row n) (more : h ≢ 0) where
    next_is_lem : at row (h - 1) ≡ longest_border (part w 0 h)
    next_is_lem =
        let q : suc (h - 1) ≡ h = omega arith in
        K.entry (h - 1) (omega (arith, falling_low))
        ∙ ap (λ (k : ℕ). longest_border (part w 0 k)) q

    pub falling_less : at row (h - 1) < h
    falling_less = omega (arith, next_is_lem, beginning_shorter w h (omega (arith, falling_low)))

    pub falling_next : letter w h ≢ c → Falling w n c (at row (h - 1))
    falling_next d = rw next_is_lem (record { ends = ends_through w F.ends (beginning_ends w h fits); most = most })
      where
        fits : h ≤ length w
        fits = omega (arith, falling_low)

        most : (k : ℕ) → k < length w → EndsIn w n k → letter w k ≡ c → k ≤ longest_border (part w 0 h)
        most k l E e =
            let within = F.most k l E e in
            let other : k ≢ h = λ q. d (ap (letter w) (sym q) ∙ e) in
            let below : k < h = omega arith in
            beginning_longest w h fits below (shorter_ends w F.ends E within)
