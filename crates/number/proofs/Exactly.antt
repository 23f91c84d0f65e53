-- WHAT IS SEEN, SAID OF THE BYTES: a number ends within them; they end too soon where fewer than five of the number are left and each says
-- that another follows; and a byte is refused where those before it say so. First that what is seen is so, byte by byte; then the other
-- way round.
use mathlib.Core.Path.{◌≡◌, refl, ap, ◌∙◌}
use mathlib.Core.List.{List, [], ◌∷◌}
use Prim.Native.Nat.{ℕ, zero, suc, ◌+◌, ◌%◌, ◌≤◌, ◌<◌}
use native.Mathlib.Decide.{dec_lt}
use native.Mathlib.Omega.{arith}
use lib.ListN.{length}
use Rattle.words.specs.Lists.{at}
use Rattle.number.specs.Number.{Seen, number, ends, refused, with_group, see}
use Rattle.number.proofs.Seeing.{Passes, Refusable, refuses_when, refuses_why}
use Rattle.number.proofs.Seeing.{Kind, is_refused, is_last, is_followed, kind_of_lem, see-refused, see-last, see-follows}

-- each of the first m bytes of l says that another follows
abbrev pub Follow : List ℕ → ℕ → Type 0
Follow l m = (k : ℕ) → k < m → 128 ≤ at l k

follow-cons : {b : ℕ} (l : List ℕ) {m : ℕ} → 128 ≤ b → Follow l m → Follow (b ∷ l) (suc m)
follow-cons l h f zero g = h
follow-cons l h f (suc k) g = f k (omega arith)

-- ── What is seen is so ─────────────────────────────────────────────────────

-- of bytes that stand behind n others, one is refused that stands behind m
pub record RefusedIn (n : ℕ) (l : List ℕ) (m : ℕ) : Type 0 where
  pub before : ℕ
  pub place : m ≡ n + before
  pub inside : before < length l
  pub few : m ≤ 4
  pub follow : Follow l before
  pub bad : Refusable m (at l before)

abbrev pub Shape : ℕ → List ℕ → Seen → Type 0
Shape n l (number v m) = (n < m) × (m ≤ n + length l)
Shape n l ends = (n + length l ≤ 4) × Follow l (length l)
Shape n l (refused m) = RefusedIn n l m

pub see_shape : (n : ℕ) (l : List ℕ) → n ≤ 4 → Shape n l (see n l)
unfolding see
see_shape n [] h = (omega arith, λ k g. absurd (omega arith))
see_shape n (b ∷ l) h = by (kind_of_lem n b) (λ g. see_shape (suc n) l g)
  where
    later : (g : Seen) → 128 ≤ b → Shape (suc n) l g → Shape n (b ∷ l) (with_group (b % 128) g)
    later (number v m) high w = (omega arith, omega arith)
    later ends high w = (omega arith, follow-cons l high w.1)
    later (refused m) high w = record {
      before = suc w.before;
      place = omega (arith, w.place);
      inside = omega (arith, w.inside);
      few = w.few;
      follow = follow-cons l high w.follow;
      bad = w.bad;
    }

    by : Kind n b → (suc n ≤ 4 → Shape (suc n) l (see (suc n) l)) → Shape n (b ∷ l) (see n (b ∷ l))
    by (is_refused e) rec = rw (see-refused n b l e) (record {
      before = 0;
      place = omega arith;
      inside = omega arith;
      few = h;
      follow = λ k g. absurd (omega arith);
      bad = refuses_why e;
    })
    by (is_last p g) rec = rw (see-last l p g) (omega arith, omega arith)
    by (is_followed p g) rec = rw (see-follows l p g) (later (see (suc n) l) g (rec (more (dec_lt n 4))))
      where
        more : Dec (n < 4) → suc n ≤ 4
        more (yes q) = q
        more (no q) = absurd (omega (arith, p.small (omega arith)))

-- ── What is so is seen ─────────────────────────────────────────────────────

-- a byte that is not the fifth passes if it says that another follows
follow-passes : {n b : ℕ} → n < 4 → 128 ≤ b → Passes n b
follow-passes h g = record { counts = λ _. omega arith; small = λ e. absurd (omega arith) }

pub see-ends : (n : ℕ) (l : List ℕ) → n + length l ≤ 4 → Follow l (length l) → see n l ≡ ends
unfolding see
see-ends n [] h f = refl
see-ends n (b ∷ l) h f =
    see-follows l (follow-passes (omega arith) (f 0 (omega arith))) (f 0 (omega arith))
    ∙ ap (with_group (b % 128)) (see-ends (suc n) l (omega arith) (λ k g. f (suc k) (omega arith)))

pub see-bad : (n m : ℕ) (l : List ℕ) {q : ℕ} → q ≡ n + m → q ≤ 4 → m < length l → Follow l m → Refusable q (at l m) → see n l ≡ refused q
see-bad n m [] e h i f r = absurd (omega arith)
see-bad n zero (b ∷ l) {q} e h i f r = let same : q ≡ n = omega arith in rw same (see-refused n b l (rw same at (refuses_when r)))
see-bad n (suc m) (b ∷ l) e h i f r =
    see-follows l (follow-passes (omega arith) (f 0 (omega arith))) (f 0 (omega arith))
    ∙ ap (with_group (b % 128)) (see-bad (suc n) m l (omega arith) h (omega arith) (λ k g. f (suc k) (omega arith)) r)
