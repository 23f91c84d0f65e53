-- The ways of `specs/Cases` are those that `front_at`, `arrows_at`, `ending` and `verdict` go: for each, first that some way leads to what
-- it shows, then that every way that applies leads there.
use mathlib.Core.Path.{◌≡◌, refl, ap}
use mathlib.Core.Bool.{Bool, true, false, ◌&&◌, cond}
use mathlib.Core.Logic.{inl, inr}
use mathlib.Core.List.{List, [], ◌∷◌}
use Prim.Native.Nat.{ℕ, zero, suc, ◌+◌, ◌-◌, ◌≤◌, ◌<◌}
use native.Mathlib.Omega.{arith}
use lib.ListN.{length}
use lib.Dec.{eqb, leb, ltb}
use borrow.Author.Tests.{eqb-true, eqb-false, leb-true, leb-false, ltb-true, ltb-false, eq-eqb, ne_eqb, le-leb, lt-leb, lt-ltb, le-ltb}
use Rattle.words.specs.Words.{Word, Place}
use Rattle.words.specs.Limits.{least_saved, longest_word}
use Rattle.words.proofs.Lists.{and_true}
use Rattle.words.proofs.Limits.{least_below_longest}
use Rattle.std.specs.Prelude.{Result, Ok, Err}
use Rattle.answers.specs.declared.Fault.{Fault}
use Rattle.answers.specs.Answers.{flaw_number}
use Rattle.number.specs.declared.Number.{Number}
use Rattle.number.specs.Number.{number_at}
use Rattle.number.proofs.Theorems.{Refusal, number_at-refused, cut-exactly, bad-exactly}
use Rattle.saved.specs.File.{edition, Step, own_steps}
use Rattle.loaded.specs.Load.{taking, field, Front, stop, front_within, front_at, neither, two_at, next_is, taking_two}
use Rattle.loaded.specs.Load.{Ending, behind, broken, arrows_at, ending, Verdict, closed, verdict}
use Rattle.loaded.specs.Cases.{Reads, Unread, cut_off, bad_byte}
use Rattle.loaded.specs.Cases.{BadLength, FrontCaseAt, edition_unread, edition_other, length_unread, length_bad}
use Rattle.loaded.specs.Cases.{letters_missing, letters-there}
use Rattle.loaded.specs.Cases.{ArrowsCase, arrow_agrees, up_unread, over_unread, arrow_differs, no_arrow_left}
use Rattle.loaded.specs.Cases.{arrows_missing, all_agree}
use Rattle.loaded.specs.Cases.{EndingCase, count_unread, count_too_large, count_fits}
use Rattle.loaded.specs.Cases.{VerdictCase, arrows_wrong, leftovers, all_read}

-- ── A number ───────────────────────────────────────────────────────────────

module _ (s : List ℕ) (i : Place) where
  pub unread : {A : Type 0} (off on : ℕ → ℕ → A) {r : ℕ} {p : Place} → Unread s i r p → field s i off on ≡ off r p
  unread off on (cut_off c) = rw ((cut-exactly s i).1 c)
  unread off on (bad_byte {p = p} b) = rw ((bad-exactly s i p).1 b)

  pub refused_unread : {f : Fault} → number_at s i ≡ Err f → Unread s i (flaw_number f.flaw) f.place
  refused_unread {f} e = by (number_at-refused s i e)
    where
      by : Refusal s i f → Unread s i (flaw_number f.flaw) f.place
      by (inl q) = rw q.0 (cut_off q.1)
      by (inr q) = rw (ap (λ f. f.flaw) q.0) (bad_byte q.1)

-- ── Fields and tests, by cases ─────────────────────────────────────────────

module _ {A : Type 0} (P : A → Type 0) where
  field_case : (s : List ℕ) (i : Place) (off on : ℕ → ℕ → A)
      → ((r : ℕ) (p : Place) → Unread s i r p → P (off r p)) → ((v : ℕ) (j : Place) → Reads s i v j → P (on v j)) → P (field s i off on)
  field_case s i off on f g = by (number_at s i) refl
    where
      by : (x : Result Number Fault) → number_at s i ≡ x → P (taking x off on)
      by (Ok n) e = g n.value n.next.at e
      by (Err x) e = f (flaw_number x.flaw) x.place (refused_unread s i e)

  test_case : (b : Bool) {x y : A} → (b ≡ true → P x) → (b ≡ false → P y) → P (cond b x y)
  test_case true f g = f refl
  test_case false f g = g refl

  most_case : (a b : ℕ) {x y : A} → (a ≤ b → P x) → (b < a → P y) → P (cond (leb a b) x y)
  most_case a b f g = test_case (leb a b) (λ t. f (leb-true a b t)) (λ t. g (leb-false a b t))

  length_case : (m : ℕ) {x y : A} → (least_saved ≤ m → m ≤ longest_word → P x) → (BadLength m → P y)
      → P (cond (leb least_saved m && leb m longest_word) x y)
  length_case m {x} {y} f g = by (leb least_saved m) refl
    where
      by : (b : Bool) → leb least_saved m ≡ b → P (cond (b && leb m longest_word) x y)
      by true e = most_case m longest_word (f (leb-true least_saved m e)) (λ h. g (inr h))
      by false e = g (inl (leb-false least_saved m e))

-- whether two numbers are those of the arrow t
module _ (a b : ℕ) (t : Step) where
  next_differs : (eqb a t.up && eqb b t.over) ≡ false → a ≡ t.up → b ≡ t.over → ⊥
  next_differs e x y = let z : ◌≡◌ {A = ℕ} 0 1 = cc (e, eq-eqb a t.up x, eq-eqb b t.over y) in omega arith

  differs_next : (a ≡ t.up → b ≡ t.over → ⊥) → (eqb a t.up && eqb b t.over) ≡ false
  differs_next d = by (eqb a t.up) (eqb b t.over) refl refl
    where
      by : (x y : Bool) → eqb a t.up ≡ x → eqb b t.over ≡ y → (x && y) ≡ false
      by true true e f = absurd (d (eqb-true a t.up e) (eqb-true b t.over f))
      by true false e f = refl
      by false y e f = refl

module _ (s : List ℕ) where
  -- ── Up to the letters ────────────────────────────────────────────────────

  -- some way leads to what is shown
  pub front_case : (o : Place) → FrontCaseAt s o (front_at s o)
  unfolding front_within
  front_case o =
      field_case (FrontCaseAt s o) s o stop _ (λ r p u. edition_unread u) (λ e i h.
      test_case (FrontCaseAt s o) (eqb e edition) (λ t. let g : Reads s o edition i = rw (eqb-true e edition t) at h in
      field_case (FrontCaseAt s o) s i stop _ (λ r p u. length_unread g u) (λ m j k.
      length_case (FrontCaseAt s o) m (λ least most.
      most_case (FrontCaseAt s o) (j + m) (length s) (λ d. letters-there g k least most d) (λ d. letters_missing g k least most d))
      (λ d. length_bad g k d)))
      (λ t. edition_other h (eqb-false e edition t)))

  -- and every way that applies leads there
  pub case_front : {o : Place} {f : Front} → FrontCaseAt s o f → front_at s o ≡ f
  unfolding front_within
  case_front (edition_unread u) = unread s _ stop _ u
  case_front (edition_other {e = e} h d) = rw (h, ne_eqb e edition d)
  case_front (length_unread h u) = rw (h, eq-eqb edition edition refl) (unread s _ stop _ u)
  case_front (length_bad {m = m} h k (inl z)) = rw (h, eq-eqb edition edition refl, k, lt-leb least_saved m z)
  case_front (length_bad {m = m} h k (inr z)) =
      rw (h, eq-eqb edition edition refl, k, le-leb least_saved m (omega (arith, least_below_longest)), lt-leb m longest_word z)
  case_front (letters_missing {m = m} {j = j} h k a b c) =
      rw (h, eq-eqb edition edition refl, k, le-leb least_saved m a, le-leb m longest_word b, lt-leb (j + m) (length s) c)
  case_front (letters-there {m = m} {j = j} h k a b c) =
      rw (h, eq-eqb edition edition refl, k, le-leb least_saved m a, le-leb m longest_word b, le-leb (j + m) (length s) c)

  -- ── The arrows ───────────────────────────────────────────────────────────

  two_case : {C : Type 0} (P : C → Type 0) (i : Place) (off : ℕ → ℕ → C) (on : ℕ → ℕ → ℕ → C)
      → ((r : ℕ) (p : Place) → Unread s i r p → P (off r p))
      → ((a : ℕ) (j : Place) (r : ℕ) (p : Place) → Reads s i a j → Unread s j r p → P (off r p))
      → ((a : ℕ) (j : Place) (b : ℕ) (k : Place) → Reads s i a j → Reads s j b k → P (on a b k)) → P (taking_two (two_at s i) off on)
  unfolding two_at
  two_case P i off on f g h =
      field_case (λ t. P (taking_two t off on)) s i neither _ f (λ a j x.
      field_case (λ t. P (taking_two t off on)) s j neither _ (λ r p u. g a j r p x u) (λ b k y. h a j b k x y))

  -- some way leads to what is shown
  pub arrows_case : (i : Place) (n : ℕ) (l : List Step) → ArrowsCase s i n l (arrows_at s i n l)
  unfolding arrows_at
  arrows_case i zero [] = all_agree
  arrows_case i zero (t ∷ l) = arrows_missing
  arrows_case i (suc n) [] =
      two_case (ArrowsCase s i (suc n) []) i broken _ (λ r p u. up_unread u) (λ a j r p h u. over_unread h u)
      (λ a j b k h g. no_arrow_left h g)
  arrows_case i (suc n) (t ∷ l) =
      two_case (ArrowsCase s i (suc n) (t ∷ l)) i broken _ (λ r p u. up_unread u) (λ a j r p h u. over_unread h u) (λ a j b k h g.
      test_case (ArrowsCase s i (suc n) (t ∷ l)) (next_is a b (t ∷ l)) (λ e. let q = and_true {a = eqb a t.up} e in
      arrow_agrees (rw (eqb-true a t.up q.0) at h) (rw (eqb-true b t.over q.1) at g) (arrows_case k n l))
      (λ e. arrow_differs h g (next_differs a b t e)))

  -- a number that is not read, first or second, is what the two come to
  neither_first : {C : Type 0} (off : ℕ → ℕ → C) (on : ℕ → ℕ → ℕ → C) (i : Place) {r : ℕ} {p : Place} → Unread s i r p
      → taking_two (two_at s i) off on ≡ off r p
  unfolding two_at
  neither_first off on i u = ap (λ t. taking_two t off on) (unread s _ neither _ u)

  neither_second : {C : Type 0} (off : ℕ → ℕ → C) (on : ℕ → ℕ → ℕ → C) (i : Place) {a : ℕ} {j : Place} {r : ℕ} {p : Place}
      → Reads s i a j → Unread s j r p → taking_two (two_at s i) off on ≡ off r p
  unfolding two_at
  neither_second off on i h u = rw h (ap (λ t. taking_two t off on) (unread s _ neither _ u))

  -- and every way that applies leads there
  pub case_arrows : {i : Place} {n : ℕ} {l : List Step} {e : Ending} → ArrowsCase s i n l e → arrows_at s i n l ≡ e
  unfolding arrows_at two_at
  case_arrows (arrow_agrees {t = t} h g c) = rw (h, g, eq-eqb t.up t.up refl, eq-eqb t.over t.over refl) (case_arrows c)
  case_arrows (up_unread u) = neither_first broken _ _ u
  case_arrows (over_unread h u) = neither_second broken _ _ h u
  case_arrows (arrow_differs {a = a} {b = b} {t = t} h g d) = rw (h, g, differs_next a b t d)
  case_arrows (no_arrow_left h g) = rw (h, g)
  case_arrows arrows_missing = refl
  case_arrows all_agree = refl

  -- ── The ending ───────────────────────────────────────────────────────────

  -- some way leads to what is shown
  pub ending_case : (i : Place) (w : Word) → EndingCase s i w (ending s i w)
  unfolding ending
  ending_case i w =
      field_case (EndingCase s i w) s i broken _ (λ r p u. count_unread u) (λ n j h.
      most_case (EndingCase s i w) n (length w - 1) (λ d. count_fits h d (arrows_case j n (own_steps w))) (λ d. count_too_large h d))

  -- and every way that applies leads there
  pub case_ending : {i : Place} {w : Word} {e : Ending} → EndingCase s i w e → ending s i w ≡ e
  unfolding ending
  case_ending (count_unread u) = unread s _ broken _ u
  case_ending {w = w} (count_too_large {n = n} h g) = rw (h, lt-leb n (length w - 1) g)
  case_ending {w = w} (count_fits {n = n} h g c) = rw (h, le-leb n (length w - 1) g) (case_arrows c)

  -- ── The verdict ──────────────────────────────────────────────────────────

  -- some way leads to what is shown
  pub verdict_case : (i : Place) (w : Word) → VerdictCase s i w (verdict s i w)
  unfolding verdict
  verdict_case i w = by (ending s i w) (ending_case i w)
    where
      by : (e : Ending) → EndingCase s i w e → VerdictCase s i w (closed s e)
      by (behind p) c =
          test_case (VerdictCase s i w) (ltb p (length s))
          (λ t. leftovers c (ltb-true p (length s) t)) (λ t. all_read c (ltb-false p (length s) t))
      by (broken r p) c = arrows_wrong c

  -- and every way that applies leads there
  pub case_verdict : {i : Place} {w : Word} {v : Verdict} → VerdictCase s i w v → verdict s i w ≡ v
  unfolding verdict
  case_verdict (arrows_wrong c) = rw (case_ending c)
  case_verdict (leftovers {p = p} c h) = rw (case_ending c, lt-ltb p (length s) h)
  case_verdict (all_read {p = p} c h) = rw (case_ending c, le-ltb p (length s) h)
