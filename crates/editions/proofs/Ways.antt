-- The ways of `specs/EitherCases` are those that `ending_either` and `verdict_either` go: some way leads to what is shown, and every way
-- that applies leads there. Up to the letters they are those of edition 1.
use mathlib.Core.Path.{◌≡◌, refl}
use mathlib.Core.Bool.{Bool, true, false, cond}
use mathlib.Core.Logic.{◌↔◌}
use mathlib.Core.List.{List}
use Prim.Native.Nat.{ℕ, ◌+◌, ◌-◌}
use lib.Dec.{eqb, leb, ltb}
use lib.ListN.{length}
use borrow.Author.Tests.{eqb-true, eqb-false, leb-true, leb-false, ltb-true, ltb-false, eq-eqb, ne_eqb, le-leb, lt-leb, lt-ltb, le-ltb}
use Rattle.words.specs.Lists.{at}
use Rattle.words.specs.Limits.{longest_word}
use Rattle.words.specs.Words.{Word, Place, part}
use Rattle.loaded.specs.Load.{Front, Ending, behind, broken, ending, Verdict, closed}
use Rattle.loaded.specs.Cases.{EndingCase}
use Rattle.loaded.proofs.Cases.{ending_case, case_ending}
use Rattle.loaded.proofs.Theorems.{front_at_is}
use Rattle.crc.specs.Check.{check}
use Rattle.editions.specs.Either.{checked_at, as_plain, front_either, pair_at, past_check, ending_either, verdict_either}
use Rattle.editions.specs.EitherCases.{FrontEither, EndingEither, arrows_broken, plain_end, check_cut, check_differs, check_agrees}
use Rattle.editions.specs.EitherCases.{VerdictEither, ending_wrong, bytes_follow, nothing_follows}

test_case : {A : Type 0} (P : A → Type 0) (b : Bool) {x y : A} → (b ≡ true → P x) → (b ≡ false → P y) → P (cond b x y)
test_case P true f g = f refl
test_case P false f g = g refl

-- up to the letters
pub front_either_is : (s : List ℕ) (o : Place) (f : Front) → (front_either longest_word s o ≡ f) ↔ FrontEither s o f
front_either_is s o = front_at_is (as_plain s o) o

-- ── The ending ─────────────────────────────────────────────────────────────

module _ (s : List ℕ) (o i : Place) (w : Word) where
  abbrev Shows : Ending → Type 0
  Shows = EndingEither s o i w

  past : at s o ≡ 2 → (e : Ending) → EndingCase s i w e → Shows (past_check s o e)
  past c (broken r p) E = arrows_broken E
  past c (behind p) E =
      test_case Shows (leb (p + 2) (length s))
      (λ t. let fits = leb-true (p + 2) (length s) t in
      test_case Shows (eqb (pair_at s p) (check (part s o (p - o))))
      (λ q. check_agrees E c fits (eqb-true _ _ q))
      (λ q. check_differs E c fits (eqb-false _ _ q)))
      (λ t. check_cut E c (leb-false (p + 2) (length s) t))

  other : (at s o ≡ 2 → ⊥) → (e : Ending) → EndingCase s i w e → Shows e
  other d (broken r p) E = arrows_broken E
  other d (behind p) E = plain_end E d

  -- some way leads to what is shown
  pub either_case : Shows (ending_either s o i w)
  unfolding ending_either
  either_case =
      test_case Shows (checked_at s o)
      (λ t. past (eqb-true (at s o) 2 t) (ending s i w) (ending_case s i w))
      (λ t. other (eqb-false (at s o) 2 t) (ending s i w) (ending_case s i w))

  -- and every way that applies leads there
  pub case_either : {e : Ending} → Shows e → ending_either s o i w ≡ e
  unfolding ending_either
  case_either (arrows_broken {r = r} {p = p} E) = by (checked_at s o)
    where
      by : (b : Bool) → cond b (past_check s o (ending s i w)) (ending s i w) ≡ broken r p
      by true = rw (case_ending s E)
      by false = case_ending s E
  case_either (plain_end E d) = rw (ne_eqb (at s o) 2 d, case_ending s E)
  case_either (check_cut {p = p} E c h) = rw (eq-eqb (at s o) 2 c, case_ending s E, lt-leb (p + 2) (length s) h)
  case_either (check_differs {p = p} E c h d) = rw (eq-eqb (at s o) 2 c, case_ending s E, le-leb (p + 2) (length s) h, ne_eqb _ _ d)
  case_either (check_agrees {p = p} E c h q) = rw (eq-eqb (at s o) 2 c, case_ending s E, le-leb (p + 2) (length s) h, eq-eqb _ _ q)

  pub ending_either_is : (e : Ending) → (ending_either s o i w ≡ e) ↔ EndingEither s o i w e
  ending_either_is e = (λ q. rw q at either_case, case_either)

-- ── The verdict ────────────────────────────────────────────────────────────

module _ (s : List ℕ) (i : Place) (w : Word) where
  -- some way leads to what is shown
  verdict_case : VerdictEither s i w (verdict_either s i w)
  unfolding verdict_either
  verdict_case = by (ending_either s 0 i w) (either_case s 0 i w)
    where
      by : (e : Ending) → EndingEither s 0 i w e → VerdictEither s i w (closed s e)
      by (behind p) c =
          test_case (VerdictEither s i w) (ltb p (length s))
          (λ t. bytes_follow c (ltb-true p (length s) t)) (λ t. nothing_follows c (ltb-false p (length s) t))
      by (broken r p) c = ending_wrong c

  -- and every way that applies leads there
  case_verdict : {v : Verdict} → VerdictEither s i w v → verdict_either s i w ≡ v
  unfolding verdict_either
  case_verdict (ending_wrong c) = rw (case_either s 0 i w c)
  case_verdict (bytes_follow {p = p} c h) = rw (case_either s 0 i w c, lt-ltb p (length s) h)
  case_verdict (nothing_follows {p = p} c h) = rw (case_either s 0 i w c, le-ltb p (length s) h)

  pub verdict_either_is : (v : Verdict) → (verdict_either s i w ≡ v) ↔ VerdictEither s i w v
  verdict_either_is v = (λ q. rw q at verdict_case, case_verdict)
