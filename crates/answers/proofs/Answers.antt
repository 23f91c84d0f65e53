-- Different answers of the code mean different things: from what an answer means, the answer is got back.
use mathlib.Core.Path.{◌≡◌, refl, sym, ap, ◌∙◌}
use Prim.Native.Nat.{ℕ}
use native.Mathlib.Omega.{arith}
use Rattle.std.specs.Prelude.{cond, eqb, Result, Ok, Err}
use Rattle.answers.specs.declared.Flaw.{Flaw}
use Rattle.answers.specs.declared.Flaw.TheVariants.{EndsEarly, Misspelled, OtherEdition, WordSize}
use Rattle.answers.specs.declared.Flaw.TheVariants.{ManyArrows, OtherArrow, Leftovers, OtherCheck}
use Rattle.answers.specs.declared.Refusal.{Refusal}
use Rattle.answers.specs.declared.Refusal.TheVariants.{EmptyWord, LongWord, ShortRoom, LongText, ShortOutput, Unmade, ShortWord, InFile}
use Rattle.answers.specs.Answers.{Answer, done, refused, refused_at, flaw_number, answer_of}

-- what is done is not refused
pub done_not_refused : {A B : Type 0} {a : A} {n : ℕ} → ◌≡◌ {A = Answer A} (done a) (refused n) → B
done_not_refused e = let z : ◌≡◌ {A = ℕ} 0 1 = cc in absurd (omega arith)

pub done_not_placed : {A B : Type 0} {a : A} {n p : ℕ} → ◌≡◌ {A = Answer A} (done a) (refused_at n p) → B
done_not_placed e = let z : ◌≡◌ {A = ℕ} 0 1 = cc in absurd (omega arith)

-- ── The reasons, from their numbers ────────────────────────────────────────

flaw_with : ℕ → Flaw
flaw_with n =
    cond (eqb n 5) EndsEarly
    (cond (eqb n 6) Misspelled
    (cond (eqb n 7) OtherEdition
    (cond (eqb n 8) WordSize
    (cond (eqb n 9) ManyArrows
    (cond (eqb n 10) OtherArrow
    (cond (eqb n 11) Leftovers OtherCheck))))))

flaw_back : (f : Flaw) → flaw_with (flaw_number f) ≡ f
unfolding flaw_with
flaw_back EndsEarly = refl
flaw_back Misspelled = refl
flaw_back OtherEdition = refl
flaw_back WordSize = refl
flaw_back ManyArrows = refl
flaw_back OtherArrow = refl
flaw_back Leftovers = refl
flaw_back OtherCheck = refl

refusal_with : ℕ → Refusal
refusal_with n =
    cond (eqb n 1) EmptyWord
    (cond (eqb n 2) LongWord
    (cond (eqb n 3) ShortRoom
    (cond (eqb n 4) LongText
    (cond (eqb n 12) ShortOutput
    (cond (eqb n 16) Unmade ShortWord)))))

-- ── The answers, from what they mean ───────────────────────────────────────

module _ {A : Type 0} where
  answered : Answer A → Result A Refusal
  answered (done v) = Ok v
  answered (refused n) = Err (refusal_with n)
  answered (refused_at n p) = Err (InFile (record { flaw = flaw_with n; place = p }))

  answered_back : (r : Result A Refusal) → answered (answer_of r) ≡ r
  unfolding answered refusal_with
  answered_back (Ok v) = refl
  answered_back (Err EmptyWord) = refl
  answered_back (Err LongWord) = refl
  answered_back (Err ShortRoom) = refl
  answered_back (Err LongText) = refl
  answered_back (Err ShortOutput) = refl
  answered_back (Err Unmade) = refl
  answered_back (Err ShortWord) = refl
  answered_back (Err (InFile f)) = ap (λ k. Err (InFile (record { flaw = k; place = f.place }))) (flaw_back f.flaw)

  pub answer_of-one : (r s : Result A Refusal) → answer_of r ≡ answer_of s → r ≡ s
  answer_of-one r s e = sym (answered_back r) ∙ ap answered e ∙ answered_back s
