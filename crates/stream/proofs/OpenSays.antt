-- THE THEOREMS on `open_says`: each refusal exactly where it is tabled, that nothing usable is handed out with one, and that the promise
-- allows one outcome.
use mathlib.Core.Path.{◌≡◌, refl, sym, ap, ◌∙◌}
use mathlib.Core.Bool.{true}
use mathlib.Core.Logic.{◌↔◌}
use mathlib.Core.List.{[], ◌∷◌}
use Prim.Native.Nat.{ℕ, ◌≤◌, ◌<◌}
use native.Mathlib.Decide.{dec_lt}
use native.Mathlib.Omega.{arith}
use lib.ListN.{length}
use borrow.Author.Tests.{lt-ltb, le-ltb}
use Rattle.words.specs.Limits.{longest_streamed}
use Rattle.words.specs.Words.{Word}
use Rattle.answers.specs.Answers.{done, refused, empty_word, long_word, refuses_only, one_of}
use Rattle.answers.proofs.Answers.{done_not_refused, answer_of-one}
use Rattle.stream.specs.declared.Opened.{Opened}
use Rattle.stream.specs.Searchers.{searcher_of}
use Rattle.stream.specs.Opening.{blank, Outcome, outcome, opened, open_says}
use Rattle.stream.specs.Cases.{OpenCase}

module _ (w : Word) where
  -- ── Its cases, in the order of the tests ─────────────────────────────────

  pub says-empty : length w < 1 → open_says w ≡ outcome (refused empty_word) blank
  unfolding open_says
  says-empty h = rw (lt-ltb _ _ h)

  pub says-long : 1 ≤ length w → longest_streamed < length w → open_says w ≡ outcome (refused long_word) blank
  unfolding open_says
  says-long h l = rw (le-ltb _ _ h, lt-ltb _ _ l)

  pub says-opened : 1 ≤ length w → length w ≤ longest_streamed → open_says w ≡ outcome (done (length w)) (searcher_of w [])
  unfolding open_says
  says-opened h l = rw (le-ltb _ _ h, le-ltb _ _ l)

  -- ── When each is given ───────────────────────────────────────────────────

  -- every word is of one case
  case : OpenCase w (open_says w)
  case = by (dec_lt (length w) 1) (dec_lt longest_streamed (length w))
    where
      by : Dec (length w < 1) → Dec (longest_streamed < length w) → OpenCase w (open_says w)
      by (yes h) d = rw (says-empty h) (OpenCase.on_empty_word h)
      by (no h) (yes l) = rw (says-long (omega arith) l) (OpenCase.on_long_word (omega arith) l)
      by (no h) (no l) = rw (says-opened (omega arith) (omega arith)) (OpenCase.accepted (omega arith) (omega arith))

  -- and a case that applies has its outcome
  given : {o : Outcome} → OpenCase w o → open_says w ≡ o
  given (OpenCase.on_empty_word h) = says-empty h
  given (OpenCase.on_long_word h l) = says-long h l
  given (OpenCase.accepted h l) = says-opened h l

  pub open_is : (o : Outcome) → (open_says w ≡ o) ↔ OpenCase w o
  open_is o = (λ e. rw e at case, given)

  pub open_numbers : refuses_only (1 ∷ 2 ∷ []) (open_says w).answer ≡ true
  unfolding one_of
  open_numbers = by case
    where
      by : {o : Outcome} → OpenCase w o → refuses_only (1 ∷ 2 ∷ []) o.answer ≡ true
      by (OpenCase.on_empty_word h) = refl
      by (OpenCase.on_long_word h l) = refl
      by (OpenCase.accepted h l) = refl

  -- with a refusal a blank is handed out
  pub refusal_blank : {n : ℕ} → (open_says w).answer ≡ refused n → (open_says w).searcher ≡ blank
  refusal_blank {n} = by case
    where
      by : {o : Outcome} → OpenCase w o → o.answer ≡ refused n → o.searcher ≡ blank
      by (OpenCase.on_empty_word h) e = refl
      by (OpenCase.on_long_word h l) e = refl
      by (OpenCase.accepted h l) e = done_not_refused e

-- ── One outcome ────────────────────────────────────────────────────────────

-- two outcomes that the promise of open allows are equal
pub open_one : (w : Word) (r s : Opened) → opened r ≡ open_says w → opened s ≡ open_says w → r ≡ s
open_one w r s e f =
    let g : opened r ≡ opened s = e ∙ sym f in
    let a = answer_of-one r.answer s.answer (ap (λ o. o.answer) g) in
    let b = ap (λ (o : Outcome). o.searcher) g in
    λ i. record { answer = a i; searcher = b i }
