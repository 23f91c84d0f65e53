-- THE THEOREMS on `open_bytes_says`: each refusal exactly where it is tabled, what a refusal leaves, and that the promise allows one
-- outcome.
use mathlib.Core.Path.{◌≡◌, refl, sym, ap, ◌∙◌}
use mathlib.Core.Bool.{true}
use mathlib.Core.Logic.{◌↔◌}
use mathlib.Core.List.{List, [], ◌∷◌, ◌++◌}
use Prim.Native.Nat.{ℕ, ◌≤◌, ◌<◌}
use native.Mathlib.Decide.{dec_lt}
use native.Mathlib.Omega.{arith}
use lib.ListN.{length, drop}
use borrow.Author.Tests.{lt-ltb, le-ltb}
use Rattle.std.specs.Prelude.{Result}
use Rattle.words.specs.Limits.{longest_streamed}
use Rattle.words.specs.Words.{Word}
use Rattle.answers.specs.declared.Refusal.{Refusal}
use Rattle.answers.specs.Answers.{done, refused, empty_word, long_word, short_room, refuses_only, one_of}
use Rattle.answers.proofs.Answers.{done_not_refused, answer_of-one}
use Rattle.stream.specs.declared.Opened.{Opened}
use Rattle.stream.specs.Searchers.{searcher_of}
use Rattle.stream.specs.Opening
use Rattle.stream.specs.Opening.{open_says}
use Rattle.stream.proofs.Sound.{Sound}
use Rattle.stream.proofs.Reached.{searcher_sound}
use Rattle.stream.proofs.OpenSays.{says-opened}
use Rattle.searcher_bytes.specs.Packing.{searcher_bytes, packed}
use Rattle.searcher_bytes.specs.OpenBytes.{Outcome, outcome, opened, open_bytes_says}
use Rattle.searcher_bytes.specs.Cases.{OpenCase}
use Rattle.searcher_bytes.proofs.Packing.{searcher_bytes_lem}

module _ (w : Word) (B : List ℕ) where
  -- ── Its cases, in the order of the tests ─────────────────────────────────

  pub says-empty : length w < 1 → open_bytes_says w B ≡ outcome (refused empty_word) B
  unfolding open_bytes_says
  says-empty h = rw (lt-ltb _ _ h)

  pub says-long : 1 ≤ length w → longest_streamed < length w → open_bytes_says w B ≡ outcome (refused long_word) B
  unfolding open_bytes_says
  says-long h l = rw (le-ltb _ _ h, lt-ltb _ _ l)

  pub says-short : 1 ≤ length w → length w ≤ longest_streamed → length B < searcher_bytes
      → open_bytes_says w B ≡ outcome (refused short_room) B
  unfolding open_bytes_says
  says-short h l s = rw (le-ltb _ _ h, le-ltb _ _ l, lt-ltb _ _ s)

  pub says-done : 1 ≤ length w → length w ≤ longest_streamed → searcher_bytes ≤ length B
      → open_bytes_says w B ≡ outcome (done (length w)) (packed (searcher_of w []) ++ drop searcher_bytes B)
  unfolding open_bytes_says
  says-done h l s = rw (le-ltb _ _ h, le-ltb _ _ l, le-ltb _ _ s)

  -- what code hands over to be packed
  pub opened-searcher : 1 ≤ length w → length w ≤ longest_streamed → (o : Opened) → Opening.opened o ≡ open_says w
      → o.searcher ≡ searcher_of w []
  opened-searcher h l o e = ap (λ (x : Opening.Outcome). x.searcher) (e ∙ says-opened w h l)

  pub sound_opened : 1 ≤ length w → length w ≤ longest_streamed → (o : Opened) → Opening.opened o ≡ open_says w → Sound o.searcher
  sound_opened h l o e = rw (opened-searcher h l o e) (searcher_sound w [] h l (omega arith))

  pub says-packed : 1 ≤ length w → length w ≤ longest_streamed → 134 ≤ length B → (o : Opened) → Opening.opened o ≡ open_says w
      → {P : List ℕ} → P ≡ packed o.searcher → outcome (done (length w)) (P ++ drop 134 B) ≡ open_bytes_says w B
  says-packed h l s o e p =
      rw (p, opened-searcher h l o e, ← searcher_bytes_lem) (sym (says-done h l (omega (arith, searcher_bytes_lem))))

  -- ── When each is given ───────────────────────────────────────────────────

  -- every input is of one case
  case : OpenCase w B (open_bytes_says w B)
  case = by (dec_lt (length w) 1) (dec_lt longest_streamed (length w)) (dec_lt (length B) searcher_bytes)
    where
      by : Dec (length w < 1) → Dec (longest_streamed < length w) → Dec (length B < searcher_bytes) → OpenCase w B (open_bytes_says w B)
      by (yes h) d e = rw (says-empty h) (OpenCase.on_empty_word h)
      by (no h) (yes l) e = rw (says-long (omega arith) l) (OpenCase.on_long_word (omega arith) l)
      by (no h) (no l) (yes s) = rw (says-short (omega arith) (omega arith) s) (OpenCase.on_short_room (omega arith) (omega arith) s)
      by (no h) (no l) (no s) =
          rw (says-done (omega arith) (omega arith) (omega arith)) (OpenCase.accepted (omega arith) (omega arith) (omega arith))

  -- and a case that applies has its outcome
  given : {o : Outcome} → OpenCase w B o → open_bytes_says w B ≡ o
  given (OpenCase.on_empty_word h) = says-empty h
  given (OpenCase.on_long_word h l) = says-long h l
  given (OpenCase.on_short_room h l s) = says-short h l s
  given (OpenCase.accepted h l s) = says-done h l s

  pub open_is : (o : Outcome) → (open_bytes_says w B ≡ o) ↔ OpenCase w B o
  open_is o = (λ e. rw e at case, given)

  pub open_numbers : refuses_only (1 ∷ 2 ∷ 3 ∷ []) (open_bytes_says w B).answer ≡ true
  unfolding one_of
  open_numbers = by case
    where
      by : {o : Outcome} → OpenCase w B o → refuses_only (1 ∷ 2 ∷ 3 ∷ []) o.answer ≡ true
      by (OpenCase.on_empty_word h) = refl
      by (OpenCase.on_long_word h l) = refl
      by (OpenCase.on_short_room h l s) = refl
      by (OpenCase.accepted h l s) = refl

  -- a refusal changes nothing
  pub refusal_leaves : {n : ℕ} → (open_bytes_says w B).answer ≡ refused n → (open_bytes_says w B).bytes ≡ B
  refusal_leaves {n} = by case
    where
      by : {o : Outcome} → OpenCase w B o → o.answer ≡ refused n → o.bytes ≡ B
      by (OpenCase.on_empty_word h) e = refl
      by (OpenCase.on_long_word h l) e = refl
      by (OpenCase.on_short_room h l s) e = refl
      by (OpenCase.accepted h l s) e = done_not_refused e

-- ── One outcome ────────────────────────────────────────────────────────────

-- two outcomes that the promise of open allows are equal
pub open_one : (w : Word) (B : List ℕ) (r s : Result ℕ Refusal) (P Q : List ℕ) → opened r P ≡ open_bytes_says w B
    → opened s Q ≡ open_bytes_says w B → (r ≡ s) × (P ≡ Q)
open_one w B r s P Q e f =
    let g : opened r P ≡ opened s Q = e ∙ sym f in
    (answer_of-one r s (ap (λ o. o.answer) g), ap (λ o. o.bytes) g)
