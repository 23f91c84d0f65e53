-- THE THEOREMS on `turbo_says`: each refusal exactly where it is tabled, that it finds and leaves what a search does, that at most 2n
-- letters are read, and that the promise allows one outcome. They go through those on `search_says`, of which it is the outcome but for the
-- letters.
use mathlib.Core.Path.{◌≡◌, refl, sym, ap, ◌∙◌}
use mathlib.Core.Bool.{true}
use mathlib.Core.Logic.{◌↔◌}
use mathlib.Core.List.{List, [], ◌∷◌, ◌++◌}
use Prim.Native.Nat.{ℕ, ◌*◌, ◌≤◌, ◌<◌}
use lib.ListN.{length, take, drop, length-reverse}
use lib.Seq.{take_at}
use Rattle.words.specs.Words.{Word, Place, mirror, occurrences}
use Rattle.oracle.specs.SuffixRule.{oracle}
use Rattle.table.specs.Table.{room, table_of, read_arrow}
use Rattle.table.specs.Formed.{Formed}
use Rattle.table.proofs.Theorems.{table-size, table-arrow}
use Rattle.table.proofs.Formed.{table-formed}
use Rattle.turbo_steps.specs.Turbo.{turbo_steps, turbo}
use Rattle.turbo_steps.proofs.Windows.{steps-same}
use Rattle.turbo_steps.proofs.Theorems.{turbo-lists-occurrences, turbo_letters_most}
use Rattle.search.specs.Answers.{tally_of}
use Rattle.finds.specs.declared.Tally.{Tally}
use Rattle.finds.specs.Finds.{filled}
use Rattle.std.specs.Prelude.{Result}
use Rattle.answers.specs.declared.Refusal.{Refusal}
use Rattle.answers.specs.Answers.{Answer, done, refused, refused_at, refuses_only}
use Rattle.answers.proofs.Answers.{done_not_refused, answer_of-one}
use Rattle.marks.specs.Search.{Outcome, outcome, searched, search_says}
use Rattle.marks.specs.Cases.{SearchCase}
use Rattle.marks.proofs.SearchSays.{search_is, refusal_leaves}
use Rattle.marks.proofs.Numbers.{search-numbers}
use Rattle.linear.specs.Turbo.{found, counting, turbo_says}
use Rattle.linear.specs.Cases.{TurboCase}

module _ (word text : Word) (T : List ℕ) (F : List Place) where
  abbrev m : ℕ
  m = length word

  -- ── When each is given ───────────────────────────────────────────────────

  -- the outcome, from a search's
  told : {o : Outcome} → search_says word text T F ≡ o
      → turbo_says word text T F ≡ outcome (counting (found word text) o.answer) o.tables o.finds
  unfolding turbo_says
  told e = rw e

  -- and a case that applies has its outcome
  pub given : {o : Outcome} → TurboCase word text T F o → turbo_says word text T F ≡ o
  given (TurboCase.on_empty_word h) = told ((search_is word text T F _).1 (SearchCase.on_empty_word h))
  given (TurboCase.on_long_word h l) = told ((search_is word text T F _).1 (SearchCase.on_long_word h l))
  given (TurboCase.on_long_text h l k) = told ((search_is word text T F _).1 (SearchCase.on_long_text h l k))
  given (TurboCase.on_short_room h l k s) = told ((search_is word text T F _).1 (SearchCase.on_short_room h l k s))
  given (TurboCase.accepted h l k s) = told ((search_is word text T F _).1 (SearchCase.accepted h l k s))

  -- every input is of one case
  case : TurboCase word text T F (turbo_says word text T F)
  case = by ((search_is word text T F _).0 refl)
    where
      by : {o : Outcome} → SearchCase word text T F o → TurboCase word text T F (turbo_says word text T F)
      by (SearchCase.on_empty_word h) = let c = TurboCase.on_empty_word h in rw (given c) c
      by (SearchCase.on_long_word h l) = let c = TurboCase.on_long_word h l in rw (given c) c
      by (SearchCase.on_long_text h l k) = let c = TurboCase.on_long_text h l k in rw (given c) c
      by (SearchCase.on_short_room h l k s) = let c = TurboCase.on_short_room h l k s in rw (given c) c
      by (SearchCase.accepted h l k s) = let c = TurboCase.accepted h l k s in rw (given c) c

  pub turbo_is : (o : Outcome) → (turbo_says word text T F ≡ o) ↔ TurboCase word text T F o
  turbo_is o = (λ e. rw e at case, given)

  -- ── What is found and left ───────────────────────────────────────────────

  -- room and list are left as a search leaves them, by refusals too
  pub turbo-leaves
      : ((turbo_says word text T F).tables ≡ (search_says word text T F).tables)
      × ((turbo_says word text T F).finds ≡ (search_says word text T F).finds)
  unfolding turbo_says
  turbo-leaves = (refl, refl)

  counting-refused : (f : Tally) (a : Answer Tally) {n : ℕ} → (counting f a ≡ refused n) ↔ (a ≡ refused n)
  counting-refused f (done g) = (λ e. done_not_refused e, λ e. done_not_refused e)
  counting-refused f (refused k) = (λ e. e, λ e. e)
  counting-refused f (refused_at k p) = (λ e. e, λ e. e)

  -- it is refused where a search is, with the same number
  pub turbo-refused : {n : ℕ} → ((turbo_says word text T F).answer ≡ refused n) ↔ ((search_says word text T F).answer ≡ refused n)
  unfolding turbo_says
  turbo-refused = counting-refused (found word text) (search_says word text T F).answer

  -- a refusal changes nothing
  pub turbo_refusal_leaves : {n : ℕ} → (turbo_says word text T F).answer ≡ refused n
      → ((turbo_says word text T F).tables ≡ T) × ((turbo_says word text T F).finds ≡ F)
  turbo_refusal_leaves e =
      let kept = refusal_leaves word text T F (turbo-refused.0 e) in
      (turbo-leaves.0 ∙ kept.0, turbo-leaves.1 ∙ kept.1)

  pub turbo-numbers : refuses_only (1 ∷ 2 ∷ 4 ∷ 3 ∷ []) (turbo_says word text T F).answer ≡ true
  unfolding turbo_says
  turbo-numbers = by (search_says word text T F).answer (search-numbers word text T F)
    where
      by : (a : Answer Tally) → refuses_only (1 ∷ 2 ∷ 4 ∷ 3 ∷ []) a ≡ true
          → refuses_only (1 ∷ 2 ∷ 4 ∷ 3 ∷ []) (counting (found word text) a) ≡ true
      by (done g) e = refl
      by (refused n) e = e
      by (refused_at n p) e = e

  -- at most 2n letters are read
  pub letters_most : 1 ≤ m → (found word text).letters ≤ 2 * length text
  letters_most h = turbo_letters_most word text h

  -- ── What the code's scan comes to ────────────────────────────────────────

  -- the steps over the mirrored word's table are the published ones
  table-steps : turbo_steps (read_arrow m (table_of (mirror word))) word text ≡ turbo word text
  unfolding turbo
  table-steps =
      steps-same (read_arrow m (table_of (mirror word))) (oracle (mirror word)) word text
      (λ x c. rw (length-reverse word) at (table-arrow (mirror word) x c))

  -- the room that was filled with P, R being what stands behind it
  module _ {P : List ℕ} (R : List ℕ) (filled_in : P ≡ table_of (mirror word)) where
    lent-table : take (room m) (P ++ R) ≡ table_of (mirror word)
    lent-table =
        let size : length P ≡ room m = ap length filled_in ∙ table-size (mirror word) ∙ ap room (length-reverse word) in
        take_at P R (room m) size ∙ filled_in

    pub lent-formed : m < 65535 → Formed (take (room m) (P ++ R)) m
    lent-formed h = rw (lent-table, ← length-reverse word) (table-formed (mirror word) (rw (length-reverse word) h))

    pub scan_counts : 1 ≤ m → {t : Tally} {F' : List Place}
        → t ≡ tally_of (turbo_steps (read_arrow m (take (room m) (P ++ R))) word text)
        → F' ≡ filled (turbo_steps (read_arrow m (take (room m) (P ++ R))) word text).starts F
        → outcome (done t) (P ++ drop (room m) T) F'
        ≡ outcome (done (found word text)) (table_of (mirror word) ++ drop (room m) T) (filled (occurrences word text) F)
    scan_counts h t f = rw (t, f, lent-table, filled_in, table-steps, turbo-lists-occurrences word text h)

-- ── One outcome ────────────────────────────────────────────────────────────

-- two outcomes that the promise of turbo allows are equal
pub turbo-one : (word text : Word) (T : List ℕ) (F : List Place) (r s : Result Tally Refusal) (A B : List ℕ) (G H : List Place)
    → searched r A G ≡ turbo_says word text T F → searched s B H ≡ turbo_says word text T F → (r ≡ s) × (A ≡ B) × (G ≡ H)
turbo-one word text T F r s A B G H e f =
    let g : searched r A G ≡ searched s B H = e ∙ sym f in
    (answer_of-one r s (ap (λ o. o.answer) g), ap (λ o. o.tables) g, ap (λ o. o.finds) g)
