-- THE THEOREMS on `salvage_says`: each refusal exactly where it is tabled, what a refusal and a success leave, what the code's listing
-- comes to, and that the promise allows one outcome.
use mathlib.Core.Path.{◌≡◌, refl, sym, ap, ◌∙◌}
use mathlib.Core.Bool.{true}
use mathlib.Core.Logic.{◌↔◌}
use mathlib.Core.List.{List, [], ◌∷◌, ◌++◌}
use Prim.Native.Nat.{ℕ, ◌≤◌, ◌<◌}
use native.Mathlib.Decide.{dec_lt}
use native.Mathlib.Omega.{arith}
use lib.ListN.{length, take, drop, length-reverse}
use lib.Dec.{ltb}
use lib.Seq.{take_at, drop_at}
use borrow.Author.Tests.{lt-ltb, le-ltb}
use Rattle.words.specs.Words.{Word, Place, mirror}
use Rattle.words.specs.Limits.{longest_text}
use Rattle.words.proofs.Lists.{test_cases}
use Rattle.table.specs.Table.{room, table_of}
use Rattle.table.proofs.Theorems.{table-size}
use Rattle.two_lists.specs.TwoLists.{fit_both, filled_to}
use Rattle.rides.specs.Rides.{dot_fit, rides, starts, kinds}
use Rattle.rides.proofs.Theorems.{starts-length}
use Rattle.std.specs.Prelude.{Result}
use Rattle.answers.specs.declared.Refusal.{Refusal}
use Rattle.answers.specs.Answers.{done, refused, refuses_only, one_of}
use Rattle.answers.proofs.Answers.{done_not_refused, answer_of-one}
use Rattle.salvage.specs.Salvage.{dot_fit_room, Outcome, outcome, salvaged, salvage_says}
use Rattle.salvage.specs.Cases.{SalvageCase, on_long_text, on_short_room, accepted}
use Rattle.salvage.specs.Listing.{InLists}

-- the word as the code has it
pub dot_fit-spelled : 46 ∷ 70 ∷ 73 ∷ 84 ∷ [] ≡ dot_fit
unfolding dot_fit
dot_fit-spelled = refl

pub mirror-filled : {L : List ℕ} → L ≡ table_of (mirror (46 ∷ 70 ∷ 73 ∷ 84 ∷ [])) → L ≡ table_of (mirror dot_fit)
mirror-filled e = rw (← dot_fit-spelled) e

-- ROOM
pub dot_fit_room_lem : dot_fit_room ≡ 30
unfolding dot_fit
dot_fit_room_lem = refl

mirror-size : length (table_of (mirror dot_fit)) ≡ dot_fit_room
mirror-size = table-size (mirror dot_fit) ∙ ap room (length-reverse dot_fit)

-- the room that was filled with P, as it is lent once more
pub lent-table : (T : List ℕ) {P : List ℕ} → P ≡ table_of (mirror dot_fit) → take 30 (P ++ drop 30 T) ≡ table_of (mirror dot_fit)
lent-table T {P} filled_in = take_at P (drop 30 T) 30 (ap length filled_in ∙ mirror-size ∙ dot_fit_room_lem) ∙ filled_in

pub lent-size : (T : List ℕ) {P : List ℕ} → P ≡ table_of (mirror dot_fit) → 30 ≡ length (take 30 (P ++ drop 30 T))
lent-size T filled_in = sym (ap length (lent-table T filled_in) ∙ mirror-size ∙ dot_fit_room_lem)

module _ (text : Word) (T : List ℕ) (S : List Place) (K : List ℕ) where
  -- ── When each is given ───────────────────────────────────────────────────

  -- a case that applies has its outcome
  pub given : {o : Outcome} → SalvageCase text T S K o → salvage_says text T S K ≡ o
  unfolding salvage_says
  given (on_long_text l) = rw (lt-ltb longest_text (length text) l)
  given (on_short_room l s) = rw (le-ltb longest_text (length text) l, lt-ltb (length T) dot_fit_room s)
  given (accepted l s) = rw (le-ltb longest_text (length text) l, le-ltb (length T) dot_fit_room s)

  -- every input is of one case
  case : SalvageCase text T S K (salvage_says text T S K)
  case = by (dec_lt longest_text (length text)) (dec_lt (length T) dot_fit_room)
    where
      of : {o : Outcome} → SalvageCase text T S K o → SalvageCase text T S K (salvage_says text T S K)
      of c = rw (given c) c

      by : Dec (longest_text < length text) → Dec (length T < dot_fit_room) → SalvageCase text T S K (salvage_says text T S K)
      by (yes l) d = of (on_long_text l)
      by (no l) (yes s) = of (on_short_room (omega arith) s)
      by (no l) (no s) = of (accepted (omega arith) (omega arith))

  pub salvage_is : (o : Outcome) → (salvage_says text T S K ≡ o) ↔ SalvageCase text T S K o
  salvage_is o = (λ e. rw e at case, given)

  -- it refuses with numbers of the table alone
  pub salvage_numbers : refuses_only (4 ∷ 3 ∷ []) (salvage_says text T S K).answer ≡ true
  unfolding one_of
  salvage_numbers = by case
    where
      by : {o : Outcome} → SalvageCase text T S K o → refuses_only (4 ∷ 3 ∷ []) o.answer ≡ true
      by (on_long_text l) = refl
      by (on_short_room l s) = refl
      by (accepted l s) = refl

  -- ── What it leaves ───────────────────────────────────────────────────────

  -- a refusal changes nothing
  pub salvage_refusal_leaves : {n : ℕ} → (salvage_says text T S K).answer ≡ refused n
      → ((salvage_says text T S K).tables ≡ T) × ((salvage_says text T S K).starts ≡ S) × ((salvage_says text T S K).kinds ≡ K)
  salvage_refusal_leaves {n} = by case
    where
      by : {o : Outcome} → SalvageCase text T S K o → o.answer ≡ refused n → (o.tables ≡ T) × (o.starts ≡ S) × (o.kinds ≡ K)
      by (on_long_text l) e = (refl, refl, refl)
      by (on_short_room l s) e = (refl, refl, refl)
      by (accepted l s) e = done_not_refused e

  -- a success: the table of `.FIT`'s mirror, the first rides in both lists, and the rest as it was
  pub record Left (o : Outcome) : Type 0 where
    pub answer : o.answer ≡ done (length (rides text))
    pub entries : take dot_fit_room o.tables ≡ table_of (mirror dot_fit)
    pub others : drop dot_fit_room o.tables ≡ drop dot_fit_room T
    pub starts : o.starts ≡ filled_to (fit_both S K) (starts (rides text)) S
    pub kinds : o.kinds ≡ filled_to (fit_both S K) (kinds (rides text)) K

  pub done-leaves : length text ≤ longest_text → dot_fit_room ≤ length T → Left (salvage_says text T S K)
  done-leaves l s = rw (given (accepted l s)) (record {
    answer = refl;
    entries = take_at (table_of (mirror dot_fit)) (drop dot_fit_room T) dot_fit_room mirror-size;
    others = drop_at (table_of (mirror dot_fit)) (drop dot_fit_room T) dot_fit_room mirror-size;
    starts = refl;
    kinds = refl;
  })

  -- ── What the code's listing comes to ─────────────────────────────────────

  -- the room that was filled with P, and is lent no more
  module _ {P : List ℕ} (filled_in : P ≡ table_of (mirror dot_fit)) where
    pub says-listed : {n : ℕ} {A B : List ℕ} → n ≡ length (rides text) → InLists (rides text) S K A B
        → length text ≤ longest_text → 30 ≤ length T → outcome (done n) (P ++ drop 30 T) A B ≡ salvage_says text T S K
    says-listed e b l s =
        let accept = given (accepted l (omega (arith, dot_fit_room_lem, s))) in
        rw (accept, e, b.one, b.other, filled_in, dot_fit_room_lem)

-- ── On what it depends ─────────────────────────────────────────────────────

-- where two texts of one length have the same starts, only the kinds may differ; where they have the same rides, nothing
module _ (t u : Word) (T : List ℕ) (S : List Place) (K : List ℕ) (n : length t ≡ length u) where
  pub starts_decide : starts (rides t) ≡ starts (rides u) → ((salvage_says t T S K).answer ≡ (salvage_says u T S K).answer)
      × ((salvage_says t T S K).tables ≡ (salvage_says u T S K).tables) × ((salvage_says t T S K).starts ≡ (salvage_says u T S K).starts)
  unfolding salvage_says
  starts_decide e =
      let c : length (rides t) ≡ length (rides u) = sym (starts-length (rides t)) ∙ ap length e ∙ starts-length (rides u) in
      test_cases (ltb longest_text (length u))
      (λ h. rw (n, h) (refl, refl, refl))
      (λ h. test_cases (ltb (length T) dot_fit_room) (λ k. rw (n, h, k) (refl, refl, refl)) (λ k. rw (n, h, k, c, e) (refl, refl, refl)))

  pub rides_decide : rides t ≡ rides u → salvage_says t T S K ≡ salvage_says u T S K
  unfolding salvage_says
  rides_decide e = rw (n, e)

-- ── One outcome ────────────────────────────────────────────────────────────

-- two outcomes that the promise of salvage allows are equal
pub salvage_one : (text : Word) (T : List ℕ) (S : List Place) (K : List ℕ)
    (r s : Result ℕ Refusal) (A B : List ℕ) (C D : List Place) (E F : List ℕ)
    → salvaged r A C E ≡ salvage_says text T S K → salvaged s B D F ≡ salvage_says text T S K → (r ≡ s) × (A ≡ B) × (C ≡ D) × (E ≡ F)
salvage_one text T S K r s A B C D E F e f =
    let g : salvaged r A C E ≡ salvaged s B D F = e ∙ sym f in
    (answer_of-one r s (ap (λ o. o.answer) g), ap (λ o. o.tables) g, ap (λ o. o.starts) g, ap (λ o. o.kinds) g)
