-- THE THEOREMS on calls from C: a call's promise allows one outcome, its result is 0 exactly if the entry is done, and it says whether an
-- offset was written. The last two rest on the numbers that each entry may refuse with.
use mathlib.Core.Path.{◌≡◌, refl, sym, ◌∙◌}
use mathlib.Core.Bool.{Bool, true, false, ◌||◌}
use mathlib.Core.Logic.{◌↔◌}
use mathlib.Core.List.{List, [], ◌∷◌}
use Prim.Native.Nat.{ℕ}
use native.Mathlib.Omega.{arith}
use lib.Dec.{eqb}
use borrow.Author.Tests.{eqb-true}
use Rattle.words.specs.Words.{Word, Place}
use Rattle.answers.specs.Answers.{Answer, done, refused, refused_at, Succeeds, refuses_with, one_of}
use Rattle.answers.proofs.Answers.{done_not_refused, done_not_placed}
use Rattle.marks.specs.Build.{build_says}
use Rattle.marks.specs.Search.{search_says}
use Rattle.linear.specs.Turbo.{turbo_says}
use Rattle.failure_entries.specs.FailureBuild.{failure_build_says}
use Rattle.failure_entries.specs.FailureSearch.{failure_search_says}
use Rattle.failure_entries.proofs.BuildSays.{failure_build_numbers}
use Rattle.failure_entries.proofs.SearchSays.{failure_search-numbers}
use Rattle.storacle_entries.specs.StoracleBuild.{storacle_build_says}
use Rattle.storacle_entries.proofs.BuildSays.{storacle_build_numbers}
use Rattle.compact_entries.specs.CompactBuild.{compact_build_says}
use Rattle.compact_entries.specs.CompactSearch.{compact_search_says}
use Rattle.compact_entries.proofs.BuildSays.{compact_build_numbers}
use Rattle.compact_entries.proofs.SearchSays.{compact_search-numbers}
use Rattle.salvage.specs.Salvage.{salvage_says}
use Rattle.salvage.proofs.SalvageSays.{salvage_numbers}
use Rattle.editions.specs.Editions.{plain, checked}
use Rattle.mark_files.specs.Save.{save_says, save_checked_says}
use Rattle.mark_files.specs.Load.{load_says}
use Rattle.mark_files.specs.SearchFile.{search_file_says}
use Rattle.marks.proofs.Numbers.{build_numbers, search-numbers}
use Rattle.linear.proofs.TurboSays.{turbo-numbers}
use Rattle.mark_files.proofs.Numbers.{save_numbers, shown, load_numbers, search-file-numbers}
use Rattle.searcher_bytes.specs.OpenBytes.{open_bytes_says}
use Rattle.searcher_bytes.specs.TakeBytes.{take_bytes_says}
use Rattle.searcher_bytes.proofs.OpenBytesSays.{open_numbers}
use Rattle.searcher_bytes.proofs.TakeBytesSays.{take-numbers}
use Rattle.marks_c.specs.Streams.{open_call_says, take_call_says}
use Rattle.marks_c.specs.FailureCalls.{failure_build_call_says, failure_search_call_says}
use Rattle.marks_c.specs.StoracleCalls.{storacle_build_call_says}
use Rattle.marks_c.specs.CompactCalls.{compact_build_call_says, compact_search_call_says}
use Rattle.marks_c.specs.SalvageCalls.{salvage_call_says}
use Rattle.marks_c.specs.Calls.{result_of, offset_given, save_checked_call_says}
use Rattle.marks_c.specs.Calls.{build_call_says, save_call_says, load_call_says, search_call_says, turbo_call_says, search_file_call_says}

-- two outcomes that a call's promise allows are equal, whichever call it is
pub call_one : {C : Type 0} {said o o' : C} → o ≡ said → o' ≡ said → o ≡ o'
call_one e f = e ∙ sym f

-- ── The result is 0 exactly if the entry is done ───────────────────────────

false_not_true : {B : Type 0} → ◌≡◌ {A = Bool} false true → B
false_not_true e = let z : ◌≡◌ {A = ℕ} 0 1 = cc in absurd (omega arith)

-- where every refusal has one of the numbers l, or one of k with a place, none of them 0
done-exactly : {A : Type 0} (l k : List ℕ) → one_of 0 l ≡ false → one_of 0 k ≡ false → (a : Answer A) → refuses_with l k a ≡ true
    → (result_of a ≡ 0) ↔ Succeeds a
done-exactly l k not-alone not-placed (done v) only = (λ e. (v, refl), λ d. refl)
done-exactly l k not-alone not-placed (refused n) only =
    (λ e. false_not_true (sym not-alone ∙ rw e at only), λ d. done_not_refused (sym d.1))
done-exactly l k not-alone not-placed (refused_at n p) only =
    (λ e. false_not_true (sym not-placed ∙ rw e at only), λ d. done_not_placed (sym d.1))

pub build_done : (word : Word) (T : List ℕ) (m : ℕ) → ((build_call_says word T m).result ≡ 0) ↔ Succeeds (build_says word T).answer
unfolding one_of
build_done word T m = done-exactly (1 ∷ 2 ∷ 3 ∷ []) [] refl refl _ (build_numbers word T)

pub save_done : (word : Word) (T O : List ℕ) (n : ℕ) → ((save_call_says word T O n).result ≡ 0) ↔ Succeeds (save_says word T O).answer
unfolding one_of
save_done word T O n = done-exactly (1 ∷ 2 ∷ 17 ∷ 3 ∷ 12 ∷ []) [] refl refl _ (save_numbers plain word T O)

pub save_checked_done : (word : Word) (T O : List ℕ) (n : ℕ)
    → ((save_checked_call_says word T O n).result ≡ 0) ↔ Succeeds (save_checked_says word T O).answer
unfolding one_of
save_checked_done word T O n = done-exactly (1 ∷ 2 ∷ 17 ∷ 3 ∷ 12 ∷ []) [] refl refl _ (save_numbers checked word T O)

pub load_done : (file R T : List ℕ) (m : ℕ) (p : Place) → ((load_call_says file R T m p).result ≡ 0) ↔ Succeeds (load_says file R T).answer
unfolding one_of
load_done file R T m p = done-exactly (3 ∷ []) shown refl refl _ (load_numbers file R T)

pub search-done : (word text : Word) (T : List ℕ) (F : List Place) (c l : ℕ)
    → ((search_call_says word text T F c l).result ≡ 0) ↔ Succeeds (search_says word text T F).answer
unfolding one_of
search-done word text T F c l = done-exactly (1 ∷ 2 ∷ 4 ∷ 3 ∷ []) [] refl refl _ (search-numbers word text T F)

pub turbo-done : (word text : Word) (T : List ℕ) (F : List Place) (c l : ℕ)
    → ((turbo_call_says word text T F c l).result ≡ 0) ↔ Succeeds (turbo_says word text T F).answer
unfolding one_of
turbo-done word text T F c l = done-exactly (1 ∷ 2 ∷ 4 ∷ 3 ∷ []) [] refl refl _ (turbo-numbers word text T F)

pub failure_build_done : (word : Word) (T : List ℕ) (m : ℕ)
    → ((failure_build_call_says word T m).result ≡ 0) ↔ Succeeds (failure_build_says word T).answer
unfolding one_of
failure_build_done word T m = done-exactly (1 ∷ 2 ∷ 3 ∷ []) [] refl refl _ (failure_build_numbers word T)

pub failure_search-done : (word text : Word) (T : List ℕ) (F : List Place) (c l f : ℕ)
    → ((failure_search_call_says word text T F c l f).result ≡ 0) ↔ Succeeds (failure_search_says word text T F).answer
unfolding one_of
failure_search-done word text T F c l f = done-exactly (1 ∷ 2 ∷ 4 ∷ 3 ∷ []) [] refl refl _ (failure_search-numbers word text T F)

pub storacle_build_done : (word : Word) (T : List ℕ) (m : ℕ)
    → ((storacle_build_call_says word T m).result ≡ 0) ↔ Succeeds (storacle_build_says word T).answer
unfolding one_of
storacle_build_done word T m = done-exactly (1 ∷ 2 ∷ 3 ∷ []) [] refl refl _ (storacle_build_numbers word T)

pub compact_build_done : (word : Word) (Z T : List ℕ) (m : ℕ)
    → ((compact_build_call_says word Z T m).result ≡ 0) ↔ Succeeds (compact_build_says word Z T).answer
unfolding one_of
compact_build_done word Z T m = done-exactly (1 ∷ 2 ∷ 3 ∷ []) [] refl refl _ (compact_build_numbers word Z T)

pub compact_search-done : (word text : Word) (Z T : List ℕ) (F : List Place) (c l : ℕ)
    → ((compact_search_call_says word text Z T F c l).result ≡ 0) ↔ Succeeds (compact_search_says word text Z T F).answer
unfolding one_of
compact_search-done word text Z T F c l = done-exactly (1 ∷ 2 ∷ 4 ∷ 3 ∷ []) [] refl refl _ (compact_search-numbers word text Z T F)

pub salvage_done : (text : Word) (T : List ℕ) (S : List Place) (K : List ℕ) (c : ℕ)
    → ((salvage_call_says text T S K c).result ≡ 0) ↔ Succeeds (salvage_says text T S K).answer
unfolding one_of
salvage_done text T S K c = done-exactly (4 ∷ 3 ∷ []) [] refl refl _ (salvage_numbers text T S K)

pub search-file-done : (file : List ℕ) (text : Word) (R T : List ℕ) (F : List Place) (c l : ℕ) (p : Place)
    → ((search_file_call_says file text R T F c l p).result ≡ 0) ↔ Succeeds (search_file_says file text R T F).answer
unfolding one_of
search-file-done file text R T F c l p = done-exactly (4 ∷ 3 ∷ []) shown refl refl _ (search-file-numbers file text R T F)

pub open_done : (word : Word) (B : List ℕ) → ((open_call_says word B).result ≡ 0) ↔ Succeeds (open_bytes_says word B).answer
unfolding one_of
open_done word B = done-exactly (1 ∷ 2 ∷ 3 ∷ []) [] refl refl _ (open_numbers word B)

pub take_done : (B : List ℕ) (piece : Word) (F : List Place) (c : ℕ)
    → ((take_call_says B piece F c).result ≡ 0) ↔ Succeeds (take_bytes_says B piece F).answer
unfolding one_of
take_done B piece F c = done-exactly (16 ∷ 4 ∷ []) [] refl refl _ (take-numbers B piece F)

-- ── An offset is written exactly by the results 5 to 11 and 13 ─────────────

-- what a result says of the offset, v before the call: one of these is a refusal at a place, which it then is; any other leaves it alone
pub record Offset {A : Type 0} (a : Answer A) (result : ℕ) (v offset : Place) : Type 0 where
  pub written : one_of result shown ≡ true → a ≡ refused_at result offset
  pub alone : one_of result shown ≡ false → offset ≡ v

offset-told : {A : Type 0} (l : List ℕ) → ((n : ℕ) → one_of n l ≡ true → one_of n shown ≡ false) → (v : Place) (a : Answer A)
    → refuses_with l shown a ≡ true → Offset a (result_of a) v (offset_given v a)
unfolding one_of
offset-told l apart v (done x) only = record { written = λ e. false_not_true e; alone = λ e. refl }
offset-told l apart v (refused n) only = record { written = λ e. false_not_true (sym (apart n only) ∙ e); alone = λ e. refl }
offset-told l apart v (refused_at n p) only = record { written = λ e. refl; alone = λ e. false_not_true (sym e ∙ only) }

-- no refusal of the rooms or the text is one of the file's
four_and_three_apart : (n : ℕ) → one_of n (4 ∷ 3 ∷ []) ≡ true → one_of n shown ≡ false
unfolding one_of
four_and_three_apart n e = by (eqb n 4) (eqb n 3) refl refl e
  where
    by : (x y : Bool) → eqb n 4 ≡ x → eqb n 3 ≡ y → x || (y || false) ≡ true → one_of n shown ≡ false
    by true y f g h = rw (eqb-true n 4 f)
    by false true f g h = rw (eqb-true n 3 g)
    by false false f g h = false_not_true h

three_apart : (n : ℕ) → one_of n (3 ∷ []) ≡ true → one_of n shown ≡ false
unfolding one_of
three_apart n e = four_and_three_apart n (or_right (eqb n 4) e)
  where
    or_right : (x : Bool) {y : Bool} → y ≡ true → x || y ≡ true
    or_right true h = refl
    or_right false h = h

pub load_offset : (file R T : List ℕ) (m : ℕ) (v : Place)
    → Offset (load_says file R T).answer (load_call_says file R T m v).result v (load_call_says file R T m v).offset
load_offset file R T m v = offset-told (3 ∷ []) three_apart v _ (load_numbers file R T)

pub search-file-offset : (file : List ℕ) (text : Word) (R T : List ℕ) (F : List Place) (c l : ℕ) (v : Place)
    → let call = search_file_call_says file text R T F c l v in Offset (search_file_says file text R T F).answer call.result v call.offset
search-file-offset file text R T F c l v = offset-told (4 ∷ 3 ∷ []) four_and_three_apart v _ (search-file-numbers file text R T F)
