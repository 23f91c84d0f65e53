-- WHAT READING SHOWS IS WHERE THE FILE IS BROKEN: each way of reading edition 1 that ends with a refusal is a fault of the file at the
-- place that is shown. Arrows are read one after the other, and what was read of them is kept on the way.
use mathlib.Core.Path.{◌≡◌, refl, ap, ◌∙◌}
use mathlib.Core.List.{List, []}
use Prim.Native.Nat.{ℕ, ◌+◌}
use native.Mathlib.Omega.{arith}
use lib.ListN.{length}
use Rattle.words.specs.Words.{Word, Place, part}
use Rattle.words.proofs.Words.{part_length}
use Rattle.saved.specs.File.{Step}
use Rattle.loaded.specs.Load.{letters, stop, behind, broken}
use Rattle.loaded.specs.Cases.{Unread, cut_off, bad_byte}
use Rattle.loaded.specs.Cases.{FrontCase, edition_unread, edition_other, length_unread, length_bad, letters_missing, letters-there}
use Rattle.loaded.specs.Cases.{ArrowsCase, arrow_agrees, up_unread, over_unread, arrow_differs, all_agree}
use Rattle.loaded.specs.Cases as Cases
use Rattle.loaded.specs.Cases.{EndingCase, count_unread, count_too_large, count_fits}
use Rattle.answers.specs.Answers.{refused_at}
use Rattle.mark_files.specs.Load.{load_says}
use Rattle.mark_files.specs.SearchFile
use Rattle.mark_files.specs.SearchFile.{search_file_says}
use Rattle.mark_files.specs.Cases.{SearchFileCase}
use Rattle.mark_files.proofs.LoadSays.{load_is}
use Rattle.mark_files.proofs.SearchFileSays.{search_file_is}
use Rattle.faults.specs.Faults.{CountAt, ArrowsAt, none_read, one-read}
use Rattle.faults.specs.Faults.{NumberPlace, on_edition_at, length_at, count_at, first-at, second_at}
use Rattle.faults.specs.Faults.{FaultAt, number_cut, letters_cut, byte_refused, other_edition, bad_length, bad_count, other_arrow}
use Rattle.faults.specs.Faults.{no_arrow_left, arrows_missing}

-- a fault that shows at p, wherever its field ends
abbrev pub Fault : List ℕ → ℕ → Place → Type 0
Fault s r p = (q : Place) × FaultAt s r p q

module _ {s : List ℕ} where
  unread_fault : {i : Place} {r : ℕ} {p : Place} → NumberPlace s i → Unread s i r p → Fault s r p
  unread_fault N (cut_off c) = (_, number_cut N c)
  unread_fault N (bad_byte b) = (_, byte_refused N b)

  -- ── Up to the letters ────────────────────────────────────────────────────

  pub front_fault : {r : ℕ} {p : Place} → FrontCase s (stop r p) → Fault s r p
  front_fault (edition_unread u) = unread_fault on_edition_at u
  front_fault (edition_other h d) = (_, other_edition h d)
  front_fault (length_unread h u) = unread_fault (length_at h) u
  front_fault (length_bad h g d) = (_, bad_length h g d)
  front_fault (letters_missing h g l k d) = (_, letters_cut h g l k d)

  pub count-place : {m : ℕ} {i : Place} → FrontCase s (letters m i) → CountAt s (part s i m) (i + m)
  count-place {m} {i} (letters-there {i = k} h g l t d) =
      let size : length (part s i m) ≡ m = part_length s i m d in
      record {
        length_place = k;
        letters_place = i;
        length_at = h;
        length_read = rw size g;
        least = rw size l;
        most = rw size t;
        letters = rw size;
        place = rw size;
        inside = d;
      }

  -- ── Behind them ──────────────────────────────────────────────────────────

  arrows_fault : {w : Word} {n : ℕ} {l : List Step} {i : Place} {r : ℕ} {p : Place} → ArrowsAt s w n l i → ArrowsCase s i n l (broken r p)
      → Fault s r p
  arrows_fault A (arrow_agrees h g c) = arrows_fault (one-read A h g) c
  arrows_fault A (up_unread u) = unread_fault (first-at A) u
  arrows_fault A (over_unread h u) = unread_fault (second_at A h) u
  arrows_fault A (arrow_differs h g d) = (_, other_arrow A h g d)
  arrows_fault A (Cases.no_arrow_left h g) = (_, no_arrow_left A h g)
  arrows_fault A Cases.arrows_missing = (_, arrows_missing A)

  all-arrows : {w : Word} {n : ℕ} {l : List Step} {i p : Place} → ArrowsAt s w n l i → ArrowsCase s i n l (behind p) → ArrowsAt s w 0 [] p
  all-arrows A (arrow_agrees h g c) = all-arrows (one-read A h g) c
  all-arrows A all_agree = A

  pub ending_fault : {w : Word} {c : Place} {r : ℕ} {p : Place} → CountAt s w c → EndingCase s c w (broken r p) → Fault s r p
  ending_fault C (count_unread u) = unread_fault (count_at C) u
  ending_fault C (count_too_large h g) = (_, bad_count C h g)
  ending_fault C (count_fits h g c) = arrows_fault (none_read C h g) c

  pub ending-read : {w : Word} {c p : Place} → CountAt s w c → EndingCase s c w (behind p) → ArrowsAt s w 0 [] p
  ending-read C (count_fits h g c) = all-arrows (none_read C h g) c

-- ── Searching ──────────────────────────────────────────────────────────────

-- a search with a file tells what loading tells
pub search_load : (s : List ℕ) (text : Word) (R T : List ℕ) (F : List Place) {r : ℕ} {p : Place}
    → (search_file_says s text R T F).answer ≡ refused_at r p → (load_says s R T).answer ≡ refused_at r p
search_load s text R T F {r} {p} = by ((search_file_is s text R T F _).0 refl)
  where
    by : {o : SearchFile.Outcome} → SearchFileCase s text R T F o → o.answer ≡ refused_at r p → (load_says s R T).answer ≡ refused_at r p
    by (SearchFileCase.on_long_text h) e = let z : ◌≡◌ {A = ℕ} 0 1 = cc in absurd (omega arith)
    by (SearchFileCase.on_short_room k c) e = let z : ◌≡◌ {A = ℕ} 0 1 = cc in absurd (omega arith)
    by (SearchFileCase.file_refused k c) e = ap (λ o. o.answer) ((load_is s R T _).1 c) ∙ cc
    by (SearchFileCase.accepted k c) e = let z : ◌≡◌ {A = ℕ} 0 1 = cc in absurd (omega arith)
