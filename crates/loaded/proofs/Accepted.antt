-- The file of a word within the limit is read wherever it stands, to its end: its numbers are all small enough to be spelled, and each is
-- read where it stands. So it is accepted where nothing follows, and shows 11 where bytes do.
use mathlib.Core.Path.{◌≡◌, refl, sym, ap, ◌∙◌}
use mathlib.Core.List.{List, [], ◌∷◌, ◌++◌, append_assoc, append-nil, Memᴰ}
use Prim.Native.Nat.{ℕ, ◌+◌, ◌-◌, ◌≤◌}
use native.Mathlib.Nat.{zero-add}
use native.Mathlib.Omega.{arith}
use lib.ListN.{length, take, drop, length-drop, length-append}
use lib.Seq.{take-append_seam}
use borrow.Author.Tests.{lt-ltb, le-ltb}
use Rattle.words.specs.Words.{Word, Place}
use Rattle.words.specs.Limits.{least_saved, longest_word}
use Rattle.words.proofs.Limits.{saved-some, words_fit}
use Rattle.oracle.specs.Arrows.{State}
use Rattle.oracle.specs.FileOrder.{Extra, file_arrows}
use Rattle.oracle.proofs.FileArrows.{file-arrow-climbs}
use Rattle.number.specs.Number.{greatest, spell_number}
use Rattle.saved.specs.File.{edition, steps_from, spell_steps, own_steps, body, spell}
use Rattle.saved.proofs.Slots.{own-few}
use Rattle.saved.proofs.Spelled.{edition-number}
use Rattle.loaded.specs.Load.{Ending, behind, wrong, closed, verdict}
use Rattle.loaded.specs.Accepts.{ShownAt, Judged, Accepts}
use Rattle.loaded.specs.Cases.{letters-there, ArrowsCase, arrow_agrees, all_agree, count_fits}
use Rattle.loaded.proofs.Cases.{case_front, case_ending}
use Rattle.loaded.proofs.Fields.{drop_past, reads-spelled}

-- a file that is all of s is judged by its ending
shown-judged : {s : List ℕ} {w : Word} {e : Ending} → ShownAt s 0 w e → Judged s w (closed s e)
unfolding verdict
shown-judged {s} A = record { place = A.place; shown = A.shown; word = A.word; judged = ap (closed s) A.judged }

-- ── Read where they stand ──────────────────────────────────────────────────

-- arrows that stand from place i on and end before place p, in their spelling, are read up to there
arrows-spelled : (s : List ℕ) (i : Place) (x : State) (l : List Extra) (p : Place) (r : List ℕ)
    → ((a : Extra) → Memᴰ a l → (a.source ≤ greatest) × (a.to ≤ greatest))
    → drop i s ≡ spell_steps (steps_from x l) ++ r → p ≡ i + length (spell_steps (steps_from x l))
    → ArrowsCase s i (length (steps_from x l)) (steps_from x l) (behind p)
unfolding steps_from spell_steps
arrows-spelled s i x [] p r small e size = let q : p ≡ i = omega arith in rw q all_agree
arrows-spelled s i x (a ∷ l) p r small e size =
    let h = small a (Memᴰ.head refl) in
    let more = spell_steps (steps_from a.source l) in
    let over = a.to - a.source - 2 in
    let first = reads-spelled s i (a.source - x) (spell_number over ++ more) r (omega (arith, h.0)) e in
    let second = reads-spelled s first.next over more r (omega (arith, h.1)) first.rest in
    let sum : p ≡ second.next + length more = omega (arith, first.size, second.size, simp length-append at size) in
    arrow_agrees {k = second.next} first.read second.read
    (arrows-spelled s second.next a.source l p r (λ b m. small b (Memᴰ.tail m)) second.rest sum)

module _ (w : Word) (least : least_saved ≤ length w) (most : length w ≤ longest_word) where
  arrows-small : (a : Extra) → Memᴰ a (file_arrows w) → (a.source ≤ greatest) × (a.to ≤ greatest)
  arrows-small a m = let r = file-arrow-climbs w m in (omega (arith, words_fit, r.climbs, r.inside), omega (arith, words_fit, r.inside))

  -- the word's file, from place o on and with l behind it, is read to its end
  pub spelled-shown : (s : List ℕ) (o : Place) (l : List ℕ) → drop o s ≡ spell w ++ l → ShownAt s o w (behind (o + length (spell w)))
  unfolding spell body own_steps
  spelled-shown s o l e =
      let steps = spell_steps (own_steps w) in
      let arrows = spell_number (length (own_steps w)) ++ steps in
      let first = reads-spelled s o edition (body w) l (omega (arith, edition-number)) e in
      let second = reads-spelled s first.next (length w) (w ++ arrows) l (omega (arith, words_fit)) first.rest in
      let i = second.next in
      let rest : drop i s ≡ w ++ (arrows ++ l) = second.rest ∙ append_assoc w arrows l in
      let there : i + length w ≤ length s = omega (arith, saved-some, simp (length-drop, length-append) at (ap {B = ℕ} length rest)) in
      let after = drop_past s i w (arrows ++ l) rest in
      let few = own-few w in
      let counted = reads-spelled s (i + length w) (length (own_steps w)) steps l (omega (arith, words_fit)) after in
      let end = o + length (spell w) in
      let size : end ≡ counted.next + length steps = simp length-append (omega (arith, first.size, second.size, counted.size)) in
      let agree = arrows-spelled s counted.next 0 (file_arrows w) end l arrows-small counted.rest size in
      record {
        place = i;
        shown = case_front s (letters-there first.read second.read least most there);
        word = sym (ap (take (length w)) rest ∙ take-append_seam w (arrows ++ l));
        judged = case_ending s (count_fits {j = counted.next} counted.read few agree);
      }

  -- and where nothing follows it is accepted
  pub spelled-accepted : (s : List ℕ) → s ≡ spell w → Accepts s w
  spelled-accepted s e =
      let shown = spelled-shown s 0 [] (e ∙ sym (append-nil (spell w))) in
      rw (le-ltb (0 + length (spell w)) (length s) (omega (arith, ap {B = ℕ} length e))) at (shown-judged shown)

  -- with bytes behind it, 11 shows where it ends
  pub spelled-left : (b : ℕ) (l : List ℕ) → Judged (spell w ++ b ∷ l) w (wrong 11 (length (spell w)))
  spelled-left b l =
      let s = spell w ++ b ∷ l in
      let longer = lt-ltb (0 + length (spell w)) (length s) (omega (arith, length-append (spell w) (b ∷ l))) in
      rw (longer, zero-add (length (spell w))) at (shown-judged (spelled-shown s 0 (b ∷ l) refl))
