-- A file and the same file with more bytes behind go the same way, unless the shorter ends too soon. So what an accepted file goes on from
-- shows 5.
use mathlib.Core.Path.{◌≡◌, refl, sym, ◌∙◌}
use mathlib.Core.Logic.{◌⊎◌, inl, inr, ⊎_elim}
use mathlib.Core.List.{List, ◌∷◌, ◌++◌}
use Prim.Native.Nat.{ℕ, ◌+◌, ◌≤◌}
use native.Mathlib.Omega.{arith}
use lib.ListN.{length, drop, length-append, length-drop}
use lib.Seq.{take-append-le, drop-append-le}
use Rattle.words.specs.Words.{Word, Place, part}
use Rattle.saved.specs.File.{Step}
use Rattle.loaded.specs.Load.{Front, letters, stop, front, Ending, behind, broken, right, wrong}
use Rattle.loaded.specs.Accepts.{Judged, Accepts}
use Rattle.loaded.specs.Cases.{Reads, Unread}
use Rattle.loaded.specs.Cases.{FrontCaseAt, FrontCase, edition_unread, edition_other, length_unread, length_bad}
use Rattle.loaded.specs.Cases.{letters_missing, letters-there}
use Rattle.loaded.specs.Cases.{ArrowsCase, arrow_agrees, up_unread, over_unread, arrow_differs, no_arrow_left}
use Rattle.loaded.specs.Cases.{arrows_missing, all_agree}
use Rattle.loaded.specs.Cases.{EndingCase, count_unread, count_too_large, count_fits, VerdictCase, arrows_wrong, all_read}
use Rattle.loaded.proofs.Cases.{front_case, case_front, ending_case, case_ending, verdict_case, case_verdict}
use Rattle.loaded.proofs.Fields.{reads-inside, reads-longer, unread_longer}

module _ (s : List ℕ) (b : ℕ) (x : List ℕ) where
  abbrev longer : List ℕ
  longer = s ++ b ∷ x

  -- what was read is read
  still : (i : Place) {v : ℕ} {j : Place} → Reads s i v j → Reads longer i v j
  still i h = reads-longer s i (b ∷ x) h

  -- where none was read, the file ended too soon, or the longer goes the same way
  cut_or : {A C : Type 0} (off : ℕ → Place → C) (i : Place) {r : ℕ} {p : Place} → Unread s i r p → (Unread longer i r p → A)
      → (off r p ≡ off 5 (length s)) ⊎ A
  cut_or {A} off i {r} {p} u f = by (unread_longer s i (b ∷ x) u)
    where
      by : ((r ≡ 5) × (p ≡ length s)) ⊎ Unread longer i r p → (off r p ≡ off 5 (length s)) ⊎ A
      by (inl e) = inl (cc (e.0, e.1))
      by (inr u) = inr (f u)

  inside : {k : ℕ} → k ≤ length s → k ≤ length longer
  inside h = omega (arith, length-append s (b ∷ x))

  -- ── Up to the letters ────────────────────────────────────────────────────

  front-longer : {o : Place} {f : Front} → FrontCaseAt s o f → (f ≡ stop 5 (length s)) ⊎ FrontCaseAt longer o f
  front-longer {o} (edition_unread u) = cut_or stop o u (λ u. edition_unread u)
  front-longer {o} (edition_other h d) = inr (edition_other (still o h) d)
  front-longer {o} (length_unread {i = i} h u) = cut_or stop i u (λ u. length_unread (still o h) u)
  front-longer {o} (length_bad {i = i} h g d) = inr (length_bad (still o h) (still i g) d)
  front-longer {o} (letters_missing h g l k d) = inl refl
  front-longer {o} (letters-there {i = i} h g l k d) = inr (letters-there (still o h) (still i g) l k (inside d))

  -- ── The arrows ───────────────────────────────────────────────────────────

  arrows-longer : {i : Place} {n : ℕ} {l : List Step} {e : Ending} → ArrowsCase s i n l e
      → (e ≡ broken 5 (length s)) ⊎ ArrowsCase longer i n l e
  arrows-longer {i} (arrow_agrees {j = j} g k c) = ⊎_elim (λ e. inl e) (λ d. inr (arrow_agrees (still i g) (still j k) d)) (arrows-longer c)
  arrows-longer {i} (up_unread u) = cut_or broken i u (λ u. up_unread u)
  arrows-longer {i} (over_unread {j = j} g u) = cut_or broken j u (λ u. over_unread (still i g) u)
  arrows-longer {i} (arrow_differs {j = j} g k d) = inr (arrow_differs (still i g) (still j k) d)
  arrows-longer {i} (no_arrow_left {j = j} g k) = inr (no_arrow_left (still i g) (still j k))
  arrows-longer arrows_missing = inr arrows_missing
  arrows-longer all_agree = inr all_agree

  ending-longer : {i : Place} {w : Word} {e : Ending} → EndingCase s i w e → (e ≡ broken 5 (length s)) ⊎ EndingCase longer i w e
  ending-longer {i} (count_unread u) = cut_or broken i u (λ u. count_unread u)
  ending-longer {i} (count_too_large h g) = inr (count_too_large (still i h) g)
  ending-longer {i} (count_fits h g c) = ⊎_elim (λ e. inl e) (λ d. inr (count_fits (still i h) g d)) (arrows-longer c)

  -- they end within the file
  arrows-inside : {i : Place} {n : ℕ} {l : List Step} {p : Place} → i ≤ length s → ArrowsCase s i n l (behind p) → p ≤ length s
  arrows-inside h (arrow_agrees {j = j} g k c) = arrows-inside (reads-inside s j k).1 c
  arrows-inside h all_agree = h

  ending-inside : {i : Place} {w : Word} {p : Place} → EndingCase s i w (behind p) → p ≤ length s
  ending-inside {i} (count_fits h g c) = arrows-inside (reads-inside s i h).1 c

  -- ── The same letters ─────────────────────────────────────────────────────

  letters-inside : {o m i : ℕ} → FrontCaseAt s o (letters m i) → i + m ≤ length s
  letters-inside (letters-there h g l k d) = d

  same-letters : {o m i : ℕ} → FrontCaseAt s o (letters m i) → part longer i m ≡ part s i m
  same-letters {m = m} {i = i} c =
      let h = letters-inside c in
      let n : m ≤ length (drop i s) = rw (length-drop i s) (omega arith) in
      rw (drop-append-le i s (b ∷ x) (omega arith)) (take-append-le m (drop i s) (b ∷ x) n)

  -- ── Shorter than an accepted file ────────────────────────────────────────

  -- what an accepted file goes on from shows 5 at its end
  pub shorter_cut : {w : Word} → Accepts longer w → (front s ≡ stop 5 (length s)) ⊎ Judged s w (wrong 5 (length s))
  shorter_cut {w} a = by (front-longer (front_case s 0))
    where
      cut : {i : Place} (e : Ending) → EndingCase s i w e → (e ≡ broken 5 (length s)) ⊎ EndingCase longer i w e
          → VerdictCase longer i w right → EndingCase s i w (broken 5 (length s))
      cut e c (inl q) v = rw q at c
      cut e c (inr d) (all_read {p = p} f h) =
          let q : e ≡ behind p = sym (case_ending longer d) ∙ case_ending longer f in
          absurd (omega (arith, ending-inside (rw q at c), length-append s (b ∷ x)))

      by : (front s ≡ stop 5 (length s)) ⊎ FrontCase longer (front s) → (front s ≡ stop 5 (length s)) ⊎ Judged s w (wrong 5 (length s))
      by (inl e) = inl e
      by (inr c) =
          let shown : front s ≡ letters (length w) a.place = sym (case_front longer c) ∙ a.shown in
          let i = a.place + length w in
          let E = ending_case s i w in
          inr (record {
            place = a.place;
            shown = shown;
            word = a.word ∙ same-letters (rw shown at (front_case s 0));
            judged = case_verdict s (arrows_wrong (cut _ E (ending-longer E) (rw a.judged at (verdict_case longer i w))));
          })
