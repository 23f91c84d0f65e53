-- WHAT LOADING TELLS IS WHERE A FILE OF EITHER EDITION IS BROKEN, and where it is broken, loading tells it. Each way of loading that ends
-- with a refusal is a fault: up to behind the arrows by what edition 1 shows of the same bytes, and behind them by the check. So with room
-- enough a file is refused with a number at a place exactly if that is its fault, and it has one.
use mathlib.Core.Path.{◌≡◌, refl, sym, ap, ◌∙◌}
use mathlib.Core.Logic.{◌↔◌}
use mathlib.Core.List.{List}
use Prim.Native.Nat.{ℕ, ◌+◌, ◌-◌, ◌≤◌, ◌<◌}
use native.Mathlib.Omega.{arith}
use lib.ListN.{length, take, replicate, length-replicate}
use Rattle.words.specs.Lists.{at}
use Rattle.words.specs.Words.{Word, Place, part}
use Rattle.words.specs.Limits.{longest_word}
use Rattle.table.specs.Table.{room}
use Rattle.saved.specs.File.{Step}
use Rattle.loaded.specs.Load.{letters, stop, Ending, behind, broken, wrong}
use Rattle.loaded.specs.Cases.{Unread, cut_off, bad_byte}
use Rattle.loaded.specs.Cases.{FrontCase, edition_unread, edition_other, length_unread, length_bad, letters_missing, letters-there}
use Rattle.loaded.specs.Cases.{ArrowsCase, arrow_agrees, up_unread, over_unread, arrow_differs, no_arrow_left, arrows_missing, all_agree}
use Rattle.loaded.specs.Cases.{EndingCase, count_unread, count_too_large, count_fits, arrows_wrong, leftovers}
use Rattle.loaded.proofs.Theorems.{ending_is}
use Rattle.crc.specs.Check.{check}
use Rattle.editions.specs.Either.{as_plain}
use Rattle.editions.specs.EitherCases.{FrontEither, VerdictEither, ending_wrong, bytes_follow, EndingEither, arrows_broken, plain_end}
use Rattle.editions.specs.EitherCases as Ways
use Rattle.editions.proofs.AsPlain.{as_other, by_edition, plain-length, plain-part, plain-ending}
use Rattle.editions.proofs.Files.{letters-behind}
use Rattle.editions.proofs.Ways.{front_either_is}
use Rattle.answers.specs.Answers.{Answer, refused_at}
use Rattle.mark_files.specs.Load
use Rattle.mark_files.specs.Load.{load_says}
use Rattle.mark_files.specs.Cases.{LoadCase}
use Rattle.mark_files.proofs.LoadSays.{load_is, load_answers}
use Rattle.faults.specs.Faults.{CountAt, bytes_left}
use Rattle.faults.specs.EitherFaults.{AllRead, FaultEither, in_edition_1, up_to_arrows, check_cut, check_differs, bytes_behind}
use Rattle.faults.proofs.Shown.{Fault, front_fault, count-place, ending_fault, ending-read}
use Rattle.faults.proofs.Told.{Tells, before_letters, behind-letters, arrows-ending, fault_tells}

-- a fault that shows at p, wherever its field ends
abbrev Broken : List ℕ → ℕ → Place → Type 0
Broken s r p = (q : Place) × FaultEither s r p q

-- ── 11 is the last ─────────────────────────────────────────────────────────

module _ {s : List ℕ} where
  unread_not_11 : {i : Place} {r : ℕ} {p : Place} → Unread s i r p → r ≡ 11 → ⊥
  unread_not_11 (cut_off c) e = omega arith
  unread_not_11 (bad_byte b) e = omega arith

  front_not_11 : {r : ℕ} {p : Place} → FrontCase s (stop r p) → r ≡ 11 → ⊥
  front_not_11 (edition_unread u) e = unread_not_11 u e
  front_not_11 (edition_other h d) e = omega arith
  front_not_11 (length_unread h u) e = unread_not_11 u e
  front_not_11 (length_bad h g d) e = omega arith
  front_not_11 (letters_missing h g l k d) e = omega arith

  arrows_not_11 : {i : Place} {n : ℕ} {l : List Step} {r : ℕ} {p : Place} → ArrowsCase s i n l (broken r p) → r ≡ 11 → ⊥
  arrows_not_11 (arrow_agrees a b c) e = arrows_not_11 c e
  arrows_not_11 (up_unread u) e = unread_not_11 u e
  arrows_not_11 (over_unread a u) e = unread_not_11 u e
  arrows_not_11 (arrow_differs a b d) e = omega arith
  arrows_not_11 (no_arrow_left a b) e = omega arith
  arrows_not_11 arrows_missing e = omega arith

  ending_not_11 : {i : Place} {w : Word} {r : ℕ} {p : Place} → EndingCase s i w (broken r p) → r ≡ 11 → ⊥
  ending_not_11 (count_unread u) e = unread_not_11 u e
  ending_not_11 (count_too_large a b) e = omega arith
  ending_not_11 (count_fits a b c) e = arrows_not_11 c e

-- ── What is told is a fault ────────────────────────────────────────────────

module _ (s : List ℕ) where
  abbrev t : List ℕ
  t = as_plain s 0

  -- what edition 1 shows of the same bytes
  either_way : {r : ℕ} {p : Place} → Fault t r p → (r ≡ 11 → ⊥) → Broken s r p
  either_way F last =
      by_edition s 0 (λ two. (F.0, up_to_arrows two F.1 last)) (λ d. (F.0, in_edition_1 d (rw (as_other s 0 d) at F.1)))

  -- a check is read where it stands
  whole_part : (p : Place) → part s 0 (p - 0) ≡ take p s
  whole_part p = let e : p - 0 ≡ p = omega arith in ap (λ (n : ℕ). take n s) e

  module _ {m i : ℕ} (f : FrontEither s 0 (letters m i)) where
    abbrev w : Word
    w = part t i m

    after : 0 < i + m
    after = omega (arith, letters-behind s 0 ((front_either_is s 0 (letters m i)).1 f))

    counted : CountAt t w (i + m)
    counted = count-place f

    on_plain : {e : Ending} → EndingCase s (i + m) w e → EndingCase t (i + m) w e
    on_plain {e} E = (ending_is t (i + m) w e).0 (plain-ending s 0 (i + m) w after ∙ (ending_is s (i + m) w e).1 E)

    ending-broken : {r : ℕ} {p : Place} → EndingEither s 0 (i + m) w (broken r p) → Broken s r p
    ending-broken (arrows_broken E) = let E' = on_plain E in either_way (ending_fault counted E') (ending_not_11 E')
    ending-broken (Ways.check_cut E two h) = (_, check_cut (two, ending-read counted (on_plain E)) h)
    ending-broken (Ways.check_differs {p = p} E two h d) =
        (_, check_differs (two, ending-read counted (on_plain E)) h (λ q. d (q ∙ ap check (sym (whole_part p)))))

    left-broken : {e : Place} → EndingEither s 0 (i + m) w (behind e) → e < length s → Broken s 11 e
    left-broken (plain_end {p = p} E d) h =
        let A = rw (as_other s 0 d) at (ending-read counted (on_plain E)) in
        (p + 1, in_edition_1 d (bytes_left A h))
    left-broken (Ways.check_agrees {p = p} E two k q) h =
        (p + 3, bytes_behind (two, ending-read counted (on_plain E)) (q ∙ ap check (whole_part p)) h)

    verdict-broken : {r : ℕ} {p : Place} → VerdictEither s (i + m) w (wrong r p) → Broken s r p
    verdict-broken (ending_wrong E) = ending-broken E
    verdict-broken (bytes_follow E h) = left-broken E h

  pub load_fault : (R T : List ℕ) {r : ℕ} {p : Place} → (load_says s R T).answer ≡ refused_at r p → (q : Place) × FaultEither s r p q
  load_fault R T {r} {p} e = by ((load_answers s R T (refused_at r p)).0 e).2
    where
      by : {R' T' : List ℕ} → LoadCase s R T (Load.outcome (refused_at r p) R' T') → Broken s r p
      by (LoadCase.head_refused f) = either_way (front_fault f) (front_not_11 f)
      by (LoadCase.on_arrows_refused {m = m} {i = i} f h u v) =
          verdict-broken f (rw (← plain-part s 0 i m (letters-behind s 0 ((front_either_is s 0 (letters m i)).1 f))) at v)

-- ── And a fault is told ────────────────────────────────────────────────────

-- with rooms for every word
module _ (s R T : List ℕ) (fits : longest_word ≤ length R) (enough : room longest_word ≤ length T) where
  abbrev u : List ℕ
  u = as_plain s 0

  module _ {w : Word} {c : Place} (C : CountAt u w c) where
    abbrev i : Place
    i = C.letters_place

    there : FrontEither s 0 (letters (length w) i)
    there = letters-there C.length_at C.length_read C.least C.most (omega (arith, C.place, C.inside))

    edition-before : 0 < i
    edition-before = letters-behind s 0 ((front_either_is s 0 _).1 there)

    own : w ≡ part s i (length w)
    own = C.letters ∙ plain-part s 0 i (length w) edition-before

    on_file : {e : Ending} → EndingCase u c w e → EndingCase s c w e
    on_file {e} E =
        let behind-edition : 0 < c = omega (arith, C.place, edition-before) in
        (ending_is s c w e).0 (sym (plain-ending s 0 c w behind-edition) ∙ (ending_is u c w e).1 E)

    behind-told : {r : ℕ} {p : Place} → VerdictEither s c w (wrong r p) → (load_says s R T).answer ≡ refused_at r p
    behind-told {r} {p} v =
        let judged : VerdictEither s (i + length w) (part s i (length w)) (wrong r p) = rw (← C.place, ← own) v in
        let word_fits : length w ≤ length R = omega (arith, C.most) in
        let table_fits : room (length w) ≤ length T = omega (arith, C.most) in
        ap (λ o. o.answer) ((load_is s R T _).1 (LoadCase.on_arrows_refused there word_fits table_fits judged))

  -- as edition 1 shows it, with bytes behind the arrows where there is no check
  plainly_told : {r : ℕ} {p : Place} → (r ≡ 11 → at s 0 ≡ 2 → ⊥) → Tells u r p → (load_says s R T).answer ≡ refused_at r p
  plainly_told other (before_letters f) = ap (λ o. o.answer) ((load_is s R T _).1 (LoadCase.head_refused f))
  plainly_told other (behind-letters C (arrows_wrong E)) = behind-told C (ending_wrong (arrows_broken (on_file C E)))
  plainly_told other (behind-letters C (leftovers {p = p} E h)) =
      behind-told C (bytes_follow (plain_end (on_file C E) (other refl)) (rw (plain-length s 0) at h))

  -- all arrows are right, and then the check decides
  check-told : {w : Word} {k : Place} {r : ℕ} {p : Place} → AllRead s w k
      → ((c : Place) → EndingCase s c w (behind k) → VerdictEither s c w (wrong r p)) → (load_says s R T).answer ≡ refused_at r p
  check-told A way = let E = arrows-ending A.1 all_agree in behind-told E.1 (way E.0 (on_file E.1 E.2))

  told : {r : ℕ} {p q : Place} → FaultEither s r p q → (load_says s R T).answer ≡ refused_at r p
  told (in_edition_1 d F) = plainly_told (λ e. d) (rw (as_other s 0 d) (fault_tells F))
  told (up_to_arrows two F last) = plainly_told (λ e. absurd (last e)) (fault_tells F)
  told (check_cut A h) = check-told A (λ c E. ending_wrong (Ways.check_cut E A.0 h))
  told (check_differs {p = p} A h d) =
      check-told A (λ c E. ending_wrong (Ways.check_differs E A.0 h (λ q. d (q ∙ ap check (whole_part s p)))))
  told (bytes_behind {p = p} A q h) =
      check-told A (λ c E. bytes_follow (Ways.check_agrees E A.0 (omega arith) (q ∙ ap check (sym (whole_part s p)))) h)

  -- a file is refused with r at p exactly if that is its fault
  pub refused-exactly : (r : ℕ) (p : Place) → ((load_says s R T).answer ≡ refused_at r p) ↔ ((q : Place) × FaultEither s r p q)
  refused-exactly r p = (λ e. load_fault s R T e, λ f. told f.1)

-- and it has one fault at most
pub one_fault_either : (s : List ℕ) {r r' : ℕ} {p p' q q' : Place} → FaultEither s r p q → FaultEither s r' p' q' → (r ≡ r') × (p ≡ p')
one_fault_either s {r} {r'} {p} {p'} {q} {q'} f f' = (cc same, cc same)
  where
    R : List ℕ
    R = replicate longest_word 0

    T : List ℕ
    T = replicate (room longest_word) 0

    fits : longest_word ≤ length R
    fits = rw (length-replicate {A = ℕ} longest_word 0) (omega arith)

    enough : room longest_word ≤ length T
    enough = rw (length-replicate {A = ℕ} (room longest_word) 0) (omega arith)

    same : ◌≡◌ {A = Answer ℕ} (refused_at r p) (refused_at r' p')
    same = sym ((refused-exactly s R T fits enough r p).1 (q, f)) ∙ (refused-exactly s R T fits enough r' p').1 (q', f')
