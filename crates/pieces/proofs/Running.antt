-- A RUN OVER A PIECE, letter by letter: what is kept and found of what was heard so far, the list being filled with that. One letter more
-- is one letter behind what is kept, for only that matters; so `border::extend` decides.
use mathlib.Core.Path.{◌≡◌, sym, ap, ◌∙◌}
use mathlib.Core.Logic.{◌≢◌}
use mathlib.Core.List.{List, [], ◌∷◌, ◌++◌, map, append_assoc, append-nil}
use Prim.Native.Nat.{ℕ, zero, suc, ◌+◌, ◌-◌, ◌≤◌, ◌<◌}
use native.Mathlib.Nat.{le_refl, add-zero}
use native.Mathlib.Omega.{arith}
use lib.ListN.{length, take, length-append, length-map}
use lib.Seq.{length-take-le, take-suc}
use Rattle.words.specs.Words.{Word, Place, letter, part, occurrences}
use Rattle.words.proofs.Lists.{map-append}
use Rattle.words.proofs.Words.{part_length}
use Rattle.words.proofs.Occurrences.{since-start, since-past}
use Rattle.border.specs.Borders.{longest_border, borders, longest_end}
use Rattle.border.proofs.Beginnings.{end_none}
use Rattle.finds.specs.Finds.{filled}
use Rattle.finds.proofs.Filling.{filled-nil}
use Rattle.pieces.specs.Kept.{kept, heard}
use Rattle.pieces.proofs.Kept.{kept_shorter, kept-within, kept_beginning}
use Rattle.pieces.proofs.OnlyKept.{kept-goes_on, finds_go_on}
use Rattle.pieces.proofs.OneLetter.{short-kept, short-finds, whole_length, whole-kept, whole-finds}

-- the word's first `held` letters are kept of the `past` letters before the piece v; of the piece, `at` letters were taken
pub record Running (w v : Word) (held past : ℕ) (F₀ F : List ℕ) (at keep count : ℕ) : Type 0 where
  pub inside : at ≤ length v
  pub keeps : keep ≡ kept w (heard w held (take at v))
  pub number : count ≡ length (occurrences w (heard w held (take at v)))
  pub list : F ≡ filled (map (λ q. past - held + q) (occurrences w (heard w held (take at v)))) F₀
  pub few : count ≤ at

-- ── The first letter is to come ────────────────────────────────────────────

module _ (w v : Word) {held : ℕ} (short : held < length w) where
  heard-nothing : heard w held (take 0 v) ≡ part w 0 held
  heard-nothing = append-nil (part w 0 held)

  none_found : occurrences w (part w 0 held) ≡ []
  none_found =
      sym (since-start w (part w 0 held))
      ∙ since-past w (part w 0 held) 0 (omega (arith, part_length w 0 held (omega arith)))

  pub running_start : (past : ℕ) {F : List ℕ} → Running w v held past F F 0 held 0
  running_start past {F} = record {
    inside = omega arith;
    keeps = sym (ap (kept w) heard-nothing ∙ kept_beginning w held short);
    number = sym (ap (λ (t : Word). length (occurrences w t)) heard-nothing ∙ ap length none_found);
    list = rw (heard-nothing, none_found) (filled-nil F);
    few = le_refl 0;
  }

module _ {w v : Word} {held past : ℕ} {F₀ F : List ℕ} {at keep count : ℕ} (R : Running w v held past F₀ F at keep count)
    (short : held < length w) where
  some-letter : 1 ≤ length w
  some-letter = omega arith

  abbrev y : Word
  y = heard w held (take at v)

  y-length : length y ≡ held + at
  y-length =
      length-append (part w 0 held) (take at v)
      ∙ omega (arith, part_length w 0 held (omega arith), length-take-le at v R.inside)

  keep_short : (keep < length w) × (keep ≤ held + at)
  keep_short =
      (omega (arith, R.keeps, kept_shorter w y some-letter), omega (arith, R.keeps, kept-within w y some-letter, y-length))

  pub running_keep_short : keep < length w
  running_keep_short = keep_short.0

  -- ── The piece ends ───────────────────────────────────────────────────────

  -- ── One letter more ──────────────────────────────────────────────────────

  module _ (left : at < length v) where
    abbrev c : ℕ
    c = letter v at

    abbrev x : Word
    x = heard w keep (c ∷ [])

    one_more : heard w held (take (at + 1) v) ≡ y ++ (c ∷ [])
    one_more =
        let n : at + 1 ≡ suc at = omega arith in
        ap (λ (k : ℕ). heard w held (take k v)) n
        ∙ ap (λ (u : Word). part w 0 held ++ u) (take-suc v at 0 left)
        ∙ sym (append_assoc (part w 0 held) (take at v) (c ∷ []))

    then_kept : kept w (heard w held (take (at + 1) v)) ≡ kept w x
    then_kept =
        ap (kept w) one_more
        ∙ kept-goes_on w y (c ∷ []) some-letter
        ∙ ap (λ (k : ℕ). kept w (heard w k (c ∷ []))) (sym R.keeps)

    then_found : occurrences w (heard w held (take (at + 1) v)) ≡ occurrences w y ++ map (λ q. held + at - keep + q) (occurrences w x)
    then_found =
        let place : length y - kept w y ≡ held + at - keep = omega (arith, y-length, R.keeps) in
        ap (occurrences w) one_more
        ∙ finds_go_on w y (c ∷ []) some-letter
        ∙ rw (place, ← R.keeps)

    module _ {end : ℕ} (longest : end ≡ longest_end w x) where
      -- not all of the word ends with it
      pub running_short : end < length w → Running w v held past F₀ F (at + 1) end count
      running_short l = record {
        inside = omega arith;
        keeps = longest ∙ sym (then_kept ∙ short-kept w keep keep_short.0 c less);
        number = R.number ∙ ap length (sym same-finds);
        list = R.list ∙ ap (λ (l : List Place). filled (map (λ q. past - held + q) l) F₀) (sym same-finds);
        few = omega (arith, R.few);
      }
        where
          less : longest_end w x < length w
          less = rw longest at l

          same-finds : occurrences w (heard w held (take (at + 1) v)) ≡ occurrences w y
          same-finds = then_found ∙ rw (short-finds w keep keep_short.0 c less) (append-nil (occurrences w y))

      module _ (l : length w ≤ end) where
        all : length w ≤ longest_end w x
        all = rw longest at l

        whole : suc keep ≡ length w
        whole = whole_length w keep keep_short.0 c all

        -- the word fits into what was heard
        pub running_inside : length w ≤ held + (at + 1)
        running_inside = omega (arith, whole, keep_short.1)

        one-find : occurrences w (heard w held (take (at + 1) v)) ≡ occurrences w y ++ ((held + at - keep + 0) ∷ [])
        one-find = then_found ∙ rw (whole-finds w keep keep_short.0 c all)

        -- all of the word ends with it, and the find is noted
        pub running_find : held ≤ past → {border count' : ℕ} {F' : List ℕ} → border ≡ longest_border w → count' ≡ count + 1
            → ((l G : List ℕ) → length l ≡ count → F ≡ filled l G → F' ≡ filled (l ++ ((past + (at + 1) - length w) ∷ [])) G)
            → Running w v held past F₀ F' (at + 1) border count'
        running_find known {border} {count'} {F'} borders counted noted = record {
          inside = omega arith;
          keeps = borders ∙ sym (then_kept ∙ whole-kept w keep keep_short.0 c all);
          number = counted ∙ omega (arith, R.number, ap length one-find, length-append (occurrences w y) ((held + at - keep + 0) ∷ []));
          list = listed;
          few = omega (arith, R.few);
        }
          where
            place : past - held + (held + at - keep + 0) ≡ past + (at + 1) - length w
            place = omega (arith, whole, keep_short.1)

            listed : F' ≡ filled (map (λ q. past - held + q) (occurrences w (heard w held (take (at + 1) v)))) F₀
            listed =
                noted (map (λ q. past - held + q) (occurrences w y)) F₀
                (length-map (occurrences w y) (λ q. past - held + q) ∙ sym R.number) R.list
                ∙ ap (λ (l : List Place). filled l F₀)
                (sym (ap (map (λ q. past - held + q)) one-find ∙ map-append (λ q. past - held + q) (occurrences w y) _ ∙ rw place))

-- ── Letters that are skipped ───────────────────────────────────────────────

-- a letter that is not the word's first leaves nothing kept where nothing was
pub other_letter : (w : Word) (c : ℕ) → letter w 0 ≢ c → longest_end w (heard w 0 (c ∷ [])) ≡ 0
other_letter w c d = end_none w 0 (omega arith) c (λ j l E e. let first : j ≡ 0 = omega (arith, E.sum) in d (rw first at e))

-- so do any number of them
running_others : {w v : Word} {held past : ℕ} {F₀ F : List ℕ} {count : ℕ} (k at : ℕ) → Running w v held past F₀ F at 0 count
    → held < length w → at + k ≤ length v → ((i : ℕ) → at ≤ i → i < at + k → letter v i ≢ letter w 0)
    → Running w v held past F₀ F (at + k) 0 count
running_others zero at R short fits other = rw (add-zero at) R
running_others {w} {v} {held} {past} {F₀} {F} {count} (suc k) at R short fits other =
    let here : letter w 0 ≢ letter v at = λ e. other at (le_refl at) (omega arith) (sym e) in
    let one = running_short R short (omega arith) (sym (other_letter w (letter v at) here)) (omega arith) in
    let n : at + 1 + k ≡ at + suc k = omega arith in
    rw n at (running_others k (at + 1) one short (omega arith) (λ i l u. other i (omega arith) (omega arith)))

-- a letter that leaves nothing kept, and then those before the next that is the word's first
pub running_skip : {w v : Word} {held past : ℕ} {F₀ F : List ℕ} {at keep count : ℕ} → Running w v held past F₀ F at keep count
    → held < length w → at < length v → {end : ℕ} → end ≡ longest_end w (heard w keep (letter v at ∷ [])) → end ≡ 0 → {e : ℕ}
    → (at + 1 ≤ e) × (e ≤ length v) × ((i : ℕ) → at + 1 ≤ i → i < e → letter v i ≢ letter w 0) → Running w v held past F₀ F e 0 count
running_skip {at = at} R short left {end} longest none {e} skipped =
    let one = rw none at (running_short R short left longest (omega (arith, none))) in
    let n : at + 1 + (e - (at + 1)) ≡ e = omega (arith, skipped.0) in
    rw n at (running_others (e - (at + 1)) (at + 1) one short (omega (arith, skipped.0, skipped.1))
    (λ i l u. skipped.2 i l (omega (arith, skipped.0))))
