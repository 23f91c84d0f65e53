-- A WORD'S FILE, FIELD BY FIELD: bytes that begin it are its own edition, length, letters, count and arrows, as far as they go, since no
-- spelling of a number begins another's.
use mathlib.Core.Path.{◌≡◌, refl, sym, ap, ◌∙◌}
use mathlib.Core.List.Memᴰ
use mathlib.Core.List.{List, [], ◌∷◌, ◌++◌, append_assoc, Memᴰ}
use Prim.Native.Nat.{ℕ, ◌≤◌}
use native.Mathlib.Omega.{arith}
use lib.ListN.{length}
use Rattle.words.specs.Words.{Word}
use Rattle.words.specs.Limits.{longest_word}
use Rattle.words.proofs.Limits.{words_fit}
use Rattle.words.proofs.Lists.{same-behind, same_parts}
use Rattle.oracle.specs.Arrows.{State}
use Rattle.oracle.specs.FileOrder.{Extra, file_arrows}
use Rattle.oracle.proofs.FileArrows.{file-arrow-climbs}
use Rattle.number.specs.Number.{greatest, spell_number}
use Rattle.number.proofs.Theorems.{spelling_prefix_free}
use Rattle.saved.specs.File.{edition, Step, steps_from, spell_steps, own_steps, body, spell}
use Rattle.saved.proofs.Slots.{own-few}
use Rattle.saved.proofs.Spelled.{edition-number}
use Rattle.faults.proofs.Through.{up_to_count, steps-append}

-- what a word's file has behind its letters
abbrev pub arrows_of : Word → List ℕ
arrows_of w = spell_number (length (own_steps w)) ++ spell_steps (own_steps w)

-- ── The numbers are small enough to be spelled ─────────────────────────────

abbrev pub SmallStep : Step → Type 0
SmallStep t = (t.up ≤ greatest) × (t.over ≤ greatest)

steps-small : (x : State) (l : List Extra) → ((a : Extra) → Memᴰ a l → (a.source ≤ greatest) × (a.to ≤ greatest))
    → (t : Step) → Memᴰ t (steps_from x l) → SmallStep t
unfolding steps_from
steps-small x [] small t m = elim m [ ]
steps-small x (a ∷ l) small t (Memᴰ.head e) =
    let h = small a (Memᴰ.head refl) in
    rw e (omega (arith, h.0), omega (arith, h.1))
steps-small x (a ∷ l) small t (Memᴰ.tail m) = steps-small a.source l (λ b k. small b (Memᴰ.tail k)) t m

module _ (w : Word) (most : length w ≤ longest_word) where
  pub own-small : (t : Step) → Memᴰ t (own_steps w) → SmallStep t
  unfolding own_steps
  own-small = steps-small 0 (file_arrows w) (λ a m. let r = file-arrow-climbs w m in
      (omega (arith, words_fit, r.climbs, r.inside), omega (arith, words_fit, r.inside)))

  -- ── What begins the file ─────────────────────────────────────────────────

  pub edition_begins : (e : ℕ) (y : List ℕ) → e ≤ greatest → spell w ≡ spell_number e ++ y → (edition ≡ e) × (body w ≡ y)
  unfolding spell
  edition_begins e y h q = spelling_prefix_free (omega (arith, edition-number)) h q

  pub length_begins : (m : ℕ) (y : List ℕ) → m ≤ greatest → body w ≡ spell_number m ++ y → (length w ≡ m) × (w ++ arrows_of w ≡ y)
  unfolding body
  length_begins m y h q = spelling_prefix_free (omega (arith, words_fit)) h q

  count_begins : (n : ℕ) (y : List ℕ) → n ≤ greatest → arrows_of w ≡ spell_number n ++ y
      → (length (own_steps w) ≡ n) × (spell_steps (own_steps w) ≡ y)
  count_begins n y h q = spelling_prefix_free (omega (arith, own-few w, words_fit)) h q

  pub letters_begin : (v : Word) (y : List ℕ) → length v ≤ longest_word → spell w ≡ up_to_count v ++ y → (w ≡ v) × (arrows_of w ≡ y)
  letters_begin v y h q =
      let E = spell_number edition in
      let M = spell_number (length v) in
      let split : (((E ++ M) ++ v) ++ y) ≡ E ++ (M ++ (v ++ y)) =
      append_assoc (E ++ M) v y
      ∙ append_assoc E M (v ++ y) in
      let first = edition_begins edition (M ++ (v ++ y)) (omega (arith, edition-number)) (q ∙ split) in
      let second = length_begins (length v) (v ++ y) (omega (arith, words_fit)) first.1 in
      same_parts w v (arrows_of w) y second.0 second.1

  -- and the word's file does begin so
  pub spell-parts : spell w ≡ up_to_count w ++ arrows_of w
  unfolding spell body
  spell-parts =
      let E = spell_number edition in
      let M = spell_number (length w) in
      sym (append_assoc (E ++ M) w (arrows_of w) ∙ append_assoc E M (w ++ arrows_of w))

  -- where n arrows are declared and r of them were read, which are the word's own, l being left
  module _ (v : Word) (n : ℕ) (r l : List Step) (size : length v ≤ longest_word) (small : n ≤ greatest) (own : own_steps v ≡ r ++ l) where
    abbrev front : List ℕ
    front = (up_to_count v ++ spell_number n) ++ spell_steps r

    pub arrows_begin : (y : List ℕ) → spell w ≡ front ++ y → (w ≡ v) × (n ≡ length (own_steps v)) × (spell_steps l ≡ y)
    arrows_begin y q =
        let N = spell_number n in
        let split : ((up_to_count v ++ N) ++ spell_steps r) ++ y ≡ up_to_count v ++ (N ++ (spell_steps r ++ y)) =
        append_assoc (up_to_count v ++ N) (spell_steps r) y
        ∙ append_assoc (up_to_count v) N (spell_steps r ++ y) in
        let first = letters_begin v (N ++ (spell_steps r ++ y)) size (q ∙ split) in
        let second = count_begins n (spell_steps r ++ y) small first.1 in
        let steps : spell_steps r ++ spell_steps l ≡ spell_steps r ++ y =
        sym (steps-append r l)
        ∙ ap spell_steps (sym own ∙ ap own_steps (sym first.0))
        ∙ second.1 in
        (first.0, sym second.0 ∙ ap (λ (u : Word). length (own_steps u)) first.0, same-behind (spell_steps r) (spell_steps l) y steps)

-- ── One arrow ──────────────────────────────────────────────────────────────

-- the arrow behind those that were read, where bytes begin its spelling
pub arrow_begins : (w : Word) → length w ≤ longest_word → (r : List Step) (t : Step) (l : List Step) → own_steps w ≡ r ++ (t ∷ l)
    → (a b : ℕ) (y : List ℕ) → a ≤ greatest → b ≤ greatest → spell_steps (t ∷ l) ≡ spell_number a ++ (spell_number b ++ y)
    → (a ≡ t.up) × (b ≡ t.over)
unfolding spell_steps
arrow_begins w most r t l own a b y ha hb e =
    let small : SmallStep t = own-small w most t (rw own (Memᴰ.append_right r (Memᴰ.head refl))) in
    let first = spelling_prefix_free small.0 ha e in
    let second = spelling_prefix_free small.1 hb first.1 in
    (sym first.0, sym second.0)
