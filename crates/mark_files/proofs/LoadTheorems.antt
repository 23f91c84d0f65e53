-- THE THEOREMS on `load_says`: with room enough, exactly the words' files are accepted, in either edition, and the word and its table are
-- handed over; a file that is cut, or goes on, is refused; what 8 and 9 leave is the same whichever bad number was declared; and a file
-- that does not say 2 has the outcome that it had before edition 2.
use mathlib.Core.Path.{◌≡◌, refl, sym, ap, ◌∙◌, fun_ext}
use mathlib.Core.Logic.{◌⊎◌, inl, inr, ◌↔◌}
use mathlib.Core.List.{List, ◌∷◌, ◌++◌}
use Prim.Native.Nat.{ℕ, ◌+◌, ◌-◌, ◌≤◌, ◌<◌}
use native.Mathlib.Omega.{arith}
use native.Mathlib.Decide.{dec_lt}
use lib.ListN.{length, take, drop, replicate}
use lib.Seq.{take_at}
use Rattle.words.specs.Lists.{at}
use Rattle.words.specs.Words.{Word, part}
use Rattle.words.specs.Limits.{least_saved, longest_word}
use Rattle.words.proofs.Words.{part_length}
use Rattle.oracle.specs.SuffixRule.{oracle}
use Rattle.table.specs.Table.{room, table_of, read_arrow}
use Rattle.table.proofs.Theorems.{table-size, table-arrow}
use Rattle.number.specs.Number.{Bytes}
use Rattle.loaded.specs.Load.{Front, letters, stop, front, Verdict, right, wrong, verdict}
use Rattle.loaded.specs.Cases.{Reads, BadLength, length_bad, letters_missing, count_too_large}
use Rattle.editions.specs.Editions.{Edition, spell_in, FileIn, SavedIn}
use Rattle.editions.specs.Either.{edition_at, as_plain, verdict_either, JudgedEither}
use Rattle.editions.specs.EitherCases.{EditionRead, FrontEither, arrows_broken, ending_wrong}
use Rattle.editions.proofs.AsPlain.{plain-length, plain-number}
use Rattle.editions.proofs.Ways.{front_either_is, verdict_either_is}
use Rattle.editions.proofs.Theorems.{either_letters, file-accepted, only_files, cut-refused as cut-either, longer-refused}
use Rattle.editions.proofs.Theorems.{front_kept, verdict-kept, two_was_7}
use Rattle.answers.specs.Answers.{done, refused_at}
use Rattle.mark_files.specs.Load.{Outcome, outcome, judged, letters_read, load_within, load_says, plain_load_says}
use Rattle.mark_files.specs.Save.{save_in}
use Rattle.mark_files.specs.Cases.{LoadCase}
use Rattle.mark_files.proofs.SaveSays.{done-leaves}
use Rattle.mark_files.proofs.SamePlace.{letters-same-place, edition_one_byte, edition-plain}
use Rattle.mark_files.proofs.LoadSays.{shown_front, put, says-stop, says-judged, load_is, load_answers}

-- what an outcome with m letters hands over of the file s
pub record Handed (s : List ℕ) (o : Outcome) (m : ℕ) : Type 0 where
  pub size : length (take m o.word) ≡ m
  pub file : s ≡ spell_in (edition_at s 0) (take m o.word)
  pub arrows : read_arrow m (take (room m) o.tables) ≡ oracle (take m o.word)

-- ── What a judged file comes to ────────────────────────────────────────────

module _ (R T : List ℕ) where
  -- a file that shows the word w, and then v on its arrows, where there is room for w
  pub says-shown : {s : List ℕ} {w : Word} {v : Verdict} → JudgedEither s w v → length w ≤ length R → room (length w) ≤ length T
      → load_says s R T ≡ put s R T (length w) (judged v w)
  says-shown {s} {w} {v} J h t =
      let i = J.place in
      let m = length w in
      let same : judged (verdict_either s (i + m) (part s i m)) (part s i m) ≡ judged v w = rw (← J.word, J.judged) in
      says-judged s R T m i J.shown h t ∙ ap (put s R T m) same

  -- ── Exactly the words' files ─────────────────────────────────────────────

  module _ (e : Edition) (w : Word) (least : least_saved ≤ length w) (most : length w ≤ longest_word)
      (h : length w ≤ length R) (t : room (length w) ≤ length T) where
    -- its outcome, where it is loaded
    abbrev handed-over : Outcome
    handed-over = outcome (done (length w)) (w ++ drop (length w) R) (table_of w ++ drop (room (length w)) T)

    -- the file of a word is accepted: m is answered, the word and its table stand in the rooms, and the rest of them is as it was
    pub file-loads : load_says (spell_in e w) R T ≡ handed-over
    file-loads = says-shown (file-accepted e w least most) h t

    -- the arrows that are read from the table it leaves are the oracle's, so all that `oracle/Theorems` says of walks holds of them
    pub loaded_arrows : read_arrow (length w) (take (room (length w)) (load_says (spell_in e w) R T).tables) ≡ oracle w
    loaded_arrows =
        let n = room (length w) in
        let same : take n (load_says (spell_in e w) R T).tables ≡ table_of w =
        ap (λ o. take n o.tables) file-loads ∙ take_at (table_of w) (drop n T) n (table-size w) in
        rw same (fun_ext (λ x. fun_ext (table-arrow w x)))

    -- what was saved is loaded again
    pub saved-loads : (T' O : List ℕ) → room (length w) ≤ length T' → length (spell_in e w) ≤ length O
        → load_says (take (length (spell_in e w)) (save_in e w T' O).output) R T ≡ handed-over
    saved-loads T' O a b = ap (λ (f : List ℕ). load_says f R T) (done-leaves e w T' O least most a b).file ∙ file-loads

    -- a file that is cut short anywhere is refused with 5, which shows at its end
    pub cut-refused : (n : ℕ) → n < length (spell_in e w) → (load_says (take n (spell_in e w)) R T).answer ≡ refused_at 5 n
    cut-refused n b = by (cut-either w least most e n b)
      where
        by : (shown_front (take n (spell_in e w)) ≡ stop 5 n) ⊎ JudgedEither (take n (spell_in e w)) w (wrong 5 n)
            → (load_says (take n (spell_in e w)) R T).answer ≡ refused_at 5 n
        by (inl q) = ap (λ o. o.answer) (says-stop (take n (spell_in e w)) R T 5 n q)
        by (inr q) = ap (λ o. o.answer) (says-shown q h t)

    -- one that goes on is refused with 11, which shows where the word's file ends
    pub longer_refused_11 : (b : ℕ) (l : List ℕ) → (load_says (spell_in e w ++ b ∷ l) R T).answer ≡ refused_at 11 (length (spell_in e w))
    longer_refused_11 b l = ap (λ o. o.answer) (says-shown (longer-refused w least most e b l) h t)

  -- whatever is accepted is the file of a word of m letters, and there was room for it
  pub loaded_files : (s : List ℕ) → Bytes s → {m : ℕ} → (load_says s R T).answer ≡ done m
      → (w : Word) × FileIn (edition_at s 0) s w × (m ≡ length w) × (length w ≤ length R) × (room (length w) ≤ length T)
  loaded_files s bytes e = by ((load_answers s R T (done _)).0 e).2
    where
      by : {m : ℕ} {R' T' : List ℕ} → LoadCase s R T (outcome (done m) R' T')
          → (w : Word) × FileIn (edition_at s 0) s w × (m ≡ length w) × (length w ≤ length R) × (room (length w) ≤ length T)
      by (LoadCase.accepted {m = m} {i = i} f h t v) =
          let w = part s i m in
          let shown : shown_front s ≡ letters m i = (front_either_is s 0 (letters m i)).1 f in
          let size : length w ≡ m = part_length s i m (either_letters s shown).0.inside in
          let judged : verdict_either s (i + m) w ≡ right = (verdict_either_is s (i + m) w right).1 v in
          let accepts : JudgedEither s w right = record { place = i; shown = rw size shown; word = rw size; judged = rw size judged } in
          let file : FileIn (edition_at s 0) s w = only_files s bytes accepts in
          (w, file, sym size, rw size h, rw size t)

  -- both at once: it is accepted exactly if it is in the set of files of one of the editions, and there is room for its word
  pub accepted-exactly : (s : List ℕ) → Bytes s
      → ((m : ℕ) × ((load_says s R T).answer ≡ done m))
      ↔ ((e : Edition) × (f : SavedIn e s) × (length f.word ≤ length R) × (room (length f.word) ≤ length T))
  accepted-exactly s bytes = (there, back)
    where
      there : (m : ℕ) × ((load_says s R T).answer ≡ done m)
          → (e : Edition) × (f : SavedIn e s) × (length f.word ≤ length R) × (room (length f.word) ≤ length T)
      there a =
          let r = loaded_files s bytes a.1 in
          let f = r.1 in
          (edition_at s 0, record { word = r.0; savable = f.savable; file = f.file }, r.3, r.4)

      back : (e : Edition) × (f : SavedIn e s) × (length f.word ≤ length R) × (room (length f.word) ≤ length T)
          → (m : ℕ) × ((load_says s R T).answer ≡ done m)
      back a =
          let f = a.1 in
          let loads = file-loads a.0 f.word f.savable.least f.savable.most a.2 a.3 in
          (length f.word, ap (λ (file : List ℕ). (load_says file R T).answer) f.file ∙ ap (λ o. o.answer) loads)

  -- and that word, with its oracle, is what is handed over: m letters at the start of the word room, and arrows read from the tables
  pub loaded_hands : (s : List ℕ) → Bytes s → {m : ℕ} → (load_says s R T).answer ≡ done m → Handed s (load_says s R T) m
  loaded_hands s bytes e = by (loaded_files s bytes e)
    where
      by : {m : ℕ} → (w : Word) × FileIn (edition_at s 0) s w × (m ≡ length w) × (length w ≤ length R) × (room (length w) ≤ length T)
          → Handed s (load_says s R T) m
      by a =
          let w = a.0 in
          let f = a.1 in
          let word : w ≡ take (length w) (w ++ drop (length w) R) = sym (take_at w (drop (length w) R) (length w) refl) in
          let e = edition_at s 0 in
          let same : load_says s R T ≡ load_says (spell_in e w) R T = ap (λ (l : List ℕ). load_says l R T) f.file in
          let told = same ∙ file-loads e w f.savable.least f.savable.most a.3 a.4 in
          let read = loaded_arrows e w f.savable.least f.savable.most a.3 a.4 in
          let arrows = ap (λ o. read_arrow (length w) (take (room (length w)) o.tables)) (sym told ∙ same) ∙ read in
          rw (a.2, told) (record { size = ap length (sym word); file = f.file ∙ ap (spell_in e) word; arrows = arrows ∙ ap oracle word })

  -- files of different words are loaded differently
  pub loads-apart : (e e' : Edition) (w w' : Word)
      → least_saved ≤ length w → length w ≤ longest_word → length w ≤ length R → room (length w) ≤ length T
      → least_saved ≤ length w' → length w' ≤ longest_word → length w' ≤ length R → room (length w') ≤ length T
      → load_says (spell_in e w) R T ≡ load_says (spell_in e' w') R T → w ≡ w'
  loads-apart e e' w w' a b h t a' b' h' t' q = by (sym (file-loads e w a b h t) ∙ q ∙ file-loads e' w' a' b' h' t')
    where
      by : outcome (done (length w)) (w ++ drop (length w) R) (table_of w ++ drop (room (length w)) T)
          ≡ outcome (done (length w')) (w' ++ drop (length w') R) (table_of w' ++ drop (room (length w')) T) → w ≡ w'
      by same =
          let q : done (length w) ≡ done (length w') = ap (λ o. o.answer) same in
          let size : length w' ≡ length w = cc in
          sym (take_at w (drop (length w) R) (length w) refl) ∙ ap (λ o. take (length w) o.word) same
          ∙ take_at w' (drop (length w') R) (length w) size

  -- ── Any bad number ───────────────────────────────────────────────────────

  -- 8: the outcome is one, whichever length that no saved word has was declared, in either edition, and whatever follows
  pub bad-length-one : (s : List ℕ) {i m j : ℕ} → EditionRead s i → Reads s i m j → BadLength m
      → load_says s R T ≡ outcome (refused_at 8 i) R T
  bad-length-one s {i} a b c =
      let after : 0 < i = omega (arith, edition_one_byte s a) in
      (load_is s R T _).1 (LoadCase.head_refused (length_bad (edition-plain s a) (plain-number s 0 i after ∙ b) c))

  -- so any two files that declare one have the same outcome, and it shows at the same place
  pub any_two_bad_lengths : (s s' : List ℕ) {i m j i' m' j' : ℕ} → EditionRead s i → Reads s i m j → BadLength m
      → EditionRead s' i' → Reads s' i' m' j' → BadLength m' → load_says s R T ≡ load_says s' R T
  any_two_bad_lengths s s' a b c a' b' c' =
      bad-length-one s a b c
      ∙ ap (λ (p : ℕ). outcome (refused_at 8 p) R T) (edition_one_byte s a ∙ sym (edition_one_byte s' a'))
      ∙ sym (bad-length-one s' a' b' c')

  -- letters that are not all there are refused with 5, however short the rooms are
  pub letters-missing-one : (s : List ℕ) {i m j : ℕ} → EditionRead s i → Reads s i m j → least_saved ≤ m → m ≤ longest_word
      → length s < j + m → load_says s R T ≡ outcome (refused_at 5 (length s)) R T
  letters-missing-one s {i} a b least most c =
      let after : 0 < i = omega (arith, edition_one_byte s a) in
      let size = plain-length s 0 in
      rw size at ((load_is s R T _).1 (LoadCase.head_refused
      (letters_missing (edition-plain s a) (plain-number s 0 i after ∙ b) least most (omega (arith, size, c)))))

  -- 9: the same for a declared number of arrows above m - 1, where m letters were declared and are there
  pub bad-count-one : (s : List ℕ) {m i n j : ℕ} → FrontEither s 0 (letters m i) → m ≤ length R → room m ≤ length T
      → Reads s (i + m) n j → m - 1 < n
      → load_says s R T ≡ outcome (refused_at 9 (i + m)) (replicate m 0 ++ drop m R) (replicate (room m) 0 ++ drop (room m) T)
  bad-count-one s {m} {i} f h t a b =
      let size : length (part s i m) ≡ m = part_length s i m (either_letters s ((front_either_is s 0 _).1 f)).0.inside in
      (load_is s R T _).1 (LoadCase.on_arrows_refused f h t (ending_wrong (arrows_broken (count_too_large a (rw size b)))))

  -- so any two files that declare one, and equally many letters, have the same outcome, whatever the rooms
  pub any_two_bad_counts : (s s' : List ℕ) {m i n j i' n' j' : ℕ} → FrontEither s 0 (letters m i) → Reads s (i + m) n j → m - 1 < n
      → FrontEither s' 0 (letters m i') → Reads s' (i' + m) n' j' → m - 1 < n' → load_says s R T ≡ load_says s' R T
  any_two_bad_counts s s' {m} {i} {i' = i'} f a b f' a' b' = by (dec_lt (length R) m) (dec_lt (length T) (room m))
    where
      short : (length R < m) ⊎ (length T < room m) → load_says s R T ≡ load_says s' R T
      short r = (load_is s R T _).1 (LoadCase.on_short_room f r) ∙ sym ((load_is s' R T _).1 (LoadCase.on_short_room f' r))

      there : i ≡ i'
      there = letters-same-place (as_plain s 0) (as_plain s' 0) f f'

      by : Dec (length R < m) → Dec (length T < room m) → load_says s R T ≡ load_says s' R T
      by (yes h) d = short (inl h)
      by (no h) (yes t) = short (inr t)
      by (no h) (no t) =
          bad-count-one s f (omega arith) (omega arith) a b
          ∙ ap (λ (i : ℕ). outcome (refused_at 9 (i + m)) (replicate m 0 ++ drop m R) (replicate (room m) 0 ++ drop (room m) T)) there
          ∙ sym (bad-count-one s' f' (omega arith) (omega arith) a' b')

  -- ── Before edition 2 ─────────────────────────────────────────────────────

  -- a file that does not say 2 has the outcome that it had
  pub load_kept : (s : List ℕ) → (at s 0 ≡ 2 → ⊥) → load_says s R T ≡ plain_load_says s R T
  unfolding load_within plain_load_says
  load_kept s other = rw (front_kept s other longest_word) (by (front s))
    where
      by : (f : Front) → letters_read verdict_either f s R T ≡ letters_read verdict f s R T
      by (stop n p) = refl
      by (letters m i) = rw (verdict-kept s other (i + m) (part s i m))

  -- and one that does was refused with 7
  pub two_refused : (s : List ℕ) → at s 0 ≡ 2 → plain_load_says s R T ≡ outcome (refused_at 7 0) R T
  unfolding plain_load_says
  two_refused s e = rw (two_was_7 s e)
