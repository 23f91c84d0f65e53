-- DEMAND 3, clause by clause: each is quoted word for word, in brackets a number that 02 sets, and under it stands what says just that of
-- the entries' outcomes, by citing the file where it is proved. Wrong programs that 01 wants shut out by this demand are named in plain
-- words, each with what shuts it out.
use mathlib.Core.Path.{◌≡◌, refl, sym, ap, ◌∙◌}
use mathlib.Core.Logic.{◌↔◌}
use mathlib.Core.Option.{some}
use mathlib.Core.List.{List, ◌∷◌, ◌++◌, Memᴰ}
use Prim.Native.Nat.{ℕ, ◌+◌, ◌*◌, ◌-◌, ◌≤◌, ◌<◌}
use native.Mathlib.Omega.{arith}
use lib.ListN.{length, take, drop}
use lib.Seq.{take_at}
use Rattle.words.specs.Words.{Letter, Word, Place, Factor}
use Rattle.words.specs.Limits.{longest_word, longest_text, least_saved}
use Rattle.words.proofs.Limits.{saved-some}
use Rattle.oracle.specs.Arrows.{State, Arrow, arrow, Delta, walk, OneEach}
use Rattle.oracle.specs.SuffixRule.{suffix_rule, oracle}
use Rattle.oracle.proofs.Targets.{target_member, member_target}
use Rattle.oracle.proofs.Theorems
use Rattle.table.specs.Table.{room, table_of, read_arrow}
use Rattle.number.specs.Number.{Bytes}
use Rattle.finds.specs.declared.Tally.{Tally}
use Rattle.saved.proofs.Theorems.{size_least}
use Rattle.editions.specs.Editions.{Edition, plain, checked, spell_in, SavedIn, most_bytes}
use Rattle.editions.specs.Either.{edition_at}
use Rattle.editions.proofs.Theorems.{plain-saved, edition-told, word-told, most_bytes_lem, least_bytes}
use Rattle.answers.specs.Answers.{done, refused_at}
use Rattle.answers.proofs.Answers.{done_not_refused}
use Rattle.mark_files.specs.Save
use Rattle.mark_files.specs.Save.{save_in}
use Rattle.mark_files.specs.Load.{outcome, load_says}
use Rattle.mark_files.specs.SearchFile.{search_file_says}
use Rattle.mark_files.specs.Cases.{SaveCase}
use Rattle.mark_files.proofs.SaveSays
use Rattle.mark_files.proofs.SearchFileSays
use Rattle.mark_files.proofs.LoadTheorems.{Handed}
use Rattle.mark_files.proofs.LoadTheorems

-- ── 'Given enough room, a saved file is accepted exactly when it is the one spelling of some word of 1 [2] to 1,024 [4,096] bytes with
--    that word's oracle,' ──

-- s is bytes, as whatever a caller hands over is; `spell_in e` is the spelling in the edition e, of which 02 has two, and `SavedIn e s`
-- says that s is that of some word within the limits
pub accepted-exactly : (s R T : List ℕ) → Bytes s
    → ((m : ℕ) × ((load_says s R T).answer ≡ done m))
    ↔ ((e : Edition) × (f : SavedIn e s) × (length f.word ≤ length R) × (room (length f.word) ≤ length T))
accepted-exactly s R T bytes = LoadTheorems.accepted-exactly R T s bytes

-- a search with a file accepts the same files
pub searched-exactly : (s : List ℕ) (text : Word) (R T : List ℕ) (F : List Place) → Bytes s → length text ≤ longest_text
    → ((t : Tally) × ((search_file_says s text R T F).answer ≡ done t))
    ↔ ((e : Edition) × (f : SavedIn e s) × (length f.word ≤ length R) × (room (length f.word) ≤ length T))
searched-exactly s text R T F = SearchFileSays.accepted-exactly s text R T F

-- the least file has least_saved + 3 bytes, and most_bytes are room enough for any
pub file-sizes : (e : Edition) (s : List ℕ) → SavedIn e s → (least_saved + 3 ≤ length s) × (length s ≤ most_bytes e)
file-sizes e s f =
    let some : 1 ≤ length f.word = omega (arith, saved-some, f.savable.least) in
    (least e f, rw f.file (most_bytes_lem e f.word some f.savable.most))
  where
    least : (e : Edition) → SavedIn e s → least_saved + 3 ≤ length s
    least plain g = size_least s ((plain-saved s).0 g)
    least checked g = omega (arith, least_bytes s g)

-- for every word within the limits, in either edition, and rooms R and T that are large enough for it
module _ (e : Edition) (word : Word) (R T : List ℕ) (least : least_saved ≤ length word) (most : length word ≤ longest_word)
    (fits : length word ≤ length R) (enough : room (length word) ≤ length T) where
  abbrev m : ℕ
  m = length word

  -- what falls short of a file or goes on behind it is none
  pub cut-file-refused : (n : ℕ) → n < length (spell_in e word) → (load_says (take n (spell_in e word)) R T).answer ≡ refused_at 5 n
  cut-file-refused = LoadTheorems.cut-refused R T e word least most fits enough

  pub longer-file-refused : (b : ℕ) (l : List ℕ)
      → (load_says (spell_in e word ++ b ∷ l) R T).answer ≡ refused_at 11 (length (spell_in e word))
  longer-file-refused = LoadTheorems.longer_refused_11 R T e word least most fits enough

  -- ── 'that word and oracle are handed over,' ──────────────────────────────

  pub handed-over : load_says (spell_in e word) R T ≡ outcome (done m) (word ++ drop m R) (table_of word ++ drop (room m) T)
  handed-over = LoadTheorems.file-loads R T e word least most fits enough

  pub oracle-handed-over : read_arrow m (take (room m) (load_says (spell_in e word) R T).tables) ≡ oracle word
  oracle-handed-over = LoadTheorems.loaded_arrows R T e word least most fits enough

-- ── 'saving a word writes that file,' ──────────────────────────────────────

pub saving_writes : (e : Edition) (word : Word) (T O : List ℕ) → least_saved ≤ length word → length word ≤ longest_word
    → room (length word) ≤ length T → length (spell_in e word) ≤ length O
    → take (length (spell_in e word)) (save_in e word T O).output ≡ spell_in e word
saving_writes e word T O least most enough out = (SaveSays.done-leaves e word T O least most enough out).file

-- Shut out: a saver that writes what no loader takes. Whatever saving writes is in the set of files
pub saves_files_only : (e : Edition) (word : Word) (T O : List ℕ) → Bytes word → {n : ℕ} → (save_in e word T O).answer ≡ done n
    → SavedIn e (take n (save_in e word T O).output)
saves_files_only e word T O bytes {n} = by ((SaveSays.save_is e word T O _).0 refl)
  where
    by : {o : Save.Outcome} → SaveCase e word T O o → o.answer ≡ done n → SavedIn e (take n o.output)
    by (SaveCase.on_empty_word h) q = done_not_refused (sym q)
    by (SaveCase.on_long_word h l) q = done_not_refused (sym q)
    by (SaveCase.on_short_word h l b) q = done_not_refused (sym q)
    by (SaveCase.on_short_room h l s) q = done_not_refused (sym q)
    by (SaveCase.on_short_output h l s o) q = done_not_refused (sym q)
    by (SaveCase.accepted h l s o) q =
        let size : length (spell_in e word) ≡ n = cc in
        let file = take_at (spell_in e word) (drop (length (spell_in e word)) O) n size in
        record { word = word; savable = record { bytes = bytes; least = h; most = l }; file = file }

-- ── 'and no two words share one.' ──────────────────────────────────────────

-- whichever editions they are saved in; and no file is of both
pub no_two_words_share : (e e' : Edition) (w w' : Word) → least_saved ≤ length w → length w ≤ longest_word
    → least_saved ≤ length w' → length w' ≤ longest_word → spell_in e w ≡ spell_in e' w' → w ≡ w'
no_two_words_share = word-told

pub no_file_of_both : (e e' : Edition) (w w' : Word) → spell_in e w ≡ spell_in e' w' → e ≡ e'
no_file_of_both = edition-told

-- ── 'This set of files is defined without the loader.' ─────────────────────

-- It is `SavedIn` of crates/editions/specs/Editions.antt, which says it with `spell` of crates/saved/specs/File.antt, with `check` of
-- crates/crc/specs/Check.antt and nothing of the loader: neither `saved` nor `crc` has ever seen it (crates.txt).

-- ── 'In each accepted oracle of a word of length m,' ───────────────────────

-- the file s was accepted, with m letters
module _ (s R T : List ℕ) (bytes : Bytes s) {m : ℕ} (accepted : (load_says s R T).answer ≡ done m) where
  -- the word that is handed over, and the arrows that are read from the tables that are left
  abbrev handed : Word
  handed = take m (load_says s R T).word

  abbrev arrows : Delta
  arrows = read_arrow m (take (room m) (load_says s R T).tables)

  H : Handed s (load_says s R T) m
  H = LoadTheorems.loaded_hands R T s bytes accepted

  -- ── 'every factor can be walked from state 0,' ───────────────────────────

  pub every_factor_walked : (v : Word) → Factor v handed → (y : State) × (walk arrows 0 v ≡ some y)
  every_factor_walked v f = rw H.arrows (Theorems.factor_walked handed v f)

  -- ── 'the word itself is the only walk of length m, no walk is longer,' ───

  pub word-walked : walk arrows 0 handed ≡ some m
  word-walked = rw H.arrows (Theorems.word-walked handed ∙ ap some H.size)

  pub only_walk : (v : Word) (y : State) → walk arrows 0 v ≡ some y → length v ≡ m → v ≡ handed
  only_walk v y e n = Theorems.only_walk handed v y (rw H.arrows at e) (n ∙ sym H.size)

  pub no_longer_walk : (v : Word) (y : State) → walk arrows 0 v ≡ some y → length v ≤ m
  no_longer_walk v y e = rw H.size at (Theorems.no_longer_walk handed v y (rw H.arrows at e))

  -- ── 'and there are m to 2m-1 arrows.' ────────────────────────────────────

  -- they are those of a list that has no two from a state on a letter, and so none twice
  pub arrows-counted : (A : List Arrow) × OneEach A
      × ((x : State) (c : Letter) (y : State) → (arrows x c ≡ some y) ↔ Memᴰ (arrow x c y) A)
      × (m ≤ length A) × (length A ≤ 2 * m - 1)
  arrows-counted =
      let A = suffix_rule handed in
      let one = Theorems.suffix_rule-one_each handed in
      let between = Theorems.arrows-between handed in
      let least : m ≤ length A = omega (arith, between, H.size) in
      let most : length A ≤ 2 * m - 1 = omega (arith, between, H.size) in
      (A, one, rw H.arrows (λ x c y. (λ e. target_member A x c y e, λ i. member_target A one i)), least, most)

  -- ── Shut out: a loader that accepts rightly and hands over another word ──

  -- the file is the one of the word that is left in the room
  pub hands_over_its_word : s ≡ spell_in (edition_at s 0) handed
  hands_over_its_word = H.file

-- for two different words within the limits, saved in any two editions
module _ (e e' : Edition) (w w' : Word) (least : least_saved ≤ length w) (most : length w ≤ longest_word)
    (least' : least_saved ≤ length w') (most' : length w' ≤ longest_word)
    (differ : w ≡ w' → ⊥) (R T : List ℕ) (enough : room (length w) ≤ length T) (enough' : room (length w') ≤ length T) where
  -- ── Shut out: a loader that answers the same for all files ───────────────

  -- two words' files have two outcomes; and beginnings of them another answer, by `cut-file-refused`
  pub loads-differ : length w ≤ length R → length w' ≤ length R → load_says (spell_in e w) R T ≡ load_says (spell_in e' w') R T → ⊥
  loads-differ fits fits' q = differ (LoadTheorems.loads-apart R T e e' w w' least most fits enough least' most' fits' enough' q)

  -- ── Shut out: a saver that writes one good file for every word ───────────

  -- the files that are written for two words differ
  pub saves_differ : (O : List ℕ) → length (spell_in e w) ≤ length O → length (spell_in e' w') ≤ length O
      → take (length (spell_in e w)) (save_in e w T O).output ≡ take (length (spell_in e' w')) (save_in e' w' T O).output → ⊥
  saves_differ O out out' q =
      let file = saving_writes e w T O least most enough out in
      let file' = saving_writes e' w' T O least' most' enough' out' in
      differ (word-told e e' w w' least most least' most' (sym file ∙ q ∙ file'))
