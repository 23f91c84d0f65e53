-- THE THEOREMS on files and their loading, each a sentence about the definitions alone: the files that are accepted are exactly the words'
-- files; no two words have the same file; what is cut off or goes on is refused; and each way is gone exactly when it applies.
use mathlib.Core.Path.{◌≡◌, refl, sym, ◌∙◌}
use mathlib.Core.Logic.{◌⊎◌, ◌↔◌}
use mathlib.Core.List.{List, ◌∷◌, ◌++◌}
use Prim.Native.Nat.{ℕ, suc, ◌+◌, ◌≤◌, ◌<◌}
use native.Mathlib.Omega.{arith}
use lib.ListN.{length, take, drop}
use lib.Seq.{split_at, length-take-le}
use Rattle.words.specs.Lists.{at}
use Rattle.words.specs.Words.{Word, Place}
use Rattle.words.specs.Limits.{least_saved, longest_word}
use Rattle.number.specs.Number.{Bytes}
use Rattle.saved.specs.File.{spell, Savable, Saved}
use Rattle.loaded.specs.Load.{Front, letters, stop, front_at, front, Ending, behind, ending, Verdict, wrong, verdict}
use Rattle.loaded.specs.Accepts.{ShownAt, Judged, Accepts, FileOf}
use Rattle.loaded.specs.Cases.{FrontCaseAt, FrontCase, EndingCase, VerdictCase}
use Rattle.loaded.proofs.Cases.{front_case, case_front, ending_case, case_ending, verdict_case, case_verdict}
use Rattle.loaded.proofs.Accepted.{spelled-shown, spelled-accepted, spelled-left}
use Rattle.loaded.proofs.OnlyFiles.{shown_stood, accepted_stood}
use Rattle.loaded.proofs.CutAndLonger.{shorter_cut}

-- ── 1. Exactly the words' files are accepted ───────────────────────────────

-- the file of a word within the limit is accepted, and shows that word
pub file-accepted : (w : Word) → least_saved ≤ length w → length w ≤ longest_word → Accepts (spell w) w
file-accepted w least most = spelled-accepted w least most (spell w) refl

-- a file that is accepted is the file of the word that it shows, and that word is one of bytes within the limit
pub only_files : (s : List ℕ) → Bytes s → {w : Word} → Accepts s w → FileOf s w
only_files s bytes a = accepted_stood s bytes a

-- both at once, for one word
pub accepted-exactly : (s : List ℕ) → Bytes s → (w : Word) → Accepts s w ↔ FileOf s w
accepted-exactly s bytes w = (λ a. only_files s bytes a, λ f. spelled-accepted w f.savable.least f.savable.most s f.file)

-- and for all words: some word is shown and accepted exactly if the file is in the set of files
pub saved-exactly : (s : List ℕ) → Bytes s → ((w : Word) × Accepts s w) ↔ Saved s
saved-exactly s bytes = (
  λ a. let f = only_files s bytes a.1 in record { word = a.0; savable = f.savable; file = f.file },
  λ f. (f.word, spelled-accepted f.word f.savable.least f.savable.most s f.file),
)

-- ── 2. A file among other bytes ────────────────────────────────────────────

-- the file of a word within the limit is read wherever it stands, and ends where it ends
pub file-shown-at : (s : List ℕ) (o : Place) (w : Word) (l : List ℕ) → least_saved ≤ length w → length w ≤ longest_word
    → drop o s ≡ spell w ++ l → ShownAt s o w (behind (o + length (spell w)))
file-shown-at s o w l least most e = spelled-shown w least most s o l e

-- what is read as a file from place o on is the file of the word that it shows, and ends where that ends
pub only_files_at : (s : List ℕ) → Bytes s → (o : Place) {w : Word} {p : Place} → ShownAt s o w (behind p)
    → Savable w × (drop o s ≡ spell w ++ drop p s) × (p ≡ o + length (spell w))
only_files_at s bytes o {w} {p} a =
    let S = shown_stood s bytes a in
    let b = spelled-shown w S.savable.least S.savable.most s o (drop p s) S.there in
    let same : letters (length w) a.place ≡ letters (length w) b.place = sym a.shown ∙ b.shown in
    let place : a.place ≡ b.place = cc in
    let ends : behind p ≡ behind (o + length (spell w)) = sym a.judged ∙ rw place b.judged in
    (S.savable, S.there, cc)

-- ── 3. No two words have the same file ────────────────────────────────────

-- a file shows one word
pub one_word : {s : List ℕ} {w w' : Word} {v v' : Verdict} → Judged s w v → Judged s w' v' → w ≡ w'
one_word {s} {w} {w'} a b =
    let same : letters (length w) a.place ≡ letters (length w') b.place = sym a.shown ∙ b.shown in
    let size : length w ≡ length w' = cc in
    let place : a.place ≡ b.place = cc in
    a.word ∙ rw (size, place) (sym b.word)

-- words with the same file are the same
pub spell_injective : (w w' : Word) → least_saved ≤ length w → length w ≤ longest_word → least_saved ≤ length w' → length w' ≤ longest_word
    → spell w ≡ spell w' → w ≡ w'
spell_injective w w' least most least' most' e = one_word (file-accepted w least most) (spelled-accepted w' least' most' (spell w) e)

-- ── 4. Beginnings and longer files ─────────────────────────────────────────

module _ (w : Word) (least : least_saved ≤ length w) (most : length w ≤ longest_word) where
  -- every proper beginning of a file shows 5 at its end: before the letters are all there, or behind them
  pub beginning_refused : (n : ℕ) → n < length (spell w) → let s = take n (spell w) in (front s ≡ stop 5 n) ⊎ Judged s w (wrong 5 n)
  beginning_refused n h =
      let s = take n (spell w) in
      let size : length s ≡ n = length-take-le n (spell w) (omega arith) in
      let b = at (spell w) n in
      let l = drop (suc n) (spell w) in
      let whole : Accepts (s ++ b ∷ l) w = spelled-accepted w least most (s ++ b ∷ l) (sym (split_at (spell w) n 0 h)) in
      rw size at (shorter_cut s b l whole)

  -- every longer file shows the same word, and then 11 where the word's file ends
  pub longer-refused : (b : ℕ) (l : List ℕ) → Judged (spell w ++ b ∷ l) w (wrong 11 (length (spell w)))
  longer-refused b l = spelled-left w least most b l

-- ── 5. Exactly when ────────────────────────────────────────────────────────

-- what a file shows up to its letters, by cases on its bytes
pub front_at_is : (s : List ℕ) (o : Place) (f : Front) → (front_at s o ≡ f) ↔ FrontCaseAt s o f
front_at_is s o f = (λ e. rw e at (front_case s o), λ c. case_front s c)

pub front_is : (s : List ℕ) (f : Front) → (front s ≡ f) ↔ FrontCase s f
front_is s = front_at_is s 0

-- what it shows behind them, where bytes may follow
pub ending_is : (s : List ℕ) (i : Place) (w : Word) (e : Ending) → (ending s i w ≡ e) ↔ EndingCase s i w e
ending_is s i w e = (λ q. rw q at (ending_case s i w), λ c. case_ending s c)

-- and where nothing may
pub verdict_is : (s : List ℕ) (i : Place) (w : Word) (v : Verdict) → (verdict s i w ≡ v) ↔ VerdictCase s i w v
verdict_is s i w v = (λ e. rw e at (verdict_case s i w), λ c. case_verdict s c)
