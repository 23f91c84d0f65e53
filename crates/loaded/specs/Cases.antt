-- THE WAYS OF LOADING, one constructor each, with what the bytes have to be for it: so each refusal reads as 01's 'given exactly when'. The
-- theorems show that `front_at`, `ending` and `verdict` go such a way exactly when it applies.
--
--   Reads s i v j           the number v is read at place i of the file s, and j is the place behind it: in a file of bytes exactly if its
--                           one spelling stands there (`number/Theorems/value-exactly`)
--   Unread s i r p          none is read there: 5 where the file ends before or inside it, 6 where a byte is refused, and the place p where
--                           that shows; `number_at` refuses exactly so (`number/Theorems/cut-exactly`, `number/Theorems/bad-exactly`)
--   BadLength m             no word that is saved has m letters
--   FrontCaseAt s o f       what the file that stands in s from place o on shows up to its letters
--   FrontCase s f           the same of a file that is all of s
--   ArrowsCase s i n l e    what n declared arrows from place i on show, where l are the word's own that are left
--   EndingCase s i w e      what s shows from place i on, where the number of arrows stands, for the word w
--   VerdictCase s i w v     the same where nothing may follow
--
-- 01, 'When the library says no'.
use Rattle.std.specs.Prelude.{◌≡◌, ◌⊎◌, List, [], ◌∷◌, ℕ, zero, suc, ◌+◌, ◌-◌, ◌≤◌, ◌<◌, length, Ok}
use Rattle.words.specs.Words.{Word, Place}
use Rattle.words.specs.Limits.{least_saved, longest_word}
use Rattle.number.specs.Number.{number_at}
use Rattle.number.specs.Exactly.{CutOff, BadByte}
use Rattle.saved.specs.File.{edition, Step, own_steps}
use Rattle.loaded.specs.Load.{Front, letters, stop, Ending, behind, broken, Verdict, right, wrong}

-- ── A number ───────────────────────────────────────────────────────────────

abbrev pub Reads : List ℕ → Place → ℕ → Place → Type 0
Reads s i v j = number_at s i ≡ Ok (record { value = v; next = record { at = j } })

pub data Unread (s : List ℕ) (i : Place) : ℕ → Place → Type 0 where
  cut_off : CutOff s i → Unread s i 5 (length s)
  bad_byte : {p : Place} → BadByte s i p → Unread s i 6 p

-- ── Up to the letters ──────────────────────────────────────────────────────

abbrev pub BadLength : ℕ → Type 0
BadLength m = (m < least_saved) ⊎ (longest_word < m)

pub data FrontCaseAt (s : List ℕ) (o : Place) : Front → Type 0 where
  edition_unread : {r : ℕ} {p : Place} → Unread s o r p → FrontCaseAt s o (stop r p)
  edition_other : {e : ℕ} {i : Place} → Reads s o e i → (e ≡ edition → ⊥) → FrontCaseAt s o (stop 7 o)
  length_unread : {i : Place} {r : ℕ} {p : Place} → Reads s o edition i → Unread s i r p → FrontCaseAt s o (stop r p)
  length_bad : {i : Place} {m : ℕ} {j : Place} → Reads s o edition i → Reads s i m j → BadLength m → FrontCaseAt s o (stop 8 i)
  letters_missing : {i : Place} {m : ℕ} {j : Place} → Reads s o edition i → Reads s i m j → least_saved ≤ m → m ≤ longest_word
      → length s < j + m → FrontCaseAt s o (stop 5 (length s))
  letters-there : {i : Place} {m : ℕ} {j : Place} → Reads s o edition i → Reads s i m j → least_saved ≤ m → m ≤ longest_word
      → j + m ≤ length s → FrontCaseAt s o (letters m j)

abbrev pub FrontCase : List ℕ → Front → Type 0
FrontCase s = FrontCaseAt s 0

-- ── Behind them ────────────────────────────────────────────────────────────

-- `arrow_agrees` is the way past one arrow; each other constructor is an end
pub data ArrowsCase (s : List ℕ) : Place → ℕ → List Step → Ending → Type 0 where
  arrow_agrees : {i : Place} {n : ℕ} {j k : Place} {t : Step} {l : List Step} {v : Ending} → Reads s i t.up j → Reads s j t.over k
      → ArrowsCase s k n l v → ArrowsCase s i (suc n) (t ∷ l) v
  up_unread : {i : Place} {n : ℕ} {l : List Step} {r : ℕ} {p : Place} → Unread s i r p → ArrowsCase s i (suc n) l (broken r p)
  over_unread : {i : Place} {n : ℕ} {l : List Step} {a : ℕ} {j : Place} {r : ℕ} {p : Place} → Reads s i a j → Unread s j r p
      → ArrowsCase s i (suc n) l (broken r p)
  arrow_differs : {i : Place} {n a : ℕ} {j : Place} {b : ℕ} {k : Place} {t : Step} {l : List Step} → Reads s i a j → Reads s j b k
      → (a ≡ t.up → b ≡ t.over → ⊥) → ArrowsCase s i (suc n) (t ∷ l) (broken 10 i)
  no_arrow_left : {i : Place} {n a : ℕ} {j : Place} {b : ℕ} {k : Place} → Reads s i a j → Reads s j b k
      → ArrowsCase s i (suc n) [] (broken 10 i)
  arrows_missing : {i : Place} {t : Step} {l : List Step} → ArrowsCase s i zero (t ∷ l) (broken 10 i)
  all_agree : {i : Place} → ArrowsCase s i zero [] (behind i)

pub data EndingCase (s : List ℕ) (i : Place) (w : Word) : Ending → Type 0 where
  count_unread : {r : ℕ} {p : Place} → Unread s i r p → EndingCase s i w (broken r p)
  count_too_large : {n : ℕ} {j : Place} → Reads s i n j → length w - 1 < n → EndingCase s i w (broken 9 i)
  count_fits : {n : ℕ} {j : Place} {v : Ending} → Reads s i n j → n ≤ length w - 1 → ArrowsCase s j n (own_steps w) v → EndingCase s i w v

-- ── Where nothing may follow ───────────────────────────────────────────────

pub data VerdictCase (s : List ℕ) (i : Place) (w : Word) : Verdict → Type 0 where
  arrows_wrong : {r : ℕ} {p : Place} → EndingCase s i w (broken r p) → VerdictCase s i w (wrong r p)
  leftovers : {p : Place} → EndingCase s i w (behind p) → p < length s → VerdictCase s i w (wrong 11 p)
  all_read : {p : Place} → EndingCase s i w (behind p) → length s ≤ p → VerdictCase s i w right
