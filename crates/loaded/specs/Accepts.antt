-- WHAT LOADING A FILE OF EDITION 1 COMES TO, room aside: `front` refuses, or a word is shown and then judged by its arrows. And what a file
-- is.
--
--   ShownAt s o w e    the file that stands in s from place o on shows the word w, and then e on its arrows
--   Judged s w v       loading the file s shows the word w, and then v on its arrows
--   Accepts s w        it shows w and refuses nothing
--   FileOf s w         s is the file of w, a word of bytes within the limits
--
-- 01, 'When the library says no'; demand 3.
use Rattle.std.specs.Prelude.{◌≡◌, List, ℕ, ◌+◌, length}
use Rattle.words.specs.Words.{Word, Place, part}
use Rattle.saved.specs.File.{spell, Savable}
use Rattle.loaded.specs.Load.{letters, front_at, front, Ending, ending, Verdict, right, verdict}

-- `place` is where the letters stand
pub record ShownAt (s : List ℕ) (o : Place) (w : Word) (e : Ending) : Type 0 where
  pub place : Place
  pub shown : front_at s o ≡ letters (length w) place
  pub word : w ≡ part s place (length w)
  pub judged : ending s (place + length w) w ≡ e

pub record Judged (s : List ℕ) (w : Word) (v : Verdict) : Type 0 where
  pub place : Place
  pub shown : front s ≡ letters (length w) place
  pub word : w ≡ part s place (length w)
  pub judged : verdict s (place + length w) w ≡ v

abbrev pub Accepts : List ℕ → Word → Type 0
Accepts s w = Judged s w right

pub record FileOf (s : List ℕ) (w : Word) : Type 0 where
  pub savable : Savable w
  pub file : s ≡ spell w
