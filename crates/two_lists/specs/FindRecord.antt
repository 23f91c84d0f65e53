-- THE FIND RECORD: what every search lists of a find, in two lists of the caller's side by side.
--
--   Find          where a mark was found, and the number of the mark: 0 where one alone is looked for
--   starts_of l, numbers_of l
--                 the two columns of a list of finds
--   of_mark j l    the finds of mark j, at the starts l
--   Lists         the two lists of the caller's: one for starts, one for numbers of marks
--   listed l F    the lists F with the first of the finds l in them, as many as fit the shorter, and their other entries as they were
--   alone l F     the same of one mark that is looked for alone and found at the starts l
--
-- 02, 'Sets of marks'.
use Rattle.std.specs.Prelude.{List, map, ℕ}
use Rattle.words.specs.Words.{Place}
use Rattle.two_lists.specs.TwoLists.{fit_both, filled_to}

pub record Find : Type 0 where
  pub start : Place
  pub mark : ℕ

abbrev pub find : Place → ℕ → Find
find s j = record { start = s; mark = j }

abbrev pub starts_of : List Find → List Place
starts_of l = map (λ (f : Find). f.start) l

abbrev pub numbers_of : List Find → List ℕ
numbers_of l = map (λ (f : Find). f.mark) l

abbrev pub of_mark : ℕ → List Place → List Find
of_mark j l = map (λ s. find s j) l

pub record Lists : Type 0 where
  pub starts : List Place
  pub numbers : List ℕ

abbrev pub lists : List Place → List ℕ → Lists
lists S G = record { starts = S; numbers = G }

unfoldable pub listed : List Find → Lists → Lists
listed l F =
    let n = fit_both F.starts F.numbers in
    lists (filled_to n (starts_of l) F.starts) (filled_to n (numbers_of l) F.numbers)

abbrev pub alone : List Place → Lists → Lists
alone l F = listed (of_mark 0 l) F
