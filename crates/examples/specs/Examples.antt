-- The worked examples that 01 marks P, and those of 02 that the definitions can compute, as one table, and the test that each must pass on
-- the definitions.
--
--   Example         one line of their lists
--   holds e         whether the definitions say what the line says
--   word s          a word, written in its letters
--   bytes s         a file, written in hexadecimal digits
--   table           the lines
--   all_hold l      whether every one of them holds
--
-- 01, 'Examples to hold against the rules'; 02.
use Rattle.std.specs.Prelude.{Bool, true, false, ◌&&◌, cond, List, [], ◌∷◌, ◌++◌, ℕ, suc, pred, ◌+◌, ◌*◌, ◌-◌, length, replicate, eqb, ltb}
use Rattle.std.proofs.Math.Option.{Option, none, some}
use Prim.Native.Char.{code}
use Prim.Native.String.{String}
use Rattle.words.specs.Words.{Word, Place, letter, mirror, same, occurrences}
use Rattle.words.specs.Limits.{longest_word}
use Rattle.oracle.specs.Arrows.{State, Delta, target, walk}
use Rattle.oracle.specs.SuffixRule.{suffix_rule, extra_arrows, oracle}
use Rattle.oracle.specs.LetterRule.{supply_made, letter_rule}
use Rattle.oracle.specs.Supply.{supply}
use Rattle.oracle.specs.FileOrder.{Extra, extra}
use Rattle.backward.specs.Steps.{backward}
use Rattle.turbo_steps.specs.Turbo.{turbo}
use Rattle.table.specs.Table.{room, table_of}
use Rattle.failure.specs.FailureRule.{Fails, failure_of, symbols, ask_in, failure_rule, failure_walk}
use Rattle.failure.specs.FailureSteps.{failure_steps}
use Rattle.failure_table.specs.FailureTable.{failure_room, failure_table}
use Rattle.storacle.specs.StoracleRule.{storacle_rule, storacle}
use Rattle.storacle_table.specs.StoracleTable.{storacle_room, storacle_table}
use Rattle.storacle_entries.specs.StoracleBuild.{storacle_build_says}
use Rattle.compact.specs.Compact.{sets_room, compact_room, compact_sets, compact_table}
use Rattle.compact_entries.specs.CompactBuild.{compact_build_says}
use Rattle.compact_entries.specs.CompactSearch.{compact_search_says}
use Rattle.saved.specs.File.{spell}
use Rattle.loaded.specs.Load.{Front, letters, stop}
use Rattle.crc.specs.Check.{check}
use Rattle.editions.specs.Editions.{Edition, plain, checked, spell_in, most_bytes}
use Rattle.editions.specs.Either.{front_either}
use Rattle.answers.specs.Answers.{Answer, done, refused, refused_at}
use Rattle.mark_files.specs.Load.{Outcome, load_says}
use Rattle.mark_files.specs.Save.{save_in}
use Rattle.finds.specs.declared.Tally.{Tally}
use Rattle.finds.specs.Finds.{filled}
use Rattle.rides.specs.Rides.{dot_fit, rides, starts, kinds}
use Rattle.salvage.specs.Salvage.{dot_fit_room, salvage_says}
use Rattle.stream.specs.declared.Searcher.{Searcher}
use Rattle.stream.specs.Pieces.{joined}
use Rattle.stream.specs.Opening.{open_says}
use Rattle.stream.specs.Taking.{take_says}

-- an extra arrow as 01 writes it, 0-2: its letter is that of the state it leads to
abbrev pub ◌to◌ : State → State → Extra
◌to◌ x y = extra x y

infix 70 ◌to◌
pub data Example : Type 0 where
  -- a word's extra arrows, the number of all arrows, the supplies of 1 to m
  arrows_of : (word : Word) (extra : List Extra) (in_all : ℕ) (supplies : List State) → Example
  -- a word whose oracle walks another that does not stand in it
  accepts_no_factor : (word walked : Word) → Example
  -- a word and a text, the starts of the occurrences, the letters read
  search : (word text : Word) (starts : List Place) (letters : ℕ) → Example
  -- the same of the Turbo search
  turbo_search : (word text : Word) (starts : List Place) (letters : ℕ) → Example
  -- a word's failure oracle: how many symbol arrows it has, and its failure arrows
  failure_arrows_of : (word : Word) (symbol_arrows : ℕ) (failures : List Extra) → Example
  -- where it walks another word to, and the failure arrows taken
  failure_walks : (word walked : Word) (end : State) (taken : ℕ) → Example
  -- a state of it to which symbol arrows lead back, and the letters on the way
  symbol_cycle : (word : Word) (state : State) (round : Word) → Example
  -- the first rows of its table, those behind them being zero
  failure_rows : (word : Word) (rows : List (List ℕ)) → Example
  -- a word and a text, the starts of the occurrences, the letters read and the failure arrows taken
  failure_search : (word text : Word) (starts : List Place) (letters failures : ℕ) → Example
  -- a word's storacle: all its arrows, those of the spine too
  storacle_of : (word : Word) (arrows : List Extra) → Example
  -- a word whose storacle walks another that does not stand in it
  storacle_no_factor : (word walked : Word) → Example
  -- how many arrows it has in all
  storacle_counts : (word : Word) (in_all : ℕ) → Example
  -- the first rows of its table, those behind them being zero
  storacle_rows : (word : Word) (rows : List (List ℕ)) → Example
  -- a word, so many entries lent, and the number with which its storacle is refused
  storacle_refused : (word : Word) (entries number : ℕ) → Example
  -- a word's compact rows: its words, and its entries row by row
  compact_rows_of : (word : Word) (words : List ℕ) (rows : List (List ℕ)) → Example
  -- a word and a text, searched with compact rows in rooms for just these: the starts of the occurrences, the letters read
  compact_search : (word text : Word) (starts : List Place) (letters : ℕ) → Example
  -- a word, refused with a number in so many words and entries, which leaves them as they were
  compact_refused : (word : Word) (words entries number : ℕ) → Example
  -- a word and its whole file
  file_of : (word : Word) (file : List ℕ) → Example
  -- the check of a string of bytes
  check_of : (string : List ℕ) (value : ℕ) → Example
  -- a word and its whole file in edition 2
  checked_file_of : (word : Word) (file : List ℕ) → Example
  -- a word that saving refuses in either edition, and the number, in no room and in rooms for its table and for any file; it leaves them as
  -- they were
  save_refused : (word : Word) (number : ℕ) → Example
  -- a file that is loaded, and the word that it hands over with its table, in rooms for just these
  loads : (file : List ℕ) (word : Word) → Example
  -- bytes that are no file, and the number and offset with which load refuses them before it looks at the rooms
  load_refused : (file : List ℕ) (number : ℕ) (offset : Place) → Example
  -- the same of bytes that show m letters, in rooms for so many
  arrows_refused : (file : List ℕ) (m number : ℕ) (offset : Place) → Example
  -- bytes that show more letters than m, refused in rooms for m with a number that has no offset
  room_refused : (file : List ℕ) (m number : ℕ) → Example
  -- the first bytes of a file which, with so many letters behind them, is let through to the next field
  let_through : (start : List ℕ) (m : ℕ) → Example
  -- a word and the pieces of a text, what is found in each of them, and how many letters are kept at the end
  in_pieces : (word : Word) (pieces : List Word) (found : List (List Place)) (keep : ℕ) → Example
  -- a text, and where its rides begin and their kinds
  rides_of : (text : Word) (begin kind : List ℕ) → Example
  -- a text, two lists, how many rides are counted, and the lists as they are left; the tables are those of `.FIT`'s mirror
  salvages : (text : Word) (S K : List ℕ) (count : ℕ) (S' K' : List ℕ) → Example
  -- a text, refused with a number in so many table entries, which leaves them and both lists as they were
  salvage_refused : (text : Word) (entries number : ℕ) → Example

unfoldable pub is : Option ℕ → ℕ → Bool
is none y = false
is (some x) y = eqb x y

unfoldable pub is_none : Option ℕ → Bool
is_none none = true
is_none (some x) = false

unfoldable pub walked : Option State → Bool
walked none = false
walked (some y) = true

unfoldable pub empty : List Place → Bool
empty [] = true
empty (s ∷ l) = false

-- each of the arrows is one of δ over p
unfoldable pub has : Delta → Word → List Extra → Bool
has δ p [] = true
has δ p (a ∷ l) = is (δ a.source (letter p (pred a.to))) a.to && has δ p l

-- each of the failure arrows is one of φ
unfoldable pub fails_to : Fails → List Extra → Bool
fails_to φ [] = true
fails_to φ (f ∷ l) = is (φ f.source) f.to && fails_to φ l

-- S gives these states to i, i + 1, ..
unfoldable pub gives : (State → Option State) → State → List State → Bool
gives S i [] = true
gives S i (y ∷ l) = is (S i) y && gives S (suc i) l

unfoldable pub is_refused : Answer ℕ → ℕ → Bool
is_refused (done m) n = false
is_refused (refused r) n = eqb r n
is_refused (refused_at r p) n = false

unfoldable pub is_refused_at : Answer ℕ → ℕ → Place → Bool
is_refused_at (done m) n p = false
is_refused_at (refused r) n p = false
is_refused_at (refused_at r q) n p = eqb r n && eqb q p

-- load, lent the rooms of a word of m letters, a 9 in each entry
unfoldable pub load_in_rooms : List ℕ → ℕ → Outcome
load_in_rooms f m = load_says f (replicate m 9) (replicate (room m) 9)

-- v is left in each entry of these rooms
unfoldable pub leaves : ℕ → ℕ → Outcome → Bool
leaves m v o = same o.word (replicate m v) && same o.tables (replicate (room m) v)

-- save, lent t table entries and o bytes of output, a 9 in each, refuses the word with the number n in the edition e and leaves them so
unfoldable pub refuses_in : Edition → Word → ℕ → ℕ → ℕ → Bool
refuses_in e p n t o =
    let T : List ℕ = replicate t 9 in
    let O : List ℕ = replicate o 9 in
    let said = save_in e p T O in
    is_refused said.answer n && (same said.tables T && same said.output O)

unfoldable pub refuses_to_save : Word → ℕ → ℕ → ℕ → Bool
refuses_to_save p n t o = refuses_in plain p n t o && refuses_in checked p n t o

-- m letters that start at place i
unfoldable pub shows : Front → ℕ → Place → Bool
shows (letters n j) m i = eqb n m && eqb j i
shows (stop n j) m i = false

unfoldable pub is_done_with : Answer ℕ → ℕ → Bool
is_done_with (done m) n = eqb m n
is_done_with (refused r) n = false
is_done_with (refused_at r p) n = false

unfoldable pub is_tallied : Answer Tally → ℕ → ℕ → Bool
is_tallied (done t) c n = eqb t.count c && eqb t.letters n
is_tallied (refused r) c n = false
is_tallied (refused_at r p) c n = false

-- the pieces are taken in turn from s on, with a list of three entries
unfoldable pub taken_in_turn : Searcher → List Word → List (List Place) → ℕ → Bool
taken_in_turn s [] [] k = eqb s.keep k
taken_in_turn s [] (f ∷ g) k = false
taken_in_turn s (v ∷ l) [] k = false
taken_in_turn s (v ∷ l) (f ∷ g) k =
    let o = take_says s v (9 ∷ 9 ∷ 9 ∷ []) in
    is_done_with o.answer (length f) && (same o.list (filled f (9 ∷ 9 ∷ 9 ∷ [])) && taken_in_turn o.next l g k)

unfoldable pub holds : Example → Bool
holds (arrows_of p extra n l) =
    let rule = letter_rule p in
    has (oracle p) p extra
    && (has (target rule.arrows) p extra
    && (eqb (length (extra_arrows p)) (length extra)
    && (eqb (length (suffix_rule p)) n
    && (eqb (length rule.arrows) n
    && (is_none (supply p 0)
    && (gives (supply p) 1 l
    && (is_none (supply_made rule 0)
    && gives (supply_made rule) 1 l)))))))
holds (accepts_no_factor p v) = walked (walk (oracle p) 0 v) && empty (occurrences v p)
holds (search w t starts n) =
    let r = backward w t in
    same r.starts starts && (eqb r.letters n && same (occurrences w t) starts)
holds (turbo_search w t starts n) =
    let r = turbo w t in
    same r.starts starts && (eqb r.letters n && same (occurrences w t) starts)
holds (failure_arrows_of p n l) =
    let A = failure_rule p in
    eqb (length (symbols p A)) n && (eqb (length A.failures) (length l) && fails_to (failure_of A.failures) l)
holds (failure_walks p v y n) =
    let r = failure_walk (ask_in p (failure_rule p)) 0 v in
    is r.to y && eqb r.taken n
holds (symbol_cycle p x v) = is (walk (target (symbols p (failure_rule p))) x v) x
holds (failure_rows p rows) =
    let front = joined rows in
    same (failure_table p) (front ++ replicate (failure_room (length p) - length front) 0)
holds (failure_search w t starts n f) =
    let r = failure_steps w t in
    same r.starts starts && (eqb r.letters n && (eqb r.failures f && same (occurrences w t) starts))
holds (storacle_of p l) = eqb (length (storacle_rule p)) (length l) && has (storacle p) p l
holds (storacle_no_factor p v) = walked (walk (storacle p) 0 v) && empty (occurrences v p)
holds (storacle_counts p n) = eqb (length (storacle_rule p)) n
holds (storacle_rows p rows) =
    let front = joined rows in
    same (storacle_table p) (front ++ replicate (storacle_room (length p) - length front) 0)
holds (storacle_refused p e n) =
    let o = storacle_build_says p (replicate e 9) in
    is_refused o.answer n && same o.tables (replicate e 9)
holds (compact_rows_of p words rows) = same (compact_sets p) words && same (compact_table p) (joined rows)
holds (compact_search w t starts n) =
    let m = length w in
    let o = compact_search_says w t (replicate (sets_room m) 9) (replicate (compact_room m) 9) (replicate (length starts) 9) in
    is_tallied o.answer (length starts) n
    && (same o.sets (compact_sets (mirror w)) && (same o.tables (compact_table (mirror w)) && same o.finds starts))
holds (compact_refused p k e n) =
    let o = compact_build_says p (replicate k 9) (replicate e 9) in
    is_refused o.answer n && (same o.sets (replicate k 9) && same o.tables (replicate e 9))
holds (file_of p f) = same (spell p) f
holds (check_of l c) = eqb (check l) c
holds (checked_file_of p f) = same (spell_in checked p) f
holds (save_refused p n) = refuses_to_save p n 0 0 && refuses_to_save p n (room (length p)) (most_bytes checked)
holds (loads f p) =
    let m = length p in
    let o = load_in_rooms f m in
    is_done_with o.answer m && (same o.word p && same o.tables (table_of p))
-- the rooms of no letter, too short for any word, and those of three letters: these refusals come before 3
holds (load_refused f n p) =
    let none = load_in_rooms f 0 in
    let three = load_in_rooms f 3 in
    is_refused_at none.answer n p && (leaves 0 9 none && (is_refused_at three.answer n p && leaves 3 9 three))
holds (arrows_refused f m n p) =
    let o = load_in_rooms f m in
    is_refused_at o.answer n p && leaves m 0 o
holds (room_refused f m n) =
    let o = load_in_rooms f m in
    is_refused o.answer n && leaves m 9 o
holds (let_through start m) = shows (front_either longest_word (start ++ replicate m 97) 0) m (length start)
holds (in_pieces w l found k) = taken_in_turn (open_says w).searcher l found k
holds (rides_of t s k) = same (starts (rides t)) s && same (kinds (rides t)) k
holds (salvages t S K n S' K') =
    let o = salvage_says t (replicate dot_fit_room 9) S K in
    is_done_with o.answer n && (same o.tables (table_of (mirror dot_fit)) && (same o.starts S' && same o.kinds K'))
holds (salvage_refused t e n) =
    let o = salvage_says t (replicate e 9) (9 ∷ []) (9 ∷ []) in
    is_refused o.answer n && (same o.tables (replicate e 9) && (same o.starts (9 ∷ []) && same o.kinds (9 ∷ [])))

unfoldable pub all_hold : List Example → Bool
all_hold [] = true
all_hold (e ∷ l) = holds e && all_hold l

-- the letters of a text as 01 writes it: 97 for a
unfoldable pub word : String → Word
word String.[] = []
word (String.◌∷◌ c s) = code c ∷ word s

-- the number that a hexadecimal digit stands for, 0 to 9 and A to F
unfoldable pub digit : ℕ → ℕ
digit c = cond (ltb c 65) (c - 48) (c - 55)

-- the bytes of a file as 01 writes it, 61 for 97: two digits for each, a gap before the next
unfoldable pub bytes : String → List ℕ
bytes String.[] = []
bytes (String.◌∷◌ h String.[]) = digit (code h) ∷ []
bytes (String.◌∷◌ h (String.◌∷◌ l String.[])) = (16 * digit (code h) + digit (code l)) ∷ []
bytes (String.◌∷◌ h (String.◌∷◌ l (String.◌∷◌ gap s))) = (16 * digit (code h) + digit (code l)) ∷ bytes s

unfoldable pub table : List Example
table =
    arrows_of (word "a") [] 1 (0 ∷ [])
    ∷ arrows_of (word "aaa") [] 3 (0 ∷ 1 ∷ 2 ∷ [])
    ∷ file_of (word "aaa") (bytes "01 03 61 61 61 00")
    ∷ arrows_of (word "abbbaab") (0 to 2 ∷ 1 to 6 ∷ 2 to 5 ∷ 3 to 5 ∷ []) 11 (0 ∷ 0 ∷ 2 ∷ 3 ∷ 1 ∷ 1 ∷ 2 ∷ [])
    ∷ accepts_no_factor (word "abbbaab") (word "aba")
    ∷ file_of (word "abbbaab") (bytes "01 07 61 62 62 62 61 61 62 04 00 00 01 03 01 01 01 00")
    ∷ arrows_of (word "abcacdace") (0 to 2 ∷ 0 to 3 ∷ 0 to 6 ∷ 0 to 9 ∷ 1 to 5 ∷ 3 to 6 ∷ 3 to 9 ∷ 5 to 9 ∷ []) 17
    (0 ∷ 0 ∷ 0 ∷ 1 ∷ 3 ∷ 0 ∷ 1 ∷ 5 ∷ 0 ∷ [])
    ∷ accepts_no_factor (word "abcacdace") (word "cace")
    ∷ search (word "a") (word "aba") (0 ∷ 2 ∷ []) 3
    ∷ search (word "aa") (word "aaaa") (0 ∷ 1 ∷ 2 ∷ []) 6
    ∷ search (word "ab") (word "aab") (1 ∷ []) 4
    ∷ search (word "aba") (word "ababa") (0 ∷ 2 ∷ []) 6
    ∷ search (word "ab") (word "abxa") (0 ∷ []) 4
    ∷ search (word "abc") (word "xxxxxx") [] 2
    ∷ search (word "abc") (word "ab") [] 0
    ∷ turbo_search (word "a") (word "aba") (0 ∷ 2 ∷ []) 5
    ∷ turbo_search (word "aba") (word "ababa") (0 ∷ 2 ∷ []) 10
    ∷ turbo_search (word "aaaa") (word "abaaa") [] 6
    ∷ turbo_search (word "aa") (word "ba") [] 3
    ∷ turbo_search (word "ab") (word "ab") (0 ∷ []) 4
    ∷ turbo_search (word "aa") (word "aaaa") (0 ∷ 1 ∷ 2 ∷ []) 6
    ∷ turbo_search (word "baaa") (word "aaaaaaaa") [] 14
    ∷ turbo_search (word "aaab") (word "aaaaaaab") (4 ∷ []) 11
    ∷ turbo_search (word "abaab") (word "abaababaabaababaababa") (0 ∷ 5 ∷ 8 ∷ 13 ∷ []) 38
    ∷ turbo_search (word "abc") (word "xxxxxx") [] 2
    ∷ turbo_search (word "abc") (word "ab") [] 0
    ∷ failure_arrows_of (word "a") 1 []
    ∷ failure_arrows_of (word "abcacdace") 9 (0 to 1 ∷ 1 to 2 ∷ 2 to 5 ∷ 3 to 5 ∷ 5 to 8 ∷ [])
    ∷ failure_walks (word "abcacdace") (word "cace") 9 3
    ∷ failure_arrows_of (word "abcaabaababc") 12 (0 to 1 ∷ 1 to 2 ∷ 2 to 4 ∷ 5 to 7 ∷ 6 to 11 ∷ 7 to 10 ∷ [])
    ∷ failure_arrows_of (word "ababcdbaacbabacab") 18
    (0 to 1 ∷ 1 to 4 ∷ 2 to 4 ∷ 3 to 8 ∷ 4 to 5 ∷ 5 to 8 ∷ 8 to 10 ∷ 9 to 16 ∷ 10 to 15 ∷ [])
    ∷ symbol_cycle (word "ababcdbaacbabacab") 15 (word "c")
    ∷ failure_arrows_of (word "abadbcaabdbaba") 15 (0 to 1 ∷ 1 to 3 ∷ 2 to 5 ∷ 3 to 5 ∷ 5 to 7 ∷ 7 to 9 ∷ 9 to 13 ∷ [])
    ∷ symbol_cycle (word "abadbcaabdbaba") 13 (word "b")
    ∷ failure_rows (word "abadbcaabdbaba") (
    (0 ∷ word "abadbcaabdbaba")
    ∷ (1 ∷ 3 ∷ 5 ∷ 5 ∷ 0 ∷ 7 ∷ 0 ∷ 9 ∷ 0 ∷ 13 ∷ 0 ∷ 0 ∷ 0 ∷ 0 ∷ 0 ∷ [])
    ∷ (0 ∷ 0 ∷ 0 ∷ 0 ∷ 0 ∷ 0 ∷ 0 ∷ 0 ∷ 0 ∷ 0 ∷ 0 ∷ 0 ∷ 0 ∷ 1 ∷ 0 ∷ [])
    ∷ (0 ∷ 0 ∷ 0 ∷ 0 ∷ 0 ∷ 0 ∷ 0 ∷ 0 ∷ 0 ∷ 0 ∷ 0 ∷ 0 ∷ 0 ∷ 0 ∷ 0 ∷ [])
    ∷ (0 ∷ 13 ∷ 0 ∷ 0 ∷ 0 ∷ 0 ∷ 0 ∷ 0 ∷ 0 ∷ 0 ∷ 0 ∷ 0 ∷ 0 ∷ 0 ∷ 0 ∷ [])
    ∷ [])
    ∷ failure_search (word "ab") (word "ac") [] 1 1
    ∷ failure_search (word "ababdbaacbdaba") (word "abbbbbbbabdbaa") [] 14 3
    ∷ failure_search (word "aba") (word "ababa") (0 ∷ 2 ∷ []) 6 0
    ∷ failure_search (word "ab") (word "abxa") (0 ∷ []) 4 1
    ∷ failure_search (word "abc") (word "xxxxxx") [] 2 4
    ∷ failure_search (word "abc") (word "ab") [] 0 0
    ∷ storacle_of (word "a") (0 to 1 ∷ [])
    ∷ storacle_of (word "abcacdace") (
    0 to 1 ∷ 0 to 2 ∷ 0 to 3 ∷ 0 to 6 ∷ 0 to 9 ∷ 1 to 2 ∷ 1 to 3 ∷ 2 to 3
    ∷ 3 to 4 ∷ 3 to 6 ∷ 3 to 9 ∷ 4 to 5 ∷ 5 to 6 ∷ 6 to 7 ∷ 7 to 8 ∷ 8 to 9 ∷ [])
    ∷ storacle_counts (word "abcacdace") 16
    ∷ storacle_no_factor (word "abcacdace") (word "abce")
    ∷ storacle_of (word "abaa") (0 to 1 ∷ 0 to 2 ∷ 1 to 2 ∷ 1 to 3 ∷ 2 to 3 ∷ 3 to 4 ∷ [])
    ∷ storacle_rows (word "abaa") (
    (0 ∷ word "abaa")
    ∷ (0 ∷ 1 ∷ 2 ∷ 1 ∷ 1 ∷ [])
    ∷ (0 ∷ 1 ∷ 2 ∷ 0 ∷ 0 ∷ [])
    ∷ (0 ∷ 3 ∷ 2 ∷ 0 ∷ 0 ∷ [])
    ∷ (0 ∷ 3 ∷ 0 ∷ 0 ∷ 0 ∷ [])
    ∷ (0 ∷ 4 ∷ 0 ∷ 0 ∷ 0 ∷ [])
    ∷ [])
    ∷ storacle_counts (word "abcdabcdbacbbdaddccaae") 67
    ∷ storacle_counts (word "abcdeabcdacbdccaddbbaaf") 70
    ∷ storacle_refused (word "") 0 1
    ∷ storacle_refused (replicate 129 97) 17286 2
    ∷ storacle_refused (replicate 128 97) 17285 3
    ∷ storacle_refused (word "abaa") 49 3
    ∷ save_refused (word "") 1
    ∷ save_refused (word "a") 17
    ∷ save_refused (replicate 4097 97) 2
    ∷ file_of (word "aa") (bytes "01 02 61 61 00")
    ∷ loads (bytes "01 02 61 61 00") (word "aa")
    ∷ load_refused (bytes "01 01 61 00") 8 1
    ∷ load_refused (bytes "01 FF FF FF FF 0F") 8 1
    ∷ load_refused (bytes "01 83 00 61 61 61 00") 6 2
    ∷ let_through (bytes "01 80 08") 1024
    ∷ let_through (bytes "01 81 08") 1025
    ∷ let_through (bytes "01 80 20") 4096
    ∷ load_refused (bytes "01 81 20") 8 1
    ∷ load_refused (bytes "") 5 0
    ∷ load_refused (bytes "01 00") 8 1
    ∷ load_refused (bytes "02") 5 1
    ∷ load_refused (bytes "03") 7 0
    ∷ load_refused (bytes "00") 7 0
    ∷ load_refused (bytes "81 00") 6 1
    ∷ load_refused (bytes "01 80") 5 2
    ∷ load_refused (bytes "01 03 61 61") 5 4
    ∷ room_refused (bytes "01 03 61 61 61 00 00") 2 3
    ∷ arrows_refused (bytes "01 03 61 61 61 03") 3 9 5
    ∷ arrows_refused (bytes "01 03 61 61 61") 3 5 5
    ∷ arrows_refused (bytes "01 03 61 61 61 01 00 00") 3 10 6
    ∷ arrows_refused (bytes "01 03 61 61 61 00 00") 3 11 6
    ∷ arrows_refused (bytes "01 02 61 62 00") 2 10 5
    ∷ arrows_refused (bytes "01 02 61 62 01 00 80 00") 2 6 7
    ∷ arrows_refused (bytes "01 07 61 62 62 62 61 61 62 04 00 00 02 03 01 01 01 00") 7 10 12
    ∷ arrows_refused (bytes "01 07 61 62 62 62 61 61 62 04 00 00 01 04 01 01 01 00") 7 10 12
    ∷ check_of (word "123456789") 47933
    ∷ check_of [] 0
    ∷ checked_file_of (word "aa") (bytes "02 02 61 61 00 00 36")
    ∷ checked_file_of (word "aaa") (bytes "02 03 61 61 61 00 22 50")
    ∷ checked_file_of (word "abbbaab") (bytes "02 07 61 62 62 62 61 61 62 04 00 00 01 03 01 01 01 00 FE 2F")
    ∷ loads (bytes "02 02 61 61 00 00 36") (word "aa")
    ∷ loads (bytes "02 07 61 62 62 62 61 61 62 04 00 00 01 03 01 01 01 00 FE 2F") (word "abbbaab")
    ∷ let_through (bytes "02 80 20") 4096
    ∷ load_refused (bytes "02 81 20") 8 1
    ∷ load_refused (bytes "02 01 61 00") 8 1
    ∷ load_refused (bytes "02 03 61 61") 5 4
    ∷ room_refused (bytes "02 03 61 61 61 00 22 51") 2 3
    ∷ arrows_refused (bytes "02 03 61 61 61 00") 3 5 6
    ∷ arrows_refused (bytes "02 03 61 61 61 00 22") 3 5 7
    ∷ arrows_refused (bytes "02 03 61 61 61 00 22 51") 3 13 6
    ∷ arrows_refused (bytes "02 03 61 61 61 00 22 51 00") 3 13 6
    ∷ arrows_refused (bytes "02 03 61 61 61 00 50 22") 3 13 6
    ∷ arrows_refused (bytes "02 03 61 61 61 00 23 B2") 3 13 6
    ∷ arrows_refused (bytes "02 03 61 61 61 00 22 50 00") 3 11 8
    ∷ arrows_refused (bytes "02 02 61 62 00 00 C6") 2 10 5
    ∷ arrows_refused (bytes "02 02 61 62 00") 2 10 5
    ∷ arrows_refused (bytes "01 03 61 61 61 00 22 50") 3 11 6
    ∷ arrows_refused (bytes "01 07 61 62 62 62 61 61 62 03 00 00 01 03 01 01") 7 10 16
    ∷ arrows_refused (bytes "01 07 61 62 62 62 61 61 62 04 00 00 01 03 01 01 01 00 2A 2A") 7 11 18
    ∷ in_pieces (word "aba") (word "ab" ∷ word "" ∷ word "ab" ∷ word "a" ∷ []) ([] ∷ [] ∷ (0 ∷ []) ∷ (2 ∷ []) ∷ []) 1
    ∷ in_pieces (word "aa") (word "a" ∷ word "aaaa" ∷ word "b" ∷ []) ([] ∷ (0 ∷ 1 ∷ 2 ∷ 3 ∷ []) ∷ [] ∷ []) 0
    ∷ rides_of (bytes "0C 10 64 00 02 00 00 00 2E 46 49 54 61 62 00 00") (0 ∷ []) (1 ∷ [])
    ∷ rides_of (bytes "0C 10 64 00 02 00 00 00 2E 46 49 54 61 62 00") (0 ∷ []) (0 ∷ [])
    ∷ rides_of (bytes "0C 10 64 00 00 00 00 00 2E 46 49 54") (0 ∷ []) (0 ∷ [])
    ∷ rides_of (bytes "0E 10 64 00 00 00 00 00 2E 46 49 54 00 00 00 00") (0 ∷ []) (1 ∷ [])
    ∷ rides_of (bytes "0E 10 64 00 00 00 00 00 2E 46 49 54 00 00") (0 ∷ []) (0 ∷ [])
    ∷ rides_of (bytes "0E 10 64 00 00 00 00 00 2E 46 49 54 00") [] []
    ∷ rides_of (bytes "0D 10 64 00 00 00 00 00 2E 46 49 54 00 00 00 00") [] []
    ∷ rides_of (bytes "0E 10 64 00 00 00 00 2E 46 49 54 00 00 00 00") [] []
    ∷ rides_of (bytes "0C 10 64 00 FF FF FF FF 2E 46 49 54 61 62 00 00") (0 ∷ []) (0 ∷ [])
    ∷ rides_of (bytes "0C 10 64 00 00 02 00 00 2E 46 49 54 61 62 00 00") (0 ∷ []) (0 ∷ [])
    ∷ salvages (bytes "0C 00 00 00 00 00 00 00 2E 46 49 54 00 00 0E 00 00 00 09 00 00 00 2E 46 49 54 00 00") (7 ∷ 7 ∷ 7 ∷ []) (7 ∷ []) 2
    (0 ∷ 7 ∷ 7 ∷ []) (1 ∷ [])
    ∷ salvages (bytes "0C 00 00 00 00 00 00 00 2E 46 49 54 00 00 0E 00 00 00 09 00 00 00 2E 46 49 54 00 00") (7 ∷ 7 ∷ []) (7 ∷ 7 ∷ 7 ∷ []) 2
    (0 ∷ 14 ∷ []) (1 ∷ 0 ∷ 7 ∷ [])
    ∷ salvages (bytes "2E 46 49 54") (7 ∷ []) (7 ∷ []) 0 (7 ∷ []) (7 ∷ [])
    ∷ salvage_refused (bytes "0C 10 64 00 02 00 00 00 2E 46 49 54 61 62 00 00") 29 3
    ∷ compact_rows_of (word "ab") (0 ∷ 25769803776 ∷ 0 ∷ 0 ∷ 0 ∷ 17179869184 ∷ 0 ∷ 0 ∷ 0 ∷ 0 ∷ 0 ∷ 0 ∷ [])
    ((0 ∷ 97 ∷ 98 ∷ []) ∷ (0 ∷ 0 ∷ 0 ∷ []) ∷ (0 ∷ 0 ∷ 0 ∷ 0 ∷ 0 ∷ 0 ∷ []) ∷ (0 ∷ 0 ∷ 2 ∷ 2 ∷ 2 ∷ 2 ∷ 3 ∷ 3 ∷ 3 ∷ 3 ∷ 3 ∷ 3 ∷ [])
    ∷ (1 ∷ 2 ∷ 2 ∷ 0 ∷ 0 ∷ 0 ∷ []) ∷ [])
    ∷ compact_rows_of (bytes "00 40 FF")
    (1 ∷ 1 ∷ 0 ∷ 9223372036854775808 ∷ 0 ∷ 1 ∷ 0 ∷ 0 ∷ 0 ∷ 0 ∷ 0 ∷ 9223372036854775808 ∷ 0 ∷ 0 ∷ 0 ∷ 0 ∷ [])
    ((0 ∷ 0 ∷ 64 ∷ 255 ∷ []) ∷ (0 ∷ 0 ∷ 0 ∷ 0 ∷ []) ∷ (0 ∷ 0 ∷ 0 ∷ 0 ∷ 0 ∷ 0 ∷ 0 ∷ 0 ∷ [])
    ∷ (0 ∷ 1 ∷ 2 ∷ 2 ∷ 3 ∷ 3 ∷ 4 ∷ 4 ∷ 4 ∷ 4 ∷ 4 ∷ 4 ∷ 5 ∷ 5 ∷ 5 ∷ 5 ∷ []) ∷ (1 ∷ 2 ∷ 3 ∷ 2 ∷ 3 ∷ 0 ∷ 0 ∷ 0 ∷ []) ∷ [])
    ∷ compact_rows_of (word "aba") (0 ∷ 25769803776 ∷ 0 ∷ 0 ∷ 0 ∷ 17179869184 ∷ 0 ∷ 0 ∷ 0 ∷ 8589934592 ∷ 0 ∷ 0 ∷ 0 ∷ 0 ∷ 0 ∷ 0 ∷ [])
    ((0 ∷ 97 ∷ 98 ∷ 97 ∷ []) ∷ (0 ∷ 0 ∷ 0 ∷ 1 ∷ []) ∷ (0 ∷ 0 ∷ 0 ∷ 0 ∷ 0 ∷ 0 ∷ 0 ∷ 0 ∷ [])
    ∷ (0 ∷ 0 ∷ 2 ∷ 2 ∷ 2 ∷ 2 ∷ 3 ∷ 3 ∷ 3 ∷ 3 ∷ 4 ∷ 4 ∷ 4 ∷ 4 ∷ 4 ∷ 4 ∷ []) ∷ (1 ∷ 2 ∷ 2 ∷ 3 ∷ 0 ∷ 0 ∷ 0 ∷ 0 ∷ []) ∷ [])
    ∷ compact_search (word "aba") (word "ababa") (0 ∷ 2 ∷ []) 6
    ∷ compact_search (word "abc") (word "xxxxxx") [] 2
    ∷ compact_search (word "abc") (word "ab") [] 0
    ∷ compact_refused [] 9 9 1
    ∷ compact_refused (word "ab") 11 30 3
    ∷ compact_refused (word "ab") 12 29 3
    ∷ []
