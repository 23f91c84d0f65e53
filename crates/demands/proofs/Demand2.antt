-- DEMAND 2, clause by clause: each is quoted word for word, in brackets a number that 02 sets, and under it stands what says just that of
-- the entries' outcomes, by citing the file where it is proved. Wrong programs that 01 wants shut out by this demand are named in plain
-- words, each with what shuts it out.
use mathlib.Core.Path.{◌≡◌, refl, sym, ap}
use mathlib.Core.Logic.{◌↔◌}
use mathlib.Core.Option.{none, some}
use mathlib.Core.List.{List, [], ◌∷◌, ◌++◌, Memᴰ}
use Prim.Native.Nat.{ℕ, ◌+◌, ◌*◌, ◌-◌, ◌≤◌, ◌<◌}
use lib.ListN.{length, take, drop, get_or}
use Rattle.words.specs.Words.{Letter, Word, Place, part, mirror, occurrences}
use Rattle.words.specs.Limits.{longest_word, longest_text, least_saved}
use Rattle.words.specs.Lists.{Rising}
use Rattle.words.proofs.Occurrences.{stands-part, part-stands}
use Rattle.oracle.specs.Arrows.{State, Arrow, target}
use Rattle.oracle.specs.SuffixRule.{suffix_rule, oracle}
use Rattle.oracle.specs.LetterRule.{letter_rule}
use Rattle.oracle.specs.Supply.{supply}
use Rattle.oracle.proofs.Theorems
use Rattle.backward.specs.Steps.{backward}
use Rattle.table.specs.Table.{room, table_of, read_word, read_arrow, read_supply}
use Rattle.table.specs.Freedom.{ExtraSet, Lower, ReadAs}
use Rattle.table.proofs.Freedom
use Rattle.finds.specs.declared.Tally.{Tally}
use Rattle.finds.specs.Finds.{filled}
use Rattle.finds.proofs.Theorems as Listed
use Rattle.editions.specs.Editions.{Edition, spell_in}
use Rattle.answers.specs.Answers.{done}
use Rattle.marks.specs.Build.{build_says}
use Rattle.marks.specs.Search.{found, search_says}
use Rattle.mark_files.specs.SearchFile.{outcome, search_file_says}
use Rattle.marks.proofs.BuildSays
use Rattle.marks.proofs.SearchSays
use Rattle.mark_files.proofs.SearchFileSays
use Rattle.demands.proofs.TwoTables

-- for every word within the limits, every text, and tables T with room for the word
module _ (word text : Word) (T : List ℕ) (least : 1 ≤ length word) (most : length word ≤ longest_word)
    (enough : room (length word) ≤ length T) where
  abbrev m : ℕ
  m = length word

  -- the first 6(m+1) entries, as build leaves them
  abbrev left : List ℕ
  left = take (room m) (build_says word T).tables

  -- ── 'The oracle built letter by letter is the one that the published suffix rule gives, arrow for arrow, for every word of
  --    1 to 1,024 [4,096] bytes.' ──

  -- from every state, on every letter, the letter-by-letter rule's arrow leads where the suffix rule's does, or neither has one
  pub rules_agree : (x : State) (c : Letter) → target (letter_rule word).arrows x c ≡ oracle word x c
  rules_agree x c = sym (Theorems.same-arrows word x c)

  -- and an arrow is in the one rule's list exactly if it is in the other's
  pub rules_lists_agree : (a : Arrow) → Memᴰ a (suffix_rule word) ↔ Memᴰ a (letter_rule word).arrows
  rules_lists_agree = Theorems.same-arrow-lists word

  -- the arrows that are read from what build leaves are these
  pub built-arrows : (x : State) (c : Letter) → read_arrow m left x c ≡ oracle word x c
  built-arrows = (BuildSays.done-leaves word T least most enough).arrows-read

  -- for every text within the limit, and every list F
  module _ (F : List Place) (short : length text ≤ longest_text) where
    -- the places that are counted and listed
    abbrev places : List Place
    places = occurrences word text

    abbrev finds : List Place
    finds = (search_says word text T F).finds

    found_is : (f : Tally) → (search_says word text T F).answer ≡ done f → f ≡ found word text
    found_is f e = let a = SearchSays.letters_said word text T F least most short enough in cc

    -- ── 'The backward search lists exactly the places where the word stands in the text, overlaps included,' ──

    -- every place where the word stands is one of them, whether or not it overlaps another, and nothing else is
    pub places-exactly : (j : Place) → Memᴰ j places ↔ ((j + m ≤ length text) × (part text j m ≡ word))
    places-exactly j =
        let e = SearchSays.found-exactly word text T F least most short enough j in
        (λ i. let r = e.0 i in (r.0, stands-part word text j r.1), λ r. e.1 (r.0, part-stands word text j r.1))

    pub count_exact : (f : Tally) → (search_says word text T F).answer ≡ done f → f.count ≡ length places
    count_exact f e = ap (λ f. f.count) (found_is f e)

    -- ── 'rising (the first of them where the caller's list is short),' ─────

    pub places_rise : Rising 0 places
    places_rise = SearchSays.found_rising word text T F least most short enough

    -- entry i of the list is place i of them, as far as both go; the others are as they were
    pub first-listed : (i : ℕ) → i < length places → i < length F → get_or finds i 0 ≡ get_or places i 0
    first-listed i h b = rw (SearchSays.finds-left word text T F least most short enough) (Listed.filled-find places F i h b)

    pub others-kept : (i : ℕ) → length places ≤ i → i < length F → get_or finds i 0 ≡ get_or F i 0
    others-kept i h b = rw (SearchSays.finds-left word text T F least most short enough) (Listed.filled-kept places F i h b)

    -- ── 'and the number of letters read is the one that the published steps give.' ──

    -- those of 01, with 02's step after a find (`StepAfterFind`)

    -- Shut out: a made-up letters-read number. Whatever number is answered, it is the steps' own count
    pub letters_of_the_steps : (f : Tally) → (search_says word text T F).answer ≡ done f → f.letters ≡ (backward word text).letters
    letters_of_the_steps f e = ap (λ f. f.letters) (found_is f e)

    pub letters_at_most : m ≤ length text → (backward word text).letters ≤ m * (length text - m + 1)
    letters_at_most = SearchSays.letters_most word text T F least most short enough

    -- all this of a search with a word's file of either edition too: it is the search for the word's mirror
    pub file-search : (e : Edition) (R : List ℕ) → least_saved ≤ m → m ≤ length R → search_file_says (spell_in e word) text R T F
        ≡ outcome (done (found (mirror word) text)) (word ++ drop m R) (table_of word ++ drop (room m) T)
        (filled (occurrences (mirror word) text) F)
    file-search e R saved fits = SearchFileSays.file_searched_lem (spell_in e word) text R T F e word saved most refl short fits enough

    -- ── Shut out: a search that lists nothing ──────────────────────────────

    -- in a list that is long enough, every place where the word stands is among the finds
    pub standing_listed : (j : Place) → j + m ≤ length text → part text j m ≡ word → length places ≤ length F
        → Memᴰ j (take (length places) finds)
    standing_listed j h e b =
        rw (SearchSays.finds-left word text T F least most short enough, Listed.filled-all places F b) ((places-exactly j).1 (h, e))

  -- ── Shut out: a build that leaves the tables alone ───────────────────────

  -- the word is read from what it leaves, and so are its arrows, by `built-arrows`
  pub built-word : read_word m left ≡ word
  built-word = (BuildSays.done-leaves word T least most enough).word_read

  -- ── Shut out: a build that gets the arrows right and fakes the earlier supplies ──

  -- for every state, the supply is 001's: where the longest end that stands twice among the first x letters is walked to; state 0 has none
  pub built-supplies : (x : State) → x ≤ m → read_supply m left x ≡ supply word x
  built-supplies = (BuildSays.done-leaves word T least most enough).supplies_read

-- ── Shut out: a table that holds the word alone, with a reading rule that works the arrows or supplies out of it ──

-- over any one word, any extra arrows and supplies are read from some table
pub freedom : (p : Word) (E : List Arrow) (S : State → State) → ExtraSet p E → Lower p S → (L : List ℕ) × ReadAs p E S L
freedom = Freedom.freedom

-- so two tables that hold one word, ab, may be read with different arrows and different supplies
pub one_word_two_tables : (L : List ℕ) × (L' : List ℕ) × (read_word 2 L ≡ 97 ∷ 98 ∷ []) × (read_word 2 L' ≡ 97 ∷ 98 ∷ [])
    × (read_arrow 2 L 0 98 ≡ some 2) × (read_arrow 2 L' 0 98 ≡ none) × (read_supply 2 L 2 ≡ some 0) × (read_supply 2 L' 2 ≡ some 1)
one_word_two_tables = TwoTables.two_tables
