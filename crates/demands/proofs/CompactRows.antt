-- COMPACT ROWS, the eleventh request of 02, sentence by sentence: each is quoted, and under it stands what says just that.
use mathlib.Core.Path.{◌≡◌, sym, ap, ◌∙◌}
use mathlib.Core.Bool.{true}
use mathlib.Core.Logic.{◌↔◌, ◌⊎◌}
use mathlib.Core.Option.{some}
use mathlib.Core.List.{List, [], ◌∷◌}
use Prim.Native.Nat.{ℕ, ◌+◌, ◌-◌, ◌*◌, ◌^◌, ◌≤◌, ◌<◌}
use native.Mathlib.Omega.{arith}
use lib.ListN.{length, take}
use Rattle.words.specs.Lists.{at}
use Rattle.words.specs.Words.{Letter, Word, Place, letter}
use Rattle.words.specs.Limits.{longest_word, longest_text}
use Rattle.words.proofs.Limits.{words_fit}
use Rattle.oracle.specs.Arrows.{State, Delta}
use Rattle.oracle.specs.SuffixRule.{oracle}
use Rattle.oracle.specs.Supply.{supply}
use Rattle.table.specs.Table.{room, table_of, read_word, read_arrow, read_supply}
use Rattle.compact.specs.Compact.{sets_room, compact_room, is_arrow, targets_up_to, sets_from, compact_from, compact_sets}
use Rattle.compact.specs.Compact.{compact_table, bit_at, in_set, how_many, read_compact}
use Rattle.compact.proofs.Ranking.{word-letter}
use Rattle.compact.proofs.ReadBack.{reads-some, reads_compact}
use Rattle.compact.proofs.Few.{targets-few}
use Rattle.compact.proofs.Theorems as Compact
use Rattle.answers.specs.Answers.{refused, refuses_only, short_room}
use Rattle.std.specs.Prelude.{Result}
use Rattle.answers.specs.declared.Refusal.{Refusal}
use Rattle.finds.specs.declared.Tally.{Tally}
use Rattle.marks.specs.Build.{build_says}
use Rattle.marks.specs.Search.{search_says}
use Rattle.marks.proofs.BuildSays as BaseBuild
use Rattle.marks.proofs.SearchSays as BaseSearch
use Rattle.compact_entries.specs.CompactBuild as CompactBuild
use Rattle.compact_entries.specs.CompactBuild.{compact_built, compact_build_says}
use Rattle.compact_entries.specs.CompactSearch as CompactSearch
use Rattle.compact_entries.specs.CompactSearch.{compact_searched, compact_search_says}
use Rattle.compact_entries.specs.Cases.{CompactBuildCase, CompactSearchCase}
use Rattle.compact_entries.proofs.BuildSays as Build
use Rattle.compact_entries.proofs.SearchSays as Search

module _ (p : Word) where
  abbrev m : ℕ
  m = length p

  abbrev n : ℕ
  n = m + 1

  abbrev Z : List ℕ
  Z = compact_sets p

  abbrev L : List ℕ
  L = compact_table p

  -- ── 'add a plain second table form: per state, the letters with an arrow as a set of 256 bits in four 64-bit words,' ──

  pub letters_with_an_arrow : (x : State) → x ≤ m → (c : Letter) → c < 256 → in_set Z x c ≡ is_arrow (oracle p x c)
  letters_with_an_arrow = Compact.compact_set p

  -- the words 4x to 4x + 3 are for state x, and bit d of the one behind k is for the letter 64k + d
  pub four-words : (x : State) (k d : ℕ) → d < 64 → in_set Z x (64 * k + d) ≡ bit_at (at Z (4 * x + k)) d
  four-words x k d h = word-letter Z x k d h

  pub of_64_bits : (i : ℕ) → at Z i < 2 ^ 64
  of_64_bits = Compact.compact_words_small p

  -- ── 'and all targets in one row;' ────────────────────────────────────────

  -- by rising source, then rising letter, zeros behind them
  pub all-targets : (i : ℕ) → i < 2 * n → at L (8 * n + i) ≡ at (targets_up_to (oracle p) (256 * n)) i
  all-targets = Compact.compact_targets p

  -- which are few enough
  pub few-targets : length (targets_up_to (oracle p) (256 * n)) ≤ m + (m - 1)
  few-targets = targets-few p (256 * n)

  -- ── 'the target's place is found by counting the ones below the letter.' ──

  -- behind where those of the state start, which is an entry
  pub place_by_counting : (x : State) (c : Letter) → x ≤ m → c < 256 → in_set Z x c ≡ true
      → read_compact m Z L x c ≡ some (at L (8 * n + (at L (4 * n + 4 * x) + how_many (in_set Z x) c)))
  place_by_counting x c h l e = reads-some m Z L x c h l e

  -- ── 'It must agree with the first form for every word, state and byte,' ──

  pub agrees : (x : State) (c : Letter) → c < 256 → read_compact m Z L x c ≡ read_arrow m (table_of p) x c
  agrees = Compact.compact_agrees p

  pub same_word : read_word m L ≡ p
  same_word = Compact.compact_word p

  pub same-supplies : (x : State) → x ≤ m → read_supply m L x ≡ supply p x
  same-supplies = Compact.compact_supply p

  -- the rule does not know the arrows from the word: over any word, whatever arrows fit into the row are read, and whatever supplies
  pub freedom : (δ : Delta) (S : State → State) → length (targets_up_to δ (256 * n)) ≤ 2 * n
      → (x : State) (c : Letter) → x ≤ m → c < 256 → read_compact m (sets_from δ m) (compact_from p δ S) x c ≡ δ x c
  freedom δ S few = reads_compact p δ S few

-- as the entries leave them: what is read behind compact_build is what is read behind build
pub agrees_as_left : (word : Word) (Y T U : List ℕ) → 1 ≤ length word → length word ≤ longest_word → sets_room (length word) ≤ length Y
    → compact_room (length word) ≤ length T → room (length word) ≤ length U → (x : State) (c : Letter) → c < 256
    → read_compact (length word) (take (sets_room (length word)) (compact_build_says word Y T).sets)
    (take (compact_room (length word)) (compact_build_says word Y T).tables) x c
    ≡ read_arrow (length word) (take (room (length word)) (build_says word U).tables) x c
agrees_as_left word Y T U h l y t u x c b =
    (Build.done-leaves word Y T h l y t).reads_arrows x c b ∙ sym ((BaseBuild.done-leaves word U h l u).arrows-read x c)

-- ── 'and searching with it gives the same finds and letters read.' ─────────

module _ (word text : Word) (Y T : List ℕ) (F : List Place) where
  abbrev k : ℕ
  k = length word

  -- as `search`, whatever table entries that is lent
  pub same_finds_and_letters : (U : List ℕ) → 1 ≤ k → k ≤ longest_word → length text ≤ longest_text → sets_room k ≤ length Y
      → compact_room k ≤ length T → room k ≤ length U
      → ((compact_search_says word text Y T F).answer ≡ (search_says word text U F).answer)
      × ((compact_search_says word text Y T F).finds ≡ (search_says word text U F).finds)
  same_finds_and_letters U h l s y t u =
      let here = Search.given word text Y T F (CompactSearchCase.accepted h l s y t) in
      let there = BaseSearch.says-done word text U F h l s u in
      (ap (λ o. o.answer) here ∙ sym (ap (λ o. o.answer) there), ap (λ o. o.finds) here ∙ sym (ap (λ o. o.finds) there))

  -- ── 'Its room is 4(m+1) 64-bit words and 10(m+1) 16-bit entries, else 3.' ──

  pub search-exactly : (o : CompactSearch.Outcome) → (compact_search_says word text Y T F ≡ o) ↔ CompactSearchCase word text Y T F o
  search-exactly = Search.compact_search_is word text Y T F

  pub search-numbers : refuses_only (1 ∷ 2 ∷ 4 ∷ 3 ∷ []) (compact_search_says word text Y T F).answer ≡ true
  search-numbers = Search.compact_search-numbers word text Y T F

  -- a refusal changes nothing
  pub search_refusal : {r : ℕ} → (compact_search_says word text Y T F).answer ≡ refused r
      → ((compact_search_says word text Y T F).sets ≡ Y) × ((compact_search_says word text Y T F).tables ≡ T)
      × ((compact_search_says word text Y T F).finds ≡ F)
  search_refusal = Search.compact_search_refusal_leaves word text Y T F

module _ (word : Word) (Y T : List ℕ) where
  pub build_exactly : (o : CompactBuild.Outcome) → (compact_build_says word Y T ≡ o) ↔ CompactBuildCase word Y T o
  build_exactly = Build.compact_build_is word Y T

  pub build_numbers : refuses_only (1 ∷ 2 ∷ 3 ∷ []) (compact_build_says word Y T).answer ≡ true
  build_numbers = Build.compact_build_numbers word Y T

  -- a refusal changes nothing
  pub build_refusal : {r : ℕ} → (compact_build_says word Y T).answer ≡ refused r
      → ((compact_build_says word Y T).sets ≡ Y) × ((compact_build_says word Y T).tables ≡ T)
  build_refusal = Build.compact_build_refusal_leaves word Y T

  -- 3, for a word that may be built on, exactly where either room is too small
  pub three_for_either : 1 ≤ length word → length word ≤ longest_word
      → ((compact_build_says word Y T).answer ≡ refused short_room)
      ↔ ((length Y < 4 * (length word + 1)) ⊎ (length T < 10 * (length word + 1)))
  three_for_either = Build.short-exactly word Y T

-- so many words and entries they are, and the entries have 16 bits
pub room_needed : (p : Word) → (length (compact_sets p) ≡ 4 * (length p + 1)) × (length (compact_table p) ≡ 10 * (length p + 1))
room_needed p = (Compact.compact_sets-size p, Compact.compact_table-size p)

pub of_16_bits : (p : Word) → length p ≤ longest_word → ((i : ℕ) → letter p i < 256) → (i : ℕ) → at (compact_table p) i < 65536
of_16_bits p h bytes = Compact.compact_entries_small p (omega (arith, h, words_fit)) bytes

-- any two outcomes that a promise allows are equal
pub build_fixed : (word : Word) (Y T : List ℕ) (r s : Result ℕ Refusal) (A B C D : List ℕ)
    → compact_built r A C ≡ compact_build_says word Y T → compact_built s B D ≡ compact_build_says word Y T → (r ≡ s) × (A ≡ B) × (C ≡ D)
build_fixed = Build.compact_build_one

pub search_fixed : (word text : Word) (Y T : List ℕ) (F : List Place) (r s : Result Tally Refusal) (A B C D : List ℕ) (G H : List Place)
    → compact_searched r A C G ≡ compact_search_says word text Y T F → compact_searched s B D H ≡ compact_search_says word text Y T F
    → (r ≡ s) × (A ≡ B) × (C ≡ D) × (G ≡ H)
search_fixed = Search.compact_search-one
