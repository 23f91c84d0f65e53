-- THE STORACLE, the twelfth request of 02, sentence by sentence: each is quoted, and under it stands what says just that.
use mathlib.Core.Path.{◌≡◌, refl, ap}
use mathlib.Core.Bool.{true}
use mathlib.Core.Logic.{◌↔◌, ◌≢◌}
use mathlib.Core.Option.{some}
use mathlib.Core.List.{List, [], ◌∷◌, Memᴰ}
use Prim.Native.Nat.{ℕ, suc, ◌+◌, ◌-◌, ◌*◌, ◌/◌, ◌≤◌}
use native.Mathlib.Omega.{arith}
use lib.ListN.{length, take, drop}
use Rattle.words.specs.Lists.{from}
use Rattle.words.specs.Words.{Letter, Word, letter, Factor}
use Rattle.words.specs.Limits.{longest_storacle}
use Rattle.words.proofs.Limits.{storacle_limit}
use Rattle.oracle.specs.Arrows.{State, Arrow, arrow, Delta, target, walk, spine, OneEach}
use Rattle.oracle.specs.SuffixRule.{Halt, far}
use Rattle.storacle.specs.StoracleRule.{FirstLater, first_in, first_later, until_walked, storacle_after, storacle_rule, storacle}
use Rattle.storacle.specs.StoracleRule.{IsStoracle, most_arrows}
use Rattle.storacle.proofs.Suffixes as Suffixes
use Rattle.storacle.proofs.Theorems as Theorems
use Rattle.table.specs.Table.{read_word}
use Rattle.storacle_table.specs.StoracleTable.{storacle_room, storacle_table, read_storacle}
use Rattle.storacle_table.specs.StoracleFreedom.{StoracleSet, ReadAsStoracle}
use Rattle.storacle_table.proofs.ReadBack.{storacle_freedom}
use Rattle.std.specs.Prelude.{Result}
use Rattle.answers.specs.declared.Refusal.{Refusal}
use Rattle.answers.specs.Answers.{done, refused, refuses_only}
use Rattle.marks.specs.Build.{Outcome, built}
use Rattle.storacle_entries.specs.StoracleBuild.{storacle_build_says}
use Rattle.storacle_entries.specs.Cases.{StoracleBuildCase}
use Rattle.storacle_entries.proofs.BuildSays as Build

module _ (p : Word) where
  abbrev m : ℕ
  m = length p

  -- ── 'Add source document 003's algorithm 2:' ─────────────────────────────

  -- at first there is the spine alone; then the suffixes behind 1 to m - 1 letters, p2..pm to pm, have their turn
  pub spine-first : storacle_after p 0 ≡ spine p
  unfolding storacle_after
  spine-first = refl

  pub every_suffix : storacle_rule p ≡ storacle_after p (m - 1)
  unfolding storacle_rule
  every_suffix = refl

  -- the one behind i + 1 letters, over the arrows of those before
  module _ (i : ℕ) where
    pub a_suffix_more : storacle_after p (suc i) ≡ until_walked m p (suc i) (storacle_after p i)
    unfolding storacle_after
    a_suffix_more = refl

    -- ── 'while suffix i isn't fully walked, add from j an arrow on p(k+1) .., then walk again.' ──

    -- with the arrows A it is walked from state 0 as far as they go: to j, with the letters up to k spelled; g bounds how many are added
    module _ (g : ℕ) (A : List Arrow) where
      abbrev halt : Halt
      halt = far (target A) 0 (suc i) (drop (suc i) p)

      abbrev j : State
      j = halt.state

      abbrev k : ℕ
      k = halt.up_to

      pub fully_walked : k ≡ m → until_walked (suc g) p (suc i) A ≡ A
      fully_walked = Suffixes.until_done p (suc g) A (suc i)

      pub add_and_walk_again : k ≢ m
          → until_walked (suc g) p (suc i) A ≡ until_walked g p (suc i) (arrow j (letter p k) (first_later p j (letter p k)) ∷ A)
      add_and_walk_again = Suffixes.until_more p g A (suc i)

    -- m are enough: then it is walked to its end, and a higher bound adds no more
    pub walked_to_its_end : suc i ≤ m → (far (target (storacle_after p (suc i))) 0 (suc i) (drop (suc i) p)).up_to ≡ m
    walked_to_its_end = Theorems.suffix-walked p i

    pub any_bound : (g : ℕ) → suc i ≤ m → m ≤ g → until_walked g p (suc i) (storacle_after p i) ≡ storacle_after p (suc i)
    any_bound g = Theorems.any_bound p g i

  -- ── '.. to the first later state whose incoming letter is that one' ──────

  -- each arrow leads there, that of the spine too
  pub to_the_first_later : (a : Arrow) → Memᴰ a (storacle_rule p) → FirstLater p a.source a.on a.to
  to_the_first_later = Theorems.arrows-first p

  -- ── 'Promise the rule's arrows,' ─────────────────────────────────────────

  -- one at most leaves a state on a letter
  pub one_arrow_each : OneEach (storacle_rule p)
  one_arrow_each = Theorems.one_each p

  -- what they are without the rule: x has one on c exactly if a factor that is walked to x goes on with c, to the first later state
  pub a_storacle : IsStoracle p (storacle p)
  a_storacle = Theorems.rule_makes_it p

  -- and nothing else is so; the order in which the rule takes the suffixes does not matter
  pub no_other : (δ : Delta) → IsStoracle p δ → (x : State) (c : Letter) → δ x c ≡ storacle p x c
  no_other = Theorems.no_other p

  -- ── 'every factor walked,' ───────────────────────────────────────────────

  pub factors_walked : (v : Word) → Factor v p → (y : State) × (walk (storacle p) 0 v ≡ some y)
  factors_walked = Theorems.factor_walked p

  -- ── 'and the word as the only walk of length m.' ─────────────────────────

  pub word-walked : walk (storacle p) 0 p ≡ some m
  word-walked = Theorems.word-walked p

  pub only_walk : (v : Word) (y : State) → walk (storacle p) 0 v ≡ some y → length v ≡ m → v ≡ p
  only_walk = Theorems.only_walk p

  -- and none is longer
  pub no_longer_walk : (v : Word) (y : State) → walk (storacle p) 0 v ≡ some y → length v ≤ m
  no_longer_walk = Theorems.no_longer_walk p

  -- ── '.. for up to m(m+1)/2 arrows' ───────────────────────────────────────

  pub m_to_half_of_m_m+1 : (m ≤ length (storacle_rule p)) × (length (storacle_rule p) ≤ most_arrows m)
  m_to_half_of_m_m+1 = (Theorems.arrows_least p, Theorems.arrows_most p)

pub most_arrows_lem : (m : ℕ) → most_arrows m ≡ (m * (m + 1)) / 2
unfolding most_arrows
most_arrows_lem m = refl

-- ── 'abcacdace gets 16 arrows.' ────────────────────────────────────────────

-- abcacdace
abbrev example : Word
example = 97 ∷ 98 ∷ 99 ∷ 97 ∷ 99 ∷ 100 ∷ 97 ∷ 99 ∷ 101 ∷ []

pub sixteen : length (storacle_rule example) ≡ 16
unfolding from target spine far first_in until_walked storacle_after storacle_rule
sixteen = refl

-- ── 'Papers only conjecture at most 3m arrows, so claim no such bound;' ────

-- abcdabcdbacbbdaddccaae, of 22 letters, has more
abbrev witness : Word
witness =
    97 ∷ 98 ∷ 99 ∷ 100 ∷ 97 ∷ 98 ∷ 99 ∷ 100 ∷ 98 ∷ 97 ∷ 99
    ∷ 98 ∷ 98 ∷ 100 ∷ 97 ∷ 100 ∷ 100 ∷ 99 ∷ 99 ∷ 97 ∷ 97 ∷ 101 ∷ []

pub more_than_3m : (length witness ≡ 22) × (length (storacle_rule witness) ≡ 67)
unfolding from target spine far first_in until_walked storacle_after storacle_rule
more_than_3m = (refl, refl)

pub no_such_bound : ((p : Word) → length (storacle_rule p) ≤ 3 * length p) → ⊥
no_such_bound bound = omega (arith, bound witness, more_than_3m.0, more_than_3m.1)

-- ── 'its room (3) is (m+1)(m+6) entries, ..; limit m to 128 here, refused with 2.' ──

pub its_room : (m : ℕ) → storacle_room m ≡ (m + 1) * (m + 6)
its_room m = refl

pub its_limit : longest_storacle ≡ 128
its_limit = storacle_limit

-- building: 1, 2, 3 in this order; a refusal changes nothing
module _ (word : Word) (T : List ℕ) where
  abbrev need : ℕ
  need = storacle_room (length word)

  pub build_exactly_when : (o : Outcome) → (storacle_build_says word T ≡ o) ↔ StoracleBuildCase word T o
  build_exactly_when = Build.storacle_build_is word T

  pub build_numbers : refuses_only (1 ∷ 2 ∷ 3 ∷ []) (storacle_build_says word T).answer ≡ true
  build_numbers = Build.storacle_build_numbers word T

  pub build_refusal_leaves : {n : ℕ} → (storacle_build_says word T).answer ≡ refused n → (storacle_build_says word T).tables ≡ T
  build_refusal_leaves = Build.storacle_build_refusal_leaves word T

  -- a success answers m; its entries depend on the word alone, the others are kept
  module _ (some-letter : 1 ≤ length word) (few : length word ≤ longest_storacle) (enough : need ≤ length T) where
    abbrev entries : List ℕ
    entries = take need (storacle_build_says word T).tables

    pub build_answers : (storacle_build_says word T).answer ≡ done (length word)
    build_answers = ap (λ (o : Outcome). o.answer) ((build_exactly_when _).1 (StoracleBuildCase.accepted some-letter few enough))

    pub word_alone_lem : (entries ≡ storacle_table word) × (drop need (storacle_build_says word T).tables ≡ drop need T)
    word_alone_lem = let L = Build.done-leaves word T some-letter few enough in (L.entries, L.others)

    -- the word and the rule's arrows are read from them, and no others
    pub all_read : (read_word (length word) entries ≡ word)
        × ((x : State) (c : Letter) → read_storacle (length word) entries x c ≡ storacle word x c)
    all_read = let L = Build.done-leaves word T some-letter few enough in (L.reads_word, L.reads_arrows)

-- what is promised allows one outcome
pub build_fixed : (word : Word) (T : List ℕ) (r s : Result ℕ Refusal) (A B : List ℕ)
    → built r A ≡ storacle_build_says word T → built s B ≡ storacle_build_says word T → (r ≡ s) × (A ≡ B)
build_fixed = Build.storacle_build_one

-- and the rule by which they are read does not work them out of the word: any such arrows are read from some table
pub any_arrows_read : (p : Word) (A : List Arrow) → StoracleSet p A → (L : List ℕ) × ReadAsStoracle p A L
any_arrows_read = storacle_freedom
