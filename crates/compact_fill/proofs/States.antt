-- STATE BY STATE (`FilledUpTo`): what is put stays, and in the end the rows of targets hold those of all arrows and zeros.
use mathlib.Core.Path.{◌≡◌, refl, sym, ◌∙◌}
use mathlib.Core.Logic.{◌≢◌, by_cases}
use mathlib.Core.Option.{none, some}
use mathlib.Core.List.{List}
use Prim.Native.Nat.{ℕ, suc, ◌+◌, ◌*◌, ◌/◌, ◌%◌, ◌≤◌, ◌<◌}
use native.Mathlib.Numerals.{add-one}
use native.Mathlib.Decide.{dec_lt, ℕ_discrete}
use native.Mathlib.Omega.{arith}
use lib.ListN.{length, get_or-eq_default}
use Rattle.words.specs.Lists.{at}
use Rattle.words.specs.Words.{Letter, Word}
use Rattle.oracle.specs.Arrows.{State}
use Rattle.oracle.specs.SuffixRule.{oracle}
use Rattle.oracle.proofs.Targets.{never}
use Rattle.chains.specs.Letters.{word_in}
use Rattle.compact.specs.Compact.{arrow_number, arrow_at, targets_up_to, sets_from}
use Rattle.compact.proofs.Targets.{targets_rise, target-inside, target_at, target_of_lem}
use Rattle.compact.proofs.Theorems.{no_arrow}
use Rattle.compact_fill.specs.Filling.{first_place, FirstForm, Words64, NoneOf, WithState, FilledState, AllStates}
use Rattle.compact_fill.proofs.OutArrows.{own-word, first_stays}
use Rattle.compact_fill.proofs.Marking.{MarkedUpTo, next-empty, state_more, all-marked}

-- the states below x have their starts and their targets; so many targets are there, and zeros behind them
pub record FilledUpTo (p : Word) (m : ℕ) (L L' : List ℕ) (before : ℕ) (x : State) : Type 0 where
  pub size : length L' ≡ length L
  pub counted : before ≡ first_place (oracle p) x
  pub starts : (i : ℕ) → i / 4 < x → at L' (4 * (m + 1) + i) ≡ length (targets_up_to (oracle p) (64 * i))
  pub put : (g : ℕ) → g / 256 < x → (y : State) → arrow_at (oracle p) g ≡ some y
      → at L' (8 * (m + 1) + length (targets_up_to (oracle p) g)) ≡ y
  pub kept : (i : ℕ) → i < 4 * (m + 1) → at L' i ≡ at L i
  pub behind : (i : ℕ) → first_place (oracle p) x ≤ i → at L' (8 * (m + 1) + i) ≡ 0

module _ {p : Word} {m : ℕ} {L : List ℕ} where
  pub nothing-filled : ((i : ℕ) → 4 * (m + 1) ≤ i → at L i ≡ 0) → FilledUpTo p m L L 0 0
  unfolding targets_up_to
  nothing-filled zeros = record {
    size = refl;
    counted = refl;
    starts = λ i h. absurd (omega arith);
    put = λ g h. absurd (omega arith);
    kept = λ i h. refl;
    behind = λ i h. zeros (8 * (m + 1) + i) (omega arith);
  }

  module _ {L' : List ℕ} {before : ℕ} {x : State} (A : FilledUpTo p m L L' before x) where
    pub state-filled : {L'' : List ℕ} {next : ℕ} → x < m → next ≡ first_place (oracle p) (suc x)
        → WithState (oracle p) m x L' L'' → FilledUpTo p m L L'' next (x + 1)
    state-filled {L''} {next} h counted S = rw (add-one x) (record {
      size = S.size ∙ A.size;
      counted = counted;
      starts = λ i l. by_cases (ℕ_discrete (i / 4) x)
          (λ q.
          let e : 4 * (m + 1) + (4 * x + i % 4) ≡ 4 * (m + 1) + i = omega arith in
          let number : 4 * x + i % 4 ≡ i = omega arith in
          rw (e, number) at (S.starts (i % 4) (omega arith)))
          (λ q. S.before (4 * (m + 1) + i) (omega arith) ∙ A.starts i (omega arith));
      put = λ g l y e. by_cases (ℕ_discrete (g / 256) x)
          (λ q.
          let number : arrow_number x (g % 256) ≡ g = omega arith in
          let leads : oracle p x (g % 256) ≡ some y = rw q at e in
          rw number at (S.put (g % 256) (omega arith) y leads))
          (λ q.
          let earlier = target-inside (oracle p) g e (256 * x) (omega arith) in
          S.between _ (omega arith) (omega (arith, earlier)) ∙ A.put g (omega arith) y e);
      kept = λ i l. S.before i (omega arith) ∙ A.kept i l;
      behind = λ i l.
          let risen = targets_rise (oracle p) (256 * x) (256 * suc x) (omega arith) in
          S.behind (8 * (m + 1) + i) (omega arith) ∙ A.behind i (omega (arith, risen));
    })

    pub all-filled : x ≡ m → ((c : Letter) → oracle p m c ≡ none) → AllStates (oracle p) m L L'
    all-filled e none_last = record {
      size = A.size;
      starts = λ i h. A.starts i (omega arith);
      targets = λ i h. target i;
      before = A.kept;
    }
      where
        row : List State
        row = targets_up_to (oracle p) (256 * (m + 1))

        target : (i : ℕ) → at L' (8 * (m + 1) + i) ≡ at row i
        target i = by_cases (dec_lt i (length row))
            (λ l.
            let T = target_of_lem (oracle p) (256 * (m + 1)) i l in
            let below : T.number / 256 ≢ m = λ q. never (none_last (T.number % 256)) (rw q at T.leads) in
            let put = A.put T.number (omega (arith, T.below)) T.to T.leads in
            (rw T.place at put) ∙ sym (rw T.place at (target_at (oracle p) T.number T.leads (256 * (m + 1)) T.below)))
            (λ l.
            let risen = targets_rise (oracle p) (256 * x) (256 * (m + 1)) (omega arith) in
            A.behind i (omega (arith, risen)) ∙ sym (get_or-eq_default row 0 {n = i} (omega arith)))

    -- ── As code asks ───────────────────────────────────────────────────────

    module _ (F : FirstForm p L m) where
      -- the first form stays
      now_first : FirstForm p L' m
      now_first = first_stays F A.size A.kept

      pub state-asked : {Z : List ℕ} → x < m → MarkedUpTo (oracle p) m Z x
          → (x < m) × Words64 Z × NoneOf x Z × (before ≡ first_place (oracle (word_in L' m)) x)
      state-asked h U = rw (own-word now_first) (h, U.small, next-empty U, A.counted)

      pub state-told : {Z Z' L'' : List ℕ} {next : ℕ} → x < m → MarkedUpTo (oracle p) m Z x
          → FilledState (oracle (word_in L' m)) m x Z L' Z' L'' next
          → MarkedUpTo (oracle p) m Z' (x + 1) × FilledUpTo p m L L'' next (x + 1)
      state-told {Z} {Z'} {L''} {next} h U says = by (rw (own-word now_first) at says)
        where
          by : FilledState (oracle p) m x Z L' Z' L'' next
              → MarkedUpTo (oracle p) m Z' (x + 1) × FilledUpTo p m L L'' next (x + 1)
          by says = (state_more U says.1, state-filled h says.0 says.2)

      pub all_told : {Z : List ℕ} → x ≡ m → MarkedUpTo (oracle p) m Z x
          → (before ≡ first_place (oracle p) m) × (Z ≡ sets_from (oracle p) m) × AllStates (oracle p) m L L'
      all_told e U =
          let none_last : (c : Letter) → oracle p m c ≡ none = λ c. no_arrow p m c (omega (arith, F.long)) in
          (rw e at A.counted, all-marked U e none_last, all-filled e none_last)
