-- THE TABLE OF A SET OF ARROWS IS READ AS THAT SET. The failure arrows are laid out over the word alone, then the symbol arrows over those,
-- each by one of the two steps (`FailureLaid`, `SymbolLaid`), so all are laid out. What is no state has no arrow in the set, and none is
-- read. The arrows that the failure rule adds are such a set.
use mathlib.Core.Path.{◌≡◌, refl, sym, ap, ◌∙◌, fun_ext}
use mathlib.Core.Logic.{⊎_elim, by_cases}
use mathlib.Core.Option.{none}
use mathlib.Core.List.Memᴰ
use mathlib.Core.List.{List, [], ◌∷◌, Memᴰ}
use Prim.Native.Nat.{ℕ, suc, pred, ◌+◌, ◌≤◌, ◌<◌}
use native.Mathlib.Decide.{dec_le}
use native.Mathlib.Omega.{arith}
use lib.ListN.{length}
use Rattle.words.specs.Words.{Letter, Word, letter}
use Rattle.words.proofs.Lists.{none_where}
use Rattle.oracle.specs.Arrows.{State, Arrow, arrow, Delta, target, spine, OneEach}
use Rattle.oracle.proofs.Targets.{target_member}
use Rattle.oracle.proofs.FileOrder.{spine_member}
use Rattle.failure.specs.FailureRule.{Failure, Fails, failure_of, ask, FailureArrows, symbols, ask_in}
use Rattle.failure.proofs.Paths.{Climbing}
use Rattle.failure.proofs.Added.{failure_member, OneByOne}
use Rattle.failure.proofs.Added.{added-failures-climb, added-letter, added-sources, added-one_each, added-one, added-count}
use Rattle.failure_table.specs.FailureTable.{word_alone, slotted, lay_failures, lay_arrows, failure_table_from}
use Rattle.failure_table.specs.FailureTable.{read_failure, read_symbol, read_ask}
use Rattle.failure_table.specs.FailureFormed.{FailureFormed}
use Rattle.failure_table.specs.FailureFreedom.{FailureSet}
use Rattle.failure_table.proofs.Lookups.{failure_entry, failure-some, failure-far, symbol-far}
use Rattle.failure_table.proofs.LaidOut.{LaidOut, alone-laid}
use Rattle.failure_table.proofs.FailureLaid.{failure-laid}
use Rattle.failure_table.proofs.SymbolLaid.{NewSymbol, symbol-laid}

-- ── Laid out ───────────────────────────────────────────────────────────────

module _ (p : Word) where
  failures-laid : (F : List Failure) → ((f : Failure) → Memᴰ f F → (f.source < f.to) × (f.to < length p))
      → LaidOut p (record { extra = []; failures = F }) (lay_failures (length p + 1) F (word_alone p))
  unfolding lay_failures
  failures-laid [] climbs = alone-laid p
  failures-laid (f ∷ F) climbs =
      let up = climbs f (Memᴰ.head refl) in
      failure-laid (failures-laid F (λ g i. climbs g (Memᴰ.tail i))) f.source f.to up.0 up.1

  -- an arrow that is as the rule makes them, into k + 1 on its letter
  arrow-laid : {A : FailureArrows} {L : List ℕ} → LaidOut p A L → (x : State) (c : Letter) (y k : State) → y ≡ suc k → c ≡ letter p k
      → NewSymbol p A x k
      → LaidOut p (record { extra = arrow x c y ∷ A.extra; failures = A.failures }) (slotted L (length p + 1) (length A.extra) x y)
  arrow-laid D x c y k e d N = rw (e, d) (symbol-laid D N)

  -- one arrow fewer is such a set too
  fewer : {a : Arrow} {E : List Arrow} {F : List Failure} → FailureSet p (record { extra = a ∷ E; failures = F })
      → FailureSet p (record { extra = E; failures = F })
  unfolding OneEach
  fewer X = record {
    few = omega arith;
    sources = λ b i. X.sources b (Memᴰ.tail i);
    above = λ b i. X.above b (Memᴰ.tail i);
    inside = λ b i. X.inside b (Memᴰ.tail i);
    letters = λ b i. X.letters b (Memᴰ.tail i);
    one_each = X.one_each.1;
    climbs = X.climbs;
    one-failure = X.one-failure;
  }

  arrows-laid : (E : List Arrow) (F : List Failure) → FailureSet p (record { extra = E; failures = F })
      → LaidOut p (record { extra = E; failures = F }) (failure_table_from p (record { extra = E; failures = F }))
  unfolding failure_table_from lay_arrows OneEach
  arrows-laid [] F X = failures-laid F X.climbs
  arrows-laid (a ∷ E) F X =
      let i = Memᴰ.head {x = a} refl in
      let above = X.above a i in
      let inside = X.inside a i in
      arrow-laid (arrows-laid E F (fewer X)) a.source a.on a.to (pred a.to) (omega arith) (X.letters a i) (record {
        few = X.few;
        state = X.sources a i;
        low = omega arith;
        lacks = rw (X.letters a i) at X.one_each.0;
      })

  -- every such set is laid out in its table
  pub laid : {A : FailureArrows} → FailureSet p A → LaidOut p A (failure_table_from p A)
  laid {A} X = arrows-laid A.extra A.failures X

  -- ── The rule's arrows ────────────────────────────────────────────────────

  -- arrows that the rule adds are such a set
  pub added-set : {A : FailureArrows} {i : ℕ} → OneByOne p A i → i ≤ length p → FailureSet p A
  added-set {A} G h = record {
    few = omega (arith, added-count p G);
    sources = λ a i. added-sources p G i;
    above = λ a i. let r = into i in omega arith;
    inside = λ a i. let r = into i in omega arith;
    letters = λ a i. let r = into i in rw r.1 r.3;
    one_each = added-one_each p G;
    climbs = λ f i. added-failures-climb p G i;
    one-failure = added-one p G;
  }
    where
      into : {a : Arrow} → Memᴰ a A.extra → (z : State) × (a.to ≡ suc z) × (z < length p) × (a.on ≡ letter p z)
      into i = added-letter p G (Memᴰ.append_left (spine p) i)

  module _ {A : FailureArrows} (X : FailureSet p A) where
    abbrev L : List ℕ
    L = failure_table_from p A

    set-climbs : Climbing (length p) (failure_of A.failures)
    set-climbs x z e = X.climbs _ (failure_member A.failures x z e)

    -- ── What code may read ─────────────────────────────────────────────────

    -- its table is formed
    pub laid-formed : length p < 65535 → FailureFormed (failure_table_from p A) (length p)
    laid-formed small = record {
      enough = omega (arith, laid X);
      small = small;
      firsts = λ x h. omega (arith, (laid X).firsts x h);
      nexts = (laid X).nexts;
      targets = (laid X).targets;
      climbs = λ x h e. set-climbs x (failure_entry (length p) L x) (sym ((laid X).failures-read x h) ∙ failure-some (length p) L x h e);
    }

    -- ── The table is read as its arrows ────────────────────────────────────

    far-symbol : (x : State) (c : Letter) → length p < x → target (symbols p A) x c ≡ none
    far-symbol x c h = none_where (target (symbols p A) x c) (λ y e. ⊎_elim
        (λ i. omega (arith, X.sources _ i))
        (λ i. omega (arith, (spine_member p i).0))
        (Memᴰ.append_cases A.extra (target_member (symbols p A) x c y e)))

    far-failure : (x : State) → length p < x → failure_of A.failures x ≡ none
    far-failure x h = none_where (failure_of A.failures x) (λ z e. omega (arith, set-climbs x z e))

    -- symbol arrows are read as they are
    pub symbols-read : (x : State) (c : Letter) → read_symbol (length p) (failure_table_from p A) x c ≡ target (symbols p A) x c
    symbols-read x c = by_cases (dec_le x (length p))
        (λ h. (laid X).symbols-read x c h)
        (λ h. symbol-far (length p) L x c (omega arith) ∙ sym (far-symbol x c (omega arith)))

    -- so are failure arrows
    pub failures-read : (x : State) → read_failure (length p) (failure_table_from p A) x ≡ failure_of A.failures x
    failures-read x = by_cases (dec_le x (length p))
        (λ h. (laid X).failures-read x h)
        (λ h. failure-far (length p) L x (omega arith) ∙ sym (far-failure x (omega arith)))

    -- so what becomes of a letter by the table is what becomes of it by the arrows
    pub steps-read : read_ask (length p) (failure_table_from p A) ≡ ask_in p A
    unfolding read_ask ask_in
    steps-read =
        ap (λ (δ : Delta). ask δ (read_failure (length p) L) (length p)) (fun_ext (λ x. fun_ext (symbols-read x)))
        ∙ ap (λ (φ : Fails). ask (target (symbols p A)) φ (length p)) (fun_ext failures-read)
