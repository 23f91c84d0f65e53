-- THE TABLE AFTER t LETTERS: the loop's invariant, that it holds of the blank table, that a letter keeps it, and that after all letters the
-- chains and supplies are those of the word's oracle.
use mathlib.Core.Path.{◌≡◌, refl, sym, ap, ◌∙◌}
use mathlib.Core.Bool.{Bool}
use mathlib.Core.Logic.{inl, inr, ◌≢◌}
use mathlib.Core.Option.{some}
use mathlib.Core.List.{List, [], ◌∷◌, reverse, reverse-reverse, Memᴰ}
use Prim.Native.Nat.{ℕ, zero, suc, pred, ◌+◌, ◌*◌, ◌-◌, ◌≤◌, ◌<◌}
use native.Mathlib.Nat.{le_refl, zero-add}
use native.Mathlib.Numerals.{add-one}
use native.Mathlib.Omega.{arith}
use lib.ListN.{length, set, length-set, length-append, length-reverse}
use lib.Seq.{get_or-set_same, get_or-set_other, set-get_or}
use Rattle.words.specs.Lists.{at, from, only}
use Rattle.words.specs.Words.{Letter, Word, letter}
use Rattle.words.proofs.Lists.{only_same}
use Rattle.words.proofs.Words.{part_length, part_at}
use Rattle.oracle.specs.Arrows.{State, Delta}
use Rattle.oracle.specs.SuffixPath.{SuffixPath, ended}
use Rattle.oracle.specs.SuffixRule.{oracle}
use Rattle.oracle.specs.FileOrder.{leads_to, extra_targets, targets_before}
use Rattle.oracle.proofs.Targets.{never}
use Rattle.oracle.proofs.Chain.{Supplied, supply_below}
use Rattle.oracle.proofs.Grow.{Climb, out, go, last-free}
use Rattle.oracle.proofs.Count.{path_grows}
use Rattle.oracle.proofs.SuffixRule.{suffix_rule-arrows}
use Rattle.oracle.proofs.Supply.{supply_is_defined}
use Rattle.oracle.proofs.Theorems.{same-letters}
use Rattle.chains.specs.Chains.{ends}
use Rattle.chains.specs.Letters.{Begun, Added, first-letter, later_letter, Blank, word_in, ChainsOf}
use Rattle.chains.proofs.Looking.{look_far}
use Rattle.chains.proofs.Pushing.{chain-kept}
use Rattle.chains.proofs.Climbing.{begun-ready}
use Rattle.chains.proofs.Model.{Targets, arrows_of, extras_up_to, Gets, letter-supplied, letter-in_order}
use Rattle.chains.proofs.Sources.{total, Held, held-chained, ComesTo, comes_to}

pub record Grown (B : List ℕ) (m : ℕ) (L : List ℕ) (t u : ℕ) : Type 0 where
  pub T : Targets
  pub held : Held L (suc m) u T
  pub inside : t ≤ m
  pub letters : (i : ℕ) → i < suc m → at L i ≡ at B i
  pub supplied : Supplied t (λ i. at B (suc i)) (arrows_of (at B) t T) (λ x. at L (suc m + x))
  pub later : (x : State) → t < x → x ≤ m → at L (suc m + x) ≡ 0
  pub fresh : (x : State) → t ≤ x → T x ≡ []
  pub path : List State
  pub suffix : SuffixPath (λ x. at L (suc m + x)) t path
  pub free : u + length path ≤ t
  pub in_order : (x : State) → reverse (T x) ≡ extras_up_to (at B) (arrows_of (at B) t T) x t
  pub counts : total T (suc m) ≡ u
  pub unlaid : (i : ℕ) → i < suc m → at L (3 * suc m + i) ≡ 0

module _ {B : List ℕ} {m : ℕ} (K : Blank B m) where
  abbrev n : ℕ
  n = suc m

  -- ── No letter ────────────────────────────────────────────────────────────

  abbrev none_yet : Targets
  none_yet x = []

  no_arrow : (x : State) (c : Letter) (y : State) {X : Type 0} → arrows_of (at B) 0 none_yet x c ≡ some y → X
  no_arrow x c y e = never (look_far (at B) 0 [] x c (omega arith)) e

  pub grown_start : Grown B m B 0 0
  unfolding total from only
  grown_start = record {
    T = none_yet;
    held = record {
      size = K.size;
      heads = λ x h. omega (arith, K.empty (2 * n + x) (omega arith));
      chain = λ x h. ends (K.empty (2 * n + x) (omega arith));
    };
    inside = omega arith;
    letters = λ i h. refl;
    supplied = record {
      spine = λ i h. absurd (omega arith);
      into = λ x c y e. no_arrow x c y e;
      base = K.empty (n + 0) (omega arith);
      down = λ x h. absurd (omega arith);
      answers = λ x c y e. no_arrow x c y e;
      bottom = λ c y e. no_arrow 0 c y e;
    };
    later = λ x h b. K.empty (n + x) (omega arith);
    fresh = λ x h. refl;
    path = [];
    suffix = ended refl;
    free = omega arith;
    in_order = λ x. order x;
    counts = nothing n;
    unlaid = λ i h. K.empty (3 * n + i) (omega arith);
  }
    where
      order : (x : State) → [] ≡ extras_up_to (at B) (arrows_of (at B) 0 none_yet) x 0
      order x = let e : 0 - suc x ≡ 0 = omega arith in rw e refl

      nothing : (k : ℕ) → total (λ x. []) k ≡ 0
      nothing zero = refl
      nothing (suc k) = omega (arith, nothing k)

  -- ── One letter ───────────────────────────────────────────────────────────

  module _ {L : List ℕ} {t u : ℕ} (G : Grown B m L t u) (more : t < m) where
    S : State → State
    S x = at L (n + x)

    pub grown_begun : Begun L n t u
    grown_begun = record {
      chained = held-chained G.held;
      inside = omega arith;
      down = λ x h. supply_below G.supplied x h;
      heads = G.held.heads;
      letter = rw (G.letters (suc t) (omega arith)) (K.letters (suc t) more);
      path = G.path;
      suffix = G.suffix;
      free = G.free;
    }

    -- a climb's table with the new state's supply
    module _ {L₁ : List ℕ} {u' : ℕ} {y : State} {xs : List State} {T' : Targets}
        (C : Climb (arrows_of (at B) t G.T) (λ x. at L (n + x)) (at B (suc t)) t (t ∷ xs) y)
        (news : (x : State) → Gets G.T T' xs (suc t) x) (low : (x : State) → Memᴰ x xs → x < t)
        (held : Held L₁ n u' T') (used : u' ≡ length xs + u) (kept : (i : ℕ) → i < 2 * n → at L₁ i ≡ at L i)
        (unlaid : (i : ℕ) → i < n → at L₁ (3 * n + i) ≡ at L (3 * n + i)) (counts : total T' n + u ≡ total G.T n + u') where
      abbrev L₂ : List ℕ
      L₂ = set L₁ (n + suc t) y

      elsewhere : (i : ℕ) → i ≢ n + suc t → at L₂ i ≡ at L₁ i
      elsewhere i f = get_or-set_other L₁ (n + suc t) i y 0 f

      given : at L₂ (n + suc t) ≡ y
      given = get_or-set_same L₁ (n + suc t) y 0 (omega (arith, held.size))

      supplies-kept : (x : State) → x ≤ t → at L₂ (n + x) ≡ at L (n + x)
      supplies-kept x h = elsewhere (n + x) (omega arith) ∙ kept (n + x) (omega arith)

      slots_kept : (j : ℕ) → 0 < j → j ≤ u' → (at L₂ (4 * n + j) ≡ at L₁ (4 * n + j)) × (at L₂ (5 * n + j) ≡ at L₁ (5 * n + j))
      slots_kept j p l = (elsewhere (4 * n + j) (omega arith), elsewhere (5 * n + j) (omega arith))

      fresh' : (x : State) → suc t ≤ x → T' x ≡ []
      fresh' x h = by (news x)
        where
          by : Gets G.T T' xs (suc t) x → T' x ≡ []
          by (inl r) = absurd (omega (arith, low x r.0))
          by (inr r) = r.1 ∙ G.fresh x (omega arith)

      pub grown_next : Grown B m L₂ (suc t) u'
      grown_next =
          let P = path_grows G.supplied (u + t) (λ x. at L₂ (n + x)) C G.suffix (omega (arith, G.free)) supplies-kept given in
          record {
            T = T';
            held = record {
              size = length-set L₁ (n + suc t) y ∙ held.size;
              heads = λ x h. rw (elsewhere (2 * n + x) (omega arith)) (held.heads x h);
              chain = λ x h. rw (elsewhere (2 * n + x) (omega arith)) (chain-kept slots_kept (held.heads x h) (held.chain x h));
            };
            inside = more;
            letters = λ i h. elsewhere i (omega arith) ∙ kept i (omega arith) ∙ G.letters i h;
            supplied = letter-supplied (at B) G.supplied C G.fresh low news supplies-kept given;
            later = λ x h b. elsewhere (n + x) (omega arith) ∙ kept (n + x) (omega arith) ∙ G.later x (omega arith) b;
            fresh = fresh';
            path = y ∷ P.0;
            suffix = P.1;
            free = omega (arith, P.2, used);
            in_order = λ x. letter-in_order (at B) G.supplied C G.fresh low news supplies-kept given x (G.in_order x);
            counts = omega (arith, counts, G.counts);
            unlaid = λ i h. elsewhere (3 * n + i) (omega arith) ∙ unlaid i h ∙ G.unlaid i h;
          }

    pub grown_letter : {L' : List ℕ} {u' : ℕ} → Added n t L u L' u' → Grown B m L' (suc t) u'
    grown_letter {L'} {u'} (first-letter z e q) = rw (e, q) (rw same at first)
      where
        first : Grown B m (set L (n + suc t) 0) (suc t) u
        first = grown_next {xs = []} {T' = G.T} (out z refl (last-free G.supplied (at B (suc t))))
            (λ x. inr (λ i. elim i [ ], refl)) (λ x i. absurd (elim i [ ])) G.held (sym (zero-add u)) (λ i h. refl) (λ i h. refl) refl

        same : set L (n + suc t) 0 ≡ L
        same = ap (set L (n + suc t)) (sym (G.later (suc t) (le_refl _) more)) ∙ set-get_or L (n + suc t) 0
    grown_letter {L'} {u'} (later_letter L₁ y p C e) =
        let R = begun-ready grown_begun (λ z. omega arith, refl) in
        rw e (by (comes_to (at B) (rw (G.letters (suc t) (omega arith)) at C) R G.held G.letters))
      where
        down : at L (n + t) ≤ t - 1
        down = supply_below G.supplied t (le_refl t)

        by : ComesTo (at B) n t (at B (suc t)) L u G.T (at L (n + t)) L₁ u' y → Grown B m (set L₁ (n + suc t) y) (suc t) u'
        by R = grown_next (go p (last-free G.supplied (at B (suc t))) R.climb) R.news
            (λ x i. omega (arith, R.low x i, down)) R.held R.used R.kept R.unlaid R.counts

  -- ── All letters ──────────────────────────────────────────────────────────

  module _ {L : List ℕ} {u : ℕ} (G : Grown B m L m u) where
    abbrev p : Word
    p = word_in B m

    abbrev δ : Delta
    δ = arrows_of (at B) m G.T

    size : length p ≡ m
    size = part_length B 1 m (omega (arith, K.size))

    letter_in : (i : ℕ) → i < m → letter p i ≡ at B (suc i)
    letter_in i h = part_at B 1 m i h ∙ ap (at B) (omega arith)

    supplied : Supplied (length p) (letter p) δ (λ x. at L (n + x))
    supplied = rw size (same-letters (λ i. at B (suc i)) (letter p) letter_in G.supplied)

    in_file_order : (x : State) → extra_targets (oracle p) p x ≡ reverse (G.T x)
    unfolding extra_targets
    in_file_order x = rw size (only_same here there (suc (suc x)) (m - suc x) test) ∙ sym (G.in_order x)
      where
        here : State → Bool
        here y = leads_to (oracle p x (letter p (pred y))) y

        there : State → Bool
        there y = leads_to (δ x (at B y)) y

        test : (y : ℕ) → suc (suc x) ≤ y → y < suc (suc x) + (m - suc x)
            → here y ≡ there y
        test zero h b = absurd (omega arith)
        test (suc y) h b =
            ap (λ o. leads_to o (suc y)) (suffix_rule-arrows p supplied x (letter p y) ∙ ap (δ x) (letter_in y (omega arith)))

    counted : (k : ℕ) → length (targets_before (oracle p) p k) ≡ total G.T k
    unfolding targets_before total
    counted zero = refl
    counted (suc k) =
        length-append (targets_before (oracle p) p k) (extra_targets (oracle p) p k)
        ∙ rw (counted k, in_file_order k, length-reverse (G.T k)) refl

    pub grown_end : ChainsOf B m L u
    grown_end = record {
      chained = held-chained G.held;
      slots = omega (arith, G.free);
      heads = G.held.heads;
      letters = G.letters;
      no_supply = (ap (at L) (omega arith)) ∙ G.supplied.base;
      supplies = λ x h. supply_is_defined p supplied (suc x) (omega arith) (rw size h);
      targets = λ x h. rw (in_file_order x, reverse-reverse (G.T x)) (G.held.chain x h);
      counted = counted n ∙ G.counts;
      unlaid = G.unlaid;
    }

-- ── In the code's sums ─────────────────────────────────────────────────────

pub code-begun : {B L : List ℕ} {m t u : ℕ} → Blank B m → Grown B m L t u → t < m → Begun L (m + 1) t u
code-begun {m = m} K G h = rw (add-one m) (grown_begun K G h)

pub code-letter : {B L L' : List ℕ} {m t u u' : ℕ} → Blank B m → Grown B m L t u → t < m → Added (m + 1) t L u L' u'
    → Grown B m L' (t + 1) u'
code-letter {m = m} {t = t} K G h A = rw (add-one t) (grown_letter K G h (rw (add-one m) at A))

pub code-end : {B L : List ℕ} {m t u : ℕ} → Blank B m → Grown B m L t u → m ≤ t → ChainsOf B m L u
code-end {m = m} {t = t} K G h = let e : t ≡ m = omega (arith, G.inside) in grown_end K (rw e at G)
