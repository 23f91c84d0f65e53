-- THE SUFFIX RULE GIVES THE SAME ARROWS, to any automaton δ that has the record over the word. In ten lines:
--
--   Write A(i) for the rule's arrows after suffix i (A(0): the spine). Claim: A(i) has only arrows of δ, and has all that δ's walks of
--   the suffixes 0 to i use. The spine has them for suffix 0. Now take suffix i + 1.
--   In A(i) its walk goes as in δ for as long as A(i) has the arrows, since all of A(i) is δ's. If they last to the word's end, nothing is
--   added, and nothing was missing. Else some first arrow of δ's walk is lacking, behind k letters, in the state j where the rule's own
--   walk halts. `lacking-leads_to-spine`: in δ that arrow leads to k + 1. (By the record its source is on the chain of the state before its
--   target. All of a chain is reached by factors, so some suffix uses the arrow there. If an earlier one did, A(i) had it. If a later one,
--   suffix i + 1 itself had come to the spine by then.)
--   So the arrow that the rule adds is δ's own, and behind it the suffix runs on the spine, which A(i) has. The claim holds for i + 1.
--   At the end: every arrow of δ has its source on a chain, so some suffix uses it, so it was added.
use mathlib.Core.Path.{◌≡◌, refl, sym, ap, ◌∙◌}
use mathlib.Core.Logic.{⊎_elim, by_cases}
use mathlib.Core.Option.{none, some}
use mathlib.Core.List.{List, [], ◌∷◌, ◌++◌, map, append_assoc}
use Prim.Native.Nat.{ℕ, zero, suc, ◌+◌, ◌-◌, ◌≤◌, ◌<◌}
use native.Mathlib.Nat.{zero-add, add-zero, add-suc}
use native.Mathlib.Decide.{dec_lt, ℕ_discrete}
use native.Mathlib.Omega.{arith}
use lib.ListN.{length, drop, length-drop}
use lib.Seq.{drop-cons}
use borrow.Author.Tests.{eq-eqb, ne_eqb}
use Rattle.words.specs.Lists.{from}
use Rattle.words.specs.Words.{Letter, Word, letter}
use Rattle.words.proofs.Lists.{option_cases, none_where}
use Rattle.oracle.specs.Arrows.{State, Arrow, arrow, Delta, target, spine, OneEach}
use Rattle.oracle.specs.SuffixRule.{Halt, far, mend, missing, extras_after, extra_arrows, suffix_rule, oracle}
use Rattle.oracle.proofs.Targets.{never, target_hit, target-skip, target_pass}
use Rattle.oracle.proofs.Chain.{Supplied}
use Rattle.oracle.proofs.Reach.{reach, reach_0, reach_next, reach_arrow, reach_spine, stays_on_spine, chain_reached}
use Rattle.oracle.proofs.Reach.{lacking-leads_to-spine}

-- ── The spine ──────────────────────────────────────────────────────────────

module _ (p : Word) where
  -- its arrows from state i on
  abbrev spine_from : ℕ → ℕ → List Arrow
  spine_from i n = map (λ k. arrow k (letter p k) (suc k)) (from i n)

  spine-arrow : (n i x : ℕ) → i ≤ x → x < i + n → target (spine_from i n) x (letter p x) ≡ some (suc x)
  unfolding from
  spine-arrow zero i x h l = absurd (omega arith)
  spine-arrow (suc n) i x h l =
      let A = spine_from (suc i) n in
      by_cases (ℕ_discrete x i)
      (λ e. rw e (target_hit A i (letter p i) (suc i)))
      (λ e. target-skip A _ x (letter p x) (λ q. e (sym q)) ∙ spine-arrow n (suc i) x (omega arith) (omega arith))

  spine_only : (n i : ℕ) (x : State) (c : Letter) (y : State) → target (spine_from i n) x c ≡ some y
      → (i ≤ x) × (x < i + n) × (c ≡ letter p x) × (y ≡ suc x)
  unfolding from target
  spine_only zero i x c y e = never refl e
  spine_only (suc n) i x c y e = ⊎_elim
      (λ d. let r = spine_only n (suc i) x c y (sym d ∙ e) in (omega (arith, r.0), omega (arith, r.1), r.2, r.3))
      (λ d.
      let f : some y ≡ some (suc i) = sym e ∙ rw (d.0, d.1) (target_hit (spine_from (suc i) n) i (letter p i) (suc i)) in
      let q : y ≡ suc i = cc in
      (omega (arith, d.0), omega (arith, d.0), rw d.0 d.1, rw d.0 q))
      (target_pass (spine_from (suc i) n) (arrow i (letter p i) (suc i)) x c)

  spine-one : (n i : ℕ) → OneEach (spine_from i n)
  unfolding from OneEach
  spine-one zero i = tt
  spine-one (suc n) i = (none_where _ (λ y e. omega (arith, (spine_only n (suc i) i (letter p i) y e).0)), spine-one n (suc i))

pub spine-target : (p : Word) (x : State) → x < length p → target (spine p) x (letter p x) ≡ some (suc x)
unfolding spine
spine-target p x h = spine-arrow p (length p) 0 x (omega arith) (omega arith)

-- ── Suffix by suffix ───────────────────────────────────────────────────────

module _ (p : Word) {δ : Delta} {S : State → State} (O : Supplied (length p) (letter p) δ S) where
  abbrev m : ℕ
  m = length p

  abbrev w : ℕ → Letter
  w = letter p

  abbrev to : ℕ → ℕ → State
  to i n = reach w δ i n

  -- the arrow that suffix j uses behind n letters is in B
  abbrev Uses : Delta → ℕ → ℕ → Type 0
  Uses B j n = B (to j n) (w (j + n)) ≡ some (to j (suc n))

  -- B is a part of δ, and has the arrows that the suffixes before i use
  record Covers (B : Delta) (i : ℕ) : Type 0 where
    within : (x : State) (c : Letter) (y : State) → B x c ≡ some y → δ x c ≡ some y
    has : (j n : ℕ) → j < i → j + n < m → Uses B j n

  -- how far B walks suffix i
  record Halted (B : Delta) (i : ℕ) (h : Halt) : Type 0 where
    len : ℕ
    state : h.state ≡ to i len
    up_to : h.up_to ≡ i + len
    inside : i + len ≤ m
    followed : (n : ℕ) → n < len → Uses B i n
    lacks : i + len < m → B (to i len) (w (i + len)) ≡ none

  -- from behind len letters of suffix i, k letters of the word, v being what is left
  far_halts : (B : Delta) (i : ℕ) → ((x : State) (c : Letter) (y : State) → B x c ≡ some y → δ x c ≡ some y)
      → (v : Word) (len k : ℕ) → k ≡ i + len → v ≡ drop k p → k ≤ m → ((n : ℕ) → n < len → Uses B i n) → Halted B i (far B (to i len) k v)
  unfolding far
  far_halts B i within [] len k e q b f =
      let ended : 0 ≡ m - k = ap length q ∙ length-drop k p in
      record { len = len; state = refl; up_to = e; inside = omega arith; followed = f; lacks = λ h. absurd (omega arith) }
  far_halts B i within (c ∷ v) len k e q b f = option_cases (B (to i len) c)
      (λ d.
      let within_word : i + len ≤ m = omega (arith, inside) in
      rw (d, far) (record { len = len; state = refl; up_to = e; inside = within_word; followed = f; lacks = λ h. rw on at d }))
      (λ y d.
      let next : y ≡ to i (suc len) = sym (reach_next w δ i len (rw on at (within (to i len) c y d))) in
      rw (d, far, next) (far_halts B i within v (suc len) (suc k) (omega arith) (cc (split)) inside (more (rw (on, next) at d))))
    where
      inside : k < m
      inside = omega (arith, ap length q ∙ length-drop k p)

      split : c ∷ v ≡ w k ∷ drop (suc k) p
      split = q ∙ drop-cons p k 0 inside

      on : c ≡ w (i + len)
      on = cc (split, ap w e)

      more : Uses B i len → (n : ℕ) → n < suc len → Uses B i n
      more u n h = by_cases (ℕ_discrete n len) (λ g. rw g u) (λ g. f n (omega arith))

  -- nothing is lacking
  whole : (B : Delta) (i : ℕ) → Covers B i → ((n : ℕ) → i + n < m → Uses B i n) → Covers B (suc i)
  whole B i P f = record { within = P.within; has = has }
    where
      has : (j n : ℕ) → j < suc i → j + n < m → Uses B j n
      has j n h l = by_cases (dec_lt j i) (λ b. P.has j n b l) (λ b. let e : j ≡ i = omega arith in rw e (f n (omega arith)))

  -- the lacking arrow is added
  mended : (A : List Arrow) (i len : ℕ) → 0 < i → Covers (target A) i → i + len < m → ((n : ℕ) → n < len → Uses (target A) i n)
      → target A (to i len) (w (i + len)) ≡ none
      → Covers (target (arrow (to i len) (w (i + len)) (suc (i + len)) ∷ A)) (suc i)
  mended A i len pos P inside followed lacks = whole B i (record { within = within; has = λ j n h l. stays _ _ _ (P.has j n h l) }) uses
    where
      B : Delta
      B = target (arrow (to i len) (w (i + len)) (suc (i + len)) ∷ A)

      onto_spine : to i (suc len) ≡ i + suc len
      onto_spine = lacking-leads_to-spine O (target A) i P.has len inside lacks

      hit : Uses B i len
      hit = rw (onto_spine, add-suc i len) (target_hit A (to i len) (w (i + len)) (suc (i + len)))

      stays : (x : State) (c : Letter) (y : State) → target A x c ≡ some y → B x c ≡ some y
      stays x c y e = ⊎_elim (λ d. d ∙ e) (λ d. never lacks (rw (d.0, d.1) at e)) (target_pass A _ x c)

      within : (x : State) (c : Letter) (y : State) → B x c ≡ some y → δ x c ≡ some y
      within x c y e = ⊎_elim
          (λ d. P.within x c y (sym d ∙ e))
          (λ d. cc (d.0, d.1, hit, reach_arrow O i len inside))
          (target_pass A _ x c)

      -- behind the new arrow the suffix runs on the spine
      beyond : (d : ℕ) → i + (suc len + d) < m → Uses B i (suc len + d)
      beyond d h =
          let e = stays_on_spine O i (suc len) d onto_spine (omega arith) in
          let f = stays_on_spine O i (suc len) (suc d) onto_spine (omega arith) in
          let k = i + (suc len + d) in
          let s : target A (to 0 k) (w (0 + k)) ≡ some (to 0 (suc k)) = P.has 0 k pos (omega arith) in
          let g : i + (suc len + suc d) ≡ suc k = omega arith in
          let u : to i (suc (suc len + d)) ≡ suc k = ap (to i) (sym (add-suc (suc len) d)) ∙ f ∙ g in
          rw (e, u) (stays _ _ _ (rw (zero-add k, reach_spine O k (omega arith), reach_spine O (suc k) (omega arith)) at s))

      uses : (n : ℕ) → i + n < m → Uses B i n
      uses n h = by_cases (dec_lt n len)
          (λ l. stays _ _ _ (followed n l))
          (λ l. by_cases (ℕ_discrete n len)
          (λ e. rw e hit)
          (λ e. let q : suc len + (n - suc len) ≡ n = omega arith in rw q at (beyond (n - suc len) (omega arith))))

  -- one suffix
  suffix_covered : (A : List Arrow) (i : ℕ) → 0 < i → i ≤ m → Covers (target A) i → OneEach A
      → Covers (target (missing p A i ++ A)) (suc i) × OneEach (missing p A i ++ A)
  unfolding missing mend OneEach
  suffix_covered A i pos b P one =
      let H = far_halts (target A) i P.within (drop i p) 0 i (sym (add-zero i)) refl b (λ n h. absurd (omega arith)) in
      by (far (target A) 0 i (drop i p)) (rw (reach_0 w δ i) at H)
    where
      by : (h : Halt) → Halted (target A) i h → Covers (target (mend p h ++ A)) (suc i) × OneEach (mend p h ++ A)
      by h H = by_cases (ℕ_discrete h.up_to (length p))
          (λ e. rw (eq-eqb h.up_to (length p) e) (whole (target A) i P (λ n l. H.followed n (omega (arith, H.up_to))), one))
          (λ e.
          let l : i + H.len < m = omega (arith, H.up_to, H.inside) in
          rw (ne_eqb h.up_to (length p) e, H.state, H.up_to)
          (mended A i H.len pos P l H.followed (H.lacks l), (H.lacks l, one)))

  -- all suffixes
  suffixes_covered : (i : ℕ) → i ≤ m → Covers (target (extras_after p i ++ spine p)) (suc i) × OneEach (extras_after p i ++ spine p)
  unfolding extras_after spine
  suffixes_covered zero h = (record { within = within; has = has }, spine-one p (length p) 0)
    where
      within : (x : State) (c : Letter) (y : State) → target (spine_from p 0 (length p)) x c ≡ some y → δ x c ≡ some y
      within x c y e = let r = spine_only p (length p) 0 x c y e in rw (r.2, r.3) (O.spine x (omega (arith, r.1)))

      has : (j n : ℕ) → j < 1 → j + n < m → Uses (target (spine_from p 0 (length p))) j n
      has j n h l =
          let e : j ≡ 0 = omega arith in
          let here = reach_spine O n (omega arith) in
          let next = reach_spine O (suc n) (omega arith) in
          rw (e, zero-add n, here, next) (spine-arrow p (length p) 0 n (omega arith) (omega arith))
  suffixes_covered (suc i) h =
      let r = suffixes_covered i (omega arith) in
      let A = extras_after p i ++ spine p in
      rw (append_assoc (missing p A (suc i)) (extras_after p i) (spine p)) (suffix_covered A (suc i) (omega arith) h r.0 r.1)

  -- ── The rule's arrows are δ's ────────────────────────────────────────────

  pub suffix_rule-arrows : (x : State) (c : Letter) → oracle p x c ≡ δ x c
  unfolding suffix_rule extra_arrows
  suffix_rule-arrows x c = option_cases (δ x c)
      (λ e. option_cases (oracle p x c) (λ e'. e' ∙ sym e) (λ y e'. never e (P.within x c y e')))
      (λ y e.
      let v = O.into x c y e in
      let r = chain_reached O v.z (omega (arith, v.inside)) v.on in
      let u = P.has r.0 r.1 (omega (arith, r.2, v.inside)) (omega (arith, r.2, v.inside)) in
      cc (r.2, r.3, v.letter, reach_arrow O r.0 r.1 (omega (arith, r.2, v.inside))))
    where
      P : Covers (oracle p) (suc (m - 1))
      P = (suffixes_covered (m - 1) (omega arith)).0

  pub suffix_rule-one : OneEach (suffix_rule p)
  unfolding suffix_rule extra_arrows
  suffix_rule-one = (suffixes_covered (m - 1) (omega arith)).1
