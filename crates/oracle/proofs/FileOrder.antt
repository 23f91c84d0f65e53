-- Laws of the file's order: what is among a state's extra targets, where they stand in the list of all, and that the list is no longer than
-- any list that has every extra arrow: no arrow stands in it twice. The last is what lets the targets of a word's oracle fit into a row of
-- its table. Laws of all states go by induction on the last of them, whose targets are appended.
use mathlib.Core.Path.{◌≡◌, refl, sym, ap, ◌∙◌}
use mathlib.Core.Bool.{true}
use mathlib.Core.Logic.{⊎_elim, ◌≢◌, by_cases}
use mathlib.Core.Option.{Option, none, some}
use mathlib.Core.List.Memᴰ
use mathlib.Core.List.{List, [], ◌++◌, map, append-nil, append_assoc, Memᴰ}
use Prim.Native.Nat.{ℕ, zero, suc, pred, ◌+◌, ◌-◌, ◌≤◌, ◌<◌}
use native.Mathlib.Decide.{ℕ_discrete}
use native.Mathlib.Omega.{arith}
use lib.ListN.{length, get_or, length-append, length-map, get_or-append}
use borrow.Author.Tests.{eqb-true, eq-eqb}
use Rattle.words.specs.Lists.{from, only, Rising, end, up}
use Rattle.words.specs.Words.{Word, letter}
use Rattle.words.proofs.Lists.{entry_in, entry-below, map-behind, from_in, in_from, only_in, in_only, rising_above, rising_from}
use Rattle.words.proofs.Distinct.{Distinct, empty, more, distinct_append, distinct_length}
use Rattle.oracle.specs.Arrows.{State, Arrow, arrow, Delta, spine}
use Rattle.oracle.specs.SuffixRule.{extra_arrows, suffix_rule, oracle}
use Rattle.oracle.specs.FileOrder.{leads_to, extra_targets, targets_before, Extra, extra, extras_before}
use Rattle.oracle.proofs.Targets.{target_member}
use Rattle.oracle.proofs.Count.{extra_arrows-few}

leads_to_lem : (o : Option State) (y : State) → leads_to o y ≡ true → o ≡ some y
unfolding leads_to
leads_to_lem none y e = cc
leads_to_lem (some z) y e = ap {B = Option State} some (eqb-true z y e)

to_leads : (o : Option State) (y : State) → o ≡ some y → leads_to o y ≡ true
unfolding leads_to
to_leads o y e = rw e (eq-eqb y y refl)

module _ (δ : Delta) (p : Word) where
  -- ── The extra targets of a state ─────────────────────────────────────────

  -- each is the target of an extra arrow
  pub extra-target : (x : State) {y : State} → Memᴰ y (extra_targets δ p x)
      → (x + 2 ≤ y) × (y ≤ length p) × (δ x (letter p (pred y)) ≡ some y)
  unfolding extra_targets
  extra-target x {y} m =
      let r = only_in _ _ m in
      let b = from_in (suc (suc x)) (length p - suc x) r.0 in
      (omega (arith, b.0), omega (arith, b.0, b.1), leads_to_lem (δ x (letter p (pred y))) y r.1)

  -- the target of each extra arrow is among them
  pub target-extra : (x y : State) → x + 2 ≤ y → y ≤ length p → δ x (letter p (pred y)) ≡ some y → Memᴰ y (extra_targets δ p x)
  unfolding extra_targets
  target-extra x y h b e =
      let m = in_from (suc (suc x)) (length p - suc x) y (omega arith) (omega arith) in
      in_only _ _ m (to_leads (δ x (letter p (pred y))) y e)

  -- they rise
  pub extra_targets_rise : (x : State) → Rising (suc (suc x)) (extra_targets δ p x)
  unfolding extra_targets
  extra_targets_rise x = rising_from _ (suc (suc x)) (length p - suc x)

  -- ── The targets of all states ────────────────────────────────────────────

  -- one state more
  pub before-length : (x : State) → length (targets_before δ p (suc x)) ≡ length (targets_before δ p x) + length (extra_targets δ p x)
  unfolding targets_before
  before-length x = length-append (targets_before δ p x) (extra_targets δ p x)

  -- the targets of x stand behind those of the states before x
  pub before_grows : (x k : State) → x < k
      → (rest : List State) × (targets_before δ p k ≡ targets_before δ p x ++ (extra_targets δ p x ++ rest))
  unfolding targets_before
  before_grows x zero h = absurd (omega arith)
  before_grows x (suc k) h = by_cases (ℕ_discrete x k)
      (λ e. ([], rw (e, append-nil (extra_targets δ p k))))
      (λ e. let r = before_grows x k (omega arith) in (r.0 ++ extra_targets δ p k, rw r.1 (simp append_assoc)))

  -- so there is room for both
  pub before-room : (x k : State) → x < k → length (targets_before δ p x) + length (extra_targets δ p x) ≤ length (targets_before δ p k)
  before-room x k h = omega (arith, simp length-append at (ap length (before_grows x k h).1))

  -- no target is above m
  pub before-bound : (k : State) {y : State} → Memᴰ y (targets_before δ p k) → y ≤ length p
  unfolding targets_before
  before-bound zero m = absurd (elim m [ ])
  before-bound (suc x) m = ⊎_elim (before-bound x) (λ n. (extra-target x n).1) (Memᴰ.append_cases (targets_before δ p x) m)

  -- and so for what is looked up in the list, within its length or not
  pub before_at : (k : State) (s : ℕ) → get_or (targets_before δ p k) s 0 ≤ length p
  before_at k s = entry-below (targets_before δ p k) s (λ y m. before-bound k m)

  -- the last state has none
  pub before_last : targets_before δ p (suc (length p)) ≡ targets_before δ p (length p)
  unfolding targets_before extra_targets from only
  before_last = let e : length p - suc (length p) ≡ 0 = omega arith in rw e (append-nil (targets_before δ p (length p)))

  -- ── The arrows of all states ─────────────────────────────────────────────

  -- as many as targets
  pub extras_length : (k : State) → length (extras_before δ p k) ≡ length (targets_before δ p k)
  unfolding extras_before targets_before
  extras_length zero = refl
  extras_length (suc x) = simp (length-append, length-map, extras_length x)

  -- each leaves a state before k and leads to one of its extra targets
  pub extra-before : (k : State) {a : Extra} → Memᴰ a (extras_before δ p k)
      → (a.source < k) × Memᴰ a.to (extra_targets δ p a.source)
  unfolding extras_before
  extra-before zero m = absurd (elim m [ ])
  extra-before (suc k) m = ⊎_elim
      (λ n. let r = extra-before k n in (omega (arith, r.0), r.1))
      (λ n. let r = Memᴰ.of_map (extra k) (extra_targets δ p k) n in rw (← r.2) (omega arith, r.1))
      (Memᴰ.append_cases (extras_before δ p k) m)

  -- ── By slots ─────────────────────────────────────────────────────────────

  -- the slots of x begin where those of the states before x end
  abbrev pub SlotOf : State → ℕ → Type 0
  SlotOf x s = (length (targets_before δ p x) ≤ s) × (s < length (targets_before δ p (suc x)))

  module _ {x : State} {s : ℕ} (own : SlotOf x s) where
    slot-inside : (k : State) → x < k → s < length (extras_before δ p k)
    slot-inside k h = omega (arith, own.1, extras_length k, before-length x, before-room x k h)

    -- a slot of x holds an arrow that leaves x
    pub slot-arrow : (k : State) → x < k → get_or (extras_before δ p k) s (extra x 0) ≡ extra x (get_or (targets_before δ p k) s 0)
    unfolding extras_before targets_before
    slot-arrow zero h = absurd (omega arith)
    slot-arrow (suc k) h =
        let E = extras_before δ p k in
        let T = targets_before δ p k in
        by_cases (ℕ_discrete x k)
        (λ e. rw e (map-behind (extra k) 0 E T (extra_targets δ p k) s (extras_length k) (rw e at own.0)))
        (λ e.
        let i = slot-inside k (omega arith) in
        get_or-append E _ (extra x 0) s i
        ∙ slot-arrow k (omega arith)
        ∙ ap (extra x) (sym (get_or-append T _ 0 s (omega (arith, extras_length k)))))

    -- and its target is one of x
    pub slot_target_lem : (k : State) → x < k → (x + 2 ≤ get_or (targets_before δ p k) s 0) × (get_or (targets_before δ p k) s 0 ≤ length p)
    slot_target_lem k h =
        let y = get_or (targets_before δ p k) s 0 in
        let m = entry_in (extras_before δ p k) s (extra x 0) (slot-inside k h) in
        let t = extra-target x {y = y} (extra-before k (rw (slot-arrow k h) at m)).1 in
        (t.0, t.1)

-- ── As few as the extra arrows ─────────────────────────────────────────────

module _ (δ : Delta) (p : Word) where
  rising_distinct : (x : State) {a : State} {l : List State} → Rising a l → Distinct (map (extra x) l)
  rising_distinct x end = empty
  rising_distinct x (up {x = y} {l = l} h r) = more other (rising_distinct x r)
    where
      other : (b : Extra) → Memᴰ b (map (extra x) l) → b ≢ extra x y
      other b m e =
          let s = Memᴰ.of_map (extra x) l m in
          let q : s.0 ≡ y = ap (λ (d : Extra). d.to) (s.2 ∙ e) in
          omega (arith, rising_above r s.1)

  extras_distinct : (k : State) → Distinct (extras_before δ p k)
  unfolding extras_before
  extras_distinct zero = empty
  extras_distinct (suc x) = distinct_append (extras_distinct x) (rising_distinct x (extra_targets_rise δ p x)) apart
    where
      apart : (a b : Extra) → Memᴰ a (extras_before δ p x) → Memᴰ b (map (extra x) (extra_targets δ p x)) → b ≢ a
      apart a b m n e =
          let s = Memᴰ.of_map (extra x) (extra_targets δ p x) n in
          let q : x ≡ a.source = ap (λ (d : Extra). d.source) (s.2 ∙ e) in
          omega (arith, (extra-before δ p x m).0)

  -- where E has every extra arrow, the list of all targets is no longer than E
  pub extras_fit : (E : List Arrow)
      → ((x y : State) → x + 2 ≤ y → y ≤ length p → δ x (letter p (pred y)) ≡ some y → Memᴰ (arrow x (letter p (pred y)) y) E)
      → (k : State) → length (targets_before δ p k) ≤ length E
  extras_fit E f k = omega (arith, extras_length δ p k, length-map E ends, distinct_length (extras_distinct k) (map ends E) inside)
    where
      ends : Arrow → Extra
      ends a = extra a.source a.to

      inside : (a : Extra) → Memᴰ a (extras_before δ p k) → Memᴰ a (map ends E)
      inside a m =
          let r = extra-before δ p k m in
          let t = extra-target δ p a.source r.1 in
          Memᴰ.map ends (f a.source a.to t.0 t.1 t.2)

-- ── The spine has no extra arrow ───────────────────────────────────────────

module _ (p : Word) where
  -- each arrow of the spine leads one up, on the letter between
  pub spine_member : {a : Arrow} → Memᴰ a (spine p)
      → (a.source < length p) × (a.on ≡ letter p a.source) × (a.to ≡ suc a.source)
  unfolding spine
  spine_member {a} m =
      let r = Memᴰ.of_map _ _ m in
      let b = from_in 0 (length p) r.1 in
      rw (← r.2) (omega (arith, b.1), refl, refl)

  -- an arrow that climbs by 2 or more stands in front of the spine
  pub climbing_extra : (E : List Arrow) {a : Arrow} → Memᴰ a (E ++ spine p) → a.source + 2 ≤ a.to → Memᴰ a E
  climbing_extra E m h = ⊎_elim (λ n. n) (λ n. absurd (omega (arith, (spine_member n).2))) (Memᴰ.append_cases E m)

  -- a word of m letters has at most m - 1 extra targets
  pub oracle_extras_fit : (k : State) → length (targets_before (oracle p) p k) ≤ length p - 1
  unfolding suffix_rule
  oracle_extras_fit k = omega (arith, extra_arrows-few p, extras_fit (oracle p) p (extra_arrows p) extra k)
    where
      extra : (x y : State) → x + 2 ≤ y → y ≤ length p → oracle p x (letter p (pred y)) ≡ some y
          → Memᴰ (arrow x (letter p (pred y)) y) (extra_arrows p)
      extra x y h b e = climbing_extra (extra_arrows p) (target_member (suffix_rule p) x (letter p (pred y)) y e) h
