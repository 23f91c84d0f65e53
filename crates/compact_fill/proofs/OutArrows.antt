-- THE ARROWS OF A STATE in the first form, one after the other: what code reads of them there, and that they are all arrows which leave the
-- state.
use mathlib.Core.Path.{◌≡◌, refl, sym, ap, ◌∙◌}
use mathlib.Core.Logic.{◌≢◌, by_cases}
use mathlib.Core.Option.{some}
use mathlib.Core.List.{List, Memᴰ}
use Prim.Native.Nat.{ℕ, zero, suc, pred, ◌+◌, ◌*◌, ◌-◌, ◌≤◌, ◌<◌}
use native.Mathlib.Numerals.{one-add, add-one}
use native.Mathlib.Decide.{ℕ_discrete}
use native.Mathlib.Omega.{arith}
use lib.ListN.{length}
use lib.Seq.{ext_get_or}
use Rattle.words.specs.Lists.{at}
use Rattle.words.specs.Words.{Letter, Word, letter}
use Rattle.words.proofs.Lists.{entry_in}
use Rattle.words.proofs.Words.{part_length, part_at}
use Rattle.oracle.specs.Arrows.{State}
use Rattle.oracle.specs.SuffixRule.{oracle}
use Rattle.oracle.specs.FileOrder.{extra_targets, targets_before}
use Rattle.oracle.proofs.FileOrder.{extra-target, target-extra, before-length, before-room, oracle_extras_fit}
use Rattle.chains.specs.Letters.{word_in}
use Rattle.table.specs.Table.{table_of}
use Rattle.table.proofs.Rows.{row_0, row_2, row_3}
use Rattle.table.proofs.ReadBack.{own-targets}
use Rattle.table.proofs.Theorems.{oracle-over}
use Rattle.compact_fill.specs.Filling.{out_targets, letter_into, FirstForm}

-- where a member stands
place_of : {y : ℕ} {l : List ℕ} → Memᴰ y l → (i : ℕ) × (i < length l) × (at l i ≡ y)
place_of (Memᴰ.head e) = (0, omega arith, sym e)
place_of (Memᴰ.tail m) = let r = place_of m in (suc r.0, omega (arith, r.1), r.2)

-- the first of the targets is the spine's
pub spine-first : (p : Word) (x : State) (j : ℕ) → j ≡ 0 → x + 1 ≡ at (out_targets p x) j
spine-first p x j e = rw e (add-one x)

-- ── The first form ─────────────────────────────────────────────────────────

module _ (p : Word) where
  row_0_of : (y : State) → y < length p → at (table_of p) (suc y) ≡ letter p y
  unfolding table_of
  row_0_of y h = row_0 p (oracle p) _ (suc y) (omega arith)

  row_2_of : (x : State) → x ≤ length p → at (table_of p) (2 * suc (length p) + x) ≡ length (targets_before (oracle p) p x)
  unfolding table_of
  row_2_of x h = row_2 p (oracle p) _ x (omega arith)

  row_3_of : (s : ℕ) → s ≤ length p → at (table_of p) (3 * suc (length p) + s) ≡ at (targets_before (oracle p) p (suc (length p))) s
  unfolding table_of
  row_3_of s h = row_3 p (oracle p) _ s (omega arith)

module _ {p : Word} {L : List ℕ} {m : ℕ} (F : FirstForm p L m) where
  -- the letters of states
  pub letter-there : (y : State) → 0 < y → y ≤ m → at L y ≡ letter_into p y
  letter-there y h l =
      let e : suc (pred y) ≡ y = omega arith in
      F.rows y (omega arith) ∙ rw e at (row_0_of p (pred y) (omega (arith, F.long)))

  -- the word that stands there
  pub own-word : word_in L m ≡ p
  own-word = ext_get_or 0 (word_in L m) p (size ∙ sym F.long) (λ i h. same i (rw size at h))
    where
      size : length (word_in L m) ≡ m
      size = part_length L 1 m (omega (arith, F.size))

      same : (i : ℕ) → i < m → at (word_in L m) i ≡ at p i
      same i h = part_at L 1 m i h ∙ rw (one-add i) (letter-there (suc i) (omega arith) (omega arith))

  pub first-own : FirstForm (word_in L m) L m
  first-own = rw own-word F

  -- entries that agree in rows 0 to 3 have the same first form
  pub first_stays : {L' : List ℕ} → length L' ≡ length L → ((i : ℕ) → i < 4 * (m + 1) → at L' i ≡ at L i) → FirstForm p L' m
  first_stays size same = record {
    long = F.long;
    few = F.few;
    bytes = F.bytes;
    size = size ∙ F.size;
    rows = λ i h. same i h ∙ F.rows i h;
  }

  -- ── The arrows of a state ────────────────────────────────────────────────

  abbrev start : State → ℕ
  start x = length (targets_before (oracle p) p x)

  pub starts-there : (x : State) → x ≤ m → at L (2 * (m + 1) + x) ≡ length (targets_before (oracle p) p x)
  starts-there x h =
      let e : 2 * (m + 1) + x ≡ 2 * suc (length p) + x = omega (arith, F.long) in
      F.rows (2 * (m + 1) + x) (omega arith) ∙ ap (at (table_of p)) e ∙ row_2_of p x (omega (arith, F.long))

  targets-there : (s : ℕ) → s ≤ m → at L (3 * (m + 1) + s) ≡ at (targets_before (oracle p) p (suc (length p))) s
  targets-there s h =
      let e : 3 * (m + 1) + s ≡ 3 * suc (length p) + s = omega (arith, F.long) in
      F.rows (3 * (m + 1) + s) (omega arith) ∙ ap (at (table_of p)) e ∙ row_3_of p s (omega (arith, F.long))

  module _ (x : State) (h : x < m) where
    -- their number
    pub count-there : at L (2 * (m + 1) + x) + length (out_targets p x) ≡ at L (2 * (m + 1) + x + 1) + 1
    count-there =
        let e : 2 * (m + 1) + suc x ≡ 2 * (m + 1) + x + 1 = omega arith in
        let next = rw e at (starts-there (suc x) h) in
        omega (arith, starts-there x (omega arith), next, before-length (oracle p) p x)

    -- few enough
    pub starts_fit : start x + length (out_targets p x) ≤ m + 1
    starts_fit =
        let n = suc (length p) in
        omega (arith, F.long, before-room (oracle p) p x n (omega (arith, F.long)), oracle_extras_fit p n)

    -- each but the first is in its slot
    pub slot-there : (j : ℕ) → j ≢ 0 → j < length (out_targets p x)
        → at L (3 * (m + 1) + at L (2 * (m + 1) + x) + (j - 1)) ≡ at (out_targets p x) j
    slot-there zero f l = absurd (f refl)
    slot-there (suc j) f l =
        let own = starts-there x (omega arith) in
        let e : 3 * (m + 1) + at L (2 * (m + 1) + x) + (suc j - 1) ≡ 3 * (m + 1) + (start x + j) = omega (arith, own) in
        ap (at L) e
        ∙ targets-there (start x + j) (omega (arith, starts_fit))
        ∙ own-targets p (oracle p) x (suc (length p)) (omega (arith, F.long)) j (omega arith)

    -- each leads up, to a state, on that state's letter
    pub record Leads (y : State) : Type 0 where
      pub up : x < y
      pub inside : y ≤ m
      pub leads : oracle p x (letter_into p y) ≡ some y

    pub out-leads : (j : ℕ) → j < length (out_targets p x) → Leads (at (out_targets p x) j)
    out-leads zero l = record { up = omega arith; inside = omega arith; leads = (oracle-over p).spine x (omega (arith, F.long)) }
    out-leads (suc j) l =
        let t = extra-target (oracle p) p x (entry_in (extra_targets (oracle p) p x) j 0 (omega arith)) in
        record { up = omega (arith, t.0); inside = omega (arith, t.1, F.long); leads = t.2 }

    -- where there is a second, it leads on another letter than the spine's
    pub letters-differ : 1 < length (out_targets p x) → letter_into p (x + 1) ≢ letter_into p (at (out_targets p x) 1)
    letters-differ l q =
        let second = extra-target (oracle p) p x (entry_in (extra_targets (oracle p) p x) 0 0 (omega arith)) in
        let spine : oracle p x (letter_into p (x + 1)) ≡ some (x + 1) = rw (add-one x) (out-leads 0 (omega arith)).leads in
        let other : oracle p x (letter_into p (x + 1)) ≡ some (at (out_targets p x) 1) = rw q (out-leads 1 l).leads in
        let same : x + 1 ≡ at (out_targets p x) 1 = cc in
        omega (arith, same, second.0)

    -- and every arrow is among them
    pub record Among (c : Letter) (y : State) : Type 0 where
      pub index : ℕ
      pub below : index < length (out_targets p x)
      pub here : at (out_targets p x) index ≡ y
      pub on : c ≡ letter_into p y

    pub arrow_among : (c : Letter) (y : State) → oracle p x c ≡ some y → Among c y
    arrow_among c y e = by_cases (ℕ_discrete x v.0)
        (λ q. record { index = 0; below = omega arith; here = omega (arith, v.1); on = on })
        (λ q.
        let at-letter : oracle p x (letter p (pred y)) ≡ some y = rw (← on) e in
        let i = place_of (target-extra (oracle p) p x y (omega (arith, v.1, v.4)) (omega (arith, v.1, v.2)) at-letter) in
        record { index = suc i.0; below = omega (arith, i.1); here = i.2; on = on })
      where
        v : (z : State) × (y ≡ suc z) × (z < length p) × (c ≡ letter p z) × (x ≤ z)
        v = (oracle-over p).into x c y e

        on : c ≡ letter_into p y
        on = let q : v.0 ≡ pred y = omega (arith, v.1) in v.3 ∙ ap (letter p) q
