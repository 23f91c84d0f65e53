-- THE THEOREMS on oracles, for every word of whatever length, each a sentence about the definitions alone. The proofs are in the other
-- files; what ties them together is that both rules' arrows, with the rule's supplies, have the record of `Chain`.
use mathlib.Core.Path.{◌≡◌, refl, sym, ◌∙◌, fun_ext}
use mathlib.Core.Logic.{◌↔◌, by_cases}
use mathlib.Core.Option.{none, some}
use mathlib.Core.List.Memᴰ
use mathlib.Core.List.{[], ◌∷◌, Memᴰ}
use Prim.Native.Nat.{ℕ, zero, suc, ◌+◌, ◌-◌, ◌≤◌, ◌<◌}
use native.Mathlib.Nat.{le_refl}
use native.Mathlib.Decide.{ℕ_discrete}
use native.Mathlib.Omega.{arith}
use lib.ListN.{length, take, length-append}
use lib.Seq.{get_or-take, length-take-le}
use Rattle.words.specs.Words.{Letter, Word, letter, Factor}
use Rattle.words.proofs.Words.{part-whole}
use Rattle.words.proofs.Occurrences.{stands-part, stands-inside}
use Rattle.oracle.specs.Arrows.{State, Arrow, Delta, target, walk, spine, OneEach}
use Rattle.oracle.specs.SuffixRule.{extra_arrows, suffix_rule, oracle}
use Rattle.oracle.specs.LetterRule.{supply_made, built_up_to, letter_rule}
use Rattle.oracle.specs.Supply.{supply}
use Rattle.oracle.proofs.Targets.{never, target_member, member_target, apart}
use Rattle.oracle.proofs.Chain.{Into, Supplied, supply_below, arrow_up}
use Rattle.oracle.proofs.Reach.{reach_spine}
use Rattle.oracle.proofs.LetterRule.{Sound, supplies, path_of_0, path_of_higher, built_sound, built_restricts}
use Rattle.oracle.proofs.SuffixRule.{spine-target, suffix_rule-arrows, suffix_rule-one}
use Rattle.oracle.proofs.Walks as walks
use Rattle.oracle.proofs.Supply.{supply_0, supply_is_defined}
use Rattle.oracle.proofs.Count.{spine-length, extra_arrows-few}

-- the record depends on the first m letters alone
pub same-letters : {m : ℕ} {δ : Delta} {S : State → State} (w w' : ℕ → Letter) → ((i : ℕ) → i < m → w' i ≡ w i) → Supplied m w δ S
    → Supplied m w' δ S
same-letters {m} {δ} {S} w w' e O = record {
  spine = λ i h. rw (e i h) (O.spine i h);
  into = λ x c y d. by x c y (O.into x c y d);
  base = O.base;
  down = O.down;
  answers = O.answers;
  bottom = O.bottom;
}
  where
    by : (x : State) (c : Letter) (y : State) → Into m w S x c y → Into m w' S x c y
    by x c y v = record { z = v.z; to = v.to; letter = v.letter ∙ sym (e v.z v.inside); inside = v.inside; on = v.on }

module _ (p : Word) where
  abbrev m : ℕ
  m = length p

  made : Sound (length p) (letter p) (letter_rule p)
  unfolding letter_rule
  made = built_sound p (length p)

  -- ── 1. The two rules make the same arrows ────────────────────────────────

  -- from every state, on every letter, both lead to the same state, or neither leads anywhere
  pub same-arrows : (x : State) (c : Letter) → oracle p x c ≡ target (letter_rule p).arrows x c
  same-arrows x c = suffix_rule-arrows p made.supplied x c

  -- one arrow at most leaves a state on a letter, in either rule's list
  pub suffix_rule-one_each : OneEach (suffix_rule p)
  suffix_rule-one_each = suffix_rule-one p made.supplied

  pub letter_rule-one_each : OneEach (letter_rule p).arrows
  letter_rule-one_each = made.one

  -- an arrow is in the one list exactly if it is in the other
  pub same-arrow-lists : (a : Arrow) → Memᴰ a (suffix_rule p) ↔ Memᴰ a (letter_rule p).arrows
  same-arrow-lists a =
      let e = same-arrows a.source a.on in (
        λ i. target_member (letter_rule p).arrows a.source a.on a.to (sym e ∙ member_target (suffix_rule p) suffix_rule-one_each i),
        λ i. target_member (suffix_rule p) a.source a.on a.to (e ∙ member_target (letter_rule p).arrows letter_rule-one_each i),
      )

  -- the suffix rule's arrows with the letter rule's supplies have the record
  pub oracle-supplied : Supplied (length p) (letter p) (oracle p) (supplies (letter_rule p))
  oracle-supplied = rw (fun_ext (λ x. fun_ext (λ c. same-arrows x c))) made.supplied

  -- the oracle of the first t letters is the part of the whole one that leads up to state t
  pub prefix_oracle : (t : ℕ) → t ≤ length p → (x : State) (c : Letter) (y : State)
      → (oracle (take t p) x c ≡ some y) ↔ ((oracle p x c ≡ some y) × (y ≤ t))
  unfolding letter_rule
  prefix_oracle t h x c y =
      let n : length (take t p) ≡ t = length-take-le t p h in
      let b = built_up_to p t in
      let O = same-letters (letter p) (letter (take t p)) (λ i l. get_or-take t p i 0 l) (built_sound p t).supplied in
      let O' : Supplied (length (take t p)) (letter (take t p)) (target b.arrows) (supplies b) = rw n O in
      let e : oracle (take t p) x c ≡ target b.arrows x c = suffix_rule-arrows (take t p) O' x c in
      let d : t + (length p - t) ≡ length p = omega arith in
      rw (e, same-arrows x c) (rw d at (built_restricts p t (length p - t) x c y))

  -- ── 2. 01's facts to hold ────────────────────────────────────────────────

  listed-arrow : (a : Arrow) → Memᴰ a (suffix_rule p) → oracle p a.source a.on ≡ some a.to
  listed-arrow a i = member_target (suffix_rule p) suffix_rule-one_each i

  -- an arrow into a state carries that state's letter
  pub arrow-letter : (a : Arrow) → Memᴰ a (suffix_rule p) → (z : State) × (a.to ≡ suc z) × (z < length p) × (a.on ≡ letter p z)
  arrow-letter a i =
      let v = oracle-supplied.into a.source a.on a.to (listed-arrow a i) in
      (v.z, v.to, v.inside, v.letter)

  -- every extra arrow climbs by at least 2
  pub extra-climbs : (a : Arrow) → Memᴰ a (extra_arrows p) → a.source + 2 ≤ a.to
  unfolding suffix_rule
  extra-climbs a i = by_cases (ℕ_discrete a.to (suc a.source))
      (λ e.
      let r = arrow-letter a among in
      let q : r.0 ≡ a.source = omega (arith, r.1) in
      let s = spine-target p a.source (omega (arith, up.0, up.1)) in
      never (rw (r.3, q) at (apart (extra_arrows p) (spine p) suffix_rule-one_each i)) s)
      (λ e. omega (arith, up.0))
    where
      among : Memᴰ a (suffix_rule p)
      among = Memᴰ.append_left (spine p) i

      up : (a.source < a.to) × (a.to ≤ length p)
      up = arrow_up oracle-supplied a.source a.on a.to (listed-arrow a among)

  -- ── 3. Walks and counts ──────────────────────────────────────────────────

  pub factor_walked : (v : Word) → Factor v p → (y : State) × (walk (oracle p) 0 v ≡ some y)
  unfolding walk
  factor_walked [] f = (0, refl)
  factor_walked (c ∷ v) f =
      let e = stands-part (c ∷ v) p f.0 f.1 in
      let w = walks.factor_walk p oracle-supplied f.0 (length (c ∷ v)) (stands-inside (c ∷ v) p f.0 (omega arith) f.1) in
      (_, rw e at w)

  pub word-walked : walk (oracle p) 0 p ≡ some (length p)
  word-walked =
      let walked = walks.factor_walk p oracle-supplied 0 (length p) (omega arith) in
      rw (part-whole p, reach_spine oracle-supplied (length p) (le_refl _)) at walked

  pub only_walk : (v : Word) (y : State) → walk (oracle p) 0 v ≡ some y → length v ≡ length p → v ≡ p
  only_walk v y e n = walks.only_walk p oracle-supplied v y e n

  pub no_longer_walk : (v : Word) (y : State) → walk (oracle p) 0 v ≡ some y → length v ≤ length p
  no_longer_walk v y e = let r = walks.walk-climbs p oracle-supplied v 0 y (omega arith) e in omega (arith, r.0, r.1)

  -- m to 2m - 1 arrows
  pub arrows-between : (length p ≤ length (suffix_rule p)) × (length (suffix_rule p) ≤ length p + (length p - 1))
  unfolding suffix_rule
  arrows-between =
      let n = length-append (extra_arrows p) (spine p) in
      (omega (arith, n, spine-length p), omega (arith, n, spine-length p, extra_arrows-few p))

  -- ── 4. Supplies ──────────────────────────────────────────────────────────

  -- for every state, the rule's supply is the one of 001's definition; state 0 has none by either
  pub same-supplies : (i : State) → i ≤ length p → supply_made (letter_rule p) i ≡ supply p i
  same-supplies zero h = path_of_0 (made.path 0 h) refl ∙ sym (supply_0 p)
  same-supplies (suc i) h =
      path_of_higher (made.path (suc i) h) (omega arith)
      ∙ sym (supply_is_defined p made.supplied (suc i) (omega arith) h)

  -- every state above 0 has one, and it is lower
  pub supply_lower : (i : State) → 0 < i → i ≤ length p → (y : State) × (supply p i ≡ some y) × (y < i)
  supply_lower i pos h =
      let low = supply_below made.supplied i h in
      (supplies (letter_rule p) i, supply_is_defined p made.supplied i pos h, omega arith)

  pub no_supply : supply p 0 ≡ none
  no_supply = supply_0 p
