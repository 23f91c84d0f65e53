-- THE SUPPLY IS WHERE THE LONGEST REPEATED END LEADS, for every state of any automaton that has the record: first as numbers, then for the
-- definition that looks for that end. The longest end that is not walked to k is walked to the supply of k. The longest repeated end is no
-- longer, for repeated ends are walked below k, and leads no lower, for the supply's shortest word is a repeated end itself.
use mathlib.Core.Path.{◌≡◌, refl, sym, ap, ◌∙◌, fun_ext}
use mathlib.Core.Bool.{Bool, true, false, false≢true}
use mathlib.Core.Logic.{⊎_elim, by_cases}
use mathlib.Core.Option.{Option, none, some}
use mathlib.Core.List.{[], ◌∷◌, ◌++◌}
use Prim.Native.Nat.{ℕ, zero, suc, ◌+◌, ◌-◌, ◌≤◌, ◌<◌}
use native.Mathlib.Nat.{le_refl, zero-add, sub-zero}
use native.Mathlib.Decide.{dec_le, ℕ_discrete}
use native.Mathlib.Omega.{arith}
use lib.ListN.{length, take, drop, length-drop, length-append, drop_of_length-le}
use lib.Seq.{take-length, length-take-le}
use borrow.Author.Tests.{le-leb, leb-true}
use Rattle.words.specs.Lists.{from, only, first}
use Rattle.words.specs.Words.{Word, letter, part, same, stands, occurrences}
use Rattle.words.proofs.Lists.{test_cases, member, not_empty, from_snoc, from_in, in_from}
use Rattle.words.proofs.Lists.{only_yes, only_append, only_in, in_only, first_yes, first_not}
use Rattle.words.proofs.Greatest.{Greatest, Least, greatest_passing}
use Rattle.words.proofs.Words.{part_of_part}
use Rattle.words.proofs.Occurrences.{stands-part, part-stands}
use Rattle.oracle.specs.Arrows.{State, Delta}
use Rattle.oracle.specs.SuffixRule.{oracle}
use Rattle.oracle.specs.Supply.{ends, twice, repeated, supply}
use Rattle.oracle.proofs.Chain.{Supplied, supply_below, Near}
use Rattle.oracle.proofs.Reach.{reach, reach_0, reach_spine, reach_below, reach_near, reach_falls}
use Rattle.oracle.proofs.SuffixRule.{suffix_rule-arrows}
use Rattle.oracle.proofs.Walks.{factor_walk}
use Rattle.oracle.proofs.Shortest.{shortest, shortest_at_end, reach_same}

-- ── As numbers ─────────────────────────────────────────────────────────────

-- the letters behind the first a, up to the first k, stand among the first k also from some f before a
abbrev pub Repeats : Word → ℕ → ℕ → Type 0
Repeats p k a = (f : ℕ) × (f < a) × (part p f (k - a) ≡ part p a (k - a))

module _ (p : Word) {δ : Delta} {S : State → State} (O : Supplied (length p) (letter p) δ S)
    (k : State) (pos : 0 < k) (b : k ≤ length p) where
  -- where the letters behind the first a, up to k, lead
  abbrev up : ℕ → State
  up a = reach (letter p) δ a (k - a)

  up_falls : (a c : ℕ) → a ≤ c → c ≤ k → up c ≤ up a
  up_falls a c h l =
      let e : a + (c - a) ≡ c = omega arith in
      let f : (c - a) + (k - c) ≡ k - a = omega arith in
      rw (e, f) at (reach_falls O (c - a) a (k - c) (omega arith))

  -- a repeated end is walked to a state before k
  repeated-below : (a : ℕ) → a ≤ k → Repeats p k a → up a < k
  repeated-below a h r =
      let inside : r.0 + (k - a) ≤ length p = omega (arith, r.1) in
      omega (arith, r.1, reach_same p O r.0 a (k - a) inside (omega arith) r.2, reach_below O r.0 (k - a) inside)

  -- the last start from which k itself is reached; from the next one the supply is
  last_to_k : Greatest (λ e. up e ≡ k) k
  last_to_k = greatest_passing (λ e. up e ≡ k) (λ e. ℕ_discrete (up e) k) (rw (sub-zero k) (reach_spine O k b)) k

  abbrev E : ℕ
  E = last_to_k.at

  before-end : E < k
  before-end =
      let z : k - k ≡ 0 = omega arith in
      by_cases (ℕ_discrete E k)
      (λ e. absurd (omega (arith, rw (e, z, reach_0 (letter p) δ k) at last_to_k.passes)))
      (λ e. omega (arith, last_to_k.within))

  next_is-supply : up (suc E) ≡ S k
  next_is-supply =
      let e : suc (k - suc E) ≡ k - E = omega (arith, before-end) in
      let near : Near O (up (suc E)) (up E) = rw e at (reach_near O E (k - suc E) (omega (arith, before-end))) in
      ⊎_elim
      (λ q. absurd (omega (arith, last_to_k.last (suc E) before-end (q ∙ last_to_k.passes))))
      (λ q. q ∙ ap S last_to_k.passes)
      near

  pub least_repeated_leads : (a : ℕ) → Least (Repeats p k) k a → up a ≡ S k
  least_repeated_leads a L =
      let low = supply_below O k b in
      let U = shortest p O (S k) (omega arith) in
      let H = shortest_at_end p O (S k) U (suc E) (k - suc E) (omega arith) (omega (arith, before-end)) next_is-supply in
      -- the supply's shortest word ends the letters up to k from c on, and stands earlier too
      let c = suc E + H.skipped in
      let n : k - c ≡ U.len = omega (arith, H.size, before-end) in
      let le : c ≤ k = omega (arith, H.size, before-end) in
      let again : Repeats p k c = (U.start, omega (arith, U.place, H.size, before-end), rw n (sym H.same)) in
      let led = reach_same p O c U.start U.len (omega arith) (omega (arith, U.place)) H.same in
      let same : up c ≡ S k = rw n (led ∙ U.walked) in
      let high = up_falls (suc E) a late L.within in
      let deep = up_falls a c (L.least c le again) le in
      omega (arith, next_is-supply)
    where
      late : suc E ≤ a
      late = by_cases (dec_le (suc E) a) (λ h. h) (λ h.
          let falls = up_falls a E (omega arith) last_to_k.within in
          absurd (omega (arith, last_to_k.passes, repeated-below a L.within L.passes)))

-- ── The longest end that stands twice ──────────────────────────────────────

-- of the ends of u, the first that passes a test that the empty word passes
pub record FirstEnd (P : Word → Bool) (u : Word) : Type 0 where
  pub at : ℕ
  pub within : at ≤ length u
  pub is : first P (ends u) ≡ some (drop at u)
  pub passes : P (drop at u) ≡ true
  pub before : (a : ℕ) → a < at → P (drop a u) ≡ false

first-end : (P : Word → Bool) (u : Word) → P [] ≡ true → FirstEnd P u
unfolding ends
first-end P [] e = record { at = 0; within = le_refl 0; is = first_yes P [] [] e; passes = e; before = λ a h. absurd (omega arith) }
first-end P (c ∷ u) e =
    let r = first-end P u e in
    test_cases (P (c ∷ u))
    (λ f. record {
      at = 0;
      within = omega arith;
      is = first_yes P (c ∷ u) (ends u) f;
      passes = f;
      before = λ a h. absurd (omega arith);
    })
    (λ f. record {
      at = suc r.at;
      within = omega (arith, r.within);
      is = first_not P (c ∷ u) (ends u) f ∙ r.is;
      passes = r.passes;
      before = earlier f r;
    })
  where
    earlier : P (c ∷ u) ≡ false → (r : FirstEnd P u) → (a : ℕ) → a < suc r.at → P (drop a (c ∷ u)) ≡ false
    earlier f r zero h = f
    earlier f r (suc a) h = r.before a (omega arith)

-- an end of u stands in u at its own place; it stands twice if it stands earlier too
module _ (u : Word) (a : ℕ) (h : a ≤ length u) where
  abbrev here : Word
  here = drop a u

  places : occurrences here u ≡ only (stands here u) (from 0 a) ++ (a ∷ [])
  unfolding occurrences only
  places =
      let n : suc (length u) - length here ≡ suc a = rw (length-drop a u) (omega arith) in
      let own = part-stands here u a (take-length here) in
      rw (n, from_snoc 0 a, zero-add a, only_append (stands here u) (from 0 a) (a ∷ []), only_yes (stands here u) a [] own)

  count : length (occurrences here u) ≡ length (only (stands here u) (from 0 a)) + 1
  count = ap length places ∙ length-append (only (stands here u) (from 0 a)) (a ∷ [])

  twice_earlier : twice u here ≡ true → (f : ℕ) × (f < a) × (stands here u f ≡ true)
  unfolding twice
  twice_earlier e =
      let r = member (only (stands here u) (from 0 a)) (omega (arith, leb-true _ (length (occurrences here u)) e, count)) in
      let t = only_in (stands here u) (from 0 a) r.1 in
      (r.0, omega (arith, (from_in 0 a t.0).1), t.1)

  earlier_twice : (f : ℕ) → f < a → stands here u f ≡ true → twice u here ≡ true
  unfolding twice
  earlier_twice f l e =
      let m = not_empty (in_only (stands here u) (from 0 a) (in_from 0 a f (omega arith) (omega arith)) e) in
      le-leb _ (length (occurrences here u)) (omega (arith, count))

-- ── As defined ─────────────────────────────────────────────────────────────

-- state 0 has none
pub supply_0 : (p : Word) → supply p 0 ≡ none
unfolding supply repeated twice ends first occurrences only from stands same
supply_0 p = refl

module _ (p : Word) {δ : Delta} {S : State → State} (O : Supplied (length p) (letter p) δ S)
    (k : State) (pos : 0 < k) (b : k ≤ length p) where
  abbrev u : Word
  u = take k p

  size : length u ≡ k
  size = length-take-le k p b

  -- what is as long as an end of u, and the ends of u themselves, are parts of p
  earlier_part : (a f : ℕ) → f ≤ a → a ≤ k → part u f (length (drop a u)) ≡ part p f (k - a)
  earlier_part a f l h =
      let n : length (drop a u) ≡ k - a = length-drop a u ∙ ap (λ l. l - a) size in
      ap (part u f) n
      ∙ part_of_part p 0 k f (k - a) (omega arith) (omega arith)
      ∙ ap (λ j. part p j (k - a)) (zero-add f)

  end-part : (a : ℕ) → a ≤ k → drop a u ≡ part p a (k - a)
  end-part a h = sym (take-length (drop a u)) ∙ earlier_part a a (le_refl a) h

  twice_repeats : (a : ℕ) → a ≤ k → twice u (drop a u) ≡ true → Repeats p k a
  twice_repeats a h e =
      let r = twice_earlier u a (omega (arith, size)) e in
      let there = earlier_part a r.0 (omega (arith, r.1)) h in
      (r.0, r.1, sym there ∙ stands-part (drop a u) u r.0 r.2 ∙ end-part a h)

  repeats_twice : (a : ℕ) → a ≤ k → Repeats p k a → twice u (drop a u) ≡ true
  repeats_twice a h r =
      let there = earlier_part a r.0 (omega (arith, r.1)) h in
      let again = part-stands (drop a u) u r.0 (there ∙ r.2 ∙ sym (end-part a h)) in
      earlier_twice u a (omega (arith, size)) r.0 r.1 again

  empty-twice : twice u [] ≡ true
  empty-twice =
      let e : drop k u ≡ [] = drop_of_length-le u {i = k} (omega (arith, size)) in
      let z : k - k ≡ 0 = omega arith in
      rw e at (repeats_twice k (le_refl k) (0, pos, rw z refl))

  longest : FirstEnd (twice u) u
  longest = first-end (twice u) u empty-twice

  longest_least : Least (Repeats p k) k longest.at
  longest_least =
      let le : longest.at ≤ k = omega (arith, longest.within, size) in
      let first : (c : ℕ) → c ≤ k → Repeats p k c → longest.at ≤ c = λ c l r. by_cases (dec_le longest.at c)
      (λ h. h)
      (λ h. absurd (false≢true (sym (longest.before c (omega arith)) ∙ repeats_twice c l r))) in
      record { within = le; passes = twice_repeats longest.at le longest.passes; least = first }

  -- the supply of each state above 0 is the one of 001's definition
  pub supply_is_defined : supply p k ≡ some (S k)
  unfolding supply repeated
  supply_is_defined =
      let a = longest.at in
      let le : a ≤ k = longest_least.within in
      let arrows : oracle p ≡ δ = fun_ext (λ x. fun_ext (λ c. suffix_rule-arrows p O x c)) in
      rw (longest.is, supply, arrows, end-part a le)
      (factor_walk p O a (k - a) (omega arith) ∙ ap {B = Option State} some (least_repeated_leads p O k pos b a longest_least))
