-- THE SHORTEST WORD OF A STATE. For each state there is one factor that is walked to it and that every word walked to it ends in; it ends,
-- in the word, at that state's place for the first time. The meaning of supplies rests on it. By induction on the state z + 1: the factor
-- is the letters up to z + 1 from the latest start that leads there; a word's last arrow leaves a state on z's chain, whose own shortest
-- word stands before it.
use mathlib.Core.Path.{◌≡◌, sym, ap, ◌∙◌}
use mathlib.Core.Option.{Option, some}
use mathlib.Core.List.{[], ◌∷◌, ◌++◌, append-nil, append_assoc}
use Prim.Native.Nat.{ℕ, zero, suc, ◌+◌, ◌-◌, ◌≤◌, ◌<◌}
use native.Mathlib.Nat.{le_refl, sub-zero}
use native.Mathlib.Decide.{ℕ_discrete}
use native.Mathlib.Omega.{arith}
use lib.ListN.{length}
use Rattle.words.specs.Words.{Letter, Word, letter, part}
use Rattle.words.proofs.Lists.{last_of}
use Rattle.words.proofs.Greatest.{Greatest, greatest_passing}
use Rattle.words.proofs.Words.{part_length, part_snoc, part-split, part_ends_in}
use Rattle.oracle.specs.Arrows.{State, Delta, walk}
use Rattle.oracle.proofs.Chain.{Supplied, on_below}
use Rattle.oracle.proofs.Reach.{reach, reach_0, reach_next, reach_spine, reach_below, chain_reached}
use Rattle.oracle.proofs.Walks.{walk-append, walk_first, factor_walk}

module _ (p : Word) {δ : Delta} {S : State → State} (O : Supplied (length p) (letter p) δ S) where
  abbrev w : ℕ → Letter
  w = letter p

  abbrev to : ℕ → ℕ → State
  to i n = reach w δ i n

  pub record Shortest (x : State) : Type 0 where
    pub start : ℕ
    pub len : ℕ
    pub place : start + len ≡ x
    pub walked : to start len ≡ x
    pub ends : (v : Word) → walk δ 0 v ≡ some x → (u : Word) × (v ≡ u ++ part p start len)

  -- equal parts lead to one state
  pub reach_same : (a b n : ℕ) → a + n ≤ length p → b + n ≤ length p → part p a n ≡ part p b n → to a n ≡ to b n
  reach_same a b n h l e =
      let f : some (to a n) ≡ some (to b n) = sym (factor_walk p O a n h) ∙ ap (walk δ 0) e ∙ factor_walk p O b n l in
      cc

  -- a factor that is walked to x holds x's shortest word at its end
  pub record ShortestAtEnd (x : State) (U : Shortest x) (i n : ℕ) : Type 0 where
    pub skipped : ℕ
    pub size : skipped + U.len ≡ n
    pub same : part p (i + skipped) U.len ≡ part p U.start U.len

  pub shortest_at_end : (x : State) (U : Shortest x) (i n : ℕ) → x ≤ length p → i + n ≤ length p → to i n ≡ x → ShortestAtEnd x U i n
  shortest_at_end x U i n b h e =
      let len = part_length p U.start U.len (omega (arith, U.place)) in
      let r = U.ends (part p i n) (factor_walk p O i n h ∙ ap {B = Option State} some e) in
      let t = part_ends_in p i n r.0 (part p U.start U.len) h r.1 in
      record { skipped = length r.0; size = rw len at t.0; same = rw len at t.1 }

  shortest_0 : Shortest 0
  shortest_0 = record { start = 0; len = 0; place = omega arith; walked = reach_0 w δ 0; ends = λ v e. (v, sym (append-nil v)) }

  module _ (z : State) (h : z < length p) (below : (y : State) → y ≤ z → Shortest y) where
    -- the latest start from which the letters up to z + 1 are walked to z + 1
    abbrev LeadsThere : ℕ → Type 0
    LeadsThere e = to e (suc z - e) ≡ suc z

    latest : Greatest LeadsThere (suc z)
    latest =
        let all : LeadsThere 0 = rw (sub-zero (suc z)) (reach_spine O (suc z) h) in
        greatest_passing LeadsThere (λ e. ℕ_discrete (to e (suc z - e)) (suc z)) all (suc z)

    abbrev E : ℕ
    E = latest.at

    abbrev N : ℕ
    N = suc z - E

    -- y is where v is walked to before its last letter: y's shortest word stands at a, up to z, and a is no later than E
    last_step : (v : Word) (y : State) (Y : Shortest y) (a : ℕ) → y ≤ z → walk δ 0 v ≡ some y → δ y (w z) ≡ some (suc z)
        → a + Y.len ≡ z → part p a Y.len ≡ part p Y.start Y.len
        → (u : Word) × (v ++ (w z ∷ []) ≡ u ++ part p E N)
    last_step v y Y a l e d place same = let r = Y.ends v e in (r.0 ++ part p a (E - a), whole r.0 r.1)
      where
        n : ℕ
        n = Y.len

        at : to a n ≡ y
        at = reach_same a Y.start n (omega arith) (omega (arith, Y.place)) same ∙ Y.walked

        up : to a (suc n) ≡ suc z
        up = reach_next w δ a n (rw (at, place) d)

        le : a ≤ E
        le = let q : suc z - a ≡ suc n = omega arith in latest.last a (omega arith) (rw q up)

        joined : part p a n ++ (w z ∷ []) ≡ part p a (suc n)
        joined = sym (part_snoc p a n (omega arith) ∙ ap (λ j. part p a n ++ (w j ∷ [])) place)

        parted : part p a (suc n) ≡ part p a (E - a) ++ part p E N
        parted =
            let s : (E - a) + N ≡ suc n = omega (arith, latest.within, le) in
            let f : a + (E - a) ≡ E = omega (arith, le) in
            ap (part p a) (sym s) ∙ part-split p a (E - a) N ∙ ap (λ k. part p a (E - a) ++ part p k N) f

        whole : (u : Word) → v ≡ u ++ part p Y.start n → v ++ (w z ∷ []) ≡ u ++ part p a (E - a) ++ part p E N
        whole u q =
            rw (q, ← same, append_assoc u (part p a n) (w z ∷ []), joined, parted, append_assoc u (part p a (E - a)) (part p E N))

    -- the source y of the last arrow is on z's chain, so some factor up to z is walked to y, and holds y's shortest word at its end
    last-arrow : (v : Word) (y : State) (d : Letter) → walk δ 0 v ≡ some y → δ y d ≡ some (suc z)
        → (u : Word) × (v ++ (d ∷ []) ≡ u ++ part p E N)
    last-arrow v y d e a =
        let I = O.into y d (suc z) a in
        let f : I.z ≡ z = omega (arith, I.to) in
        let on = rw f at I.on in
        let q : d ≡ w z = rw f at I.letter in
        let r = chain_reached O z (omega arith) on in
        let le = on_below O (omega arith) on in
        let H = shortest_at_end y (below y le) r.0 r.1 (omega arith) (omega (arith, r.2)) r.3 in
        rw q (last_step v y (below y le) (r.0 + H.skipped) le e (rw q at a) (omega (arith, H.size, r.2)) H.same)

    ends_in : (v : Word) → walk δ 0 v ≡ some (suc z) → (u : Word) × (v ≡ u ++ part p E N)
    unfolding walk
    ends_in [] e = let q : 0 ≡ suc z = cc in absurd (omega arith)
    ends_in (c ∷ v) e =
        let s = last_of c v in
        let r = walk-append δ s.0 (s.1 ∷ []) 0 (suc z) (rw s.2 at e) in
        let f = walk_first δ s.1 [] r.0 (suc z) r.2 in
        rw s.2 (last-arrow s.0 r.0 s.1 r.1 (f.1 ∙ f.2))

    shortest_suc : Shortest (suc z)
    shortest_suc = record { start = E; len = N; place = omega (arith, latest.within); walked = latest.passes; ends = ends_in }

  -- the first number only bounds the state
  shortest_within : (n x : State) → x ≤ n → x ≤ length p → Shortest x
  shortest_within zero x h b = let e : x ≡ 0 = omega arith in rw e shortest_0
  shortest_within (suc n) zero h b = shortest_0
  shortest_within (suc n) (suc z) h b = shortest_suc z b (λ y l. shortest_within n y (omega arith) (omega arith))

  pub shortest : (x : State) → x ≤ length p → Shortest x
  shortest x b = shortest_within x x (le_refl x) b

  -- wherever it stands, it ends at x or later
  pub shortest_first : (x : State) (U : Shortest x) (f : ℕ) → x ≤ length p → f + U.len ≤ length p
      → part p f U.len ≡ part p U.start U.len → x ≤ f + U.len
  shortest_first x U f b h e =
      let same = reach_same f U.start U.len h (omega (arith, U.place)) e in
      omega (arith, same ∙ U.walked, reach_below O f U.len h)
