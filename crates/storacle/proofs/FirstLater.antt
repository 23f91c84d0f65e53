-- THE FIRST LATER STATE, as a number and as what holds of it. The number is looked for letter by letter: here, or beyond. So it is what
-- `FirstLater` says, by induction on how far off the state is; and there is one wherever the letter stands behind the first x.
use mathlib.Core.Path.{◌≡◌, refl, ◌∙◌}
use mathlib.Core.Logic.{◌≢◌, ◌⊎◌, inl, inr, ⊎_elim, by_cases}
use Prim.Native.Nat.{ℕ, zero, suc, pred, ◌+◌, ◌-◌, ◌≤◌, ◌<◌}
use native.Mathlib.Decide.{dec_le, ℕ_discrete}
use native.Mathlib.Omega.{arith}
use lib.ListN.{length}
use lib.Seq.{drop-cons, drop-length}
use borrow.Author.Tests.{eq-eqb, ne_eqb}
use Rattle.words.specs.Words.{Letter, Word, letter}
use Rattle.oracle.specs.Arrows.{State}
use Rattle.storacle.specs.StoracleRule.{FirstLater, first_in, first_later}

module _ (p : Word) (c : Letter) where
  -- the next state has the letter
  first-here : (x : State) → x < length p → letter p x ≡ c → first_later p x c ≡ suc x
  unfolding first_in
  first-here x h e = rw (drop-cons p x 0 h, first_in, eq-eqb (letter p x) c e)

  -- it has not
  first_beyond : (x : State) → x < length p → letter p x ≢ c → first_later p x c ≡ first_later p (suc x) c
  unfolding first_in
  first_beyond x h e = rw (drop-cons p x 0 h, first_in, ne_eqb (letter p x) c e)

  -- it is the only one
  first-at : (d : ℕ) (x y : State) → y ≡ suc (x + d) → FirstLater p x c y → first_later p x c ≡ y
  first-at zero x y e F =
      let own : pred y ≡ x = omega arith in
      let next : suc x ≡ y = omega arith in
      first-here x (omega (arith, F.state)) (rw own at F.incoming) ∙ next
  first-at (suc d) x y e F =
      first_beyond x (omega (arith, F.state)) (F.first (suc x) (omega arith) (omega arith))
      ∙ first-at d (suc x) y (omega arith) (record {
        later = omega arith;
        state = F.state;
        incoming = F.incoming;
        first = λ z u v. F.first z (omega arith) v;
      })

  -- the next state, if it has the letter
  found_here : (x : State) → x < length p → letter p x ≡ c → FirstLater p x c (first_later p x c)
  found_here x h f = rw (first-here x h f) (record {
    later = omega arith;
    state = omega arith;
    incoming = f;
    first = λ z u v. absurd (omega arith);
  })

  -- or one that is first beyond
  beyond : {x y : State} → letter p x ≢ c → FirstLater p (suc x) c y → FirstLater p x c y
  beyond {x} f F = record {
    later = omega (arith, F.later);
    state = F.state;
    incoming = F.incoming;
    first = λ z u v. by_cases (ℕ_discrete z (suc x)) (λ g. rw g f) (λ g. F.first z (omega arith) v);
  }

  -- it is looked for no further than to where the letter stands
  found_by : (d : ℕ) (x k : State) → k ≡ x + d → k < length p → letter p k ≡ c → FirstLater p x c (first_later p x c)
  found_by zero x k e h q = let own : k ≡ x = omega arith in found_here x (omega arith) (rw own at q)
  found_by (suc d) x k e h q = by_cases (ℕ_discrete (letter p x) c)
      (λ f. found_here x (omega arith) f)
      (λ f. rw (first_beyond x (omega arith) f) (beyond f (found_by d (suc x) k (omega arith) h q)))

  -- there is one, or the number is 0
  found_or_not : (n : ℕ) (x : State) → x + n ≡ length p → (first_later p x c ≡ 0) ⊎ FirstLater p x c (first_later p x c)
  unfolding first_in
  found_or_not zero x e = let end : x ≡ length p = omega arith in rw end (rw (drop-length p, first_in) (inl refl))
  found_or_not (suc n) x e = by_cases (ℕ_discrete (letter p x) c)
      (λ f. inr (found_here x (omega arith) f))
      (λ f. rw (first_beyond x (omega arith) f) (⊎_elim inl (λ F. inr (beyond f F)) (found_or_not n (suc x) (omega arith))))

module _ {p : Word} {x : State} {c : Letter} where
  -- the first later state is the one that is looked for
  pub first_later_is : {y : State} → FirstLater p x c y → first_later p x c ≡ y
  first_later_is {y} F = first-at p c (y - suc x) x y (omega (arith, F.later)) F

  -- where the letter stands there is one
  pub first_later-found : (k : ℕ) → x ≤ k → k < length p → letter p k ≡ c → FirstLater p x c (first_later p x c)
  first_later-found k u h q = found_by p c (k - x) x k (omega arith) h q

  -- and it is no later than where the letter stands
  pub first_later_least : {y : State} → FirstLater p x c y → (k : ℕ) → x ≤ k → letter p k ≡ c → y ≤ suc k
  first_later_least {y} F k u q = by_cases (dec_le y (suc k)) (λ l. l) (λ l. absurd (F.first (suc k) (omega arith) (omega arith) q))

  -- where there is none, the number is 0
  pub first_later_or_none : x ≤ length p → (first_later p x c ≡ 0) ⊎ FirstLater p x c (first_later p x c)
  first_later_or_none h = found_or_not p c (length p - x) x (omega arith)
