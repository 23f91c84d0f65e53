-- THE LETTER-BY-LETTER RULE, as defined, has the record after every letter; one arrow at most leaves a state on a letter; and what it made
-- of the first t letters stays as it is while more are added. By induction on the letters: what the rule does along its list is the climb
-- of `Grow`, which keeps the record.
use mathlib.Core.Path.{◌≡◌, refl, sym, ap, ◌∙◌}
use mathlib.Core.Logic.{◌⊎◌, ⊎_elim, ◌↔◌, by_cases}
use mathlib.Core.Option.{Option, none, some, get_or}
use mathlib.Core.List.{List, [], ◌∷◌, ◌++◌, head?, Memᴰ}
use Prim.Native.Nat.{ℕ, zero, suc, ◌+◌, ◌≤◌, ◌<◌}
use native.Mathlib.Nat.{le_refl, add-zero, add-suc}
use native.Mathlib.Decide.{dec_lt}
use native.Mathlib.Omega.{arith}
use lib.ListN.{length, length-append, get_or-append}
use lib.Seq.{get_or_at}
use Rattle.words.specs.Words.{Letter, Word, letter}
use Rattle.words.proofs.Lists.{option_cases}
use Rattle.oracle.specs.Arrows.{State, Arrow, Delta, target, OneEach}
use Rattle.oracle.specs.SuffixPath.{SuffixPath, ended, falls}
use Rattle.oracle.specs.LetterRule.{Automaton, path_of, supply_made, NewState, climb, add_letter, built_up_to}
use Rattle.oracle.proofs.Targets.{never, into, target-new, target_old}
use Rattle.oracle.proofs.Chain.{Supplied, supply_below, on_below, arrow_up}
use Rattle.oracle.proofs.Grow.{Climb, stop, out, go, source_on, last-free, climb-below, arrow_stays, arrow_was, grown}

-- ── Suffix paths ───────────────────────────────────────────────────────────

-- the supplies of a build as a function, 0 for state 0
abbrev pub supplies : Automaton → State → State
supplies b x = get_or (supply_made b x) 0

pub path_of_0 : {S : State → State} {x : State} {l : List State} → SuffixPath S x l → x ≡ 0 → head? l ≡ none
path_of_0 (ended e) z = refl
path_of_0 (falls p e r) z = absurd (omega arith)

pub path_of_higher : {S : State → State} {x : State} {l : List State} → SuffixPath S x l → 0 < x → head? l ≡ some (S x)
path_of_higher (ended e) h = absurd (omega arith)
path_of_higher (falls p e r) h = ap {B = Option State} some e

pub path_agree : {t : State} (S S' : State → State) → ((x : State) → x ≤ t → S x ≤ x) → ((x : State) → x ≤ t → S' x ≡ S x)
    → {x : State} {l : List State} → x ≤ t → SuffixPath S x l → SuffixPath S' x l
path_agree S S' d a h (ended e) = ended e
path_agree S S' d a h (falls {x = x} p e r) = falls p (e ∙ sym (a x h)) (path_agree S S' d a (omega (arith, d x h)) r)

climb-at : {δ : Delta} {S : State → State} {c : Letter} {j k y : State} {xs : List State} → j ≡ k → Climb δ S c j xs y → Climb δ S c k xs y
climb-at e C = rw e at C

-- the climb over a list is the climb along the chain
climb_is : {δ : Delta} {S : State → State} {k : State} {l : List State} (c : Letter) → δ k c ≡ none → SuffixPath S k l
    → Climb δ S c k (k ∷ (climb δ c l).sources) (climb δ c l).supply
unfolding climb
climb_is c e (ended z) = out z refl e
climb_is {δ} {S} {k} c e (falls {y = y} {l = l} p q r) =
    let C : Climb δ S c y (climb δ c (y ∷ l)).sources (climb δ c (y ∷ l)).supply =
    option_cases (δ y c) (λ f. rw (f, climb) (climb_is c f r)) (λ z f. rw (f, climb) (stop f)) in
    go p e (climb-at q C)

-- ── One letter ─────────────────────────────────────────────────────────────

-- what holds of a build of t letters
pub record Sound (t : State) (w : ℕ → Letter) (b : Automaton) : Type 0 where
  pub supplied : Supplied t w (target b.arrows) (supplies b)
  pub size : length b.paths ≡ suc t
  pub path : (x : State) → x ≤ t → SuffixPath (supplies b) x (path_of b x)
  pub one : OneEach b.arrows

-- new arrows on one letter from the sources of a climb leave one arrow at most for each state and letter
one_each : (A : List Arrow) {S : State → State} {m : ℕ} {w : ℕ → Letter} → Supplied m w (target A) S → OneEach A
    → {c : Letter} {k y : State} {xs : List State} (z : State) → k ≤ m → Climb (target A) S c k xs y → OneEach (into c z xs ++ A)
unfolding OneEach
one_each A O h z b (stop e) = h
one_each A O h z b (out q r e) = (e, h)
one_each A {S = S} {m = m} O h {c} {k} z b (go {xs = xs} p e r) =
    let low = supply_below O k b in
    let behind : S k ≤ m = omega arith in
    let free = ⊎_elim (λ d. d ∙ e) (λ d. absurd (omega (arith, on_below O behind (source_on r d.1)))) (target_old A c z xs k c) in
    (free, one_each A O h z behind r)

module _ {t : State} {w : ℕ → Letter} {b : Automaton} (G : Sound t w b) where
  abbrev r : NewState
  r = climb (target b.arrows) (w t) (path_of b t)

  abbrev b' : Automaton
  b' = add_letter t (w t) b

  pub letter-climb : Climb (target b.arrows) (supplies b) (w t) t (t ∷ r.sources) r.supply
  letter-climb = climb_is (w t) (last-free G.supplied (w t)) (G.path t (le_refl t))

  path-kept : (x : State) → x ≤ t → path_of b' x ≡ path_of b x
  unfolding add_letter
  path-kept x h = get_or-append b.paths _ [] x (omega (arith, G.size))

  path-new : path_of b' (suc t) ≡ r.supply ∷ path_of b r.supply
  unfolding add_letter
  path-new = get_or_at b.paths _ [] [] (suc t) G.size

  pub supply-kept : (x : State) → x ≤ t → supplies b' x ≡ supplies b x
  supply-kept x h = rw (path-kept x h)

  pub supply-new : supplies b' (suc t) ≡ r.supply
  supply-new = rw path-new

  pub old_arrows : (x : State) (c : Letter)
      → (target b'.arrows x c ≡ target b.arrows x c) ⊎ ((c ≡ w t) × Memᴰ x (t ∷ r.sources))
  unfolding add_letter
  old_arrows x c = target_old b.arrows (w t) (suc t) (t ∷ r.sources) x c

  pub new-arrows : (x : State) → Memᴰ x (t ∷ r.sources) → target b'.arrows x (w t) ≡ some (suc t)
  unfolding add_letter
  new-arrows x m = target-new b.arrows (w t) (suc t) x (t ∷ r.sources) m

  letter_stays : (x : State) (c : Letter) (y : State) → target b.arrows x c ≡ some y → target b'.arrows x c ≡ some y
  letter_stays = arrow_stays G.supplied letter-climb old_arrows new-arrows supply-kept supply-new

  letter_was : (x : State) (c : Letter) (y : State) → target b'.arrows x c ≡ some y
      → (target b.arrows x c ≡ some y) ⊎ ((c ≡ w t) × (y ≡ suc t) × Memᴰ x (t ∷ r.sources))
  letter_was = arrow_was G.supplied letter-climb old_arrows new-arrows supply-kept supply-new

  falling : (x : State) → x ≤ t → supplies b x ≤ x
  falling x h = omega (arith, supply_below G.supplied x h)

  pub sound_next : Sound (suc t) w b'
  unfolding add_letter
  sound_next = record {
    supplied = grown G.supplied letter-climb old_arrows new-arrows supply-kept supply-new;
    size = length-append b.paths _ ∙ rw G.size (omega arith);
    path = path;
    one = one_each b.arrows G.supplied G.one (suc t) (le_refl t) letter-climb;
  }
    where
      stays : (x : State) → x ≤ t → SuffixPath (supplies b') x (path_of b x)
      stays x h = path_agree (supplies b) (supplies b') falling supply-kept h (G.path x h)

      path : (x : State) → x ≤ suc t → SuffixPath (supplies b') x (path_of b' x)
      path x h = by_cases (dec_lt x (suc t))
          (λ l. rw (path-kept x (omega arith)) (stays x (omega arith)))
          (λ l.
          let e : x ≡ suc t = omega arith in
          let p : 0 < suc t = omega arith in
          rw (e, path-new) (falls p (sym supply-new) (stays r.supply (climb-below G.supplied letter-climb))))

-- ── All letters ────────────────────────────────────────────────────────────

pub built_sound : (p : Word) (t : ℕ) → Sound t (letter p) (built_up_to p t)
unfolding built_up_to target OneEach
built_sound p zero = record {
  supplied = record {
    spine = λ i h. absurd (omega arith);
    into = λ x c y e. never refl e;
    base = refl;
    down = λ x h. absurd (omega arith);
    answers = λ x c y e. never refl e;
    bottom = λ c y e. never refl e;
  };
  size = refl;
  path = λ x h. let e : x ≡ 0 = omega arith in rw e (ended refl);
  one = tt;
}
built_sound p (suc t) = sound_next (built_sound p t)

-- ── Prefixes ───────────────────────────────────────────────────────────────

module _ (p : Word) where
  abbrev arrows_of : ℕ → Delta
  arrows_of t = target (built_up_to p t).arrows

  -- one letter more: the arrows up to state t are those that were there
  letter_restricts : (t : ℕ) (x : State) (c : Letter) (y : State) → y ≤ t → (arrows_of t x c ≡ some y) ↔ (arrows_of (suc t) x c ≡ some y)
  unfolding built_up_to
  letter_restricts t x c y h =
      let G = built_sound p t in
      (letter_stays G x c y, λ e. ⊎_elim (λ d. d) (λ d. absurd (omega (arith, d.1))) (letter_was G x c y e))

  -- the arrows made of the first t letters are those of every later build that lead up to state t
  pub built_restricts : (t d : ℕ) (x : State) (c : Letter) (y : State)
      → (arrows_of t x c ≡ some y) ↔ ((arrows_of (t + d) x c ≡ some y) × (y ≤ t))
  built_restricts t zero x c y = rw (add-zero t) (λ e. (e, (arrow_up (built_sound p t).supplied x c y e).1), λ r. r.0)
  built_restricts t (suc d) x c y =
      let rec = built_restricts t d x c y in
      rw (add-suc t d) (λ e. let r = rec.0 e in ((one r.1).0 r.0, r.1), λ r. rec.1 ((one r.1).1 r.0, r.1))
    where
      one : y ≤ t → (arrows_of (t + d) x c ≡ some y) ↔ (arrows_of (suc (t + d)) x c ≡ some y)
      one h = letter_restricts (t + d) x c y (omega arith)
