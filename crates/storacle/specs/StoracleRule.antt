-- THE STORACLE RULE: 003, algorithm 2, as 02 restates it. As with the suffix rule, 02's i = 2 to m is i = 1 to m - 1 here, and its k is
-- the same number.
--
--   FirstLater p x c y   y is the first state behind x whose incoming letter is c
--   first_in v c x       the same as a number, where v is the word behind its first x letters; 0, into which no letter leads, for none
--   first_later p x c    the first state behind x whose incoming letter is c
--   stitch p h           the arrow that a walk halted at h lacks
--   until_walked g p i A the arrows A with those that suffix i lacks: while it is not walked to its end, one is added, at most g of them
--   storacle_after p i   the arrows with which the suffixes 1 to i are walked, the last one first
--   storacle_rule p      those of all suffixes
--   storacle p           where they lead
--   GoesOn p δ x c       a factor of p is walked to x, and goes on with c in p
--   IsStoracle p δ       what a storacle is without the rule: arrows lead to the first later state that has their letter, and x has one
--                        on c exactly if a factor that is walked to x goes on with c
--   most_arrows m        as many as the suffixes of m letters have letters
--
-- Every arrow that is added lets the suffix be walked a letter further at least (a theorem), so m of them are enough for each suffix.
--
-- 02, 'Storacle'.
use Rattle.std.specs.Prelude.{◌≡◌, cond, ◌↔◌, ◌≢◌, List, [], ◌∷◌, ℕ, zero, suc, pred, ◌+◌, ◌-◌, ◌*◌, ◌/◌, ◌≤◌, ◌<◌, length, drop, eqb}
use Rattle.std.proofs.Math.Option.{some}
use Rattle.words.specs.Words.{Letter, Word, Place, letter, part}
use Rattle.oracle.specs.Arrows.{State, Arrow, arrow, Delta, target, walk, spine}
use Rattle.oracle.specs.SuffixRule.{Halt, far}

-- ── The first later state ──────────────────────────────────────────────────

pub record FirstLater (p : Word) (x : State) (c : Letter) (y : State) : Type 0 where
  pub later : x < y
  pub state : y ≤ length p
  pub incoming : letter p (pred y) ≡ c
  pub first : (z : State) → x < z → z < y → letter p (pred z) ≢ c

unfoldable pub first_in : Word → Letter → State → State
first_in [] c x = 0
first_in (a ∷ v) c x = cond (eqb a c) (suc x) (first_in v c (suc x))

abbrev pub first_later : Word → State → Letter → State
first_later p x c = first_in (drop x p) c x

-- ── The rule ───────────────────────────────────────────────────────────────

-- halted in state j with the letters up to k spelled, k not m: from j an arrow on p(k+1) to the first later state
abbrev pub stitch : Word → Halt → Arrow
stitch p h =
    let j = h.state in
    let k = h.up_to in
    arrow j (letter p k) (first_later p j (letter p k))

unfoldable pub until_walked : ℕ → Word → ℕ → List Arrow → List Arrow
until_walked zero p i A = A
until_walked (suc g) p i A =
    let h = far (target A) 0 i (drop i p) in
    cond (eqb h.up_to (length p)) A (until_walked g p i (stitch p h ∷ A))

unfoldable pub storacle_after : Word → ℕ → List Arrow
storacle_after p zero = spine p
storacle_after p (suc i) = until_walked (length p) p (suc i) (storacle_after p i)

unfoldable pub storacle_rule : Word → List Arrow
storacle_rule p = storacle_after p (length p - 1)

abbrev pub storacle : Word → Delta
storacle p = target (storacle_rule p)

-- ── Without the rule ───────────────────────────────────────────────────────

pub record GoesOn (p : Word) (δ : Delta) (x : State) (c : Letter) : Type 0 where
  pub start : Place
  pub count : ℕ
  pub inside : start + count < length p
  pub walked : walk δ 0 (part p start count) ≡ some x
  pub next : letter p (start + count) ≡ c

pub record IsStoracle (p : Word) (δ : Delta) : Type 0 where
  pub leads-first : (x : State) (c : Letter) (y : State) → δ x c ≡ some y → FirstLater p x c y
  pub exactly : (x : State) (c : Letter) → ((y : State) × (δ x c ≡ some y)) ↔ GoesOn p δ x c

-- ── How many ───────────────────────────────────────────────────────────────

unfoldable pub most_arrows : ℕ → ℕ
most_arrows m = (m * (m + 1)) / 2
