-- WRITING A FILE, piece by piece: the output became t, and what is still ahead, put from place `at` on, makes of t what is to be left in
-- the end. So nothing has to be said of the bytes that stand already. First for any pieces, then step by step, then for a whole file.
use mathlib.Core.Path.{◌≡◌, refl, sym, ap, ◌∙◌}
use mathlib.Core.List.{List, [], ◌∷◌, ◌++◌, append_assoc}
use Prim.Native.Nat.{ℕ, suc, ◌+◌, ◌-◌, ◌≤◌}
use native.Mathlib.Nat.{add-zero, zero-add}
use native.Mathlib.Omega.{arith}
use lib.ListN.{length, take, drop, set, length-append}
use lib.Seq.{sets, length-sets, sets-eq, drop-drop}
use Rattle.words.specs.Words.{Word}
use Rattle.oracle.specs.Arrows.{State}
use Rattle.number.specs.Number.{spell_number, written}
use Rattle.saved.specs.File.{spell_steps, own_steps, body, spell}
use Rattle.saved.specs.Stepping.{steps_ahead, Standing, Leapt}
use Rattle.saved.specs.declared.Leap.{Leap}
use Rattle.saved.proofs.Slots.{stand_start}
use Rattle.saved.proofs.Spelled.{ahead-next, ahead-end, edition-number}

-- ── Any pieces ─────────────────────────────────────────────────────────────

-- stores in two runs
sets-append : (l : List ℕ) (i : ℕ) (x y : List ℕ) → sets l i (x ++ y) ≡ sets (sets l i x) (i + length x) y
sets-append l i [] y = rw (add-zero i)
sets-append l i (a ∷ x) y = let e : i + suc (length x) ≡ suc i + length x = omega arith in rw e (sets-append (set l i a) (suc i) x y)

-- `ahead` goes to place `at` of t, and then t is final
pub record Putting (final t : List ℕ) (at : ℕ) (ahead : List ℕ) : Type 0 where
  pub still : sets t at ahead ≡ final
  pub room : at + length ahead ≤ length t

-- what `number::write` promises
abbrev Wrote : List ℕ → ℕ → ℕ → List ℕ → ℕ → Type 0
Wrote t at v t' next = (next ≡ at + length (spell_number v)) × (t' ≡ written t at v)

module _ {final t : List ℕ} {at : ℕ} {ahead : List ℕ} (P : Putting final t at ahead) where
  -- nothing is added
  put-size : length t ≡ length final
  put-size = sym (length-sets t at ahead) ∙ ap length P.still

  module _ (x rest : List ℕ) (e : ahead ≡ x ++ rest) where
    -- there is room for the next piece
    put-room : at + length x ≤ length t
    put-room = omega (arith, P.room, simp length-append at (ap length e))

    -- the next piece is put
    put_piece : Putting final (take at t ++ x ++ drop (at + length x) t) (at + length x) rest
    put_piece = rw (← sets-eq x t at put-room) (record {
      still = sym (sets-append t at x rest)
          ∙ ap (sets t at) (sym e)
          ∙ P.still;
      room = omega (arith, P.room, length-sets t at x, simp length-append at (ap length e));
    })

  -- a number is put
  put-number : (v : ℕ) (rest : List ℕ) → ahead ≡ spell_number v ++ rest → {t' : List ℕ} {next : ℕ} → Wrote t at v t' next
      → Putting final t' next rest
  unfolding written
  put-number v rest e W = rw (W.0, W.1) (put_piece (spell_number v) rest e)

-- ── Step by step ───────────────────────────────────────────────────────────

-- the steps from slot s on are ahead
pub record PuttingSteps (p : Word) (final t : List ℕ) (at : ℕ) (x : State) (s : ℕ) : Type 0 where
  pub putting : Putting final t at (spell_steps (steps_ahead p x s))
  pub stands : Standing p x s

module _ {p : Word} {final t : List ℕ} {at : ℕ} {x : State} {s : ℕ} (P : PuttingSteps p final t at x s) where
  steps-end : length (own_steps p) ≤ s → t ≡ final
  steps-end l = rw (ahead-end p x s l) at P.putting.still

  module _ {r : Leap} (J : Leapt p x s r) where
    abbrev behind : List ℕ
    behind = spell_steps (steps_ahead p r.source.0 (s + 1))

    pub room_up : at + length (spell_number r.up) ≤ length t
    room_up = put-room P.putting (spell_number r.up) (spell_number r.over ++ behind) (ahead-next J)

    module _ {t₁ : List ℕ} {at₁ : ℕ} (W₁ : Wrote t at r.up t₁ at₁) where
      at-over : Putting final t₁ at₁ (spell_number r.over ++ behind)
      at-over = put-number P.putting r.up (spell_number r.over ++ behind) (ahead-next J) W₁

      pub room-over : at₁ + length (spell_number r.over) ≤ length t₁
      room-over = put-room at-over (spell_number r.over) behind refl

      -- one step more
      pub steps_next : {t₂ : List ℕ} {at₂ : ℕ} → Wrote t₁ at₁ r.over t₂ at₂ → PuttingSteps p final t₂ at₂ r.source.0 (s + 1)
      steps_next W₂ = record { putting = put-number at-over r.over behind refl W₂; stands = J.stands }

-- ── A whole file ───────────────────────────────────────────────────────────

module _ (p : Word) where
  abbrev from_steps : List ℕ
  from_steps = spell_steps (own_steps p)

  abbrev from_count : List ℕ
  from_count = spell_number (length (own_steps p)) ++ from_steps

  abbrev from_letters : List ℕ
  from_letters = p ++ from_count

  abbrev from_size : List ℕ
  from_size = spell_number (length p) ++ from_letters

  from_edition : spell p ≡ spell_number 1 ++ from_size
  unfolding spell body
  from_edition = rw edition-number

  module _ (out : List ℕ) (h : length (spell p) ≤ length out) where
    abbrev final : List ℕ
    final = sets out 0 (spell p)

    at-edition : Putting final out 0 (spell p)
    at-edition = record { still = refl; room = omega arith }

    pub room-edition : 0 + length (spell_number 1) ≤ length out
    room-edition = put-room at-edition (spell_number 1) from_size from_edition

    module _ {t₁ : List ℕ} {at₁ : ℕ} (W₁ : Wrote out 0 1 t₁ at₁) where
      at_size : Putting final t₁ at₁ from_size
      at_size = put-number at-edition 1 from_size from_edition W₁

      pub room-size : at₁ + length (spell_number (length p)) ≤ length t₁
      room-size = put-room at_size (spell_number (length p)) from_letters refl

      module _ {t₂ : List ℕ} {at₂ : ℕ} (W₂ : Wrote t₁ at₁ (length p) t₂ at₂) where
        at-letters : Putting final t₂ at₂ from_letters
        at-letters = put-number at_size (length p) from_letters refl W₂

        pub room-letters : at₂ + length p ≤ length t₂
        room-letters = put-room at-letters p from_count refl

        module _ {lent : List ℕ} (W₃ : lent ≡ p) {count : ℕ} (n : count ≡ length (own_steps p)) where
          -- the letters stand in the part that was lent
          abbrev t₃ : List ℕ
          t₃ = take at₂ t₂ ++ (lent ++ drop (at₂ + length p - at₂) (drop at₂ t₂))

          at_count : Putting final t₃ (at₂ + length p) from_count
          at_count =
              let e : at₂ + length p - at₂ ≡ length p = omega arith in
              rw (W₃, e, drop-drop (length p) at₂ t₂, ← append_assoc) (put_piece at-letters p from_count refl)

          pub room-count : at₂ + length p + length (spell_number count) ≤ length t₃
          room-count = rw n (put-room at_count (spell_number (length (own_steps p))) from_steps refl)

          module _ {t₄ : List ℕ} {at₄ : ℕ} (W₄ : Wrote t₃ (at₂ + length p) count t₄ at₄) where
            at-steps : Putting final t₄ at₄ from_steps
            at-steps = put-number at_count count from_steps (rw n) W₄

            -- the steps are ahead
            pub steps-start : 1 ≤ length p → PuttingSteps p (sets t₄ at₄ from_steps) t₄ at₄ 0 0
            unfolding own_steps
            steps-start some = record { putting = record { still = refl; room = at-steps.room }; stands = stand_start p some }

            module _ {t : List ℕ} {at : ℕ} {x : State} {s : ℕ} (P : PuttingSteps p (sets t₄ at₄ from_steps) t at x s) where
              -- as long as before
              pub file-room : length t ≡ length out
              file-room =
                  put-size P.putting
                  ∙ ap length at-steps.still
                  ∙ length-sets out 0 (spell p)

              -- all is put
              pub file-put : length (own_steps p) ≤ s → t ≡ spell p ++ drop (length (spell p)) out
              file-put l =
                  steps-end P l
                  ∙ at-steps.still
                  ∙ rw (zero-add (length (spell p))) at (sets-eq (spell p) out 0 (omega arith))
