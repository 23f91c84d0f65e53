-- A number of the file by its place: one that stands there is read, and what is read stays so when more bytes follow. That what is read
-- stood there is a law of the numbers, `number_at_stood`.
use mathlib.Core.Path.{◌≡◌, refl, sym, ap, ◌∙◌}
use mathlib.Core.Logic.{◌⊎◌, inl, inr}
use mathlib.Core.List.{List, ◌++◌, append_assoc}
use Prim.Native.Nat.{ℕ, ◌+◌, ◌≤◌, ◌<◌}
use native.Mathlib.Decide.{dec_le}
use native.Mathlib.Omega.{arith}
use lib.ListN.{length, drop}
use lib.Seq.{drop-drop, drop-append_seam, drop-append-le}
use Rattle.words.specs.Words.{Place}
use Rattle.std.specs.Prelude.{Err}
use Rattle.answers.specs.declared.Flaw.TheVariants.{EndsEarly, Misspelled}
use Rattle.number.specs.Number.{greatest, spell_number, Seen, number, ends, refused, see_number, number_at}
use Rattle.number.proofs.Theorems.{read-append, number_at-spelled, number_at-inside, cut_fault, byte_fault, cut-exactly, bad-exactly}
use Rattle.loaded.specs.Cases.{Reads, Unread, cut_off, bad_byte}

-- ── Numbers that stand there ───────────────────────────────────────────────

-- what stands behind a
pub drop_past : (s : List ℕ) (i : Place) (a b : List ℕ) → drop i s ≡ a ++ b → drop (i + length a) s ≡ b
drop_past s i a b e =
    sym (drop-drop (length a) i s)
    ∙ ap (drop (length a)) e
    ∙ drop-append_seam a b

-- v is read at place i, and l stands behind it
pub record ReadsBefore (s : List ℕ) (i v : ℕ) (l : List ℕ) : Type 0 where
  pub next : Place
  pub read : Reads s i v next
  pub rest : drop next s ≡ l
  pub size : next ≡ i + length (spell_number v)

-- a number that stands there, before x and what follows, is read
pub reads-spelled : (s : List ℕ) (i v : ℕ) (x l : List ℕ) → v ≤ greatest → drop i s ≡ (spell_number v ++ x) ++ l
    → ReadsBefore s i v (x ++ l)
reads-spelled s i v x l h e =
    let split = e ∙ append_assoc (spell_number v) x l in
    record {
      next = i + length (spell_number v);
      read = number_at-spelled s i v (x ++ l) h split;
      rest = drop_past s i (spell_number v) (x ++ l) split;
      size = refl;
    }

-- ── Where they stand ───────────────────────────────────────────────────────

module _ (s : List ℕ) (i : Place) where
  -- a number that is read has at least one byte, and ends within the file
  pub reads-inside : {v : ℕ} {j : Place} → Reads s i v j → (i < j) × (j ≤ length s)
  reads-inside e = number_at-inside s i e

  -- ── With more bytes behind ───────────────────────────────────────────────

  module _ (x : List ℕ) where
    -- they change nothing, unless the file ends before or inside the number
    number-longer : (number_at s i ≡ Err (cut_fault s i)) ⊎ (number_at (s ++ x) i ≡ number_at s i)
    unfolding number_at
    number-longer = by_place (dec_le i (length s))
      where
        Same : Type 0
        Same = (number_at s i ≡ Err (cut_fault s i)) ⊎ (number_at (s ++ x) i ≡ number_at s i)

        by_seen : (g : Seen) → see_number (drop i s) ≡ g → see_number (drop i (s ++ x)) ≡ g → Same
        by_seen (number v n) e q = inr (rw (q, e))
        by_seen ends e q = inl (rw e)
        by_seen (refused n) e q = inr (rw (q, e))

        by : (see_number (drop i s) ≡ ends) ⊎ (see_number (drop i s ++ x) ≡ see_number (drop i s)) → i ≤ length s → Same
        by (inl e) h = inl (rw e)
        by (inr e) h = by_seen (see_number (drop i s)) refl (rw (drop-append-le i s x h) e)

        by_place : Dec (i ≤ length s) → Same
        by_place (yes h) = by (read-append (drop i s) x) h
        by_place (no h) = inl ((cut-exactly s i).1 (record { few = omega arith; follow = λ k g. absurd (omega arith) }))

    -- what was read is read
    pub reads-longer : {v : ℕ} {j : Place} → Reads s i v j → Reads (s ++ x) i v j
    reads-longer {v} {j} h = by number-longer
      where
        by : (number_at s i ≡ Err (cut_fault s i)) ⊎ (number_at (s ++ x) i ≡ number_at s i) → Reads (s ++ x) i v j
        by (inl e) = let z : ◌≡◌ {A = ℕ} 0 1 = cc in absurd (omega arith)
        by (inr e) = e ∙ h

    -- what was refused is refused, unless the file ended too soon
    pub unread_longer : {r : ℕ} {p : Place} → Unread s i r p → ((r ≡ 5) × (p ≡ length s)) ⊎ Unread (s ++ x) i r p
    unread_longer (cut_off e) = inl (refl, refl)
    unread_longer (bad_byte {p = p} b) = inr (bad_byte ((bad-exactly (s ++ x) i p).0 (by number-longer ((bad-exactly s i p).1 b))))
      where
        by : (number_at s i ≡ Err (cut_fault s i)) ⊎ (number_at (s ++ x) i ≡ number_at s i) → number_at s i ≡ Err (byte_fault s i p)
            → number_at (s ++ x) i ≡ Err (byte_fault s i p)
        by (inl q) e =
            let same : cut_fault s i ≡ byte_fault s i p = cc in
            let flaws : EndsEarly ≡ Misspelled = ap (λ f. f.flaw) same in
            cc
        by (inr q) e = q ∙ e
